-- A message in a run of both ends, seen by one end. A message of the end takes messages of the peer. A message of the
-- peer takes messages of the end, which do not matter here.
use Rattle.std.proofs.Common.{◌≡◌, ℕ, ℤ, Bool, true, false, List, [], ◌∷◌, ◌++◌, filter, filter_map, length, Option, Some, None, Result, Ok, Err, option_map, refl, sym, ap, ap₂, subst, ◌∙◌, append-nil}
use Rattle.std.specs.Prelude.{slice_get}
use Rattle.std.specs.List.{AllByRecursion}
use Rattle.std.proofs.lemmas.List.{append_cancel_left}
use Rattle.tcap_msg.specs.declared.message.Message.{Message}
use Rattle.tcap_msg.specs.Parts.{components_in}
use Rattle.tcap_record.specs.declared.entry.End.{End as Side}
use Rattle.tcap_record.specs.declared.entry.End.TheVariants.{A, B}
use Rattle.tcap_end.specs.declared.fault.EndFault.{EndFault}
use Rattle.tcap_end.specs.declared.half.HalfName.{HalfName}
use Rattle.tcap_end.specs.Table.{Table}
use Rattle.tcap_end.specs.End.{End}
use Rattle.tcap_end.specs.Message.{send}
use Rattle.tcap_end.proofs.AnsweringLaws.{needs_ok, ok_same, some_ok, then_ok}
use Rattle.tcap_certificate.specs.declared.fault.CheckFault.{CheckFault}
use Rattle.tcap_model.specs.declared.reason.Reason.TheVariants.{BadReply}
use Rattle.tcap_record.specs.Ends.{other}
use Rattle.tcap_model.specs.World.{Item, MessageInTransit, Sent, World, channel_from, empty, end_at, is_side, with_channel, with_end}
use Rattle.tcap_model.specs.Run.{Event, Sends, Replies, Expires, Tells, Runs, after, joined, played}
use Rattle.tcap_certificate.specs.Certificate.{Certificate}
use Rattle.tcap_certificate.specs.DescribedRun.{invoke_id, invoking_half, losses_from, sending_by}
use Rattle.tcap_certificate.specs.Replay.{Replay, fault_at, after_event, implied, implied_over, is_abort, is_sent_by, lost_from_front, message_by, next_entry, or_same, reply_replayed, send_replayed, sent_or_refused, stepped, with_step}
use Rattle.tcap_model.specs.SinceMark.{WasSent}
use Rattle.tcap_model.proofs.ChannelLaws.{were_sent}
use Rattle.tcap_check.proofs.described_run_laws.DescribedGaps.{ok_needs, ok_some, ok_then}
use Rattle.tcap_check.proofs.replay_laws.ReplayLaws.{reply_replays}
use Rattle.tcap_model.proofs.RunLaws.{played_on}
use Rattle.tcap_check.proofs.replay_laws.ReplaySteps.{losing_replays, sending_so}
use Rattle.tcap_model.proofs.WorldLaws.{sent_with_channel}
use Rattle.tcap_model.proofs.RunLaws.{expiry, map_some, reply}
use Rattle.tcap_model.proofs.WorldLaws.{itself, sent_joined}
use Rattle.tcap_check.proofs.one_end_lemmas.AloneMirrors.{Mirrors, MirrorsBut, front_mirrors, more_losses, own_front_mirrors, same_sent, internal_step}
use Rattle.tcap_check.proofs.one_end_lemmas.AloneViews.{seen_by, seen_end, seen_sent, seen_expiry, seen_reply, seen_sending, seen_told, internal_channel, internal_end}

-- ---- worlds that runs lead to

-- Some run leads to this world.
abbrev pub IsReached : Table → World → Type 0
IsReached table w = (events : List Event) × Runs table events w

-- Some run leads to the world after more events.
pub reached_on : (table : Table) (events : List Event) (w next : World) → IsReached table w
    → played table events w ≡ Some next
    → IsReached table next
reached_on table events w next (before, runs) on = (before ++ events, played_on table before events empty w runs ∙ on)

-- The head of a channel was sent by its end.
head_sent : (table : Table) (sender : Side) (w : World) (head : MessageInTransit) (more : List MessageInTransit) (n : ℕ)
    → IsReached table w
    → channel_from sender w ≡ head ∷ more → head.number ≡ n → slice_get w.sent n ≡ Some (Sent sender head.message)
head_sent table sender w head more n (events, runs) channel is =
    let all = subst (AllByRecursion (WasSent w sender)) channel (were_sent table events w runs sender) in
    sym (ap (slice_get w.sent) is) ∙ all.0.listed

-- The other end sent the message that a reply takes.
pub reply_takes : (table : Table) (c : Certificate) (side : Side) (abort : Message) (n : ℕ) (r next : Replay)
    → IsReached table r.world → reply_replayed table c side abort n r ≡ Ok next
    → (m : Message) × (slice_get r.world.sent n ≡ Some (Sent (other side) m))
reply_takes table c side abort n r next reached is =
    let front = lost_from_front c (other side) r in
    let step = then_ok (after_event table c (Replies side n) BadReply (next_entry r) r) _ next is in
    let made = some_ok (stepped table (Replies side n) front) (fault_at BadReply (next_entry r)) step.0 step.1 in
    let found = map_some _ (after table (Replies side n) front.world) step.0 made in
    let took = reply table side n front.world found.0 found.1 in
    let lost = losing_replays table c (other side) r in
    let there = reached_on table lost.steps r.world front.world reached lost.extends.plays in (
      took.head.message,
      ap (λ (items : List Item). slice_get items n) (sym (lost.sent ∙ append-nil r.world.sent))
          ∙ head_sent table (other side) front.world took.head took.more n there took.channel took.number_is,
    )

-- whether a number is that of a message of this end
abbrev pub is_from : Side → List Item → ℕ → Bool
is_from side items n = is_sent_by side (slice_get items n)

-- ---- messages of the end

-- The implied expiries occur in both replays.
implied_mirrors : (side : Side) (table : Table) (name : HalfName) (ids : List ℤ) (r s : Replay) → Mirrors side r s
    → Mirrors side (implied table side name ids r) (implied table side name ids s)
implied_mirrors side table name [] r s mirrors = mirrors
implied_mirrors side table name (id ∷ ids) r s mirrors =
    implied_mirrors side table name ids (or_same r (stepped table event r)) (or_same s (stepped table event s))
    (by (after table event r.world) (after table event s.world)
    (ap (after table event) mirrors.world ∙ seen_expiry table side name id r.world))
  where
    event : Event
    event = Expires side name id

    by : (o p : Option World) → p ≡ option_map (seen_by side) o
        → Mirrors side (or_same r (option_map (with_step event r) o)) (or_same s (option_map (with_step event s) p))
    by None None same = mirrors
    by None (Some v) same = cc
    by (Some w) None same = cc
    by (Some w) (Some v) same = record {
      world = let is : v ≡ seen_by side w = cc in is;
      losses = more_losses (other side) s.events r.events (event ∷ []) (event ∷ []) mirrors.losses refl;
    }

over_mirrors : (side : Side) (table : Table) (m : Message) (name : Option HalfName) (r s : Replay) → Mirrors side r s
    → Mirrors side (implied_over table side m name r) (implied_over table side m name s)
over_mirrors side table m None r s mirrors = mirrors
over_mirrors side table m (Some name) r s mirrors =
    implied_mirrors side table name (filter_map invoke_id (components_in m)) r s mirrors

-- The second replay goes on too, and mirrors the first afterwards, except for the messages on their way from the end.
pub record ReflectsBut (side : Side) (next : Replay) (answer : Result Replay CheckFault) : Type 0 where
  pub made : Replay
  pub is : answer ≡ Ok made
  pub mirrors : MirrorsBut side next made

send_reflects : (side : Side) (table : Table) (m : Message) (r next s : Replay) → send_replayed table side m r ≡ Ok next
    → Mirrors side r s → ReflectsBut side next (send_replayed table side m s)
send_reflects side table m r next s is mirrors = by (send table (end_at side r.world) m) refl is
  where
    same_end : end_at side s.world ≡ end_at side r.world
    same_end = ap (end_at side) mirrors.world ∙ seen_end side r.world

    by : (sent : Result End EndFault) → send table (end_at side r.world) m ≡ sent
        → sent_or_refused side m r sent ≡ Ok next
        → ReflectsBut side next (send_replayed table side m s)
    by (Err reason) at e = cc
    by (Ok e) at ok =
        let same = ok_same {F = CheckFault}
        (with_step (Sends side m) r (joined side m (with_end side e r.world))) next ok in
        let sent : send table (end_at side s.world) m ≡ Ok e = ap (λ (x : End). send table x m) same_end ∙ at in
        record {
          made = with_step (Sends side m) s (joined side m (with_end side e s.world));
          is = ap (sent_or_refused side m s) sent;
          mirrors = record {
            world = ap (λ (v : World). with_channel side [] (joined side m (with_end side e v))) mirrors.world
                ∙ seen_sending side m e r.world ∙ ap (λ (x : Replay). seen_by side x.world) same;
            losses = more_losses (other side) s.events r.events (Sends side m ∷ [])
                (Sends side m ∷ []) mirrors.losses refl
                ∙ ap (λ (x : Replay). losses_from (other side) x.events) same;
          };
        }

reply_reflects : (side : Side) (table : Table) (c : Certificate) (abort : Message) (n : ℕ) (r next s : Replay)
    → reply_replayed table c side abort n r ≡ Ok next → Mirrors side r s
    → ReflectsBut side next (reply_replayed table c side abort n s)
reply_reflects side table c abort n r next s is mirrors =
    let event = Replies side n in
    let entry = next_entry r in
    let front = lost_from_front c (other side) r in
    let other_front = lost_from_front c (other side) s in
    let both = front_mirrors side c r s mirrors in
    let step = then_ok (after_event table c event BadReply entry r) _ next is in
    let so = needs_ok (is_abort abort (slice_get step.0.world.sent entry)) (fault_at BadReply entry)
    (Ok step.0) next step.2 in
    let last : step.0 ≡ next = ok_same {F = CheckFault} step.0 next so.1 in
    let made = some_ok (stepped table event front) (fault_at BadReply entry) step.0 step.1 in
    let found = map_some _ (after table event front.world) step.0 made in
    let (v, after_is, seen) = seen_reply table side n front.world found.0 found.1 in
    let there : after table event other_front.world ≡ Some v = ap (after table event) both.world ∙ after_is in
    let mine = with_step event other_front v in
    let world_is : with_channel side [] v ≡ seen_by side next.world =
    seen ∙ ap (λ (x : Replay). seen_by side x.world) (found.2 ∙ last) in
    let same_entry : next_entry s ≡ entry = ap length (same_sent side r s mirrors) in
    let same_items : v.sent ≡ step.0.world.sent =
    sym (sent_with_channel side [] v) ∙ ap (λ (w : World). w.sent) world_is ∙ seen_sent side next.world
    ∙ ap (λ (x : Replay). x.world.sent) (sym last) in
    record {
      made = mine;
      is = ok_then (after_event table c event BadReply (next_entry s) s) _ mine mine
          (ok_some (stepped table event other_front) (fault_at BadReply (next_entry s)) mine (rw there refl))
          (ok_needs (is_abort abort (slice_get v.sent (next_entry s))) (fault_at BadReply (next_entry s)) (Ok mine) mine
          (ap₂ (λ (items : List Item) (k : ℕ). is_abort abort (slice_get items k)) same_items same_entry ∙ so.0) refl);
      mirrors = record {
        world = world_is;
        losses = more_losses (other side) other_front.events front.events (event ∷ []) (event ∷ []) both.losses refl
            ∙ ap (λ (x : Replay). losses_from (other side) x.events) (found.2 ∙ last);
      };
    }

-- A message of the end takes only messages of the peer, so none is left out.
own_ties : (side : Side) (table : Table) (c : Certificate) (m : Message) (n : ℕ) (taken : List ℕ) (r next : Replay)
    → IsReached table r.world → message_by table c side m (sending_by c n (Sent side m) taken) r ≡ Ok next
    → filter (is_from (other side) r.world.sent) taken ≡ taken
own_ties side table c m n taken r next reached is =
    sending_so (λ taken o. message_by table c side m o r ≡ Ok next → filter (is_from (other side) r.world.sent) taken ≡ taken)
    c n side m (λ e. refl) one (λ taken e. cc) taken is
  where
    one : (t : ℕ) → message_by table c side m (Some (Replies side t)) r ≡ Ok next
        → filter (is_from (other side) r.world.sent) (t ∷ []) ≡ t ∷ []
    one t e =
        let there = reply_takes table c side m t r next reached e in
        let so : is_from (other side) r.world.sent t ≡ true = ap (is_sent_by (other side)) there.1 ∙ itself (other side) in
        rw so refl

-- A message of the end is sent in both replays.
message_reflects : (side : Side) (table : Table) (c : Certificate) (m : Message) (n : ℕ) (taken : List ℕ) (r next s : Replay)
    → message_by table c side m (sending_by c n (Sent side m) taken) r ≡ Ok next → Mirrors side r s
    → ReflectsBut side next (message_by table c side m (sending_by c n (Sent side m) taken) s)
message_reflects side table c m n taken r next s =
    sending_so (λ taken o. message_by table c side m o r ≡ Ok next → Mirrors side r s
    → ReflectsBut side next (message_by table c side m o s)) c n side m
    (λ is mirrors. send_reflects side table m (implied_over table side m (invoking_half m) r) next
    (implied_over table side m (invoking_half m) s) is (over_mirrors side table m (invoking_half m) r s mirrors))
    (λ k is mirrors. reply_reflects side table c m k r next s is mirrors) (λ taken is mirrors. cc) taken

pub own_reflects : (side : Side) (table : Table) (c : Certificate) (m : Message) (n : ℕ) (taken : List ℕ)
    (r next s : Replay)
    → IsReached table r.world → message_by table c side m (sending_by c n (Sent side m) taken) r ≡ Ok next
    → Mirrors side r s
    → ReflectsBut side next
    (message_by table c side m (sending_by c n (Sent side m) (filter (is_from (other side) r.world.sent) taken)) s)
own_reflects side table c m n taken r next s reached is mirrors =
    subst (λ (x : List ℕ). ReflectsBut side next (message_by table c side m (sending_by c n (Sent side m) x) s))
    (sym (own_ties side table c m n taken r next reached is))
    (message_reflects side table c m n taken r next s is mirrors)

-- ---- messages of the peer

-- the peer's peer is this end
abbrev back : Side → Side
back side = other (other side)

-- The peer's expiries change nothing for the end.
implied_away : (side : Side) (table : Table) (name : HalfName) (ids : List ℤ) (r s : Replay) → Mirrors side r s
    → Mirrors side (implied table (other side) name ids r) s
implied_away side table name [] r s mirrors = mirrors
implied_away side table name (id ∷ ids) r s mirrors =
    implied_away side table name ids (or_same r (stepped table event r)) s (by (stepped table event r) refl)
  where
    event : Event
    event = Expires (other side) name id

    by : (o : Option Replay) → stepped table event r ≡ o → Mirrors side (or_same r o) s
    by None at = mirrors
    by (Some next) at = internal_step side table event r next s refl at
        (λ w step. let h = expiry table (other side) name id r.world w step in
        ap (seen_by side) h.next_is ∙ internal_end side h.made r.world) mirrors

over_away : (side : Side) (table : Table) (m : Message) (name : Option HalfName) (r s : Replay) → Mirrors side r s
    → Mirrors side (implied_over table (other side) m name r) s
over_away side table m None r s mirrors = mirrors
over_away side table m (Some name) r s mirrors =
    implied_away side table name (filter_map invoke_id (components_in m)) r s mirrors

-- the second replay after a message of the peer
abbrev pub told : Side → Message → Replay → Replay
told side m s = with_step (Tells (other side) m) s (joined (other side) m s.world)

send_away : (side : Side) (table : Table) (m : Message) (r next s : Replay)
    → send_replayed table (other side) m r ≡ Ok next
    → Mirrors side r s → Mirrors side next (told side m s)
send_away side table m r next s is mirrors = by (send table (end_at (other side) r.world) m) refl is
  where
    by : (sent : Result End EndFault) → send table (end_at (other side) r.world) m ≡ sent
        → sent_or_refused (other side) m r sent ≡ Ok next → Mirrors side next (told side m s)
    by (Err reason) at e = cc
    by (Ok e) at ok =
        let event = Sends (other side) m in
        let same =
        ok_same {F = CheckFault} (with_step event r (joined (other side) m (with_end (other side) e r.world)))
        next ok in
        record {
          world = ap (joined (other side) m) (mirrors.world ∙ sym (internal_end side e r.world))
              ∙ seen_told side m (with_end (other side) e r.world) ∙ ap (λ (x : Replay). seen_by side x.world) same;
          losses = more_losses (other side) s.events r.events (Tells (other side) m ∷ [])
              (event ∷ []) mirrors.losses refl
              ∙ ap (λ (x : Replay). losses_from (other side) x.events) same;
        }

own_front : (side : Side) (c : Certificate) (r s : Replay) → Mirrors side r s
    → Mirrors side (lost_from_front c (back side) r) s
own_front A c r s mirrors = own_front_mirrors A c r s mirrors
own_front B c r s mirrors = own_front_mirrors B c r s mirrors

internal_back : (side : Side) (more : List MessageInTransit) (w : World)
    → seen_by side (with_channel (back side) more w) ≡ seen_by side w
internal_back A more w = internal_channel A more w
internal_back B more w = internal_channel B more w

same_message : (side : Side) (a b : Message) (items : List Item) → items ++ Sent side a ∷ [] ≡ items ++ Sent side b ∷ []
    → a ≡ b
same_message side a b items is =
    let last = append_cancel_left items (Sent side a ∷ []) (Sent side b ∷ []) is in
    let first : Sent side a ≡ Sent side b = cc in cc

reply_away : (side : Side) (table : Table) (c : Certificate) (m : Message) (n : ℕ) (r next s : Replay)
    → reply_replayed table c (other side) m n r ≡ Ok next → Mirrors side r s → Mirrors side next (told side m s)
reply_away side table c m n r next s is mirrors =
    let event = Replies (other side) n in
    let entry = next_entry r in
    let front = lost_from_front c (back side) r in
    let both = own_front side c r s mirrors in
    let step = then_ok (after_event table c event BadReply entry r) _ next is in
    let so = needs_ok (is_abort m (slice_get step.0.world.sent entry)) (fault_at BadReply entry)
    (Ok step.0) next step.2 in
    let last : step.0 ≡ next = ok_same {F = CheckFault} step.0 next so.1 in
    let made = some_ok (stepped table event front) (fault_at BadReply entry) step.0 step.1 in
    let found = map_some _ (after table event front.world) step.0 made in
    let took = reply table (other side) n front.world found.0 found.1 in
    let left = with_channel (back side) took.more front.world in
    let world_is : next.world ≡ joined (other side) took.abort left =
    ap (λ (x : Replay). x.world) (sym (found.2 ∙ last)) ∙ took.next_is in
    let lost = losing_replays table c (back side) r in
    let sent_is : left.sent ≡ r.world.sent =
    sent_with_channel (back side) took.more front.world ∙ lost.sent ∙ append-nil r.world.sent in
    let same : took.abort ≡ m =
    same_message (other side) took.abort m r.world.sent
    (ap (λ (items : List Item). items ++ Sent (other side) took.abort ∷ []) (sym sent_is)
    ∙ sym (sent_joined (other side) took.abort left) ∙ sym (ap (λ (w : World). w.sent) world_is)
    ∙ (reply_replays table c (other side) m n r next is).sent) in
    record {
      world = ap (joined (other side) m) (both.world ∙ sym (internal_back side took.more front.world))
          ∙ seen_told side m left
          ∙ ap (λ (x : Message). seen_by side (joined (other side) x left)) (sym same)
          ∙ ap (seen_by side) (sym world_is);
      losses = more_losses (other side) s.events front.events (Tells (other side) m ∷ []) (event ∷ []) both.losses refl
          ∙ ap (λ (x : Replay). losses_from (other side) x.events) (found.2 ∙ last);
    }

not_back : (side : Side) → is_side (other side) (back side) ≡ false
not_back A = refl
not_back B = refl

-- A message of the peer takes only messages of the end, so none of the peer's is left.
pub peer_ties : (side : Side) (table : Table) (c : Certificate) (m : Message) (n : ℕ) (taken : List ℕ) (r next : Replay)
    → IsReached table r.world
    → message_by table c (other side) m (sending_by c n (Sent (other side) m) taken) r ≡ Ok next
    → filter (is_from (other side) r.world.sent) taken ≡ []
peer_ties side table c m n taken r next reached is =
    sending_so (λ taken o. message_by table c (other side) m o r ≡ Ok next → filter (is_from (other side) r.world.sent) taken ≡ [])
    c n (other side) m (λ e. refl) one (λ taken e. cc) taken is
  where
    one : (t : ℕ) → message_by table c (other side) m (Some (Replies (other side) t)) r ≡ Ok next
        → filter (is_from (other side) r.world.sent) (t ∷ []) ≡ []
    one t e =
        let there = reply_takes table c (other side) m t r next reached e in
        let so : is_from (other side) r.world.sent t ≡ false = ap (is_sent_by (other side)) there.1 ∙ not_back side in
        rw so refl

-- A message of the peer is sent in the second replay by `Tells`.
pub peer_mirrors : (side : Side) (table : Table) (c : Certificate) (m : Message) (n : ℕ) (taken : List ℕ) (r next s : Replay)
    → message_by table c (other side) m (sending_by c n (Sent (other side) m) taken) r ≡ Ok next → Mirrors side r s
    → Mirrors side next (told side m s)
peer_mirrors side table c m n taken r next s =
    sending_so (λ taken o. message_by table c (other side) m o r ≡ Ok next → Mirrors side r s → Mirrors side next (told side m s))
    c n (other side) m
    (λ is mirrors. send_away side table m (implied_over table (other side) m (invoking_half m) r) next s is
    (over_away side table m (invoking_half m) r s mirrors))
    (λ k is mirrors. reply_away side table c m k r next s is mirrors) (λ taken is mirrors. cc) taken
