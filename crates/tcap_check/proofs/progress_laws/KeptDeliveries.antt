-- The deliveries of a gap over what is kept are those of the replay.
use Rattle.std.proofs.Common.{◌≡◌, ℕ, suc, ◌+◌, ◌==◌, Bool, true, false, cond, List, [], ◌∷◌, length, drop, Option, Some, None, Result, Ok, Err, refl, sym, ap, ◌∙◌, arith}
use Rattle.std.specs.Prelude.{◌&&◌, slice_get}
use Rattle.tcap_record.specs.declared.entry.End.{End as Side}
use Rattle.tcap_record.specs.declared.entry.End.TheVariants as sides
use Rattle.tcap_end.specs.declared.fault.EndFault.{EndFault}
use Rattle.tcap_end.specs.End.{End}
use Rattle.tcap_end.specs.Message.{receive}
use Rattle.tcap_end.specs.Table.{Table}
use Rattle.tcap_end.specs.Step.{needs, ◌>>◌, ◌>>=◌}
use Rattle.tcap_record.specs.Ends.{other}
use Rattle.tcap_model.specs.World.{Item, MessageInTransit, Sent, channel_from, end_at, with_channel, with_end}
use Rattle.tcap_model.specs.Run.{Receives}
use Rattle.tcap_certificate.specs.declared.certificate.Fate.{Fate}
use Rattle.tcap_certificate.specs.declared.certificate.Fate.TheVariants.{Gap, Lost, By}
use Rattle.tcap_certificate.specs.declared.fault.CheckFault.{CheckFault}
use Rattle.tcap_model.specs.declared.reason.Reason.TheVariants.{BadReply}
use Rattle.tcap_check.specs.declared.outline.Outline.{Outline}
use Rattle.tcap_check.specs.declared.progress.Progress.{Progress}
use Rattle.tcap_check.specs.declared.progress.Waiting.{Waiting}
use Rattle.tcap_certificate.specs.Certificate.{Certificate}
use Rattle.tcap_certificate.specs.Replay.{Replay, deliveries_by, delivery_by, fault_at, is_due, lost_from_front, lost_front, next_entry, received, refused, with_step, due_in}
use Rattle.tcap_check.specs.EntryOutlines.{outlines_from}
use Rattle.tcap_check.specs.Progress.{discard_listed, lost_counted, map_ok, moved, side_at, with_side_end, with_waiting}
use Rattle.tcap_check.specs.ReplaySteps.{deliveries_kept, delivery_kept, first_received, is_received_from, received_or_not}
use Rattle.tcap_check.specs.CheckerMeaning.{fate_of, kept_by, progress_of, waiting_at}
use Rattle.tcap_check.proofs.replay_laws.ReplaySteps.{head_stays, same_end, channel_with}
use Rattle.tcap_check.proofs.progress_laws.KeptBasics.{channel_put, end_kept, end_step_is, front_is, discard_step_is, discarding, not_alone, then_is, waiting_kept}

-- ---- one message

kept_whole : (o : Option Fate) (m : MessageInTransit) → (o ≡ Some Lost → ⊥) → kept_by o m ≡ record { number = m.number; message = Some m.message }
kept_whole None m stays = refl
kept_whole (Some (Gap g)) m stays = refl
kept_whole (Some (By k)) m stays = refl
kept_whole (Some Lost) m stays = absurd (stays refl)

-- the head of a channel to a judged end after the losses at its front, and the messages after the head
pub record HasFront (c : Certificate) (sender : Side) (head : MessageInTransit) (left : List MessageInTransit) (r : Replay) : Type 0 where
  pub channel : channel_from sender (lost_from_front c sender r).world ≡ head ∷ left

-- The head is kept whole.
pub front_waits : (listing : Bool) (judged : Option Side) (c : Certificate) (sender : Side) (head : MessageInTransit) (left : List MessageInTransit) (r : Replay)
    → is_received_from judged sender ≡ true → HasFront c sender head left r
    → (side_at sender (progress_of listing judged c (lost_from_front c sender r))).waiting
    ≡ (record { number = head.number; message = Some head.message }) ∷ waiting_at judged sender c.fates left
front_waits listing judged c sender head left r heard front =
    let behind = drop (length (lost_front c.fates (channel_from sender r.world))) (channel_from sender r.world) in
    let stands : behind ≡ head ∷ left = sym (channel_with sender behind r.world) ∙ front.channel in
    let whole : kept_by (fate_of judged sender (slice_get c.fates head.number)) head ≡ record { number = head.number; message = Some head.message } =
    rw (not_alone judged sender heard)
    (kept_whole (slice_get c.fates head.number) head (head_stays c.fates (channel_from sender r.world) head left stands)) in
    waiting_kept listing judged c sender (lost_from_front c sender r)
    ∙ ap (waiting_at judged sender c.fates) front.channel
    ∙ ap (λ (w : Waiting). w ∷ waiting_at judged sender c.fates left) whole

-- the replay without the head
abbrev pub without_head : Side → Certificate → List MessageInTransit → Replay → Replay
without_head sender c left r = record {
  events = (lost_from_front c sender r).events;
  discards = (lost_from_front c sender r).discards;
  world = with_channel sender left (lost_from_front c sender r).world;
}

pub end_behind : (listing : Bool) (judged : Option Side) (c : Certificate) (sender : Side) (r : Replay)
    → (side_at (other sender) (progress_of listing judged c (lost_from_front c sender r))).end ≡ end_at (other sender) r.world
end_behind listing judged c sender r =
    end_kept listing judged c (other sender) (lost_from_front c sender r)
    ∙ same_end c sender (other sender) r

abbrev kept : Progress → Result Progress CheckFault
kept p = Ok p

module _ (listing : Bool) (judged : Option Side) (c : Certificate) (sender : Side) (number : ℕ) (head : MessageInTransit) (left : List MessageInTransit) (r : Replay) where
  abbrev behind : Replay
  behind = without_head sender c left r

  abbrev kept_behind : Progress
  kept_behind = with_waiting sender (waiting_at judged sender c.fates left) (progress_of listing judged c (lost_from_front c sender r))

  -- The end receives the message.
  received_is : (e : End) → kept (moved (Receives (other sender) number) (with_side_end (other sender) e kept_behind))
      ≡ Ok (progress_of listing judged c (with_step (Receives (other sender) number) behind (with_end (other sender) e behind.world)))
  received_is e =
      ap kept (ap (λ (p : Progress). moved (Receives (other sender) number) (with_side_end (other sender) e p)) (sym (channel_put listing judged c sender left (lost_from_front c sender r)))
      ∙ sym (end_step_is listing judged c (Receives (other sender) number) (other sender) e behind (λ at. refl)))

  -- The end discards the message, if it is judged alone.
  dropped_is : (reason : EndFault) → kept (lost_counted judged sender (discard_listed sender number reason kept_behind))
      ≡ Ok (progress_of listing judged c (discarding sender number reason behind))
  dropped_is reason =
      ap kept (ap (λ (p : Progress). lost_counted judged sender (discard_listed sender number reason p))
      (sym (channel_put listing judged c sender left (lost_from_front c sender r)))
      ∙ sym (discard_step_is listing judged c sender number reason behind))

-- The head has this number, or it does not.
head_is : (listing : Bool) (judged : Option Side) (table : Table) (c : Certificate) (sender : Side) (number : ℕ) (head : MessageInTransit) (left : List MessageInTransit) (r : Replay)
    (front : HasFront c sender head left r) (so : Bool) (o : Result End EndFault) → is_received_from judged sender ≡ true
    → (head.number == number) ≡ so → receive table (end_at (other sender) r.world) head.message ≡ o
    → (needs so (fault_at BadReply number) >> received_or_not judged (other sender) number (kept_behind listing judged c sender number head left r) o)
    ≡ map_ok (progress_of listing judged c) (received judged table c sender number r)
head_is listing (Some sides.A) table c sides.A number head left r front so o heard is step = cc
head_is listing (Some sides.B) table c sides.B number head left r front so o heard is step = cc
head_is listing None table c sides.A number head left r front false o heard is step = rw (front.channel, is) refl
head_is listing None table c sides.B number head left r front false o heard is step = rw (front.channel, is) refl
head_is listing (Some sides.A) table c sides.B number head left r front false o heard is step = rw (front.channel, is) refl
head_is listing (Some sides.B) table c sides.A number head left r front false o heard is step = rw (front.channel, is) refl
head_is listing None table c sides.A number head left r front true (Ok e) heard is step =
    rw (front.channel, is, step) (received_is listing None c sides.A number head left r e)
head_is listing None table c sides.B number head left r front true (Ok e) heard is step =
    rw (front.channel, is, step) (received_is listing None c sides.B number head left r e)
head_is listing (Some sides.A) table c sides.B number head left r front true (Ok e) heard is step =
    rw (front.channel, is, step) (received_is listing (Some sides.A) c sides.B number head left r e)
head_is listing (Some sides.B) table c sides.A number head left r front true (Ok e) heard is step =
    rw (front.channel, is, step) (received_is listing (Some sides.B) c sides.A number head left r e)
head_is listing None table c sides.A number head left r front true (Err reason) heard is step = rw (front.channel, is, step) refl
head_is listing None table c sides.B number head left r front true (Err reason) heard is step = rw (front.channel, is, step) refl
head_is listing (Some sides.A) table c sides.B number head left r front true (Err reason) heard is step =
    rw (front.channel, is, step) (dropped_is listing (Some sides.A) c sides.B number head left r reason)
head_is listing (Some sides.B) table c sides.A number head left r front true (Err reason) heard is step =
    rw (front.channel, is, step) (dropped_is listing (Some sides.B) c sides.A number head left r reason)

nothing_is : (listing : Bool) (judged : Option Side) (table : Table) (c : Certificate) (sender : Side) (number : ℕ) (r : Replay) → is_received_from judged sender ≡ true
    → channel_from sender (lost_from_front c sender r).world ≡ []
    → (let x : Result Progress CheckFault = refused BadReply number in x)
    ≡ map_ok (progress_of listing judged c) (received judged table c sender number r)
nothing_is listing None table c sides.A number r heard none = rw none refl
nothing_is listing None table c sides.B number r heard none = rw none refl
nothing_is listing (Some sides.A) table c sides.A number r heard none = cc
nothing_is listing (Some sides.A) table c sides.B number r heard none = rw none refl
nothing_is listing (Some sides.B) table c sides.A number r heard none = rw none refl
nothing_is listing (Some sides.B) table c sides.B number r heard none = cc

needs_then : (so : Bool) (fault : CheckFault) (o : Result End EndFault) (step : Result End EndFault → Result Progress CheckFault)
    → ((needs so fault >> (let x : Result (Result End EndFault) CheckFault = Ok o in x)) >>= step) ≡ (needs so fault >> step o)
needs_then true fault o step = refl
needs_then false fault o step = refl

pub delivered_is : (listing : Bool) (judged : Option Side) (table : Table) (c : Certificate) (sender : Side) (number : ℕ) (r : Replay) → is_received_from judged sender ≡ true
    → delivery_kept judged table number (Some sender) (progress_of listing judged c r)
    ≡ map_ok (progress_of listing judged c) (received judged table c sender number r)
delivered_is listing judged table c sender number r heard =
    ap (λ (p : Progress). first_received judged table sender number (side_at sender p).waiting p) (front_is listing judged c sender r heard)
    ∙ by (channel_from sender before.world) refl
  where
    before : Replay
    before = lost_from_front c sender r

    by : (messages : List MessageInTransit) → channel_from sender before.world ≡ messages
        → first_received judged table sender number (side_at sender (progress_of listing judged c before)).waiting (progress_of listing judged c before)
        ≡ map_ok (progress_of listing judged c) (received judged table c sender number r)
    by [] is =
        ap (λ (messages : List Waiting). first_received judged table sender number messages (progress_of listing judged c before))
        (waiting_kept listing judged c sender before ∙ ap (waiting_at judged sender c.fates) is)
        ∙ nothing_is listing judged table c sender number r heard is
    by (head ∷ left) is =
        let front : HasFront c sender head left r = record { channel = is } in
        ap (λ (messages : List Waiting). first_received judged table sender number messages (progress_of listing judged c before))
        (front_waits listing judged c sender head left r heard front)
        ∙ needs_then (head.number == number) (fault_at BadReply number)
        (receive table (side_at (other sender) (progress_of listing judged c before)).end head.message)
        (received_or_not judged (other sender) number (kept_behind listing judged c sender number head left r))
        ∙ ap (λ (e : End). needs (head.number == number) (fault_at BadReply number)
        >> received_or_not judged (other sender) number (kept_behind listing judged c sender number head left r) (receive table e head.message))
        (end_behind listing judged c sender r)
        ∙ head_is listing judged table c sender number head left r front (head.number == number)
        (receive table (end_at (other sender) r.world) head.message) heard refl refl

-- ---- all messages that are due

-- The outlines from this number on.
abbrev pub StandsFrom : List Outline → ℕ → List Outline → Type 0
StandsFrom entries n rest = (i : ℕ) → slice_get entries (n + i) ≡ slice_get rest i

further : (n i : ℕ) → n + suc i ≡ (n + 1) + i
further n i = omega arith

pub stands_next : (entries : List Outline) (n : ℕ) (first : Outline) (rest : List Outline) → StandsFrom entries n (first ∷ rest)
    → StandsFrom entries (n + 1) rest
stands_next entries n first rest stands i = ap (slice_get entries) (sym (further n i)) ∙ stands (suc i)

pub first_stands : (entries : List Outline) (n : ℕ) (first : Outline) (rest : List Outline) → StandsFrom entries n (first ∷ rest)
    → slice_get entries n ≡ Some first
first_stands entries n first rest stands = let here : n ≡ n + 0 = omega arith in ap (slice_get entries) here ∙ stands 0

pub none_next : (entries : List Outline) (n : ℕ) → StandsFrom entries n [] → StandsFrom entries (n + 1) []
none_next entries n stands i = ap (slice_get entries) (sym (further n i)) ∙ stands (suc i)

-- Nothing is delivered for entries that have not come yet.
none_due : (judged : Option Side) (table : Table) (entries : List Outline) (gap n : ℕ) (fates : List Fate) (p : Progress) → StandsFrom entries n []
    → deliveries_kept judged table entries (due_in gap n fates) p ≡ Ok p
none_due judged table entries gap n [] p stands = refl
none_due judged table entries gap n (Lost ∷ fates) p stands = none_due judged table entries gap (n + 1) fates p (none_next entries n stands)
none_due judged table entries gap n (By k ∷ fates) p stands = none_due judged table entries gap (n + 1) fates p (none_next entries n stands)
none_due judged table entries gap n (Gap g ∷ fates) p stands =
    by (none_due judged table entries gap (n + 1) fates p (none_next entries n stands)) (g == gap)
  where
    here : slice_get entries n ≡ None
    here = let same : n ≡ n + 0 = omega arith in ap (slice_get entries) same ∙ stands 0

    by : deliveries_kept judged table entries (due_in gap (n + 1) fates) p ≡ Ok p
        → (b : Bool) → deliveries_kept judged table entries (cond b (n ∷ due_in gap (n + 1) fates) (due_in gap (n + 1) fates)) p ≡ Ok p
    by rest true = rw here rest
    by rest false = rest

-- A message is due if its fate is this gap and it is for a judged end.
pub due_is : (judged : Option Side) (gap g : ℕ) (sender : Side) → is_due judged gap g sender ≡ ((g == gap) && is_received_from judged sender)
due_is None gap g sender = by (g == gap)
  where
    by : (b : Bool) → b ≡ (b && true)
    by true = refl
    by false = refl
due_is (Some judged) gap g sender = refl

deliveries_from : (listing : Bool) (judged : Option Side) (table : Table) (c : Certificate) (entries : List Outline) (gap n : ℕ) (fates : List Fate)
    (items : List Item) (r : Replay) → StandsFrom entries n (outlines_from c n items)
    → deliveries_kept judged table entries (due_in gap n fates) (progress_of listing judged c r)
    ≡ map_ok (progress_of listing judged c) (deliveries_by judged table c gap n fates items r)
deliveries_from listing judged table c entries gap n [] items r stands = refl
deliveries_from listing judged table c entries gap n (fate ∷ fates) [] r stands =
    none_due judged table entries gap n (fate ∷ fates) (progress_of listing judged c r) stands
deliveries_from listing judged table c entries gap n (Lost ∷ fates) (item ∷ items) r stands =
    deliveries_from listing judged table c entries gap (n + 1) fates items r (stands_next entries n _ _ stands)
deliveries_from listing judged table c entries gap n (By k ∷ fates) (item ∷ items) r stands =
    deliveries_from listing judged table c entries gap (n + 1) fates items r (stands_next entries n _ _ stands)
deliveries_from listing judged table c entries gap n (Gap g ∷ fates) (Item.Quiet ∷ items) r stands =
    by (deliveries_from listing judged table c entries gap (n + 1) fates items r (stands_next entries n _ _ stands)) (g == gap)
  where
    rest_of : Result Progress CheckFault
    rest_of = map_ok (progress_of listing judged c) (deliveries_by judged table c gap (n + 1) fates items r)

    by : deliveries_kept judged table entries (due_in gap (n + 1) fates) (progress_of listing judged c r) ≡ rest_of
        → (b : Bool)
        → deliveries_kept judged table entries (cond b (n ∷ due_in gap (n + 1) fates) (due_in gap (n + 1) fates)) (progress_of listing judged c r)
        ≡ rest_of
    by rest true = rw (first_stands entries n _ _ stands) rest
    by rest false = rest
deliveries_from listing judged table c entries gap n (Gap g ∷ fates) (Sent sender message ∷ items) r stands =
    by (λ next. deliveries_from listing judged table c entries gap (n + 1) fates items next (stands_next entries n _ _ stands)) (g == gap) refl
    (is_received_from judged sender) refl
  where
    due : List ℕ
    due = due_in gap (n + 1) fates

    more : Replay → Result Replay CheckFault
    more = deliveries_by judged table c gap (n + 1) fates items

    by : ((next : Replay) → deliveries_kept judged table entries due (progress_of listing judged c next) ≡ map_ok (progress_of listing judged c) (more next))
        → (b : Bool) → (g == gap) ≡ b → (so : Bool) → is_received_from judged sender ≡ so
        → deliveries_kept judged table entries (cond b (n ∷ due) due) (progress_of listing judged c r)
        ≡ map_ok (progress_of listing judged c) (delivery_by judged table c gap n (Gap g) (Sent sender message) r >>= more)
    by rest false is so told = rw (due_is judged gap g sender, is) (rest r)
    by rest true is false told = rw (due_is judged gap g sender, is, first_stands entries n _ _ stands, told) (rest r)
    by rest true is true told =
        rw (due_is judged gap g sender, is, first_stands entries n _ _ stands, told)
        (ap (λ (x : Result Progress CheckFault). x >>= deliveries_kept judged table entries due) (delivered_is listing judged table c sender n r told)
        ∙ then_is (progress_of listing judged c) (received judged table c sender n r) (deliveries_kept judged table entries due) more
        (λ next _. rest next))

-- The list of messages that are due may include entries that have not come yet, but nothing is delivered for these.
pub deliveries_are : (listing : Bool) (judged : Option Side) (table : Table) (c : Certificate) (r : Replay)
    → deliveries_kept judged table (outlines_from c 0 r.world.sent) (due_in (next_entry r) 0 c.fates) (progress_of listing judged c r)
    ≡ map_ok (progress_of listing judged c) (deliveries_by judged table c (next_entry r) 0 c.fates r.world.sent r)
deliveries_are listing judged table c r =
    deliveries_from listing judged table c (outlines_from c 0 r.world.sent) (next_entry r) 0 c.fates r.world.sent r
    (λ i. let same : 0 + i ≡ i = omega arith in ap (slice_get (outlines_from c 0 r.world.sent)) same)
