-- The replay for one end takes each of its peer's messages.
use Rattle.std.proofs.Common.{arith, ◌≡◌, ◌≤◌, ◌<◌, ◌⊎◌, inl, inr, ℕ, zero, suc, ◌+◌, ◌==◌, Bool, true, false, cond, List, [], ◌∷◌, length, Option, Some, None, Result, Ok, Err, refl, sym, ap, ap₂, subst, ◌∙◌}
use Rattle.std.specs.Option.{option_or}
use Rattle.std.specs.Prelude.{◌&&◌, not, ok_or, slice_get}
use Rattle.std.proofs.lemmas.Bool.{eq-eqb, eqb-false, eqb-true}
use Rattle.std.proofs.lemmas.List.{length-append}
use Rattle.tcap_msg.specs.declared.message.Message.{Message}
use Rattle.tcap_record.specs.declared.entry.End.{End as Side}
use Rattle.tcap_record.specs.declared.entry.End.TheVariants.{A, B}
use Rattle.tcap_end.specs.Table.{Table}
use Rattle.tcap_end.proofs.AnsweringLaws.{needs_ok, ok_same, some_ok, then_ok}
use Rattle.tcap_certificate.specs.declared.certificate.Fate.{Fate}
use Rattle.tcap_certificate.specs.declared.certificate.Fate.TheVariants.{Gap, Lost, By}
use Rattle.tcap_certificate.specs.declared.fault.CheckFault.{CheckFault}
use Rattle.tcap_model.specs.declared.reason.Reason.{Reason}
use Rattle.tcap_model.specs.declared.reason.Reason.TheVariants.{BadReply, FateCount, FateRange, NotQuiet, OutOfOrder}
use Rattle.tcap_record.specs.Ends.{other}
use Rattle.tcap_model.specs.World.{Item, Sent, is_side}
use Rattle.tcap_model.specs.Run.{Event, Receives, Replies, Loses, after, numbers_taken, takes_from}
use Rattle.tcap_certificate.specs.Certificate.{Certificate}
use Rattle.tcap_certificate.specs.DescribedRun.{sending_by, taken_by}
use Rattle.tcap_certificate.specs.Replay.{Replay, all_lost_from, deliveries_by, delivery_by, discarded, entries_by, entry_by, fault_at, gap_by, delivered, is_gap, is_nothing, is_overtaking, item_by, lost_from_front, mark_judged, message_by, next_entry, own_judged, reply_replayed, stepped, tied, peer_replayed}
use Rattle.tcap_check.proofs.replay_laws.ReplaySteps.{discard_is, IsIn, sending_so}
use Rattle.tcap_check.proofs.given_run_lemmas.GivenRuns.{replied_at, among_filter}
use Rattle.tcap_check.proofs.given_run_lemmas.NumberLaws.{among_plain, taken_left, taken_right}
use Rattle.tcap_check.proofs.replay_laws.ReplayEntries.{nothing_is}
use Rattle.tcap_check.proofs.replay_laws.ReplayGaps.{get_before, gap_parts}
use Rattle.tcap_check.proofs.replay_laws.ReplayLaws.{reply_replays}
use Rattle.tcap_model.proofs.RunLaws.{map_some}
use Rattle.tcap_check.proofs.one_end_lemmas.AloneReplays.{deliveries_lead, entries_lead, gap_leads, item_leads, mark_rest, own_rest, peer_rest, tied_behind, Leads, all_lost_leads}
use Rattle.tcap_check.proofs.one_end_lemmas.AloneTies.{is_from}
use Rattle.tcap_model.proofs.WorldLaws.{itself}
use Rattle.tcap_check.proofs.refusal_laws.TakenNumberLaws.{takes_replied}

-- The message with this number was taken from the peer's channel.
abbrev pub HasTaken : Side → ℕ → Replay → Type 0
HasTaken side n r = IsIn n (numbers_taken (other side) r.events)

pub took_on : (side : Side) (table : Table) (n : ℕ) (r : Replay) (items : List Item) (next : Replay)
    → Leads side table r items next
    → HasTaken side n r → HasTaken side n next
took_on side table n r items next leads took =
    subst (λ (events : List Event). IsIn n (numbers_taken (other side) events)) (sym leads.extends.events)
    (taken_left (other side) n r.events leads.steps took)

-- A step takes the message.
took_by : (side : Side) (table : Table) (n : ℕ) (event : Event) (r next : Replay)
    → takes_from (other side) event ≡ n ∷ []
    → stepped table event r ≡ Some next → HasTaken side n next
took_by side table n event r next takes is =
    let found = map_some _ (after table event r.world) next is in
    let one : IsIn n (numbers_taken (other side) (event ∷ [])) = rw takes (inl refl) in
    subst (HasTaken side n) found.2 (taken_right (other side) n r.events (event ∷ []) one)

received_takes : (side : Side) (n : ℕ) → takes_from (other side) (Receives side n) ≡ n ∷ []
received_takes A n = refl
received_takes B n = refl

lost_takes : (side : Side) (n : ℕ) → takes_from (other side) (Loses (other side) n) ≡ n ∷ []
lost_takes A n = refl
lost_takes B n = refl

-- The message is received or discarded, and so taken.
heard_takes : (side : Side) (table : Table) (c : Certificate) (n : ℕ) (r next : Replay)
    → delivered table c side n r ≡ Ok next
    → HasTaken side n next
heard_takes side table c n r next is =
    let before = lost_from_front c (other side) r in
    by before (stepped table (Receives side n) before) refl
    (some_ok (option_or (stepped table (Receives side n) before) (discarded table side n before))
    (fault_at BadReply n)
    next is)
  where
    by : (before : Replay) (o : Option Replay) → stepped table (Receives side n) before ≡ o
        → option_or o (discarded table side n before) ≡ Some next → HasTaken side n next
    by before (Some x) at found = took_by side table n (Receives side n)
        before next (received_takes side n) (at ∙ found)
    by before None at found =
        let d = discard_is table side n before next found in
        subst (λ (x : List Event). IsIn n (numbers_taken (other side) x)) (sym d.events)
        (took_by side table n (Loses (other side) n) before d.lost (lost_takes side n) d.step)

-- A gap takes each message of the peer whose fate it is.
deliveries_take : (side : Side) (table : Table) (c : Certificate) (m : Message) (gap n i : ℕ) (fates : List Fate)
    (items : List Item)
    (r next : Replay) → deliveries_by (Some side) table c gap n fates items r ≡ Ok next → slice_get fates i ≡ Some (Gap gap)
    → slice_get items i ≡ Some (Sent (other side) m) → HasTaken side (n + i) next
deliveries_take side table c m gap n i [] items r next is fate item = cc
deliveries_take side table c m gap n i (f ∷ fates) [] r next is fate item = cc
deliveries_take side table c m gap n zero (f ∷ fates) (x ∷ items) r next is fate item =
    let one = then_ok (delivery_by (Some side) table c gap n f x r)
    (deliveries_by (Some side) table c gap (n + 1) fates items) next is in
    let at : delivery_by (Some side) table c gap n (Gap gap) (Sent (other side) m) r ≡ Ok one.0 =
    let same_fate : f ≡ Gap gap = cc in let same_item : x ≡ Sent (other side) m = cc in
    sym (ap₂ (λ (g : Fate) (y : Item). delivery_by (Some side) table c gap n g y r) same_fate same_item) ∙ one.1 in
    let took = heard_takes side table c n r one.0
    (let so : ((gap == gap) && is_side (other side) (other side))
    ≡ true = rw (eq-eqb gap gap refl) (itself (other side)) in
    sym (ap (λ (b : Bool). cond b (delivered table c side n r) (Ok r)) so) ∙ at) in
    let e : n ≡ n + 0 = omega arith in
    subst (λ (k : ℕ). HasTaken side k next) e
    (took_on side table n one.0 [] next (deliveries_lead side table c gap (n + 1) fates items one.0 next one.2) took)
deliveries_take side table c m gap n (suc i) (f ∷ fates) (x ∷ items) r next is fate item =
    let one = then_ok (delivery_by (Some side) table c gap n f x r)
    (deliveries_by (Some side) table c gap (n + 1) fates items) next is in
    let e : (n + 1) + i ≡ n + suc i = omega arith in
    subst (λ (k : ℕ). HasTaken side k next)
    e (deliveries_take side table c m gap (n + 1) i fates items one.0 next one.2 fate item)

pub gap_takes : (side : Side) (table : Table) (c : Certificate) (m : Message) (n : ℕ) (r next : Replay)
    → gap_by (Some side) table c r ≡ Ok next
    → slice_get c.fates n ≡ Some (Gap (next_entry r)) → slice_get r.world.sent n ≡ Some (Sent (other side) m)
    → HasTaken side n next
gap_takes side table c m n r next is fate item =
    let parts = gap_parts (Some side) table c r next is in
    let e : 0 + n ≡ n = omega arith in
    subst (λ (k : ℕ). HasTaken side k next) e
    (deliveries_take side table c m (next_entry r) 0 n c.fates r.world.sent parts.0 next parts.2 fate item)

-- ---- messages that an entry takes

-- A message of the peer whose fate is the next entry is taken by this entry.
is_tied : (side : Side) (c : Certificate) (m : Message) (n : ℕ) (r : Replay) → slice_get c.fates n
    ≡ Some (By (next_entry r))
    → slice_get r.world.sent n ≡ Some (Sent (other side) m) → IsIn n (tied (Some side) c r)
is_tied side c m n r fate item =
    let e : 0 + n ≡ n = omega arith in
    among_filter (is_from (other side) r.world.sent) n (taken_by (next_entry r) 0 c.fates)
    (rw item (itself (other side)))
    (subst (λ (k : ℕ). IsIn k (taken_by (next_entry r) 0 c.fates)) e (replied_at (next_entry r) 0 n c.fates fate))

not_tied : (numbers : List ℕ) (n : ℕ) → is_nothing numbers ≡ true → IsIn n numbers → ⊥
not_tied numbers n none is = subst (IsIn n) (nothing_is numbers none) is

-- The Abort that is a reply takes its message.
message_takes : (side : Side) (table : Table) (c : Certificate) (m : Message) (n k : ℕ) (taken : List ℕ)
    (r next : Replay)
    → message_by table c side m (sending_by c k (Sent side m) taken) r ≡ Ok next → IsIn n taken → HasTaken side n next
message_takes side table c m n k taken r next is tied =
    sending_so (λ taken o. message_by table c side m o r ≡ Ok next → IsIn n taken → HasTaken side n next) c k side m
    (λ e none. absurd none) (λ t e there. replied t there e) (λ taken e there. cc) taken is tied
  where
    replied : (t : ℕ) → IsIn n (t ∷ []) → reply_replayed table c side m t r ≡ Ok next → HasTaken side n next
    replied t (inr there) e = absurd there
    replied t (inl same) e =
        let steps = reply_replays table c side m t r next e in
        let one : IsIn n (numbers_taken (other side) (Replies side t ∷ [])) = rw (takes_replied side t) (inl same) in
        let plain = subst (λ (events : List Event). IsIn n (numbers_taken (other side) events))
        (sym steps.are) one in
        subst (λ (events : List Event). IsIn n (numbers_taken (other side) events)) (sym steps.extends.events)
        (taken_right (other side) n r.events steps.steps (among_plain (other side) n steps.steps plain))

-- ---- entries

-- The fate is the next gap or the next entry.
abbrev pub IsNext : Fate → ℕ → Type 0
IsNext (Gap gap) k = gap ≡ k
IsNext (By reply) k = reply ≡ k
IsNext Lost k = ⊥

-- The message is taken by the next gap, or by the next entry, if this is its fate.
by_next : (side : Side) (table : Table) (c : Certificate) (m : Message) (n : ℕ) (f : Fate) (r mid : Replay)
    (items : List Item)
    (next : Replay) → gap_by (Some side) table c r ≡ Ok mid → Leads side table mid items next
    → (IsIn n (tied (Some side) c r) → HasTaken side n next) → slice_get c.fates n ≡ Some f → IsNext f (next_entry r)
    → slice_get r.world.sent n ≡ Some (Sent (other side) m) → HasTaken side n next
by_next side table c m n (Gap gap) r mid items next is leads tied fate now item =
    let here : slice_get c.fates n ≡ Some (Gap (next_entry r)) = fate ∙ ap (λ (g : ℕ). Some (Gap g)) now in
    took_on side table n mid items next leads (gap_takes side table c m n r mid is here item)
by_next side table c m n (By reply) r mid items next is leads tied fate now item =
    let here : slice_get c.fates n ≡ Some (By (next_entry r)) = fate ∙ ap (λ (k : ℕ). Some (By k)) now in
    tied (is_tied side c m n r here item)
by_next side table c m n Lost r mid items next is leads tied fate now item = absurd now

own_takes : (side : Side) (table : Table) (c : Certificate) (sent m : Message) (n : ℕ) (f : Fate) (r next : Replay)
    → own_judged (Some side) table c Lost side sent r ≡ Ok next → slice_get c.fates n ≡ Some f → IsNext f (next_entry r)
    → slice_get r.world.sent n ≡ Some (Sent (other side) m) → HasTaken side n next
own_takes side table c sent m n f r next is fate now item =
    let gap = then_ok (gap_by (Some side) table c r) _ next is in
    let taken = tied (Some side) c gap.0 in
    let event = sending_by c (next_entry gap.0) (Sent side sent) taken in
    let behind = then_ok (message_by table c side sent event gap.0) (λ x. Ok (all_lost_from side x)) next gap.2 in
    by_next side table c m n f r gap.0 (Sent side sent ∷ [])
    next gap.1 (own_rest side table c sent (next_entry gap.0) taken gap.0 next gap.2)
    (λ tied.
    subst (HasTaken side n) (ok_same {F = CheckFault} (all_lost_from side behind.0) next behind.2)
    (took_on side table n behind.0 [] (all_lost_from side behind.0) (all_lost_leads side table behind.0)
    (message_takes side table c sent n (next_entry gap.0) taken gap.0 behind.0 behind.1
    (subst (IsIn n) (sym (tied_behind side table c r gap.0 gap.1)) tied)))) fate now item

peer_takes : (side : Side) (table : Table) (c : Certificate) (own : Fate) (sent m : Message) (n : ℕ) (f : Fate)
    (r next : Replay)
    → peer_replayed table c own side sent r ≡ Ok next → slice_get c.fates n ≡ Some f → IsNext f (next_entry r)
    → slice_get r.world.sent n ≡ Some (Sent (other side) m) → HasTaken side n next
peer_takes side table c own sent m n f r next is fate now item =
    let so = needs_ok (not (is_overtaking (other side) own c.fates r.world.sent))
    (fault_at OutOfOrder (next_entry r)) _ next is in
    let gap = then_ok (gap_by (Some side) table c r) _ next so.1 in
    let none = is_nothing (tied (Some side) c r) in
    let free = needs_ok none (fault_at BadReply (next_entry r)) _ next gap.2 in
    by_next side table c m n f r gap.0 (Sent (other side) sent ∷ []) next gap.1
    (peer_rest side table sent none (fault_at BadReply (next_entry r)) gap.0 next gap.2)
    (λ among. absurd (not_tied (tied (Some side) c r) n free.0 among)) fate now item

mark_takes : (side : Side) (table : Table) (c : Certificate) (own : Fate) (m : Message) (n : ℕ) (f : Fate)
    (r next : Replay)
    → mark_judged (Some side) table c own r ≡ Ok next → slice_get c.fates n ≡ Some f → IsNext f (next_entry r)
    → slice_get r.world.sent n ≡ Some (Sent (other side) m) → HasTaken side n next
mark_takes side table c own m n f r next is fate now item =
    let entry = next_entry r in
    let so = needs_ok (is_gap (entry + 1) own) (fault_at FateRange entry) _ next is in
    let gap = then_ok (gap_by (Some side) table c r) _ next so.1 in
    let none = is_nothing (tied (Some side) c r) in
    let free = needs_ok none (fault_at NotQuiet entry) _ next gap.2 in
    by_next side table c m n f r gap.0 (Item.Quiet ∷ []) next gap.1
    (mark_rest side table c none (fault_at NotQuiet entry) entry gap.0 next gap.2)
    (λ among. absurd (not_tied (tied (Some side) c r) n free.0 among)) fate now item

pub item_takes : (side : Side) (table : Table) (c : Certificate) (own : Fate) (x : Item) (m : Message) (n : ℕ) (f : Fate)
    (r next : Replay)
    → item_by (Some side) table c own x r ≡ Ok next → slice_get c.fates n ≡ Some f → IsNext f (next_entry r)
    → slice_get r.world.sent n ≡ Some (Sent (other side) m) → HasTaken side n next
item_takes side table c own Item.Quiet m n f r next is fate now item =
    mark_takes side table c own m n f r next is fate now item
item_takes side table c own (Sent sender sent) m n f r next is fate now item = by side sender is item
  where
    by : (side sender : Side) → item_by (Some side) table c own (Sent sender sent) r ≡ Ok next
        → slice_get r.world.sent n ≡ Some (Sent (other side) m) → HasTaken side n next
    by A A is item = own_takes A table c sent m n f r next is fate now item
    by A B is item = peer_takes A table c own sent m n f r next is fate now item
    by B A is item = peer_takes B table c own sent m n f r next is fate now item
    by B B is item = own_takes B table c sent m n f r next is fate now item

-- The fate of the message with this number is still to come.
abbrev pub IsAhead : Fate → ℕ → ℕ → ℕ → Type 0
IsAhead (Gap gap) n k count = (n < gap) × (k ≤ gap) × (gap ≤ count)
IsAhead (By reply) n k count = (n < reply) × (k ≤ reply) × (reply < count)
IsAhead Lost n k count = ⊥

-- The fate is the next, or is still to come after the next entry.
next_or_ahead : (f : Fate) (n k count : ℕ) → IsAhead f n k count
    → ((n < k) × IsNext f k) ⊎ IsAhead f n (k + 1) count
next_or_ahead (Gap gap) n k count ahead = by (gap == k) refl
  where
    by : (b : Bool) → (gap == k) ≡ b → ((n < k) × (gap ≡ k)) ⊎ ((n < gap) × (k + 1 ≤ gap) × (gap ≤ count))
    by true is = let e = eqb-true gap k is in inl (omega (arith, ahead.0, e), e)
    by false is = let apart = eqb-false gap k is in
        inr (ahead.0, omega (arith, ahead.1, apart), ahead.2)
next_or_ahead (By reply) n k count ahead = by (reply == k) refl
  where
    by : (b : Bool) → (reply == k) ≡ b → ((n < k) × (reply ≡ k)) ⊎ ((n < reply) × (k + 1 ≤ reply) × (reply < count))
    by true is = let e = eqb-true reply k is in inl (omega (arith, ahead.0, e), e)
    by false is = let apart = eqb-false reply k is in
        inr (ahead.0, omega (arith, ahead.1, apart), ahead.2)
next_or_ahead Lost n k count ahead = absurd ahead

-- An item that was sent before keeps its place.
sent_before : (side : Side) (table : Table) (n : ℕ) (r : Replay) (items : List Item) (next : Replay) (item : Item)
    → Leads side table r items next → n < next_entry r → slice_get next.world.sent n ≡ Some item
    → slice_get r.world.sent n ≡ Some item
sent_before side table n r items next item leads before is =
    sym (get_before r.world.sent items n before) ∙ sym (ap (λ (all : List Item). slice_get all n) leads.sent) ∙ is

-- So each message whose fate is still to come is taken.
pub entries_take : (side : Side) (table : Table) (c : Certificate) (entries : List (Result Item Reason))
    (r next : Replay) (m : Message)
    (n : ℕ) (f : Fate) → entries_by (Some side) table c entries r ≡ Ok next → slice_get c.fates n ≡ Some f
    → IsAhead f n (next_entry r) (length c.fates) → slice_get next.world.sent n ≡ Some (Sent (other side) m)
    → HasTaken side n next
entries_take side table c [] r next m n f is fate ahead item =
    let so = needs_ok (next_entry r == length c.fates) (fault_at FateCount (next_entry r))
    (gap_by (Some side) table c r) next is in
    let last = eqb-true (next_entry r) (length c.fates) so.0 in
    by f fate ahead last so.1
  where
    by : (f : Fate) → slice_get c.fates n ≡ Some f → IsAhead f n (next_entry r) (length c.fates) → next_entry r
        ≡ length c.fates
        → gap_by (Some side) table c r ≡ Ok next → HasTaken side n next
    by (Gap gap) fate ahead last gap_ok =
        let e : gap ≡ next_entry r = omega (arith, ahead.1, ahead.2, last) in
        let low : n < next_entry r = omega (arith, ahead.0, e) in
        gap_takes side table c m n r next gap_ok (fate ∙ ap (λ (g : ℕ). Some (Gap g)) e)
        (sent_before side table n r [] next (Sent (other side) m) (gap_leads side table c r next gap_ok) low item)
    by (By reply) fate ahead last gap_ok = absurd (omega (arith, ahead.1, ahead.2, last))
    by Lost fate ahead last gap_ok = absurd ahead
entries_take side table c (entry ∷ entries) r next m n f is fate ahead item =
    let all = entries_lead side table c (entry ∷ entries) r next is in
    let own = then_ok (ok_or (slice_get c.fates (next_entry r)) (fault_at FateCount (next_entry r))) _ next is in
    let one = then_ok (entry_by (Some side) table c own.0 entry r) (entries_by (Some side) table c entries) next own.2 in
    let rest = entries_lead side table c entries one.0 next one.2 in
    by own.0 entry one.0 one.1 (next_or_ahead f n (next_entry r) (length c.fates) ahead)
    (λ low. sent_before side table n r all.items next (Sent (other side) m) all.leads low item)
    (λ took. took_on side table n one.0 rest.items next rest.leads took)
    (λ behind. entries_take side table c entries one.0 next m n f one.2 fate behind item)
  where
    by : (own : Fate) (x : Result Item Reason) (mid : Replay) → entry_by (Some side) table c own x r ≡ Ok mid
        → ((n < next_entry r) × IsNext f (next_entry r)) ⊎ IsAhead f n (next_entry r + 1) (length c.fates)
        → (n < next_entry r → slice_get r.world.sent n ≡ Some (Sent (other side) m))
        → (HasTaken side n mid → HasTaken side n next) → (IsAhead f n (next_entry mid) (length c.fates) → HasTaken side n next)
        → HasTaken side n next
    by own (Err reason) mid is which there on behind = cc
    by own (Ok x) mid is (inl now) there on behind =
        on (item_takes side table c own x m n f r mid is fate now.1 (there now.0))
    by own (Ok x) mid is (inr ahead) there on behind =
        let one = item_leads side table c own x r mid is in
        let number : next_entry r + 1 ≡ next_entry mid =
        sym (ap length one.sent ∙ length-append r.world.sent (x ∷ [])) in
        behind (subst (λ (k : ℕ). IsAhead f n k (length c.fates)) number ahead)
