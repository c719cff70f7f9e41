-- The listed closings and expiries of a gap, and the whole gap, over what is kept are those of the replay.
use Rattle.std.proofs.Common.{◌≡◌, ◌≤◌, ◌<◌, arith, ℕ, ℤ, zero, suc, ◌+◌, ◌==◌, Bool, true, false, cond, List, [], ◌∷◌, map, drop, length, Option, Some, None, Result, Ok, Err, refl, sym, ap, ◌∙◌, append-nil, subst}
use Rattle.std.specs.Prelude.{filter, nat_lt, ok_or, option_map, slice_get}
use Rattle.std.specs.List.{AllByRecursion, list_any}
use Rattle.std.specs.Result.{result_ok}
use Rattle.std.proofs.lemmas.Bool.{eq-eqb, eqb-true, le-ltb, lt-ltb, or_left, or_right}
use Rattle.std.proofs.lemmas.List.{take_all}
use Rattle.std.proofs.lemmas.Option.{slice_get-map, slice_get_within}
use Rattle.tcap_parts.specs.declared.component.Component.{Component}
use Rattle.tcap_msg.specs.declared.message.Message.{Message}
use Rattle.tcap_msg.specs.declared.message.Message.TheVariants.{Unidirectional, Begin, Continue, End as EndMessage, Abort}
use Rattle.tcap_msg.specs.Parts.{components_in, otid_in}
use Rattle.tcap_record.specs.declared.entry.End.{End as Side}
use Rattle.tcap_end.specs.declared.fault.EndFault.{EndFault}
use Rattle.tcap_end.specs.declared.fault.EndFault.TheVariants as faults
use Rattle.tcap_end.specs.declared.half.HalfName.{HalfName}
use Rattle.tcap_end.specs.declared.half.HalfName.TheVariants as names
use Rattle.tcap_end.specs.End.{End}
use Rattle.tcap_end.specs.HiddenSteps.{close, expire}
use Rattle.tcap_end.specs.Step.{◌>>=◌}
use Rattle.tcap_end.specs.Table.{Table}
use Rattle.tcap_model.specs.World.{Item, Sent, end_at, is_side, with_end, has_quiet}
use Rattle.tcap_model.specs.Run.{Event, Closes, Expires, option_then, only_if}
use Rattle.tcap_check.specs.NamedMessage.{MessageNote}
use Rattle.tcap_certificate.specs.declared.certificate.Closing.{Closing}
use Rattle.tcap_certificate.specs.declared.certificate.Expiry.{Expiry}
use Rattle.tcap_certificate.specs.Certificate.{Certificate}
use Rattle.tcap_certificate.specs.declared.fault.CheckFault.{CheckFault}
use Rattle.tcap_model.specs.declared.reason.Reason.TheVariants.{FateRange, HiddenRefused}
use Rattle.tcap_check.specs.declared.outline.Outline.TheVariants as outlines
use Rattle.tcap_certificate.specs.DescribedRun.{closing_by, closing_event, expiry_by, expiry_event, invoke_id, named_entry}
use Rattle.tcap_certificate.specs.Replay.{Replay, fault_at, after_event, with_step, is_judged, deliveries_by, gap_by, next_entry, due_in}
use Rattle.tcap_check.specs.EntryOutlines.{begins, half_closed, half_closed_by, invocation_ended, invocation_ended_by, is_named, outline_named, outline_of, outlines_from, since_from}
use Rattle.tcap_check.specs.Progress.{end_moved, half_closes, invocation_ends, all_kept, listed_kept}
use Rattle.tcap_check.specs.CheckerMeaning.{map_ok, progress_of}
use Rattle.tcap_certificate.specs.LossCounts.{is_lost_from}
use Rattle.tcap_check.proofs.progress_laws.KeptBasics.{end_kept, end_step_is, then_is}
use Rattle.tcap_model.proofs.ListLaws.{all_weaker, all_both}
use Rattle.tcap_check.specs.declared.listed_steps.ListedStep.{ListedStep}
use Rattle.tcap_check.specs.declared.listed_steps.ListedStep.TheVariants as listings
use Rattle.tcap_check.specs.ListedSteps.{all_replayed, entry_of, event_listed, gap_of, listed_for, listed_in, listed_replayed, side_of, why_refused}
use Rattle.tcap_check.proofs.replay_laws.ReplayLaws.{one_replays, listed_replay}
use Rattle.tcap_check.specs.declared.outline.Outline.{Outline}
use Rattle.tcap_check.specs.declared.progress.Progress.{Progress}
use Rattle.tcap_check.specs.ReplaySteps.{deliveries_kept, gap_kept}
use Rattle.tcap_check.proofs.progress_laws.KeptDeliveries.{deliveries_are}
use Rattle.tcap_check.proofs.replay_laws.ReplayGaps.{gap_is_listed}

pub outlines_count : (c : Certificate) (n : ℕ) (items : List Item) → length (outlines_from c n items) ≡ length items
outlines_count c n [] = refl
outlines_count c n (item ∷ items) = ap suc (outlines_count c (n + 1) items)

-- ---- entries that listed events name

-- The outline of the entry at this index.
pub outline_at : (c : Certificate) (n i at : ℕ) (items : List Item) → n + i ≡ at
    → slice_get (outlines_from c n items) i ≡ option_map (outline_of (is_named c at)) (slice_get items i)
outline_at c n i at [] is = refl
outline_at c n zero at (item ∷ items) is =
    let same : n ≡ at = omega (arith, is) in ap (λ (k : ℕ). Some (outline_of (is_named c k) item)) same
outline_at c n (suc i) at (item ∷ items) is = outline_at c (n + 1) i at items (omega (arith, is))

-- The number after the last quiet mark does not fall.
since_rises : (since n : ℕ) (items : List Item) → since ≤ n → since ≤ since_from since n items
since_rises since n [] within = omega arith
since_rises since n (Sent side message ∷ items) within = since_rises since (n + 1) items (omega (arith, within))
since_rises since n (Item.Quiet ∷ items) within =
    let rest = since_rises (n + 1) (n + 1) items (omega arith) in omega (arith, rest, within)

-- This number is above an entry before these items exactly if one of the items is a quiet mark.
since_behind : (at since n : ℕ) (items : List Item) → since ≤ at → at < n
    → nat_lt at (since_from since n items) ≡ has_quiet items
since_behind at since n [] not_above before = le-ltb at since not_above
since_behind at since n (Sent side message ∷ items) not_above before =
    since_behind at since (n + 1) items not_above (omega (arith, before))
since_behind at since n (Item.Quiet ∷ items) not_above before =
    let rest = since_rises (n + 1) (n + 1) items (omega arith) in
    lt-ltb at (since_from (n + 1) (n + 1) items) (omega (arith, rest, before))

-- This number is above an entry exactly if a quiet mark comes from there on.
since_is : (at since n i : ℕ) (items : List Item) → n + i ≡ at → since ≤ n
    → nat_lt at (since_from since n items) ≡ has_quiet (drop i items)
since_is at since n zero [] is within = le-ltb at since (omega (arith, is, within))
since_is at since n (suc i) [] is within = le-ltb at since (omega (arith, is, within))
since_is at since n zero (Sent side message ∷ items) is within =
    since_behind at since (n + 1) items (omega (arith, is, within)) (omega (arith, is))
since_is at since n zero (Item.Quiet ∷ items) is within =
    let rest = since_rises (n + 1) (n + 1) items (omega arith) in
    lt-ltb at (since_from (n + 1) (n + 1) items) (omega (arith, rest, is))
since_is at since n (suc i) (Sent side message ∷ items) is within =
    since_is at since (n + 1) i items (omega (arith, is)) (omega (arith, within))
since_is at since n (suc i) (Item.Quiet ∷ items) is within =
    since_is at (n + 1) (n + 1) i items (omega (arith, is)) (omega arith)

where_none : {A : Type 0} (b : Bool) → only_if b (let o : Option A = None in o) ≡ None
where_none true = refl
where_none false = refl

there_before : (items : List Item) (i : ℕ) → only_if (nat_lt i (length items)) (slice_get items i) ≡ slice_get items i
there_before items i = by (slice_get items i) refl
  where
    by : (o : Option Item) → slice_get items i ≡ o → only_if (nat_lt i (length items)) o ≡ o
    by None e = where_none (nat_lt i (length items))
    by (Some item) e = rw (lt-ltb i (length items) (slice_get_within items i item e)) refl

-- The outline of an entry that an event in the gap after the last entry names.
named_is : (c : Certificate) (items : List Item) (gap entry : ℕ) → gap ≡ length items → is_named c entry ≡ true
    → outline_named (outlines_from c 0 items) (since_from 0 0 items) entry
    ≡ option_map (outline_of true) (named_entry items gap entry)
named_is c items gap entry last named =
    ap (λ (b : Bool). cond b None (slice_get (outlines_from c 0 items) entry))
    (since_is entry 0 0 entry items (omega arith) (omega arith))
    ∙ by (has_quiet (drop entry items)) ∙ ap (option_map (outline_of true)) (sym all)
  where
    all : named_entry items gap entry
        ≡ cond (has_quiet (drop entry items)) None (slice_get items entry)
    all = rw (last, take_all (length items) items (omega arith), there_before items entry) refl

    found : slice_get (outlines_from c 0 items) entry ≡ option_map (outline_of true) (slice_get items entry)
    found = outline_at c 0 entry entry items (omega arith)
        ∙ ap (λ (b : Bool). option_map (outline_of b) (slice_get items entry)) named

    by : (b : Bool) → cond b None (slice_get (outlines_from c 0 items) entry)
        ≡ option_map (outline_of true) (cond b None (slice_get items entry))
    by true = refl
    by false = found

-- ---- a listed event names an entry

each_passing : {A : Type 0} (P : A → Type 0) (p : A → Bool) (xs : List A) → AllByRecursion P xs
    → AllByRecursion (λ x. (p x ≡ true) × P x) (filter p xs)
each_passing P p [] all = tt
each_passing P p (x ∷ xs) all = by (p x) refl (each_passing P p xs all.1)
  where
    by : (b : Bool) → p x ≡ b → AllByRecursion (λ y. (p y ≡ true) × P y) (filter p xs)
        → AllByRecursion (λ y. (p y ≡ true) × P y) (cond b (x ∷ filter p xs) (filter p xs))
    by true e rest = ((e, all.0), rest)
    by false e rest = rest

some_hold : {A : Type 0} (P : A → Type 0) (p : A → Bool) (xs : List A) → AllByRecursion P xs → AllByRecursion P (filter p xs)
some_hold P p xs all =
    all_weaker (λ x. (p x ≡ true) × P x) P (filter p xs) (λ x both. both.1) (each_passing P p xs all)

each_any : {A : Type 0} (entry : A → ℕ) (xs : List A)
    → AllByRecursion (λ x. list_any (λ y. entry y == entry x) xs ≡ true) xs
each_any entry [] = tt
each_any entry (x ∷ xs) = (
  or_left (entry x == entry x) (list_any (λ y. entry y == entry x) xs) (eq-eqb (entry x) (entry x) refl),
  all_weaker (λ y. list_any (λ z. entry z == entry y) xs ≡ true)
      (λ y. list_any (λ z. entry z == entry y) (x ∷ xs) ≡ true) xs
      (λ y is. or_right (entry x == entry y) (list_any (λ z. entry z == entry y) xs) is) (each_any entry xs),
)

all_made : {A B : Type 0} (P : B → Type 0) (f : A → B) (xs : List A) → AllByRecursion (λ x. P (f x)) xs → AllByRecursion P (map f xs)
all_made P f [] all = tt
all_made P f (x ∷ xs) all = (all.0, all_made P f xs all.1)

-- The listed event is in this gap, and its entry is among those that the certificate names.
abbrev pub IsNamed : Certificate → ℕ → ListedStep → Type 0
IsNamed c count x = (gap_of x ≡ count) × (is_named c (entry_of x) ≡ true)

-- This holds for each event that is listed for the gap.
each_named : {X : Type 0} (c : Certificate) (count : ℕ) (of : X → ListedStep) (entry gap : X → ℕ) (xs : List X)
    → ((x : X) → (gap x ≡ count) → list_any (λ y. entry y == entry x) xs ≡ true → IsNamed c count (of x))
    → AllByRecursion (IsNamed c count) (map of (filter (λ x. gap x == count) xs))
each_named c count of entry gap xs named =
    all_made (IsNamed c count) of (filter (λ x. gap x == count) xs)
    (all_weaker (λ x. ((gap x == count) ≡ true) × (list_any (λ y. entry y == entry x) xs ≡ true)) (λ x. IsNamed c count (of x))
    (filter (λ x. gap x == count) xs) (λ x both. named x (eqb-true (gap x) count both.0) both.1)
    (each_passing (λ x. list_any (λ y. entry y == entry x) xs ≡ true) (λ x. gap x == count) xs (each_any entry xs)))

-- This also holds for the listed events of judged ends.
pub listed_named : (judged : Option Side) (c : Certificate) (count : ℕ) → AllByRecursion (IsNamed c count) (listed_for judged c count)
listed_named judged c count =
    some_hold (IsNamed c count) (λ x. is_judged judged (side_of x)) (listed_in c count)
    (all_both (IsNamed c count) (map listings.Closes (filter (λ x. x.gap == count) c.close)) (map listings.Expires (filter (λ x. x.gap == count) c.expire))
    (each_named c count listings.Closes (λ (x : Closing). x.entry) (λ (x : Closing). x.gap) c.close
    (λ x here any. (here, or_left (list_any (λ (y : Closing). y.entry == x.entry) c.close) (list_any (λ (y : Expiry). y.entry == x.entry) c.expire) any)))
    (each_named c count listings.Expires (λ (x : Expiry). x.entry) (λ (x : Expiry). x.gap) c.expire
    (λ x here any. (here, or_right (list_any (λ (y : Closing). y.entry == x.entry) c.close) (list_any (λ (y : Expiry). y.entry == x.entry) c.expire) any))))

-- ---- what a listed event names

-- A closing is of the half that the outline of its entry gives.
closing_by_is : (x : Closing) (item : Item)
    → closing_by x item ≡ option_map (Closes x.side) (half_closed_by x (outline_of true item))
closing_by_is x (Sent sender (Unidirectional dialogue components)) = refl
closing_by_is x (Sent sender (Begin otid dialogue components)) = refl
closing_by_is x (Sent sender (Continue otid dtid dialogue components)) = refl
closing_by_is x (Sent sender (EndMessage dtid dialogue components)) = refl
closing_by_is x (Sent sender (Abort dtid reason)) = refl
closing_by_is x Item.Quiet = refl

-- the expiry of this invocation
abbrev expires_by : Expiry → HalfName × ℤ → Event
expires_by x invocation = Expires x.side invocation.0 invocation.1

-- the note of a message with this originating ID
abbrev noted : Message → List ℕ → MessageNote
noted message otid = record { begins = begins message; otid = otid; invokes = map invoke_id (components_in message) }

-- An expiry is of the invocation that the outline of its entry gives.
expiry_by_is : (x : Expiry) (item : Item)
    → expiry_by x item ≡ option_map (expires_by x) (invocation_ended_by x (outline_of true item))
expiry_by_is x (Sent sender message) = by (otid_in message)
  where
    id_is : (o : Option Component) → option_then o invoke_id ≡ option_then (option_map invoke_id o) (λ id. id)
    id_is None = refl
    id_is (Some component) = refl

    inner : (otid : List ℕ) (b : Bool) (o : Option ℤ)
        → only_if b (option_then o (λ id. Some (Expires x.side (names.Own otid) id)))
        ≡ option_map (expires_by x) (only_if b (option_then o (λ id. Some (names.Own otid, id))))
    inner otid true None = refl
    inner otid true (Some id) = refl
    inner otid false o = refl

    same : option_then (slice_get (components_in message) x.component) invoke_id
        ≡ option_then (slice_get (map invoke_id (components_in message)) x.component) (λ id. id)
    same = id_is (slice_get (components_in message) x.component)
        ∙ ap (λ o. option_then o (λ id. id)) (sym (slice_get-map invoke_id (components_in message) x.component))

    by : (o : Option (List ℕ))
        → only_if (is_side x.side sender) (option_then o
        (λ otid. option_then (option_then (slice_get (components_in message) x.component) invoke_id)
        (λ id. Some (Expires x.side (names.Own otid) id))))
        ≡ option_map (expires_by x) (invocation_ended_by x (outlines.Sent sender
        (option_map (noted message) o)))
    by None = where_none (is_side x.side sender)
    by (Some otid) =
        ap (λ o. only_if (is_side x.side sender) (option_then o (λ id. Some (Expires x.side (names.Own otid) id)))) same
        ∙ inner otid (is_side x.side sender) (option_then (slice_get (map invoke_id (components_in message)) x.component)
        (λ id. id))
expiry_by_is x Item.Quiet = refl

-- A listed event names the same in both.
same_named : {N : Type 0} (c : Certificate) (items : List Item) (gap entry : ℕ) (event : N → Event) (by : Item → Option Event) (kept_by : Outline → Option N)
    → (gap ≡ length items) × (is_named c entry ≡ true) → ((item : Item) → by item ≡ option_map event (kept_by (outline_of true item)))
    → option_then (named_entry items gap entry) by
    ≡ option_map event (option_then (outline_named (outlines_from c 0 items) (since_from 0 0 items) entry) kept_by)
same_named c items gap entry event by kept_by is same = of (named_entry items gap entry)
    ∙ ap (λ o. option_map event (option_then o kept_by)) (sym (named_is c items gap entry is.0 is.1))
  where
    of : (o : Option Item) → option_then o by ≡ option_map event (option_then (option_map (outline_of true) o) kept_by)
    of None = refl
    of (Some item) = same item

-- ---- steps

-- A step of an end.
pub end_is : (listing : Bool) (judged : Option Side) (c : Certificate) (side : Side) (event : Event) (fault : CheckFault) (r : Replay) (step : Result End EndFault)
    → ((at : Side) → is_lost_from at event ≡ false)
    → end_moved side event fault (progress_of listing judged c r) step
    ≡ map_ok (progress_of listing judged c) (ok_or (option_map (with_step event r)
    (option_map (λ e. with_end side e r.world) (result_ok step))) fault)
end_is listing judged c side event fault r (Ok e) none = ap Ok (sym (end_step_is listing judged c event side e r none))
end_is listing judged c side event fault r (Err reason) none = refl

pub half_closes_is : (listing : Bool) (judged : Option Side) (table : Table) (c : Certificate) (x : Closing) (name : HalfName) (r : Replay)
    → half_closes table x name (progress_of listing judged c r)
    ≡ map_ok (progress_of listing judged c) (after_event table c (Closes x.side name) (HiddenRefused faults.CannotClose) x.entry r)
half_closes_is listing judged table c x name r =
    let fault = fault_at (HiddenRefused faults.CannotClose) x.entry in
    ap (λ (e : End). end_moved x.side (Closes x.side name) fault (progress_of listing judged c r) (close table e name)) (end_kept listing judged c x.side r)
    ∙ end_is listing judged c x.side (Closes x.side name) fault r (close table (end_at x.side r.world) name) (λ at. refl)

pub invocation_ends_is : (listing : Bool) (judged : Option Side) (table : Table) (c : Certificate) (x : Expiry) (invocation : HalfName × ℤ) (r : Replay)
    → invocation_ends table x invocation (progress_of listing judged c r)
    ≡ map_ok (progress_of listing judged c) (after_event table c (expires_by x invocation) (HiddenRefused faults.CannotExpire) x.entry r)
invocation_ends_is listing judged table c x invocation r =
    let fault = fault_at (HiddenRefused faults.CannotExpire) x.entry in
    ap (λ (e : End). end_moved x.side (Expires x.side invocation.0 invocation.1) fault (progress_of listing judged c r)
    (expire table e invocation.0 invocation.1))
    (end_kept listing judged c x.side r)
    ∙ end_is listing judged c x.side (expires_by x invocation) fault r (expire table (end_at x.side r.world) invocation.0 invocation.1) (λ at. refl)

-- If a listed event names the same in both, it occurs in both.
happens_same : {N : Type 0} (listing : Bool) (judged : Option Side) (table : Table) (c : Certificate) (x : ListedStep) (r : Replay)
    (event : N → Event) (kept : N → Result Progress CheckFault) (o : Option N) → event_listed r.world.sent x ≡ option_map event o
    → ((name : N) → kept name ≡ map_ok (progress_of listing judged c) (after_event table c (event name) (why_refused x) (entry_of x) r))
    → (ok_or o (fault_at FateRange (entry_of x)) >>= kept) ≡ map_ok (progress_of listing judged c) (listed_replayed table c x r)
happens_same listing judged table c x r event kept None is same = rw is refl
happens_same listing judged table c x r event kept (Some name) is same = rw is (same name)

pub one_is : (listing : Bool) (judged : Option Side) (table : Table) (c : Certificate) (items : List Item) (x : ListedStep) (r : Replay)
    → IsNamed c (length items) x → r.world.sent ≡ items
    → listed_kept table (outlines_from c 0 items) (since_from 0 0 items) x (progress_of listing judged c r)
    ≡ map_ok (progress_of listing judged c) (listed_replayed table c x r)
one_is listing judged table c items (listings.Closes x) r is sent =
    happens_same listing judged table c (listings.Closes x) r (Closes x.side) (λ name. half_closes table x name (progress_of listing judged c r))
    (half_closed (outlines_from c 0 items) (since_from 0 0 items) x)
    (ap (λ s. closing_event s x) sent ∙ same_named c items x.gap x.entry (Closes x.side) (closing_by x) (half_closed_by x) is (closing_by_is x))
    (λ name. half_closes_is listing judged table c x name r)
one_is listing judged table c items (listings.Expires x) r is sent =
    happens_same listing judged table c (listings.Expires x) r (expires_by x) (λ name. invocation_ends table x name (progress_of listing judged c r))
    (invocation_ended (outlines_from c 0 items) (since_from 0 0 items) x)
    (ap (λ s. expiry_event s x) sent ∙ same_named c items x.gap x.entry (expires_by x) (expiry_by x) (invocation_ended_by x) is (expiry_by_is x))
    (λ name. invocation_ends_is listing judged table c x name r)

pub one_sends : (table : Table) (c : Certificate) (x : ListedStep) (r next : Replay) → listed_replayed table c x r ≡ Ok next
    → next.world.sent ≡ r.world.sent
one_sends table c x r next is = (one_replays table c x r next is).2.sent ∙ append-nil r.world.sent

-- All events that are listed for the gap after these items.
pub listed_are : (listing : Bool) (judged : Option Side) (table : Table) (c : Certificate) (items : List Item) (listed : List ListedStep) (r : Replay)
    → AllByRecursion (IsNamed c (length items)) listed → r.world.sent ≡ items
    → all_kept table (outlines_from c 0 items) (since_from 0 0 items) listed (progress_of listing judged c r)
    ≡ map_ok (progress_of listing judged c) (all_replayed table c listed r)
listed_are listing judged table c items [] r all sent = refl
listed_are listing judged table c items (x ∷ more) r all sent =
    ap (λ s. s >>= all_kept table (outlines_from c 0 items) (since_from 0 0 items) more) (one_is listing judged table c items x r all.0 sent)
    ∙ then_is (progress_of listing judged c) (listed_replayed table c x r) (all_kept table (outlines_from c 0 items) (since_from 0 0 items) more)
    (all_replayed table c more) (λ next is. listed_are listing judged table c items more next all.1 (one_sends table c x r next is ∙ sent))

-- ---- the gap before an entry over what is kept is that of the replay

module _ (listing : Bool) (judged : Option Side) (table : Table) (c : Certificate) (r : Replay) where
  abbrev items : List Item
  items = r.world.sent

  abbrev entries : List Outline
  entries = outlines_from c 0 items

  abbrev since : ℕ
  since = since_from 0 0 items

  abbrev p : Progress
  p = progress_of listing judged c r

  abbrev listed : List ListedStep
  listed = listed_for judged c (next_entry r)

  abbrev delivered_kept : Progress → Result Progress CheckFault
  delivered_kept = deliveries_kept judged table entries (due_in (next_entry r) 0 c.fates)

  abbrev hidden : Result Replay CheckFault
  hidden = all_replayed table c listed r

  abbrev delivered : Replay → Result Replay CheckFault
  delivered = deliveries_by judged table c (next_entry r) 0 c.fates items

  -- The deliveries of the gap.
  deliveries : (next : Replay) → next.world.sent ≡ items
      → delivered_kept (progress_of listing judged c next) ≡ map_ok (progress_of listing judged c) (delivered next)
  deliveries next sent = subst (λ (xs : List Item).
      deliveries_kept judged table (outlines_from c 0 xs) (due_in (length xs) 0 c.fates) (progress_of listing judged c next)
      ≡ map_ok (progress_of listing judged c) (deliveries_by judged table c (length xs) 0 c.fates xs next)) sent
      (deliveries_are listing judged table c next)

  -- The listed events of the gap, and then its deliveries.
  pub gap_is : gap_kept judged table c entries since p ≡ map_ok (progress_of listing judged c) (gap_by judged table c r)
  gap_is =
      ap (λ (n : ℕ). all_kept table entries since (listed_for judged c n) p >>= deliveries_kept judged table entries (due_in n 0 c.fates))
      (outlines_count c 0 items)
      ∙ ap (λ (x : Result Progress CheckFault). x >>= delivered_kept) (listed_are listing judged table c items listed r (listed_named judged c (length items)) refl)
      ∙ then_is (progress_of listing judged c) hidden delivered_kept delivered
      (λ next is. deliveries next ((listed_replay table c listed items r next refl is).2.sent ∙ append-nil items))
      ∙ ap (map_ok (progress_of listing judged c)) (sym (gap_is_listed judged table c r))
