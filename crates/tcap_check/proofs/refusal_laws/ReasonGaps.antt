-- What a refusal shows if a number of the certificate is out of range, or if it is for a step in a gap, for each choice
-- of judged ends.
use Rattle.std.proofs.Common.{◌≡◌, ◌⊎◌, inl, inr, ℕ, zero, suc, ◌+◌, ◌==◌, nat_lt, nat_le, arith, Bool, true, false, cond, List, [], ◌∷◌, ◌++◌, map, filter, take, length, Option, Some, None, Result, Ok, Err, refl, sym, ap, subst, ◌∙◌, append-nil}
use Rattle.std.specs.Option.{option_or}
use Rattle.std.specs.Prelude.{◌&&◌, ok_or, slice_get}
use Rattle.std.proofs.lemmas.Bool.{and_cases, eqb-true, leb-false, ltb-false}
use lib.Seq.{take-append_seam}
use Rattle.tcap_record.specs.declared.entry.End.{End as Side}
use Rattle.tcap_record.specs.declared.entry.Entry.{Entry}
use Rattle.tcap_end.specs.Step.{needs, ◌>>=◌, ◌>>◌}
use Rattle.tcap_end.specs.Table.{Table}
use Rattle.tcap_certificate.specs.declared.fault.CheckFault.{CheckFault}
use Rattle.tcap_model.specs.declared.reason.Reason.{Reason}
use Rattle.tcap_model.specs.declared.reason.Reason.TheVariants as reasons
use Rattle.tcap_certificate.specs.declared.certificate.Closing.{Closing}
use Rattle.tcap_certificate.specs.declared.certificate.Expiry.{Expiry}
use Rattle.tcap_certificate.specs.declared.certificate.Fate.{Fate}
use Rattle.tcap_certificate.specs.declared.certificate.Fate.TheVariants.{Gap, Lost, By}
use Rattle.tcap_record.specs.Ends.{other}
use Rattle.tcap_model.specs.World.{Item, Sent}
use Rattle.tcap_model.specs.Run.{Event, Receives}
use Rattle.tcap_certificate.specs.Certificate.{Certificate}
use Rattle.tcap_model.specs.Entries.{AreItems, IsItem}
use Rattle.tcap_check.specs.GivenRun.{IsAt, IsOutside, IsReason}
use Rattle.tcap_certificate.specs.Replay.{Replay, all_fit, certificate_fits, deliveries_by, delivery_by, discarded, fate_fits, fates_fit, fault_at, gap_by, after_event, is_due, is_judged, lost_before, lost_from_front, next_entry, received, stepped}
use Rattle.tcap_check.specs.declared.listed_steps.ListedStep.{ListedStep}
use Rattle.tcap_check.specs.declared.listed_steps.ListedStep.TheVariants as listings
use Rattle.tcap_check.specs.ListedSteps.{all_replayed, entry_of, event_listed, listed_for, listed_in, listed_replayed, side_of, why_refused}
use Rattle.tcap_check.proofs.replay_laws.ReplayGaps.{gap_is_listed}
use Rattle.tcap_check.proofs.replay_laws.ReplayLaws.{one_replays}
use Rattle.tcap_check.proofs.replay_laws.ReplaySteps.{IsIn, contained, in_either}

-- ---- results that are reasons

-- A step with a condition is refused if the condition fails, or if the rest is refused.
pub needs_err : {A F : Type 0} (so : Bool) (reason : F) (rest : Result A F) (f : F) → (needs so reason >> rest) ≡ Err f
    → ((so ≡ false) × (reason ≡ f)) ⊎ ((so ≡ true) × (rest ≡ Err f))
needs_err true reason rest f is = inr (refl, is)
needs_err false reason rest f is = inl (refl, cc)

-- Of two steps the first is refused, or the first is Ok and the second is refused.
pub then_err : {A B F : Type 0} (step : Result A F) (rest : A → Result B F) (f : F) → (step >>= rest) ≡ Err f
    → (step ≡ Err f) ⊎ ((x : A) × (step ≡ Ok x) × (rest x ≡ Err f))
then_err (Ok x) rest f is = inr (x, refl, is)
then_err (Err reason) rest f is = inl cc

-- of two steps without a value the first is refused, or the first is Ok and the second is refused
pub both_err : {B F : Type 0} (step : Result (Unit {0}) F) (rest : Result B F) (f : F) → (step >> rest) ≡ Err f
    → (step ≡ Err f) ⊎ ((step ≡ Ok tt) × (rest ≡ Err f))
both_err (Ok tt) rest f is = inr (refl, is)
both_err (Err reason) rest f is = inl cc

pub none_err : {A F : Type 0} (o : Option A) (reason f : F) → ok_or o reason ≡ Err f → (o ≡ None) × (reason ≡ f)
none_err None reason f is = (refl, cc)
none_err (Some x) reason f is = cc

-- what a refusal shows
abbrev pub Says : Option Side → Table → Certificate → List Entry → CheckFault → Type 0
Says judged table c entries fault = IsReason judged table c entries fault.entry fault.reason

-- An equal refusal shows the same.
pub says : (judged : Option Side) (table : Table) (c : Certificate) (entries : List Entry) (reason : Reason) (number : ℕ) (fault : CheckFault)
    → fault_at reason number ≡ fault → IsReason judged table c entries number reason → Says judged table c entries fault
says judged table c entries reason number fault same is = subst (Says judged table c entries) same is

-- ---- ranges

-- If this test fails, a listed event is out of range.
outside : (count entry gap : ℕ) → (nat_lt entry gap && nat_le gap count) ≡ false → IsOutside count entry gap
outside count entry gap is = by (and_cases (nat_lt entry gap) (nat_le gap count) is)
  where
    by : (nat_lt entry gap ≡ false) ⊎ (nat_le gap count ≡ false) → IsOutside count entry gap
    by (inl before) = inl (ltb-false entry gap before)
    by (inr behind) = inr (leb-false gap count behind)

-- A fate is out of range.
fates_say : (judged : Option Side) (table : Table) (c : Certificate) (entries : List Entry) (n : ℕ) (fates : List Fate) (fault : CheckFault)
    → ((i : ℕ) (fate : Fate) → slice_get fates i ≡ Some fate → slice_get c.fates (n + i) ≡ Some fate)
    → fates_fit (length c.fates) n fates ≡ Err fault → Says judged table c entries fault
fates_say judged table c entries n [] fault there is = cc
fates_say judged table c entries n (fate ∷ fates) fault there is =
    by (needs_err (fate_fits (length c.fates) n fate) (fault_at reasons.FateRange n) (fates_fit (length c.fates) (n + 1) fates) fault is)
    (fates_say judged table c entries (n + 1) fates fault next)
  where
    here : n + 0 ≡ n
    here = omega arith

    further : (i : ℕ) → (n + 1) + i ≡ n + suc i
    further i = omega arith

    next : (i : ℕ) (f : Fate) → slice_get fates i ≡ Some f → slice_get c.fates ((n + 1) + i) ≡ Some f
    next i f at = ap (slice_get c.fates) (further i) ∙ there (suc i) f at

    by : ((fate_fits (length c.fates) n fate ≡ false) × (fault_at reasons.FateRange n ≡ fault))
        ⊎ ((fate_fits (length c.fates) n fate ≡ true) × (fates_fit (length c.fates) (n + 1) fates ≡ Err fault))
        → (fates_fit (length c.fates) (n + 1) fates ≡ Err fault → Says judged table c entries fault) → Says judged table c entries fault
    by (inl (outside, same)) on =
        says judged table c entries reasons.FateRange n fault same
        (inl (fate, ap (slice_get c.fates) (sym here) ∙ there 0 fate refl, inl outside))
    by (inr (fits, rest)) on = on rest

-- A listed event is out of range.
listed_say : {X : Type 0} (judged : Option Side) (table : Table) (c : Certificate) (entries : List Entry) (entry gap : X → ℕ) (listed : List X)
    (fault : CheckFault)
    → ((x : X) → IsIn x listed → IsOutside (length c.fates) (entry x) (gap x) → IsReason judged table c entries (entry x) reasons.FateRange)
    → all_fit (length c.fates) (map (λ x. (entry x, gap x)) listed) ≡ Err fault → Says judged table c entries fault
listed_say judged table c entries entry gap [] fault outsides is = cc
listed_say judged table c entries entry gap (x ∷ listed) fault outsides is =
    by (needs_err (nat_lt (entry x) (gap x) && nat_le (gap x) (length c.fates)) (fault_at reasons.FateRange (entry x))
    (all_fit (length c.fates) (map (λ y. (entry y, gap y)) listed)) fault is)
    (listed_say judged table c entries entry gap listed fault (λ y found. outsides y (inr found)))
  where
    by : (((nat_lt (entry x) (gap x) && nat_le (gap x) (length c.fates)) ≡ false) × (fault_at reasons.FateRange (entry x) ≡ fault))
        ⊎ (((nat_lt (entry x) (gap x) && nat_le (gap x) (length c.fates)) ≡ true)
        × (all_fit (length c.fates) (map (λ y. (entry y, gap y)) listed) ≡ Err fault))
        → (all_fit (length c.fates) (map (λ y. (entry y, gap y)) listed) ≡ Err fault → Says judged table c entries fault)
        → Says judged table c entries fault
    by (inl (no_fit, same)) on =
        says judged table c entries reasons.FateRange (entry x) fault same
        (outsides x (inl refl) (outside (length c.fates) (entry x) (gap x) no_fit))
    by (inr (fits, rest)) on = on rest

-- What a certificate that is out of range shows.
pub certificate_says : (judged : Option Side) (table : Table) (c : Certificate) (entries : List Entry) (fault : CheckFault)
    → certificate_fits c ≡ Err fault → Says judged table c entries fault
certificate_says judged table c entries fault is = by (both_err fates _ fault is)
  where
    count : ℕ
    count = length c.fates

    fates : Result (Unit {0}) CheckFault
    fates = fates_fit count 0 c.fates

    closings : Result (Unit {0}) CheckFault
    closings = all_fit count (map (λ (x : Closing). (x.entry, x.gap)) c.close)

    expiries : Result (Unit {0}) CheckFault
    expiries = all_fit count (map (λ (x : Expiry). (x.entry, x.gap)) c.expire)

    zero_and : (i : ℕ) → 0 + i ≡ i
    zero_and i = omega arith

    listed : (closings ≡ Err fault) ⊎ ((closings ≡ Ok tt) × (expiries ≡ Err fault)) → Says judged table c entries fault
    listed (inl refuses) =
        listed_say judged table c entries (λ (x : Closing). x.entry) (λ (x : Closing). x.gap) c.close fault
        (λ x found out. inr (inl (x, contained x c.close found, refl, inl out))) refuses
    listed (inr (ok, refuses)) =
        listed_say judged table c entries (λ (x : Expiry). x.entry) (λ (x : Expiry). x.gap) c.expire fault
        (λ x found out. inr (inr (x, contained x c.expire found, refl, inl out))) refuses

    by : (fates ≡ Err fault) ⊎ ((fates ≡ Ok tt) × ((closings >> expiries) ≡ Err fault)) → Says judged table c entries fault
    by (inl refuses) =
        fates_say judged table c entries 0 c.fates fault (λ i f at. ap (slice_get c.fates) (zero_and i) ∙ at) refuses
    by (inr (ok, refuses)) = listed (both_err closings expiries fault refuses)

-- ---- entries

-- The items so far are at their entries.
pub at_front : (front rest : List Entry) (items : List Item) (item : Item) (n : ℕ) → AreItems front items → slice_get items n ≡ Some item
    → IsAt (front ++ rest) n item
at_front [] rest [] item n are is = cc
at_front [] rest (i ∷ items) item n are is = absurd are
at_front (e ∷ front) rest [] item n are is = absurd are
at_front (e ∷ front) rest (i ∷ items) item zero are is =
    let same : i ≡ item = cc in (e, refl, subst (IsItem e) same are.0)
at_front (e ∷ front) rest (i ∷ items) item (suc n) are is = at_front front rest items item n are.1 is

pub as_many : (front : List Entry) (items : List Item) → AreItems front items → length front ≡ length items
as_many [] [] are = refl
as_many [] (i ∷ items) are = absurd are
as_many (e ∷ front) [] are = absurd are
as_many (e ∷ front) (i ∷ items) are = ap suc (as_many front items are.1)

pub next_at : (front rest : List Entry) (entry : Entry) (n : ℕ) → n ≡ length front → slice_get (front ++ entry ∷ rest) n ≡ Some entry
next_at front rest entry n is = ap (slice_get (front ++ entry ∷ rest)) is ∙ at_end front
  where
    at_end : (before : List Entry) → slice_get (before ++ entry ∷ rest) (length before) ≡ Some entry
    at_end [] = refl
    at_end (e ∷ before) = at_end before

pub taken_front : (front rest : List Entry) (n : ℕ) → n ≡ length front → take n (front ++ rest) ≡ front
taken_front front rest n is = ap (λ (k : ℕ). take k (front ++ rest)) is ∙ take-append_seam front rest

-- ---- a gap

pub in_filter : {A : Type 0} (p : A → Bool) (x : A) (xs : List A) → IsIn x (filter p xs) → IsIn x xs × (p x ≡ true)
in_filter p x [] is = absurd is
in_filter p x (y ∷ ys) is = by (p y) refl (in_filter p x ys) is
  where
    by : (b : Bool) → p y ≡ b → (IsIn x (filter p ys) → IsIn x ys × (p x ≡ true)) → IsIn x (cond b (y ∷ filter p ys) (filter p ys))
        → IsIn x (y ∷ ys) × (p x ≡ true)
    by true passes on (inl same) = (inl same, ap p same ∙ passes)
    by true passes on (inr more) = let found = on more in (inr found.0, found.1)
    by false passes on more = let found = on more in (inr found.0, found.1)

in_made : {A B : Type 0} (f : A → B) (y : B) (xs : List A) → IsIn y (map f xs) → (x : A) × IsIn x xs × (y ≡ f x)
in_made f y [] is = absurd is
in_made f y (x ∷ xs) (inl same) = (x, inl refl, same)
in_made f y (x ∷ xs) (inr more) = let found = in_made f y xs more in (found.0, inr found.1, found.2)

-- A listed event of a judged end that names nothing, after the items before its gap, is out of range.
names_none : (judged : Option Side) (table : Table) (c : Certificate) (front rest : List Entry) (items : List Item) (x : ListedStep)
    → AreItems front items → IsIn x (listed_for judged c (length front)) → event_listed items x ≡ None
    → IsReason judged table c (front ++ rest) (entry_of x) reasons.FateRange
names_none judged table c front rest items x are is none =
    let found = in_filter (λ (y : ListedStep). is_judged judged (side_of y)) x (listed_in c (length front)) is in
    by (in_either x (map listings.Closes closings) (map listings.Expires expiries) found.0) found.1
  where
    closings : List Closing
    closings = filter (λ (y : Closing). y.gap == length front) c.close

    expiries : List Expiry
    expiries = filter (λ (y : Expiry). y.gap == length front) c.expire

    before : (gap : ℕ) → (gap == length front) ≡ true → AreItems (take gap (front ++ rest)) items
    before gap at = subst (λ (es : List Entry). AreItems es items) (sym (taken_front front rest gap (eqb-true gap (length front) at))) are

    by : IsIn x (map listings.Closes closings) ⊎ IsIn x (map listings.Expires expiries) → is_judged judged (side_of x) ≡ true
        → IsReason judged table c (front ++ rest) (entry_of x) reasons.FateRange
    by (inl closes) so =
        let (y, found, same) = in_made listings.Closes x closings closes in
        let there = in_filter (λ (z : Closing). z.gap == length front) y c.close found in
        subst (λ (z : ListedStep). IsReason judged table c (front ++ rest) (entry_of z) reasons.FateRange) (sym same)
        (inr (inl (
          y,
          contained y c.close there.0,
          refl,
          inr (
            items,
            before y.gap there.1,
            ap (λ (z : ListedStep). is_judged judged (side_of z)) (sym same) ∙ so,
            ap (event_listed items) (sym same) ∙ none,
          ),
        )))
    by (inr expires) so =
        let (y, found, same) = in_made listings.Expires x expiries expires in
        let there = in_filter (λ (z : Expiry). z.gap == length front) y c.expire found in
        subst (λ (z : ListedStep). IsReason judged table c (front ++ rest) (entry_of z) reasons.FateRange) (sym same)
        (inr (inr (
          y,
          contained y c.expire there.0,
          refl,
          inr (
            items,
            before y.gap there.1,
            ap (λ (z : ListedStep). is_judged judged (side_of z)) (sym same) ∙ so,
            ap (event_listed items) (sym same) ∙ none,
          ),
        )))

-- The refusal of a listed event that cannot happen shows nothing.
refused_says : (judged : Option Side) (table : Table) (c : Certificate) (entries : List Entry) (number : ℕ) (x : ListedStep)
    → IsReason judged table c entries number (why_refused x)
refused_says judged table c entries number (listings.Closes x) = tt
refused_says judged table c entries number (listings.Expires x) = tt

-- What the refusal of the listed events of a gap shows.
listed_gap_say : (judged : Option Side) (table : Table) (c : Certificate) (entries : List Entry) (items : List Item)
    (listed : List ListedStep) (r : Replay) (fault : CheckFault)
    → ((x : ListedStep) → IsIn x listed → event_listed items x ≡ None → IsReason judged table c entries (entry_of x) reasons.FateRange)
    → r.world.sent ≡ items → all_replayed table c listed r ≡ Err fault → Says judged table c entries fault
listed_gap_say judged table c entries items [] r fault nones so is = cc
listed_gap_say judged table c entries items (x ∷ listed) r fault nones so is =
    by (then_err (listed_replayed table c x r) (all_replayed table c listed) fault is)
    (λ next. listed_gap_say judged table c entries items listed next fault (λ y found. nones y (inr found)))
  where
    one : (ok_or (event_listed r.world.sent x) (fault_at reasons.FateRange (entry_of x)) ≡ Err fault)
        ⊎ ((event : Event) × (ok_or (event_listed r.world.sent x) (fault_at reasons.FateRange (entry_of x)) ≡ Ok event)
        × (after_event table c event (why_refused x) (entry_of x) r ≡ Err fault)) → Says judged table c entries fault
    one (inl refuses) =
        let none = none_err (event_listed r.world.sent x) (fault_at reasons.FateRange (entry_of x)) fault refuses in
        says judged table c entries reasons.FateRange (entry_of x) fault none.1
        (nones x (inl refl) (ap (λ (s : List Item). event_listed s x) (sym so) ∙ none.0))
    one (inr (event, event_is, refuses)) =
        says judged table c entries (why_refused x) (entry_of x) fault
        (none_err (stepped table event (lost_before c event r)) (fault_at (why_refused x) (entry_of x)) fault refuses).1
        (refused_says judged table c entries (entry_of x) x)

    by : (listed_replayed table c x r ≡ Err fault)
        ⊎ ((next : Replay) × (listed_replayed table c x r ≡ Ok next) × (all_replayed table c listed next ≡ Err fault))
        → ((next : Replay) → next.world.sent ≡ items → all_replayed table c listed next ≡ Err fault → Says judged table c entries fault)
        → Says judged table c entries fault
    by (inl refuses) on = one (then_err (ok_or (event_listed r.world.sent x) (fault_at reasons.FateRange (entry_of x))) _ fault refuses)
    by (inr (next, goes, refuses)) on = on next ((one_replays table c x r next goes).2.sent ∙ append-nil r.world.sent ∙ so) refuses

-- A message cannot be received, and is not discarded.
received_refused : (judged : Option Side) (table : Table) (c : Certificate) (sender : Side) (number : ℕ) (r : Replay) (fault : CheckFault)
    → received judged table c sender number r ≡ Err fault → fault_at reasons.BadReply number ≡ fault
received_refused None table c sender number r fault is =
    let event = Receives (other sender) number in
    (none_err (stepped table event (lost_before c event r)) (fault_at reasons.BadReply number) fault is).1
received_refused (Some side) table c sender number r fault is =
    let before = lost_from_front c (other side) r in
    (none_err (option_or (stepped table (Receives side number) before) (discarded table side number before))
    (fault_at reasons.BadReply number) fault is).1

-- A delivery cannot happen.
deliveries_refused : (judged : Option Side) (table : Table) (c : Certificate) (gap number : ℕ) (fates : List Fate) (items : List Item)
    (r : Replay) (fault : CheckFault) → deliveries_by judged table c gap number fates items r ≡ Err fault
    → (n : ℕ) × (fault_at reasons.BadReply n ≡ fault)
deliveries_refused judged table c gap number [] items r fault is = cc
deliveries_refused judged table c gap number (fate ∷ fates) [] r fault is = cc
deliveries_refused judged table c gap number (fate ∷ fates) (item ∷ items) r fault is =
    by (then_err (delivery_by judged table c gap number fate item r) (deliveries_by judged table c gap (number + 1) fates items) fault is)
    (λ mid. deliveries_refused judged table c gap (number + 1) fates items mid fault)
  where
    one : (fate : Fate) (item : Item) → delivery_by judged table c gap number fate item r ≡ Err fault
        → fault_at reasons.BadReply number ≡ fault
    one (Gap g) (Sent sender message) refuses = if_so (is_due judged gap g sender) refuses
      where
        if_so : (b : Bool) → cond b (received judged table c sender number r) (Ok r) ≡ Err fault → fault_at reasons.BadReply number ≡ fault
        if_so true e = received_refused judged table c sender number r fault e
        if_so false e = cc
    one (Gap g) Item.Quiet refuses = cc
    one (By k) item refuses = cc
    one Lost item refuses = cc

    by : (delivery_by judged table c gap number fate item r ≡ Err fault)
        ⊎ ((mid : Replay) × (delivery_by judged table c gap number fate item r ≡ Ok mid)
        × (deliveries_by judged table c gap (number + 1) fates items mid ≡ Err fault))
        → ((mid : Replay) → deliveries_by judged table c gap (number + 1) fates items mid ≡ Err fault
        → (n : ℕ) × (fault_at reasons.BadReply n ≡ fault))
        → (n : ℕ) × (fault_at reasons.BadReply n ≡ fault)
    by (inl refuses) on = (number, one fate item refuses)
    by (inr (mid, goes, refuses)) on = on mid refuses

-- What the refusal of the gap before the next entry shows.
pub gap_says : (judged : Option Side) (table : Table) (c : Certificate) (front rest : List Entry) (r : Replay) (fault : CheckFault)
    → AreItems front r.world.sent → gap_by judged table c r ≡ Err fault → Says judged table c (front ++ rest) fault
gap_says judged table c front rest r fault are is =
    by (then_err (all_replayed table c listed r) (deliveries_by judged table c (next_entry r) 0 c.fates items) fault
    (sym (gap_is_listed judged table c r) ∙ is))
  where
    items : List Item
    items = r.world.sent

    listed : List ListedStep
    listed = listed_for judged c (next_entry r)

    nones : (x : ListedStep) → IsIn x listed → event_listed items x ≡ None
        → IsReason judged table c (front ++ rest) (entry_of x) reasons.FateRange
    nones x found =
        names_none judged table c front rest items x are
        (subst (λ (n : ℕ). IsIn x (listed_for judged c n)) (sym (as_many front items are)) found)

    by : (all_replayed table c listed r ≡ Err fault)
        ⊎ ((hidden : Replay) × (all_replayed table c listed r ≡ Ok hidden)
        × (deliveries_by judged table c (next_entry r) 0 c.fates items hidden ≡ Err fault))
        → Says judged table c (front ++ rest) fault
    by (inl refuses) = listed_gap_say judged table c (front ++ rest) items listed r fault nones refl refuses
    by (inr (hidden, goes, refuses)) =
        let found = deliveries_refused judged table c (next_entry r) 0 c.fates items hidden fault refuses in
        says judged table c (front ++ rest) reasons.BadReply found.0 fault found.1 tt
