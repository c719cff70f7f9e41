-- A gap is its listed events, closings and expiries alike, and then its deliveries.
use Rattle.std.proofs.Common.{◌≡◌, ℕ, ℤ, ◌==◌, Bool, true, false, cond, List, [], ◌∷◌, ◌++◌, map, filter, Option, Some, None, Result, Ok, refl, sym, ap, ap₂, subst, ◌∙◌, ◌≤◌, ◌<◌, zero, suc, ◌+◌, arith, nat_lt, nat_le, length, drop}
use Rattle.std.specs.Prelude.{ok_or, slice_get, ◌&&◌}
use Rattle.std.specs.List.{AllByRecursion}
use Rattle.tcap_msg.specs.declared.message.Message.TheVariants.{Unidirectional, Begin, Continue, End as EndMessage, Abort}
use Rattle.tcap_msg.specs.Parts.{components_in, otid_in}
use Rattle.tcap_record.specs.declared.entry.End.{End as Side}
use Rattle.tcap_end.specs.declared.fault.EndFault.TheVariants as faults
use Rattle.tcap_end.specs.declared.half.HalfName.{HalfName}
use Rattle.tcap_end.specs.declared.half.HalfName.TheVariants as names
use Rattle.tcap_end.specs.Step.{◌>>=◌}
use Rattle.tcap_end.specs.Table.{Table}
use Rattle.tcap_end.proofs.AnsweringLaws.{then_ok, needs_ok}
use Rattle.tcap_model.specs.declared.reason.Reason.TheVariants.{FateRange, HiddenRefused}
use Rattle.tcap_model.specs.Run.{Event, Closes, Expires, option_then, Sends, Receives, Replies, Loses, Quiet, Tells, only_if}
use Rattle.tcap_model.specs.World.{Item, Sent, is_side, has_quiet}
use Rattle.tcap_model.proofs.RunLaws.{some_is, then_some, where_some, same_events}
use Rattle.tcap_certificate.specs.declared.certificate.Closing.{Closing}
use Rattle.tcap_certificate.specs.declared.certificate.Expiry.{Expiry}
use Rattle.tcap_certificate.specs.declared.fault.CheckFault.{CheckFault}
use Rattle.tcap_certificate.specs.Certificate.{Certificate}
use Rattle.tcap_certificate.specs.DescribedRun.{closing_by, closing_event, deliveries, expiry_by, expiry_event, gap_events, half_begun, invoke_id, named_entry, IsImplied, invoking_half, FatesFit}
use Rattle.tcap_certificate.specs.Replay.{Replay, closings_judged, closings_replayed, deliveries_by, expiries_judged, expiries_replayed, fault_at, gap_by, after_event, next_entry, all_fit, fate_fits, fates_fit}
use Rattle.tcap_check.specs.declared.listed_steps.ListedStep.{ListedStep}
use Rattle.tcap_check.specs.declared.listed_steps.ListedStep.TheVariants as listings
use Rattle.tcap_check.specs.ListedSteps.{all_replayed, event_listed, listed_for, listed_in, listed_judged, listed_replayed, side_of}
use Rattle.tcap_check.proofs.progress_laws.KeptBasics.{then_same, then_then}
use Rattle.tcap_msg.specs.declared.message.Message.{Message}
use Rattle.tcap_model.proofs.ListLaws.{all_weaker}
use Rattle.std.proofs.lemmas.Bool.{and_parts, eqb-true, leb-true, ltb-true, ne_eqb}
use Rattle.std.proofs.lemmas.List.Elements.{filter-append}
use Rattle.std.proofs.lemmas.List.{map-append}
use Rattle.std.proofs.lemmas.Simd.{map-map}
use lib.Seq.{take-append_seam, take-length}
use Rattle.tcap_record.specs.Ends.{other}
use Rattle.tcap_certificate.specs.declared.certificate.Fate.{Fate}
use Rattle.tcap_certificate.specs.declared.certificate.Fate.TheVariants.{Gap, Lost, By}

-- ---- lists

filter_map : {A B : Type 0} (p : B → Bool) (f : A → B) (xs : List A) → filter p (map f xs) ≡ map f (filter (λ x. p (f x)) xs)
filter_map p f [] = refl
filter_map {B = B} p f (x ∷ xs) = by (p (f x)) (filter_map p f xs)
  where
    by : (b : Bool) → filter p (map f xs) ≡ map f (filter (λ y. p (f y)) xs)
        → cond b (f x ∷ filter p (map f xs)) (filter p (map f xs))
        ≡ map f (cond b (x ∷ filter (λ y. p (f y)) xs) (filter (λ y. p (f y)) xs))
    by true rest = ap (λ (ys : List B). f x ∷ ys) rest
    by false rest = rest

filter_all : {A : Type 0} (xs : List A) → filter (λ x. true) xs ≡ xs
filter_all [] = refl
filter_all (x ∷ xs) = ap (λ ys. x ∷ ys) (filter_all xs)

-- ---- the replay of listed events

-- Closings are replayed as listed events.
closings_all : (table : Table) (c : Certificate) (xs : List Closing) (r : Replay)
    → closings_replayed table c xs r ≡ all_replayed table c (map listings.Closes xs) r
closings_all table c [] r = refl
closings_all table c (x ∷ more) r =
    sym (then_then (ok_or (closing_event r.world.sent x) (fault_at FateRange x.entry))
    (λ event. after_event table c event (HiddenRefused faults.CannotClose) x.entry r) (closings_replayed table c more))
    ∙ then_same (listed_replayed table c (listings.Closes x) r) (closings_replayed table c more) (all_replayed table c (map listings.Closes more))
    (closings_all table c more)

-- Expiries are replayed as listed events.
expiries_all : (table : Table) (c : Certificate) (xs : List Expiry) (r : Replay)
    → expiries_replayed table c xs r ≡ all_replayed table c (map listings.Expires xs) r
expiries_all table c [] r = refl
expiries_all table c (x ∷ more) r =
    sym (then_then (ok_or (expiry_event r.world.sent x) (fault_at FateRange x.entry))
    (λ event. after_event table c event (HiddenRefused faults.CannotExpire) x.entry r) (expiries_replayed table c more))
    ∙ then_same (listed_replayed table c (listings.Expires x) r) (expiries_replayed table c more) (all_replayed table c (map listings.Expires more))
    (expiries_all table c more)

-- Joined lists are replayed one after the other.
all_then : (table : Table) (c : Certificate) (xs ys : List ListedStep) (r : Replay)
    → (all_replayed table c xs r >>= all_replayed table c ys) ≡ all_replayed table c (xs ++ ys) r
all_then table c [] ys r = refl
all_then table c (x ∷ xs) ys r =
    then_then (listed_replayed table c x r) (all_replayed table c xs) (all_replayed table c ys)
    ∙ then_same (listed_replayed table c x r) (λ next. all_replayed table c xs next >>= all_replayed table c ys) (all_replayed table c (xs ++ ys))
    (all_then table c xs ys)

-- The listed events of judged ends are the closings of these, then their expiries.
judged_is : (judged : Option Side) (xs : List Closing) (ys : List Expiry)
    → listed_judged judged (map listings.Closes xs ++ map listings.Expires ys)
    ≡ map listings.Closes (closings_judged judged xs) ++ map listings.Expires (expiries_judged judged ys)
judged_is None xs ys = filter_all (map listings.Closes xs ++ map listings.Expires ys)
judged_is (Some side) xs ys =
    filter-append (λ (x : ListedStep). is_side side (side_of x)) (map listings.Closes xs) (map listings.Expires ys)
    ∙ ap₂ (λ (us vs : List ListedStep). us ++ vs) (filter_map (λ (x : ListedStep). is_side side (side_of x)) listings.Closes xs)
    (filter_map (λ (x : ListedStep). is_side side (side_of x)) listings.Expires ys)

-- If both ends are judged, these are all listed events.
pub judged_all : (c : Certificate) (gap : ℕ) → listed_for None c gap ≡ listed_in c gap
judged_all c gap = filter_all (listed_in c gap)

-- A gap is its listed events, and then its deliveries.
pub gap_is_listed : (judged : Option Side) (table : Table) (c : Certificate) (r : Replay)
    → gap_by judged table c r
    ≡ (all_replayed table c (listed_for judged c (next_entry r)) r >>= deliveries_by judged table c (next_entry r) 0 c.fates r.world.sent)
gap_is_listed judged table c r =
    ap (λ (o : Result Replay CheckFault). o >>= λ closed. expiries_replayed table c expiries closed >>= delivered) (closings_all table c closings r)
    ∙ then_same (all_replayed table c closes r) (λ closed. expiries_replayed table c expiries closed >>= delivered)
    (λ closed. all_replayed table c expires closed >>= delivered)
    (λ closed. ap (λ (o : Result Replay CheckFault). o >>= delivered) (expiries_all table c expiries closed))
    ∙ sym (then_then (all_replayed table c closes r) (all_replayed table c expires) delivered)
    ∙ ap (λ (o : Result Replay CheckFault). o >>= delivered) (all_then table c closes expires r)
    ∙ ap (λ (xs : List ListedStep). all_replayed table c xs r >>= delivered)
    (sym (judged_is judged (filter (λ x. x.gap == next_entry r) c.close) (filter (λ x. x.gap == next_entry r) c.expire)))
  where
    closings : List Closing
    closings = closings_judged judged (filter (λ x. x.gap == next_entry r) c.close)

    expiries : List Expiry
    expiries = expiries_judged judged (filter (λ x. x.gap == next_entry r) c.expire)

    closes : List ListedStep
    closes = map listings.Closes closings

    expires : List ListedStep
    expires = map listings.Expires expiries

    delivered : Replay → Result Replay CheckFault
    delivered = deliveries_by judged table c (next_entry r) 0 c.fates r.world.sent

-- A gap that is replayed is replayed in these two parts.
pub gap_parts : (judged : Option Side) (table : Table) (c : Certificate) (r next : Replay) → gap_by judged table c r ≡ Ok next
    → (mid : Replay) × (all_replayed table c (listed_for judged c (next_entry r)) r ≡ Ok mid)
    × (deliveries_by judged table c (next_entry r) 0 c.fates r.world.sent mid ≡ Ok next)
gap_parts judged table c r next is =
    then_ok (all_replayed table c (listed_for judged c (next_entry r)) r) (deliveries_by judged table c (next_entry r) 0 c.fates r.world.sent) next
    (sym (gap_is_listed judged table c r) ∙ is)

-- The events of a gap are those of these two parts.
pub gap_events_are : (c : Certificate) (items : List Item) (gap : ℕ)
    → gap_events c items gap ≡ map (event_listed items) (listed_in c gap) ++ map Some (deliveries gap 0 c.fates items)
gap_events_are c items gap =
    let closings = filter (λ (x : Closing). x.gap == gap) c.close in
    let expiries = filter (λ (x : Expiry). x.gap == gap) c.expire in
    ap (λ (events : List (Option Event)). events ++ map Some (deliveries gap 0 c.fates items))
    (sym (map-append (event_listed items) (map listings.Closes closings) (map listings.Expires expiries)
    ∙ ap₂ (λ (us vs : List (Option Event)). us ++ vs) (map-map (event_listed items) listings.Closes closings)
    (map-map (event_listed items) listings.Expires expiries)))

-- ---- listed events

closing_so : (P : Event → Type 0) (items : List Item) (x : Closing) → ((name : HalfName) → P (Closes x.side name))
    → (event : Event) → closing_event items x ≡ Some event → P event
closing_so P items x closes event is = let found = then_some (named_entry items x.gap x.entry) (closing_by x) event is in by found.0 found.2
  where
    by : (item : Item) → closing_by x item ≡ Some event → P event
    by (Sent sender (Begin otid dialogue components)) e = subst P (some_is e) (closes (half_begun x.side sender otid))
    by (Sent sender (Unidirectional dialogue components)) e = cc
    by (Sent sender (Continue otid dtid dialogue components)) e = cc
    by (Sent sender (EndMessage dtid dialogue components)) e = cc
    by (Sent sender (Abort dtid reason)) e = cc
    by Item.Quiet e = cc

expiry_so : (P : Event → Type 0) (items : List Item) (x : Expiry) → ((name : HalfName) (id : ℤ) → P (Expires x.side name id))
    → (event : Event) → expiry_event items x ≡ Some event → P event
expiry_so P items x expires event is = let found = then_some (named_entry items x.gap x.entry) (expiry_by x) event is in by found.0 found.2
  where
    by : (item : Item) → expiry_by x item ≡ Some event → P event
    by (Sent sender message) e =
        let so = where_some (is_side x.side sender) _ event e in
        let named = then_some (otid_in message) _ event so.1 in
        let id = then_some (option_then (slice_get (components_in message) x.component) invoke_id) _ event named.2 in
        subst P (some_is id.2) (expires (names.Own named.0) id.0)
    by Item.Quiet e = cc

-- What holds for the closings and the expiries of its end holds for a listed event.
pub listed_so : (P : Event → Type 0) (items : List Item) (x : ListedStep) → ((name : HalfName) → P (Closes (side_of x) name))
    → ((name : HalfName) (id : ℤ) → P (Expires (side_of x) name id)) → (event : Event) → event_listed items x ≡ Some event → P event
listed_so P items (listings.Closes x) closes expires = closing_so P items x closes
listed_so P items (listings.Expires x) closes expires = expiry_so P items x expires

-- Events that equal joined options can be split.
some_parts : (here : List Event) (options : List (Option Event)) (behind : List Event)
    → map Some here ≡ options ++ map Some behind
    → (before : List Event) × (map Some before ≡ options) × (here ≡ before ++ behind)
some_parts here [] behind is = ([], refl, same_events here behind is)
some_parts [] (o ∷ options) behind is = cc
some_parts (first ∷ here) (o ∷ options) behind is =
    let more = some_parts here options behind cc in
    let same : Some first ≡ o = cc in
    let rest = more.1 in
    (first ∷ more.0, cc, ap (λ (x : List Event). first ∷ x) more.2)

-- The events of a gap are listed events, for which P holds, and then deliveries.
pub gap_split : (P : Event → Type 0) (c : Certificate) (items : List Item) (gap : ℕ) (here : List Event)
    → ((side : Side) (name : HalfName) → P (Closes side name)) → ((side : Side) (name : HalfName) (id : ℤ) → P (Expires side name id))
    → map Some here ≡ gap_events c items gap
    → (before : List Event) × AllByRecursion P before × (here ≡ before ++ deliveries gap 0 c.fates items)
gap_split P c items gap here closes expires is =
    let parts = some_parts here (map (event_listed items) (listed_in c gap)) (deliveries gap 0 c.fates items) (is ∙ gap_events_are c items gap) in
    (parts.0, all_so parts.0 (listed_in c gap) parts.1, parts.2)
  where
    all_so : (events : List Event) (listed : List ListedStep) → map Some events ≡ map (event_listed items) listed → AllByRecursion P events
    all_so [] listed are = tt
    all_so (event ∷ events) [] are = cc
    all_so (event ∷ events) (x ∷ listed) are =
        (listed_so P items x (closes (side_of x)) (expires (side_of x)) event cc, all_so events listed cc)

-- ---- events that an item implies

-- What holds for the expiries of its end on the half over which a message invokes holds for the expiries that the
-- message implies.
pub implied_so : (P : Event → Type 0) (side : Side) (message : Message)
    → ((name : HalfName) (id : ℤ) → invoking_half message ≡ Some name → P (Expires side name id))
    → (event : Event) → IsImplied (Sent side message) event → P event
implied_so P side message expires (Expires at name id) is = subst (λ (s : Side). P (Expires s name id)) (sym is.0) (expires name id is.1)
implied_so P side message expires (Sends at m) is = absurd is
implied_so P side message expires (Receives at number) is = absurd is
implied_so P side message expires (Replies at number) is = absurd is
implied_so P side message expires (Loses at number) is = absurd is
implied_so P side message expires (Closes at name) is = absurd is
implied_so P side message expires Quiet is = absurd is
implied_so P side message expires (Tells at m) is = absurd is

-- What holds for each expiry holds for all events that an item implies.
pub all_implied : (P : Event → Type 0) (item : Item) (events : List Event)
    → ((side : Side) (name : HalfName) (id : ℤ) → P (Expires side name id)) → AllByRecursion (IsImplied item) events → AllByRecursion P events
all_implied P item events expires all = all_weaker (IsImplied item) P events (of item) all
  where
    of : (item : Item) (event : Event) → IsImplied item event → P event
    of (Sent side message) event is = implied_so P side message (λ name id over. expires side name id) event is
    of Item.Quiet event is = absurd is

-- ---- listed events

pub get_before : {A : Type 0} (xs ys : List A) (i : ℕ) → i < length xs → slice_get (xs ++ ys) i ≡ slice_get xs i
get_before [] ys i h = absurd (omega (arith, h))
get_before (x ∷ xs) ys zero h = refl
get_before (x ∷ xs) ys (suc i) h = get_before xs ys i (omega (arith, h))

named_before : (items rest : List Item) (entry : ℕ) → named_entry (items ++ rest) (length items) entry ≡ named_entry items (length items) entry
named_before items rest entry =
    ap₂ (λ (shown : List Item) (o : Option Item). cond (has_quiet (drop entry shown)) None o)
    (take-append_seam items rest ∙ sym (take-length items)) (by (nat_lt entry (length items)) refl)
  where
    by : (b : Bool) → nat_lt entry (length items) ≡ b → only_if b (slice_get (items ++ rest) entry) ≡ only_if b (slice_get items entry)
    by true e = get_before items rest entry (ltb-true entry (length items) e)
    by false e = refl

named_at : (items rest : List Item) (gap entry : ℕ) → gap ≡ length items → named_entry (items ++ rest) gap entry ≡ named_entry items gap entry
named_at items rest gap entry is =
    ap (λ (g : ℕ). named_entry (items ++ rest) g entry) is ∙ named_before items rest entry ∙ ap (λ (g : ℕ). named_entry items g entry) (sym is)

map_filter_same : {A C : Type 0} (p : A → Bool) (f g : A → C) (xs : List A) → ((x : A) → p x ≡ true → f x ≡ g x)
    → map f (filter p xs) ≡ map g (filter p xs)
map_filter_same p f g [] same = refl
map_filter_same p f g (x ∷ xs) same = by (p x) refl (map_filter_same p f g xs same)
  where
    by : (b : Bool) → p x ≡ b → map f (filter p xs) ≡ map g (filter p xs)
        → map f (cond b (x ∷ filter p xs) (filter p xs)) ≡ map g (cond b (x ∷ filter p xs) (filter p xs))
    by true e rest = ap₂ (λ y ys. y ∷ ys) (same x e) rest
    by false e rest = rest

-- ---- deliveries

none_delivered : (count gap n : ℕ) (fates : List Fate) (items : List Item) → gap ≤ n → FatesFit count n fates → deliveries gap n fates items ≡ []
none_delivered count gap n [] items h fit = refl
none_delivered count gap n (fate ∷ fates) [] h fit = refl
none_delivered count gap n (Gap g ∷ fates) (Sent side message ∷ items) h fit =
    let later : (g == gap) ≡ false = ne_eqb g gap (λ e. omega (arith, h, fit.0, e)) in
    rw later (none_delivered count gap (n + 1) fates items (omega (arith, h)) fit.2)
none_delivered count gap n (Gap g ∷ fates) (Item.Quiet ∷ items) h fit =
    none_delivered count gap (n + 1) fates items (omega (arith, h)) fit.2
none_delivered count gap n (Lost ∷ fates) (Sent side message ∷ items) h fit = none_delivered count gap (n + 1) fates items (omega (arith, h)) fit
none_delivered count gap n (Lost ∷ fates) (Item.Quiet ∷ items) h fit = none_delivered count gap (n + 1) fates items (omega (arith, h)) fit
none_delivered count gap n (By k ∷ fates) (Sent side message ∷ items) h fit = none_delivered count gap (n + 1) fates items (omega (arith, h)) fit.2
none_delivered count gap n (By k ∷ fates) (Item.Quiet ∷ items) h fit = none_delivered count gap (n + 1) fates items (omega (arith, h)) fit.2

deliveries_before : (count gap n : ℕ) (fates : List Fate) (items rest : List Item) → gap ≡ n + length items → FatesFit count n fates
    → deliveries gap n fates (items ++ rest) ≡ deliveries gap n fates items
deliveries_before count gap n [] items rest h fit = refl
deliveries_before count gap n (fate ∷ fates) [] rest h fit = none_delivered count gap n (fate ∷ fates) rest (omega (arith, h)) fit
deliveries_before count gap n (Gap g ∷ fates) (Sent side message ∷ items) rest h fit =
    ap (λ (others : List Event). cond (g == gap) (Receives (other side) n ∷ others) others)
    (deliveries_before count gap (n + 1) fates items rest (omega (arith, h)) fit.2)
deliveries_before count gap n (Gap g ∷ fates) (Item.Quiet ∷ items) rest h fit =
    deliveries_before count gap (n + 1) fates items rest (omega (arith, h)) fit.2
deliveries_before count gap n (Lost ∷ fates) (Sent side message ∷ items) rest h fit = deliveries_before count gap (n + 1) fates items rest (omega (arith, h)) fit
deliveries_before count gap n (Lost ∷ fates) (Item.Quiet ∷ items) rest h fit =
    deliveries_before count gap (n + 1) fates items rest (omega (arith, h)) fit
deliveries_before count gap n (By k ∷ fates) (Sent side message ∷ items) rest h fit = deliveries_before count gap (n + 1) fates items rest (omega (arith, h)) fit.2
deliveries_before count gap n (By k ∷ fates) (Item.Quiet ∷ items) rest h fit =
    deliveries_before count gap (n + 1) fates items rest (omega (arith, h)) fit.2

-- The events of a gap depend only on the items before it.
pub gap_events_before : (c : Certificate) (count : ℕ) (items rest : List Item) → FatesFit count 0 c.fates
    → gap_events c (items ++ rest) (length items) ≡ gap_events c items (length items)
gap_events_before c count items rest fit =
    let gap = length items in
    let closings = map_filter_same (λ (x : Closing). x.gap == gap) (closing_event (items ++ rest)) (closing_event items) c.close
    (λ x e. ap (λ (o : Option Item). option_then o (closing_by x)) (named_at items rest x.gap x.entry (eqb-true x.gap gap e))) in
    let expiries = map_filter_same (λ (x : Expiry). x.gap == gap) (expiry_event (items ++ rest)) (expiry_event items) c.expire
    (λ x e. ap (λ (o : Option Item). option_then o (expiry_by x)) (named_at items rest x.gap x.entry (eqb-true x.gap gap e))) in
    let listed = ap₂ (λ (xs ys : List (Option Event)). xs ++ ys) closings expiries in
    ap₂ (λ (xs : List (Option Event)) (ys : List Event). xs ++ map Some ys) listed (deliveries_before count gap 0 c.fates items rest (omega arith) fit)

-- ---- ranges

pub fates_ok : (count n : ℕ) (fates : List Fate) → fates_fit count n fates ≡ Ok tt → FatesFit count n fates
fates_ok count n [] is = tt
fates_ok count n (Gap g ∷ fates) is =
    let so = needs_ok (fate_fits count n (Gap g)) (fault_at FateRange n) (fates_fit count (n + 1) fates) tt is in
    let both = and_parts (nat_lt n g) (nat_le g count) so.0 in
    (ltb-true n g both.0, leb-true g count both.1, fates_ok count (n + 1) fates so.1)
fates_ok count n (By k ∷ fates) is =
    let so = needs_ok (fate_fits count n (By k)) (fault_at FateRange n) (fates_fit count (n + 1) fates) tt is in
    let both = and_parts (nat_lt n k) (nat_lt k count) so.0 in
    (ltb-true n k both.0, ltb-true k count both.1, fates_ok count (n + 1) fates so.1)
fates_ok count n (Lost ∷ fates) is = fates_ok count (n + 1) fates is

pub listed_ok : {C : Type 0} (count : ℕ) (entry gap : C → ℕ) (listed : List C)
    → all_fit count (map (λ c. (entry c, gap c)) listed) ≡ Ok tt → AllByRecursion (λ c. gap c ≤ count) listed
listed_ok count entry gap [] is = tt
listed_ok count entry gap (c ∷ listed) is =
    let so = needs_ok (nat_lt (entry c) (gap c) && nat_le (gap c) count) (fault_at FateRange (entry c)) _ tt is in
    let both = and_parts (nat_lt (entry c) (gap c)) (nat_le (gap c) count) so.0 in
    (leb-true (gap c) count both.1, listed_ok count entry gap listed so.1)
