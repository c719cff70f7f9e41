-- The check of a record, entry by entry. A refusal holds no matter what follows, and what is not refused is lawful.
use Rattle.std.proofs.Common.{◌≡◌, ◌<◌, ◌≤◌, get_or, ℕ, Bool, ◌+◌, suc, zero, List, [], ◌∷◌, ◌++◌, map, take, drop, length, Option, Some, None, Result, Ok, Err, refl, sym, ap, ap₂, subst, ◌∙◌, append_assoc, append-nil, arith, ◌*◌, false}
use Rattle.std.specs.Prelude.{◌≢◌, IfOk, slice_get}
use Rattle.std.proofs.lemmas.List.{map-append, take-append-drop}
use Rattle.std.proofs.lemmas.Option.{slice_get-get_or}
use Rattle.tcap_record.specs.declared.entry.End.{End as Side}
use Rattle.tcap_record.specs.declared.entry.Entry.{Entry}
use Rattle.tcap_end.specs.declared.fault.EndFault.{EndFault}
use Rattle.tcap_end.specs.Table.{Table}
use Rattle.tcap_end.specs.Step.{◌>>=◌}
use Rattle.tcap_check.specs.declared.replaying.Replaying.{Replaying}
use Rattle.tcap_check.specs.declared.checker.Report.{Report}
use Rattle.tcap_certificate.specs.declared.fault.CheckFault.{CheckFault}
use Rattle.tcap_model.specs.declared.reason.Reason.{Reason}
use Rattle.tcap_model.specs.World.{Item, Sent}
use Rattle.tcap_model.specs.Run.{Event, IsRunOf}
use Rattle.tcap_certificate.specs.Certificate.{Certificate}
use Rattle.tcap_model.specs.Entries.{AreItems, item_of, IsItem, count_components, entry_of}
use Rattle.tcap_check.specs.OneEndRun.{IsGivenTo}
use Rattle.tcap_check.specs.GivenRun.{SaysLawful, IsBounded, IsRefused, RefusesForGood, ShowsReason}
use Rattle.tcap_certificate.specs.Replay.{Replay, discards_by, fault_at, replay_by, replayed_by, certificate_fits, entries_by, nothing_replayed, run_by}
use Rattle.tcap_check.specs.ReportedSteps.{MayAllBeDiscarded}
use Rattle.tcap_model.specs.declared.reason.Reason.TheVariants.{Memory}
use Rattle.tcap_check.specs.CheckerMeaning.{CheckerState, ReplayState, HasTakenListing, ended, kept_next, kept_of, map_ok, reported, taken, taken_next, HasTaken, answer_of}
use Rattle.tcap_check.specs.ReplayInvariants.{checking_of, kept_in}
use Rattle.tcap_check.proofs.one_end_lemmas.AloneRuns.{gives_for}
use Rattle.tcap_check.proofs.checker_laws.CheckerLaws.{checking, ends_so, given, refusing, took_err, took_ok}
use Rattle.tcap_check.proofs.replay_laws.ReplayInvariants.{all_may}
use Rattle.tcap_check.proofs.checker_laws.EntryLaws.{replayed_is, taken_more}
use Rattle.tcap_check.proofs.given_run_lemmas.GivenRuns.{gives, are_fit, both_ok}
use Rattle.tcap_end.proofs.AnsweringLaws.{then_ok}
use Rattle.tcap_certificate.specs.HalfNames.{IsDescribedBy}
use Rattle.tcap_certificate.specs.LossCounts.{steps_of, unheard_of}
use Rattle.tcap_check.proofs.one_end_lemmas.AloneReplays.{entries_lead}
use Rattle.tcap_check.proofs.described_run_laws.DescribedRuns.{items_of, items_same, described_is_given}
use Rattle.tcap_check.proofs.refusal_laws.ReasonGaps.{as_many}
use Rattle.tcap_check.proofs.refusal_laws.ReasonLaws.{refusal_says}
use Rattle.tcap_check.proofs.replay_laws.ReplayEntries.{entries_replay, ok_item}

-- ---- a refusal before the end

-- If the first entries are refused, so are these with more entries.
pub taken_short : (judged : Option Side) (table : Table) (c : Certificate) (entries more : List (Result Item Reason)) (fault : CheckFault)
    → taken judged table c entries ≡ Err fault → taken judged table c (entries ++ more) ≡ Err fault
taken_short judged table c entries [] fault is =
    subst (λ (x : List (Result Item Reason)). taken judged table c x ≡ Err fault) (sym (append-nil entries)) is
taken_short judged table c entries (entry ∷ more) fault is =
    subst (λ (x : List (Result Item Reason)). taken judged table c x ≡ Err fault) (append_assoc entries (entry ∷ []) more)
    (taken_short judged table c (entries ++ entry ∷ []) more fault
    (taken_more judged table c entries entry ∙ ap (λ (o : Result Replay CheckFault). o >>= taken_next judged table c entry) is))

-- A checker with a fault implements a replay that is refused.
pub refused_is : (listing : Bool) (s : CheckerState) (entries : List (Result Item Reason)) (fault : CheckFault) → HasTakenListing listing s entries → s.so_far ≡ Err fault
    → taken s.judged s.table s.certificate entries ≡ Err fault
refused_is listing s entries fault took is = by (taken s.judged s.table s.certificate entries) (sym is ∙ took)
  where
    by : (o : Result Replay CheckFault) → (let a : Result ReplayState CheckFault = Err fault in a) ≡ map_ok (kept_of listing s.judged s.certificate) o
        → o ≡ Err fault
    by (Ok r) same = cc
    by (Err other) same = let is : fault ≡ other = cc in ap (λ (f : CheckFault). let a : Result Replay CheckFault = Err f in a) (sym is)

refused_short : (listing : Bool) (s : CheckerState) (entries more all : List (Result Item Reason)) (fault : CheckFault) → HasTakenListing listing s entries
    → s.so_far ≡ Err fault → entries ++ more ≡ all → replay_by s.judged s.table s.certificate all ≡ Err fault
refused_short listing s entries more all fault took is whole =
    let short = taken_short s.judged s.table s.certificate entries more fault (refused_is listing s entries fault took is) in
    let at : taken s.judged s.table s.certificate all ≡ Err fault = ap (taken s.judged s.table s.certificate) (sym whole) ∙ short in
    replayed_is s.judged s.table s.certificate all ∙ ap (λ (o : Result Replay CheckFault). o >>= ended s.judged s.table s.certificate) at

-- A replay takes one more entry.
pub took_more : (listing : Bool) (x y : Replaying) (entry : Result Item Reason) → y.judged ≡ x.judged → y.table ≡ x.table → y.certificate ≡ x.certificate
    → kept_next x.judged x.table.now x.certificate.now entry (kept_in x) ≡ Ok (kept_in y) → (before : List (Result Item Reason))
    → HasTakenListing listing (checking_of x) before → HasTakenListing listing (checking_of y) (before ++ entry ∷ [])
took_more listing x y entry judged table certificate is before took =
    rw (judged, table, certificate)
    (took_ok listing x.judged x.table.now x.certificate.now (kept_in x) (kept_in y) entry is before took)

-- If an entry is refused, the replay of all entries is refused for the same reason.
pub refused_at : (listing : Bool) (judged : Option Side) (table : Table) (c : Certificate) (k : ReplayState) (entry : Result Item Reason) (fault : CheckFault)
    → kept_next judged table c entry k ≡ Err fault → (before more all : List (Result Item Reason))
    → HasTakenListing listing (checking judged table c None k) before → (before ++ entry ∷ []) ++ more ≡ all
    → replay_by judged table c all ≡ Err fault
refused_at listing judged table c k entry fault is before more all took whole =
    refused_short listing (checking judged table c (Some fault) k) (before ++ entry ∷ []) more all fault
    (took_err listing judged table c k k entry fault is before took) refl whole

-- A refused replay gives no report.
pub no_report : (judged : Option Side) (table : Table) (c : Certificate) (entries : List (Result Item Reason)) (fault : CheckFault)
    → replay_by judged table c entries ≡ Err fault → refusing fault ≡ given judged table c entries
no_report judged table c entries fault is = sym (ap (map_ok (reported judged)) (ends_so judged table c entries (Err fault) is))

-- A refusal, stated for the values that the replay was created from.
pub refused_for : (r : Replaying) (judged : Option Side) (table : Table) (c : Certificate) (entries : List (Result Item Reason)) (fault other : CheckFault)
    → r.judged ≡ judged → r.table.now ≡ table → r.certificate.now ≡ c → fault ≡ other
    → replay_by r.judged r.table.now r.certificate.now entries ≡ Err fault → replay_by judged table c entries ≡ Err other
refused_for r judged table c entries fault other is_judged is_table is_c is refused =
    ap (λ (j : Option Side). replay_by j table c entries) (sym is_judged)
    ∙ ap₂ (λ (t : Table) (x : Certificate). replay_by r.judged t x entries) (sym is_table) (sym is_c)
    ∙ refused ∙ ap (λ (f : CheckFault). let x : Result Replay CheckFault = Err f in x) is

-- For each choice of judged ends, what is given is a run.
pub given_to : (judged : Option Side) (table : Table) (c : Certificate) (entries : List Entry) (events : List Event)
    → replayed_by judged table c entries ≡ Ok events → IsGivenTo judged table c entries events
given_to None table c entries events is = gives table c entries events is
given_to (Some side) table c entries events is = gives_for side table c entries events is

pub run_given : {A : Type 0} (events : A → List Event) (judged : Option Side) (table : Table) (c : Certificate) (entries : List Entry)
    (result : Result A CheckFault)
    → (result ≢ Err (fault_at Memory 0) → map_ok events result ≡ replayed_by judged table c entries)
    → IfOk result (λ x. IsGivenTo judged table c entries (events x))
run_given events judged table c entries (Ok x) exact = given_to judged table c entries (events x) (sym (exact (λ e. cc)))
run_given events judged table c entries (Err fault) exact = tt

-- The discards of a run are allowed.
pub run_may : {A : Type 0} (discards : A → List (ℕ × EndFault)) (judged : Option Side) (table : Table) (c : Certificate) (entries : List (Result Item Reason))
    (result : Result A CheckFault)
    → (result ≢ Err (fault_at Memory 0) → map_ok discards result ≡ discards_by judged table c entries)
    → IfOk result (λ x. MayAllBeDiscarded judged c (discards x))
run_may discards judged table c entries (Ok x) exact = all_may judged table c entries (discards x) (sym (exact (λ e. cc)))
run_may discards judged table c entries (Err fault) exact = tt

-- ---- a run

-- A report is of a run that sends the entries, in which the judged ends keep the rules.
pub lawful_is : (judged : Option Side) (table : Table) (c : Certificate) (entries : List Entry) (report : Report)
    → map_ok (reported judged) (replayed_by judged table c entries) ≡ Ok report
    → (items : List Item) × AreItems entries items × SaysLawful judged items table report
lawful_is judged table c entries report is = by judged (replayed_by judged table c entries) refl is
  where
    by : (judged : Option Side) (o : Result (List Event) CheckFault) → replayed_by judged table c entries ≡ o
        → map_ok (reported judged) o ≡ Ok report → (items : List Item) × AreItems entries items × SaysLawful judged items table report
    by judged (Err fault) at e = cc
    by None (Ok events) at e =
        let run = gives table c entries events at in
        let same : reported None events ≡ report = cc in
        (run.items, run.are, (events, run.run, run.keeps, ap (λ (r : Report). r.moves) same))
    by (Some side) (Ok events) at e =
        let run = gives_for side table c entries events at in
        let same : reported (Some side) events ≡ report = cc in
        (run.items, run.are, (events, run.run.0, run.run.1, run.run.2, run.keeps, run.left, ap (λ (r : Report). r.unheard) same))

-- ---- numbers of entries

up_to : (entries : List Entry) (place : ℕ) (entry : Entry) → slice_get entries place ≡ Some entry
    → take (suc place) entries ≡ take place entries ++ entry ∷ []
up_to [] place entry is = cc
up_to (first ∷ more) zero entry is = let same : first ≡ entry = cc in ap (λ (x : Entry). x ∷ []) same
up_to (first ∷ more) (suc place) entry is = ap (λ (x : List Entry). first ∷ x) (up_to more place entry is)

pub taken_so_far : (entries : List Entry) (place : ℕ) (entry : Entry) → slice_get entries place ≡ Some entry
    → map item_of (take (place + 1) entries) ≡ map item_of (take place entries) ++ item_of entry ∷ []
taken_so_far entries place entry is =
    let next : place + 1 ≡ suc place = omega arith in
    ap (λ (n : ℕ). map item_of (take n entries)) next ∙ ap (map item_of) (up_to entries place entry is)
    ∙ map-append item_of (take place entries) (entry ∷ [])

pub whole_is : (entries : List Entry) (place : ℕ)
    → map item_of (take place entries) ++ map item_of (drop place entries) ≡ map item_of entries
whole_is entries place =
    sym (map-append item_of (take place entries) (drop place entries)) ∙ ap (map item_of) (take-append-drop place entries)

pub taken_at : (entries lent : List Entry) (place : ℕ) (entry : Entry) → lent ≡ entries → place < length lent
    → entry ≡ get_or lent place entry
    → map item_of (take (place + 1) entries) ≡ map item_of (take place entries) ++ item_of entry ∷ []
taken_at entries lent place entry same less is =
    taken_so_far entries place entry
    (ap (λ (x : List Entry). slice_get x place) (sym same) ∙ slice_get-get_or lent place entry less ∙ ap (λ (x : Entry). Some x) (sym is))

-- ---- answers

pub is_report : (result : Result Report CheckFault) (report : Report) (fault : CheckFault) → result ≡ Ok report → result ≡ Err fault → ⊥
is_report result report fault is other = cc

-- ---- refusals, and what is lawful

abbrev pub refusal : CheckFault → Result (Unit {0}) CheckFault
refusal fault = Err fault

-- ---- refusals

stays_refused : (s : CheckerState) (entries : List Entry) (fault : CheckFault) → HasTaken s (map item_of entries) → s.so_far ≡ Err fault
    → IsRefused s.judged s.table s.certificate entries fault
stays_refused s entries fault took is = λ more.
    let judged = s.judged in
    let table = s.table in
    let c = s.certificate in
    let all = map item_of (entries ++ more) in
    let whole : all ≡ map item_of entries ++ map item_of more = map-append item_of entries more in
    let short = taken_short judged table c (map item_of entries) (map item_of more) fault (refused_is false s (map item_of entries) fault took is) in
    let at : taken judged table c all ≡ Err fault = ap (taken judged table c) whole ∙ short in
    let behind = replayed_is judged table c all ∙ ap (λ (o : Result Replay CheckFault). o >>= ended judged table c) at in
    let run : replayed_by judged table c (entries ++ more) ≡ Err fault = ends_so judged table c all (Err fault) behind in
    (run, refusal_says judged table c (entries ++ more) fault run)

-- If the result is a fault, the checker keeps this fault.
answered : (kept : Result ReplayState CheckFault) (fault : CheckFault) → answer_of kept ≡ Err fault → kept ≡ Err fault
answered (Ok k) fault is = cc
answered (Err other) fault is = let same : other ≡ fault = cc in ap (λ (f : CheckFault). let a : Result ReplayState CheckFault = Err f in a) same

same_fault : (fault other : CheckFault) → refusing fault ≡ Err other → fault ≡ other
same_fault fault other is = cc

one_fault : (fault other : CheckFault) → (let a : Result (Unit {0}) CheckFault = Err fault in a) ≡ Err other → fault ≡ other
one_fault fault other is = cc

-- If one more entry is refused, it is refused for good.
stays_refused_at : (s : CheckerState) (entries : List Entry) (entry : Entry) (item : Result Item Reason) (fault : CheckFault)
    → HasTaken s (map item_of entries ++ item ∷ []) → item_of entry ≡ item → s.so_far ≡ Err fault
    → IsRefused s.judged s.table s.certificate (entries ++ entry ∷ []) fault
stays_refused_at s entries entry item fault took same is =
    stays_refused s (entries ++ entry ∷ []) fault
    (subst (λ (x : List (Result Item Reason)). HasTaken s x)
    (ap (λ (x : Result Item Reason). map item_of entries ++ x ∷ []) (sym same) ∙ sym (map-append item_of entries (entry ∷ []))) took) is

-- This holds for each call that takes the entry.
pub refuses_for_good : (s behind : CheckerState) (next : Result Item Reason) (answer : Result (Unit {0}) CheckFault)
    → ((entries : List (Result Item Reason)) → HasTaken s entries → answer ≢ Err (fault_at Memory 0) → HasTaken behind (entries ++ next ∷ []))
    → answer ≡ answer_of behind.so_far → behind.judged ≡ s.judged → behind.table ≡ s.table → behind.certificate ≡ s.certificate
    → RefusesForGood s next answer
refuses_for_good s behind next answer takes answers judged table certificate = λ entries entry fault took same is other.
    let refused = answered behind.so_far fault (sym answers ∙ is) in
    let so = stays_refused_at behind entries entry next fault
    (takes (map item_of entries) took (λ memory. other (one_fault fault (fault_at Memory 0) (sym is ∙ memory)))) same refused in
    rw (sym judged, sym table, sym certificate) so

-- At the end of the record, a refusal is that of the replay.
end_is_refused : (judged : Option Side) (table : Table) (c : Certificate) (entries : List Entry) (fault : CheckFault)
    → refusing fault ≡ map_ok (reported judged) (replayed_by judged table c entries) → replayed_by judged table c entries ≡ Err fault
end_is_refused judged table c entries fault is = by (replayed_by judged table c entries) is
  where
    by : (o : Result (List Event) CheckFault) → refusing fault ≡ map_ok (reported judged) o → o ≡ Err fault
    by (Ok events) e = cc
    by (Err other) e = let same : fault ≡ other = cc in ap (λ (f : CheckFault). let a : Result (List Event) CheckFault = Err f in a) (sym same)

-- ---- items

entry_is : (item : Item) → IsItem (entry_of item) item
entry_is (Sent side message) = (refl, refl)
entry_is Item.Quiet = (refl, refl)

pub entries_are : (items : List Item) → AreItems (map entry_of items) items
entries_are [] = tt
entries_are (item ∷ items) = (entry_is item, entries_are items)

read_is : (item : Item) → item_of (entry_of item) ≡ ok_item item
read_is (Sent side message) = refl
read_is Item.Quiet = refl

pub items_of_entries : (items : List Item) → map item_of (map entry_of items) ≡ map ok_item items
items_of_entries [] = refl
items_of_entries (item ∷ items) =
    ap₂ (λ (x : Result Item Reason) (xs : List (Result Item Reason)). x ∷ xs) (read_is item) (items_of_entries items)

pub same_items : (entries : List Entry) (items others : List Item) → AreItems entries items → AreItems entries others → items ≡ others
same_items entries items others are also = items_same items others (sym (items_of entries items are) ∙ items_of entries others also)

-- ---- a run

-- Entries that are replayed are items.
items_by : (judged : Option Side) (table : Table) (c : Certificate) (entries : List (Result Item Reason)) (events : List Event)
    → run_by judged table c entries ≡ Ok events → (items : List Item) × (map ok_item items ≡ entries)
items_by judged table c entries events is =
    let fits = both_ok (certificate_fits c) _ events is in
    let r = then_ok (entries_by judged table c entries nothing_replayed) _ events fits.2 in
    by judged fits.1 r.0 r.1
  where
    by : (judged : Option Side) → certificate_fits c ≡ Ok tt → (r : Replay) → entries_by judged table c entries nothing_replayed ≡ Ok r
        → (items : List Item) × (map ok_item items ≡ entries)
    by None fits r at =
        let done = entries_replay table c entries nothing_replayed r (length c.fates) (are_fit c fits).fates at in (done.items, done.are)
    by (Some side) fits r at = let heard = entries_lead side table c entries nothing_replayed r at in (heard.items, heard.are)

lawful_of : (judged : Option Side) (table : Table) (c : Certificate) (entries : List (Result Item Reason)) (report : Report)
    → given judged table c entries ≡ Ok report → (items : List Item) × (map ok_item items ≡ entries) × SaysLawful judged items table report
lawful_of judged table c entries report is = by (run_by judged table c entries) refl is
  where
    by : (o : Result (List Event) CheckFault) → run_by judged table c entries ≡ o → map_ok (reported judged) o ≡ Ok report
        → (items : List Item) × (map ok_item items ≡ entries) × SaysLawful judged items table report
    by (Err fault) at e = cc
    by (Ok events) at e =
        let found = items_by judged table c entries events at in
        let whole : map item_of (map entry_of found.0) ≡ entries = items_of_entries found.0 ∙ found.1 in
        let law = lawful_is judged table c (map entry_of found.0) report (ap (given judged table c) whole ∙ is) in
        let same = same_items (map entry_of found.0) found.0 law.0 (entries_are found.0) law.1 in
        (found.0, found.1, subst (λ (x : List Item). SaysLawful judged x table report) (sym same) law.2)

-- If the certificate describes a run of the items, it gives a run with the same report.
described_here : (table : Table) (c : Certificate) (entries : List Entry) (items : List Item) (events : List Event) → AreItems entries items
    → IsRunOf items table events → IsDescribedBy table c items events
    → map_ok (reported None) (replayed_by None table c entries) ≡ Ok (reported None events)
described_here table c entries items events are run described =
    let run_is = described_is_given table c entries items events are run described in
    ap (map_ok (reported None)) run_is.1
    ∙ ap (λ n. let report : Result Report CheckFault = Ok (record { moves = n; unheard = 0 }) in report) run_is.2

described_of : (table : Table) (c : Certificate) (items : List Item) (events : List Event) → IsRunOf items table events
    → IsDescribedBy table c items events → given None table c (map ok_item items) ≡ Ok (reported None events)
described_of table c items events run described =
    ap (given None table c) (sym (items_of_entries items))
    ∙ described_here table c (map entry_of items) items events (entries_are items) run described

-- The counts of a report are bounded.
is_bounded : (judged : Option Side) (table : Table) (c : Certificate) (entries : List Entry) (items : List Item) (report : Report)
    → AreItems entries items → map_ok (reported judged) (replayed_by judged table c entries) ≡ Ok report → IsBounded judged c items report
is_bounded judged table c entries items report are is = by judged (replayed_by judged table c entries) refl is
  where
    by : (judged : Option Side) (o : Result (List Event) CheckFault) → replayed_by judged table c entries ≡ o
        → map_ok (reported judged) o ≡ Ok report → IsBounded judged c items report
    by judged (Err fault) at e = cc
    by None (Ok events) at e =
        let run = gives table c entries events at in
        let same : reported None events ≡ report = cc in
        let many = as_many entries items are in
        let most : length events ≤ 2 * length items + count_components items + length c.expire + length c.close =
        omega (arith, run.bound, many, ap count_components (same_items entries run.items items run.are are)) in
        subst (IsBounded None c items) same most
    by (Some side) (Ok events) at e =
        let run = gives_for side table c entries events at in
        let same : reported (Some side) events ≡ report = cc in
        let many = as_many entries items are in
        let most : steps_of side events ≤ 3 * length items + count_components items =
        omega (arith, run.bound, many, ap count_components (same_items entries run.items items run.are are)) in
        let unheard : unheard_of side events ≤ length items = omega (arith, run.unheard, many) in
        subst (IsBounded (Some side) c items) same (most, unheard)

-- ---- the result of a checker at its end, if the certificate gives it

module _ (s : CheckerState) (result : Result Report CheckFault)
    (finished : (entries : List (Result Item Reason)) → HasTaken s entries → result ≢ Err (fault_at Memory 0)
    → result ≡ given s.judged s.table s.certificate entries) where
  pub ends_lawful : (entries : List (Result Item Reason)) (report : Report) → HasTaken s entries → result ≡ Ok report
      → (items : List Item) × (map ok_item items ≡ entries) × SaysLawful s.judged items s.table report
  ends_lawful entries report took is =
      lawful_of s.judged s.table s.certificate entries report
      (sym (finished entries took (is_report result report (fault_at Memory 0) is)) ∙ is)

  pub ends_as_described : (items : List Item) (events : List Event) → HasTaken s (map ok_item items) → IsRunOf items s.table events
      → IsDescribedBy s.table s.certificate items events → s.judged ≡ None → result ≢ Err (fault_at Memory 0)
      → result ≡ Ok (reported None events)
  ends_as_described items events took run described both other =
      finished (map ok_item items) took other
      ∙ ap (λ (judged : Option Side). given judged s.table s.certificate (map ok_item items)) both
      ∙ described_of s.table s.certificate items events run described

  pub ends_with_reason : (entries : List Entry) (fault : CheckFault) → HasTaken s (map item_of entries) → result ≡ Err fault
      → fault ≢ fault_at Memory 0 → ShowsReason s.judged s.table s.certificate entries fault
  ends_with_reason entries fault took is other =
      let said = finished (map item_of entries) took (λ memory. other (same_fault fault (fault_at Memory 0) (sym is ∙ memory))) in
      refusal_says s.judged s.table s.certificate entries fault
      (end_is_refused s.judged s.table s.certificate entries fault (sym is ∙ said))

  pub ends_bounded : (items : List Item) (report : Report) → HasTaken s (map ok_item items) → result ≡ Ok report
      → IsBounded s.judged s.certificate items report
  ends_bounded items report took is =
      is_bounded s.judged s.table s.certificate (map entry_of items) items report (entries_are items)
      (ap (given s.judged s.table s.certificate) (items_of_entries items)
      ∙ sym (finished (map ok_item items) took (is_report result report (fault_at Memory 0) is)) ∙ is)

-- ---- the result for the entries of a record, if the certificate gives it

module _ (judged : Option Side) (table : Table) (c : Certificate) (entries : List Entry) (result : Result Report CheckFault)
    (exact : result ≢ Err (fault_at Memory 0) → result ≡ map_ok (reported judged) (replayed_by judged table c entries)) where
  reports : (report : Report) → result ≡ Ok report → map_ok (reported judged) (replayed_by judged table c entries) ≡ Ok report
  reports report is = sym (exact (is_report result report (fault_at Memory 0) is)) ∙ is

  pub says_lawful : (report : Report) → result ≡ Ok report → (items : List Item) × AreItems entries items × SaysLawful judged items table report
  says_lawful report is = lawful_is judged table c entries report (reports report is)

  pub says_as_described : (items : List Item) (events : List Event) → AreItems entries items → IsRunOf items table events
      → IsDescribedBy table c items events → judged ≡ None → result ≢ Err (fault_at Memory 0) → result ≡ Ok (reported None events)
  says_as_described items events are run described both other =
      exact other ∙ ap (λ (x : Option Side). map_ok (reported x) (replayed_by x table c entries)) both
      ∙ described_here table c entries items events are run described

  pub says_with_reason : (fault : CheckFault) → result ≡ Err fault → fault ≢ fault_at Memory 0 → ShowsReason judged table c entries fault
  says_with_reason fault is other =
      refusal_says judged table c entries fault (end_is_refused judged table c entries fault
      (sym is ∙ exact (λ memory. other (same_fault fault (fault_at Memory 0) (sym is ∙ memory)))))

  pub says_bounded : (items : List Item) (report : Report) → AreItems entries items → result ≡ Ok report → IsBounded judged c items report
  says_bounded items report are is = is_bounded judged table c entries items report are (reports report is)
