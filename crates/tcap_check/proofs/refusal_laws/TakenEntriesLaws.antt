-- What is kept of entries that were taken is what is kept of their replay.
use Rattle.std.proofs.Common.{◌≡◌, arith, ◌<◌, ◌+◌, ℕ, true, List, [], ◌∷◌, ◌++◌, map, length, drop, take, Some, None, Result, Ok, Err, IfSome, refl, sym, ap, ap₂, subst, ◌∙◌, append-nil, append_assoc, IsTrue, is_ok, false}
use Rattle.std.proofs.lemmas.List.{take_all}
use Rattle.std.specs.Prelude.{◌≢◌, Option, ok_or, slice_get}
use Rattle.tcap_record.specs.declared.entry.End.{End as Side}
use Rattle.tcap_record.specs.declared.entry.Entry.{Entry}
use Rattle.tcap_record.specs.Ends.{other}
use Rattle.tcap_end.specs.Step.{◌>>◌}
use Rattle.tcap_end.specs.Table.{Table}
use Rattle.tcap_end.proofs.AnsweringLaws.{some_ok, then_ok}
use Rattle.tcap_model.specs.declared.reason.Reason.{Reason}
use Rattle.tcap_model.specs.declared.reason.Reason.TheVariants.{FateCount, Memory}
use Rattle.tcap_model.specs.Entries.{AreItems, item_of, entry_of}
use Rattle.tcap_model.specs.World.{Item}
use Rattle.tcap_certificate.specs.declared.certificate.Fate.{Fate}
use Rattle.tcap_certificate.specs.declared.fault.CheckFault.{CheckFault}
use Rattle.tcap_check.specs.declared.outline.Outline.{Outline}
use Rattle.tcap_check.specs.declared.progress.Progress.{Progress}
use Rattle.tcap_check.specs.declared.replaying.Replaying.{Replaying}
use Rattle.tcap_check.specs.declared.step.Step.{Step}
use Rattle.tcap_certificate.specs.Certificate.{Certificate}
use Rattle.tcap_check.specs.CheckerMeaning.{ReplayState, HasTakenListing, gap_before, kept_next, kept_of, map_ok, progress_of, taken, taken_from, taken_next, tied_now, CheckerState, HasTaken}
use Rattle.tcap_certificate.specs.DescribedRun.{FatesFit, taken_by, without_losses}
use Rattle.tcap_check.specs.ReplaySteps.{sent_among}
use Rattle.tcap_check.specs.RefusedReplay.{IsListing, end_left, entry_left, gap_left, mark_left}
use Rattle.tcap_check.specs.ReplayInvariants.{IsSameBesideProgress, checking_of, kept_in}
use Rattle.tcap_certificate.specs.Replay.{Replay, certificate_fits, entry_by, fates_fit, fault_at, gap_by, is_gap, next_entry, nothing_replayed, item_by}
use Rattle.tcap_check.specs.PartialReplay.{next_so_far}
use Rattle.tcap_check.specs.RunSoFar.{IsListed, IsSoFar, IsPartialReplay, UnlessMemory, stopped_at}
use Rattle.tcap_check.specs.ReportedSteps.{ListedRun, listed_run_of}
use Rattle.tcap_check.proofs.checker_laws.CheckerLaws.{checking, took_err}
use Rattle.tcap_check.proofs.replay_laws.DiscardReasons.{taken_tells}
use Rattle.tcap_check.proofs.progress_laws.KeptLeft.{left_behind, end_far, entry_far}
use Rattle.tcap_check.proofs.progress_laws.KeptGaps.{gap_is}
use Rattle.tcap_check.proofs.refusal_laws.PendingLaws.{SendsSoFar, runs_on, IsSo}
use Rattle.tcap_check.proofs.refusal_laws.ReasonLaws.{entry_stands, first_ok, nothing_stands}
use Rattle.tcap_check.proofs.replay_laws.ReplayGaps.{fates_ok}
use Rattle.tcap_check.proofs.refusal_laws.RefusedReplayLaws.{next_goes}
use Rattle.std.specs.List.{AllByRecursion}
use Rattle.tcap_record.specs.declared.entry.End.TheVariants as sides
use Rattle.tcap_model.specs.Run.{BothKeepRules, IsRunOf}
use Rattle.tcap_model.proofs.ListLaws.{all_both}
use Rattle.tcap_check.specs.GivenRun.{MayBeSent}
use Rattle.tcap_check.proofs.one_end_lemmas.AloneCounts.{own_keeps}
use Rattle.tcap_check.proofs.refusal_laws.FollowingLaws.{plain_on}
use Rattle.tcap_check.proofs.given_run_lemmas.GivenEvents.{gap_fated, implied_fated, sender_fated, sender_is}
use Rattle.tcap_check.proofs.given_run_lemmas.GivenLosses.{IsFated, fated_keeps, taken_fated}
use Rattle.tcap_check.proofs.checker_laws.RefusalLaws.{entries_are, items_of_entries, same_items}
use Rattle.tcap_check.proofs.replay_laws.ReplayEntries.{item_replays, ok_item}
use Rattle.tcap_check.proofs.replay_laws.ReplaySteps.{replays_then}

-- `SendsSoFar` holds after more entries.
more_stand : (judged : Option Side) (table : Table) (c : Certificate) (front entries : List Entry) (r next : Replay)
    → FatesFit (length c.fates) 0 c.fates → SendsSoFar judged table c front (next_entry r) r
    → taken_from judged table c (map item_of entries) r ≡ Ok next → SendsSoFar judged table c (front ++ entries) (next_entry next) next
more_stand judged table c front [] r next fit old is =
    let same : r ≡ next = cc in
    subst (λ (x : Replay). SendsSoFar judged table c (front ++ []) (next_entry x) x) same
    (subst (λ (es : List Entry). SendsSoFar judged table c es (next_entry r) r) (sym (append-nil front)) old)
more_stand judged table c front (entry ∷ entries) r next fit old is =
    let number = next_entry r in
    let found = then_ok (taken_next judged table c (item_of entry) r) (taken_from judged table c (map item_of entries)) next is in
    let fate = then_ok (ok_or (slice_get c.fates number) (fault_at FateCount number)) (λ f. entry_by judged table c f (item_of entry) r)
    found.0 found.1 in
    let has = some_ok (slice_get c.fates number) (fault_at FateCount number) fate.0 fate.1 in
    subst (λ (es : List Entry). SendsSoFar judged table c es (next_entry next) next) (append_assoc front (entry ∷ []) entries)
    (more_stand judged table c (front ++ entry ∷ []) entries found.0 next fit
    (entry_stands judged table c front entry fate.0 r found.0 fit old has fate.2) found.2)

-- `SendsSoFar` holds for the replay of entries.
pub taken_stands : (judged : Option Side) (table : Table) (c : Certificate) (entries : List Entry) (r : Replay)
    → taken judged table c (map item_of entries) ≡ Ok r → SendsSoFar judged table c entries (next_entry r) r
taken_stands judged table c entries r is =
    let goes = taken_from judged table c (map item_of entries) nothing_replayed in
    let fits = first_ok (certificate_fits c) goes is in
    more_stand judged table c [] entries nothing_replayed r
    (fates_ok (length c.fates) 0 c.fates (first_ok (fates_fit (length c.fates) 0 c.fates) _ fits)) (nothing_stands judged table c)
    (ap (λ (o : Result (Unit {0}) CheckFault). o >> goes) (sym fits) ∙ is)

-- What is kept of entries is what is kept of their replay.
took_replay : (judged : Option Side) (table : Table) (c : Certificate) (k : ReplayState) (entries : List Entry)
    → HasTakenListing true (checking judged table c None k) (map item_of entries)
    → (r : Replay) × (taken judged table c (map item_of entries) ≡ Ok r) × (kept_of true judged c r ≡ k)
took_replay judged table c k entries took = by (taken judged table c (map item_of entries)) refl took
  where
    by : (o : Result Replay CheckFault) → taken judged table c (map item_of entries) ≡ o
        → (let a : Result ReplayState CheckFault = Ok k in a) ≡ map_ok (kept_of true judged c) o
        → (r : Replay) × (taken judged table c (map item_of entries) ≡ Ok r) × (kept_of true judged c r ≡ k)
    by (Err fault) at same = cc
    by (Ok r) at same = let is : k ≡ kept_of true judged c r = cc in (r, at, sym is)

-- Steps of a replay are listed, and still are after a gap.
pub listed_kept : (judged : Option Side) (c : Certificate) (r : Replay) (p : Progress) → p ≡ progress_of true judged c r → IsListing p
listed_kept judged c r p is none =
    let told : ListedRun = record { events = r.events; discards = r.discards } in
    some_or_none p.steps told (sym (ap (λ (x : Progress). x.steps) is)) none
  where
    some_or_none : (o : Option ListedRun) (x : ListedRun) → Some x ≡ o → o ≡ None → ⊥
    some_or_none (Some y) x is none = cc
    some_or_none None x is none = cc

pub listed_behind : (x : Replaying) (q : Progress) → IsListed x → gap_before x.judged x.table.now x.certificate.now (kept_in x) ≡ Ok q → IsListing q
listed_behind x q (r, same) is =
    by (gap_by x.judged x.table.now x.certificate.now r)
    (sym (gap_is true x.judged x.table.now x.certificate.now r) ∙ ap (gap_before x.judged x.table.now x.certificate.now) same ∙ is)
  where
    by : (o : Result Replay CheckFault) → map_ok (progress_of true x.judged x.certificate.now) o ≡ Ok q → IsListing q
    by (Err fault) e = cc
    by (Ok next) e = let at : q ≡ progress_of true x.judged x.certificate.now next = cc in listed_kept x.judged x.certificate.now next q at

-- The messages that the next entry takes depend only on the entries.
tied_alike : (judged : Option Side) (c : Certificate) (k l : ReplayState) → k.entries ≡ l.entries → tied_now judged c k ≡ tied_now judged c l
tied_alike None c k l same = ap (λ (es : List Outline). taken_by (length es) 0 c.fates) same
tied_alike (Some judged) c k l same = ap (λ (es : List Outline). sent_among (other judged) es (taken_by (length es) 0 c.fates)) same

-- What is left of a quiet mark after its gap.
pub mark_after : (x y : Replaying) (fate : Fate) → IsSameBesideProgress x y → slice_get x.certificate.now.fates (length x.entries.items) ≡ Some fate
    → is_gap (length x.entries.items + 1) fate ≡ true → gap_before x.judged x.table.now x.certificate.now (kept_in x) ≡ Ok y.progress
    → mark_left y.judged y.table.now (length y.entries.items) (tied_now y.judged y.certificate.now (kept_in y)) y.progress
    ≡ entry_left x.judged x.table.now x.certificate.now (Ok Item.Quiet) (kept_in x)
mark_after x y fate same has is passed =
    let count = length x.entries.items in
    let on = mark_left x.judged x.table.now count (tied_now x.judged x.certificate.now (kept_in x)) in
    rw (has, is, same.judged, same.table, same.certificate)
    (ap₂ (λ (n : ℕ) (takes : List ℕ). mark_left x.judged x.table.now n takes y.progress) (ap (λ (es : _). length es.items) same.entries)
    (tied_alike x.judged x.certificate.now (kept_in y) (kept_in x) (ap (λ (es : _). es.items) same.entries))
    ∙ sym (left_behind (gap_before x.judged x.table.now x.certificate.now (kept_in x))
    (gap_left x.judged x.table.now x.certificate.now x.entries.items x.since x.progress) y.progress on passed))

-- An entry that is refused is not replayed.
pub refused_next : (x : Replaying) (entry : Result Item Reason) (fault : CheckFault)
    → kept_next x.judged x.table.now x.certificate.now entry (kept_in x) ≡ Err fault → (before : List (Result Item Reason))
    → HasTakenListing true (checking_of x) before → taken x.judged x.table.now x.certificate.now (before ++ entry ∷ []) ≡ Err fault
refused_next x entry fault is before took =
    by (taken x.judged x.table.now x.certificate.now (before ++ entry ∷ [])) refl
    (took_err true x.judged x.table.now x.certificate.now (kept_in x) (kept_in x) entry fault is before took)
  where
    by : (o : Result Replay CheckFault) → taken x.judged x.table.now x.certificate.now (before ++ entry ∷ []) ≡ o
        → (let a : Result ReplayState CheckFault = Err fault in a) ≡ map_ok (kept_of true x.judged x.certificate.now) o → o ≡ Err fault
    by (Ok r) at same = cc
    by (Err other) at same = cc

-- The progress is what is kept of these entries' replay, for the ends, table and certificate of x.
abbrev pub Among : Replaying → List Entry → Progress → Type 0
Among x entries p = IsPartialReplay x.table.now x.certificate.now x.judged entries p

-- Both replays have the same judged ends, table and certificate.
pub record GoesAlike (x y : Replaying) : Type 0 where
  pub judged : y.judged ≡ x.judged
  pub table : y.table ≡ x.table
  pub certificate : y.certificate ≡ x.certificate

-- The progress if the next entry is refused.
pub among_refused : (x y : Replaying) (entries : List Entry) (count : ℕ) (entry : Entry) (fault : CheckFault) (left : Progress) → GoesAlike x y
    → count < length entries → drop count entries ≡ entry ∷ drop (count + 1) entries
    → HasTakenListing true (checking_of y) (map item_of (take count entries))
    → taken y.judged y.table.now y.certificate.now (map item_of (take (count + 1) entries)) ≡ Err fault
    → (IsListed y → left ≡ entry_left y.judged y.table.now y.certificate.now (item_of entry) (kept_in y)) → Among x entries left
among_refused x y entries count entry fault left alike less next took refused leaves =
    let judged = y.judged in
    let table = y.table.now in
    let c = y.certificate.now in
    let so = took_replay judged table c (kept_in y) (take count entries) took in
    rw (sym alike.judged, sym alike.table, sym alike.certificate)
    record {
      count = count;
      goes = record { within = omega (arith, less); front = so.0; takes = so.1; no_more = λ there. (fault, refused) };
      stands = leaves (so.0, so.2) ∙ ap (entry_left judged table c (item_of entry)) (sym so.2)
          ∙ entry_far judged table c (item_of entry) (map item_of (drop (count + 1) entries)) so.0
          ∙ ap (λ (es : List Entry). progress_of true judged c (next_so_far judged table c (map item_of es) so.0)) (sym next);
    }

none_behind : (entries : List Entry) → drop (length entries) entries ≡ []
none_behind [] = refl
none_behind (entry ∷ entries) = none_behind entries

-- The progress after the last entry.
pub among_ends : (x y : Replaying) (entries : List Entry) (o : Result (Unit {0}) CheckFault) (left : Progress) → GoesAlike x y
    → HasTakenListing true (checking_of y) (map item_of entries)
    → UnlessMemory o (left ≡ end_left y.judged y.table.now y.certificate.now (kept_in y)) → UnlessMemory o (Among x entries left)
among_ends x y entries o left alike took leaves = by o leaves
  where
    so : (r : Replay) × (taken y.judged y.table.now y.certificate.now (map item_of entries) ≡ Ok r) × (kept_of true y.judged y.certificate.now r ≡ kept_in y)
    so = took_replay y.judged y.table.now y.certificate.now (kept_in y) entries took

    all : take (length entries) entries ≡ entries
    all = take_all (length entries) entries (omega arith)

    here : left ≡ end_left y.judged y.table.now y.certificate.now (kept_in y) → Among x entries left
    here is =
        rw (sym alike.judged, sym alike.table, sym alike.certificate)
        record {
          count = length entries;
          goes = record {
            within = omega arith;
            front = so.0;
            takes = ap (λ (es : List Entry). taken y.judged y.table.now y.certificate.now (map item_of es)) all ∙ so.1;
            no_more = λ there. absurd (omega (arith, there));
          };
          stands = is ∙ ap (end_left y.judged y.table.now y.certificate.now) (sym so.2) ∙ end_far y.judged y.table.now y.certificate.now so.0
              ∙ ap (λ (es : List Entry). progress_of true y.judged y.certificate.now (next_so_far y.judged y.table.now y.certificate.now (map item_of es) so.0))
              (sym (none_behind entries));
        }

    by : (o : Result (Unit {0}) CheckFault) → UnlessMemory o (left ≡ end_left y.judged y.table.now y.certificate.now (kept_in y))
        → UnlessMemory o (Among x entries left)
    by (Ok done) is = here is
    by (Err fault) is = λ other. here (is other)

-- If the call does not run out of memory, P holds.
pub in_memory : (o : Result (Unit {0}) CheckFault) (P : Type 0) → UnlessMemory o P → o ≢ Err (fault_at Memory 0) → P
in_memory (Ok done) P so other = so
in_memory (Err fault) P so other = so (λ is. other (ap (λ (f : CheckFault). let x : Result (Unit {0}) CheckFault = Err f in x) is))

-- ---- a run so far

-- What is kept of a replay up to a refusal is a run that sends the first entries, with the ends after it.
stands_so_far : (table : Table) (c : Certificate) (judged : Option Side) (entries : List Entry) (p : Progress) (steps : List Step)
    → IsPartialReplay table c judged entries p → IfSome p.steps (λ told. listed_run_of steps ≡ told)
    → IsSoFar judged table c entries steps p.a.end p.b.end
stands_so_far table c judged entries p steps among tell =
    let front = among.goes.front in
    let left = stopped_at judged table c entries among.count front in
    let on = next_goes table c judged (map item_of (drop among.count entries)) front in
    let first = taken_stands judged table c (take among.count entries) front among.goes.takes in
    record {
      count = among.count;
      goes = among.goes;
      left = left;
      left_is = refl;
      listed = subst (λ (x : Progress). IfSome x.steps (λ (t : ListedRun). listed_run_of steps ≡ t)) among.stands tell;
      more = on.0;
      begins = on.1.events;
      leads = runs_on table front left on.0 first.runs on.1;
      sends = subst (AreItems (take among.count entries)) (sym on.2) first.are;
      discards = (on.3 (taken_tells judged table c (map item_of (take among.count entries)) front among.goes.takes)).1;
      a_is = sym (ap (λ (x : Progress). x.a.end) among.stands);
      b_is = sym (ap (λ (x : Progress). x.b.end) among.stands);
    }

-- What is kept of a replay since its creation is a run so far.
pub replay_so_far : (x : Replaying) (judged : Option Side) (table : Table) (c : Certificate) (entries : List Entry) (kept left : Progress)
    (steps : List Step) → x.judged ≡ judged → x.table.now ≡ table → x.certificate.now ≡ c
    → left ≡ kept → Among x entries kept → IfSome left.steps (λ told. listed_run_of steps ≡ told)
    → IsSoFar judged table c entries steps left.a.end left.b.end
replay_so_far x judged table c entries kept left steps who at by is among tell =
    rw (sym who, sym at, sym by) (stands_so_far x.table.now x.certificate.now x.judged entries left steps
    (subst (λ (p : Progress). Among x entries p) (sym is) among) tell)

-- ---- if both ends are judged

-- Apart from losses, the steps so far fit the fates.
abbrev AreFated : Certificate → Replay → Type 0
AreFated c r = AllByRecursion (IsFated c.fates) (without_losses r.events)

-- After an item and the gap before it, the steps fit the fates.
item_fated : (table : Table) (c : Certificate) (fate : Fate) (item : Item) (r next : Replay) → slice_get c.fates (next_entry r) ≡ Some fate
    → item_by None table c fate item r ≡ Ok next → AreFated c r → AreFated c next
item_fated table c fate item r next has is so =
    let fits = IsFated c.fates in
    let one = item_replays table c fate item r next has is in
    let number = next_entry one.mid in
    let sends = one.sent.sends in
    let all = taken_by number 0 c.fates in
    let taken = taken_fated c.fates number in
    let sender = sender_fated c.fates all sends taken (sender_is c number item all sends one.sent.sends_is) in
    let behind = all_both fits one.sent.implied (sends ∷ []) (implied_fated c.fates item one.sent.implied one.sent.are_implied) (sender, tt) in
    let here = all_both fits one.here (one.sent.implied ++ sends ∷ [])
    (gap_fated c r.world.sent (next_entry r) one.here one.here_is) behind in
    let whole = replays_then table r one.mid next one.here (one.sent.implied ++ sends ∷ []) [] (item ∷ []) one.gap one.sent.replays in
    subst (AllByRecursion fits) (sym (plain_on table r next (one.here ++ (one.sent.implied ++ sends ∷ [])) (item ∷ []) whole))
    (all_both fits (without_losses r.events) (one.here ++ (one.sent.implied ++ sends ∷ [])) so here)

taken_is_fated : (table : Table) (c : Certificate) (items : List Item) (r next : Replay)
    → taken_from None table c (map ok_item items) r ≡ Ok next → AreFated c r → AreFated c next
taken_is_fated table c [] r next is so = let same : r ≡ next = cc in subst (AreFated c) same so
taken_is_fated table c (item ∷ items) r next is so =
    let number = next_entry r in
    let one = then_ok (taken_next None table c (ok_item item) r) (taken_from None table c (map ok_item items)) next is in
    let fate = then_ok (ok_or (slice_get c.fates number) (fault_at FateCount number)) (λ f. entry_by None table c f (ok_item item) r) one.0 one.1 in
    let has = some_ok (slice_get c.fates number) (fault_at FateCount number) fate.0 fate.1 in
    taken_is_fated table c items one.0 next one.2 (item_fated table c fate.0 item r one.0 has fate.2 so)

-- ---- for each choice of judged ends

-- Entries that were taken are items.
taken_items : (judged : Option Side) (table : Table) (c : Certificate) (entries : List (Result Item Reason)) (r next : Replay)
    → taken_from judged table c entries r ≡ Ok next → (items : List Item) × (map ok_item items ≡ entries)
taken_items judged table c [] r next is = ([], refl)
taken_items judged table c (entry ∷ entries) r next is =
    let number = next_entry r in
    let one = then_ok (taken_next judged table c entry r) (taken_from judged table c entries) next is in
    let fate = then_ok (ok_or (slice_get c.fates number) (fault_at FateCount number)) (λ f. entry_by judged table c f entry r) one.0 one.1 in
    by entry refl fate.0 one.0 fate.2 (taken_items judged table c entries one.0 next one.2)
  where
    by : (x : Result Item Reason) → entry ≡ x → (fate : Fate) (mid : Replay) → entry_by judged table c fate x r ≡ Ok mid
        → (items : List Item) × (map ok_item items ≡ entries) → (items : List Item) × (map ok_item items ≡ entry ∷ entries)
    by (Ok item) same fate mid at rest =
        (item ∷ rest.0, ap₂ (λ (e : Result Item Reason) (es : List (Result Item Reason)). e ∷ es) (sym same) rest.1)
    by (Err reason) same fate mid at rest = cc

-- The items that were replayed may have been sent.
replay_is_sent : (judged : Option Side) (table : Table) (c : Certificate) (items : List Item) (r : Replay)
    → taken judged table c (map ok_item items) ≡ Ok r → MayBeSent judged items table
replay_is_sent judged table c items r is =
    let goes = taken_from judged table c (map ok_item items) nothing_replayed in
    let fits = first_ok (certificate_fits c) goes is in
    let from : goes ≡ Ok r = ap (λ (o : Result (Unit {0}) CheckFault). o >> goes) (sym fits) ∙ is in
    let so = taken_stands judged table c (map entry_of items) r (ap (taken judged table c) (items_of_entries items) ∙ is) in
    let sent : r.world.sent ≡ items = sym (same_items (map entry_of items) items r.world.sent (entries_are items) so.are) in
    by judged from so.so (r.world, so.runs, sent)
  where
    by : (judged : Option Side) → taken_from judged table c (map ok_item items) nothing_replayed ≡ Ok r → IsSo judged c (next_entry r) r
        → IsRunOf items table r.events → MayBeSent judged items table
    by None from so run =
        let fated = taken_is_fated table c items nothing_replayed r from tt in
        let keeps : BothKeepRules r.events = (fated_keeps c.fates sides.A r.events fated, fated_keeps c.fates sides.B r.events fated) in
        (length r.events, (r.events, run, keeps, refl))
    by (Some side) from so run = (r.events, run, own_keeps side r.events so)

never_kept : (o : Result ReplayState CheckFault) (fault : CheckFault) → o ≡ Err fault → IsTrue (is_ok o) → ⊥
never_kept (Ok k) fault is so = cc
never_kept (Err other) fault is so = cc

-- Entries that a checker took, and did not refuse, were replayed.
pub took_may_be_sent : (s : CheckerState) (entries : List (Result Item Reason)) → HasTaken s entries → IsTrue (is_ok s.so_far)
    → (items : List Item) × (map ok_item items ≡ entries) × MayBeSent s.judged items s.table
took_may_be_sent s entries took passed = by (taken s.judged s.table s.certificate entries) refl took
  where
    by : (o : Result Replay CheckFault) → taken s.judged s.table s.certificate entries ≡ o
        → s.so_far ≡ map_ok (kept_of false s.judged s.certificate) o
        → (items : List Item) × (map ok_item items ≡ entries) × MayBeSent s.judged items s.table
    by (Err fault) at same = absurd (never_kept s.so_far fault same passed)
    by (Ok r) at same =
        let goes = taken_from s.judged s.table s.certificate entries nothing_replayed in
        let fits = first_ok (certificate_fits s.certificate) goes at in
        let from : goes ≡ Ok r = ap (λ (o : Result (Unit {0}) CheckFault). o >> goes) (sym fits) ∙ at in
        let found = taken_items s.judged s.table s.certificate entries nothing_replayed r from in (
          found.0,
          found.1,
          replay_is_sent s.judged s.table s.certificate found.0 r (ap (taken s.judged s.table s.certificate) found.1 ∙ at),
        )
