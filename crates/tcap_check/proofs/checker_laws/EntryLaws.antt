-- The steps over what is kept are those of the replay, entry by entry, for each choice of judged ends.
use Rattle.std.proofs.Common.{◌≡◌, ℕ, ◌+◌, ◌==◌, Bool, true, false, List, [], ◌∷◌, ◌++◌, length, Option, Some, None, Result, Ok, Err, refl, sym, ap, ap₂, ◌∙◌, zero-add}
use Rattle.std.specs.Prelude.{ok_or, slice_get}
use Rattle.tcap_record.specs.declared.entry.End.{End as Side}
use Rattle.tcap_end.specs.Table.{Table}
use Rattle.tcap_end.specs.Step.{needs, ◌>>◌, ◌>>=◌}
use Rattle.tcap_certificate.specs.declared.certificate.Fate.{Fate}
use Rattle.tcap_certificate.specs.declared.fault.CheckFault.{CheckFault}
use Rattle.tcap_model.specs.declared.reason.Reason.{Reason}
use Rattle.tcap_model.specs.declared.reason.Reason.TheVariants.{FateCount}
use Rattle.tcap_check.specs.declared.outline.Outline.{Outline}
use Rattle.tcap_check.specs.declared.progress.Progress.{Progress}
use Rattle.tcap_model.specs.World.{Item}
use Rattle.tcap_certificate.specs.Certificate.{Certificate}
use Rattle.tcap_certificate.specs.Replay.{Replay, certificate_fits, entries_by, entry_by, fault_at, gap_by, item_by, lost_last, next_entry, nothing_replayed}
use Rattle.tcap_check.specs.EntryOutlines.{is_named, outline_of, outlines_from, since_from}
use Rattle.tcap_check.specs.Progress.{last_lost}
use Rattle.tcap_check.specs.CheckerMeaning.{CheckerState, ReplayState, HasTakenListing, ended, entry_kept, gap_before, kept_ended, kept_next, kept_of, kept_with, map_ok, progress_of, taken, taken_from, taken_next}
use Rattle.tcap_check.proofs.progress_laws.KeptBasics.{last_is, map_both, ok_behind, then_same, then_then}
use Rattle.tcap_check.proofs.progress_laws.KeptEntries.{item_is, item_sends, outlines_more, since_more, IsHeard, gap_keeps, heard_empty}
use Rattle.tcap_check.proofs.progress_laws.KeptGaps.{gap_is, outlines_count}

pub taken_is_heard : (judged : Option Side) (table : Table) (c : Certificate) (entries : List (Result Item Reason)) (r : Replay)
    → taken judged table c entries ≡ Ok r → IsHeard judged r
taken_is_heard None table c entries r is = tt
taken_is_heard (Some judged) table c entries r is = heard_empty judged table c entries r is

pub gap_is_heard : (judged : Option Side) (table : Table) (c : Certificate) (r next : Replay) → IsHeard judged r
    → gap_by judged table c r ≡ Ok next → IsHeard judged next
gap_is_heard None table c r next empty is = tt
gap_is_heard (Some judged) table c r next empty is = gap_keeps judged table c r next is ∙ empty

-- ---- the parts of an entry

-- What is kept after one more entry.
kept_more : (listing : Bool) (judged : Option Side) (c : Certificate) (item : Item) (r next : Replay) → next.world.sent ≡ r.world.sent ++ item ∷ []
    → kept_with c item (kept_of listing judged c r) (progress_of listing judged c next) ≡ kept_of listing judged c next
kept_more listing judged c item r next sent =
    ap₂ (λ (entries : List Outline) (since : ℕ).
    let k : ReplayState = record { progress = progress_of listing judged c next; entries = entries; since = since } in k) entries since
  where
    items : List Item
    items = r.world.sent

    -- the number of the entry, counted over the outlines
    count : 0 + length items ≡ length (outlines_from c 0 items)
    count = zero-add (length items) ∙ sym (outlines_count c 0 items)

    entries : outlines_from c 0 items ++ outline_of (is_named c (length (outlines_from c 0 items))) item ∷ []
        ≡ outlines_from c 0 next.world.sent
    entries = sym (ap (outlines_from c 0) sent ∙ outlines_more c 0 items item
        ∙ ap (λ (k : ℕ). outlines_from c 0 items ++ outline_of (is_named c k) item ∷ []) count)

    since : since_from (since_from 0 0 items) (length (outlines_from c 0 items)) (item ∷ [])
        ≡ since_from 0 0 next.world.sent
    since = sym (ap (since_from 0 0) sent ∙ since_more 0 0 items item
        ∙ ap (λ (k : ℕ). since_from (since_from 0 0 items) k (item ∷ [])) count)

-- ---- an entry

module _ (listing : Bool) (judged : Option Side) (table : Table) (c : Certificate) where
  entry_is : (fate : Fate) (entry : Result Item Reason) (r : Replay) → slice_get c.fates (next_entry r) ≡ Some fate
      → entry_kept judged table c fate entry (kept_of listing judged c r) ≡ map_ok (kept_of listing judged c) (entry_by judged table c fate entry r)
  entry_is fate (Ok item) r has =
      ap (map_ok (kept_with c item (kept_of listing judged c r))) (item_is listing judged table c fate item r has)
      ∙ map_both (progress_of listing judged c) (kept_with c item (kept_of listing judged c r)) (kept_of listing judged c) (item_by judged table c fate item r)
      (λ next is. kept_more listing judged c item r next (item_sends judged table c fate item r next has is))
  entry_is fate (Err reason) r has = rw (outlines_count c 0 r.world.sent) refl

  next_is : (entry : Result Item Reason) (r : Replay)
      → kept_next judged table c entry (kept_of listing judged c r) ≡ map_ok (kept_of listing judged c) (taken_next judged table c entry r)
  next_is entry r =
      ap (λ (n : ℕ). ok_or (slice_get c.fates n) (fault_at FateCount n)
      >>= λ fate. entry_kept judged table c fate entry (kept_of listing judged c r)) (outlines_count c 0 r.world.sent)
      ∙ by (slice_get c.fates (next_entry r)) refl
    where
      by : (o : Option Fate) → slice_get c.fates (next_entry r) ≡ o
          → (ok_or o (fault_at FateCount (next_entry r)) >>= λ fate. entry_kept judged table c fate entry (kept_of listing judged c r))
          ≡ map_ok (kept_of listing judged c) (ok_or o (fault_at FateCount (next_entry r)) >>= λ fate. entry_by judged table c fate entry r)
      by None has = refl
      by (Some fate) has = entry_is fate entry r has

  -- the last gap, and the losses after it
  ended_is : (r : Replay) → kept_ended judged table c (kept_of listing judged c r)
      ≡ map_ok (progress_of listing judged c) (map_ok (lost_last judged c) (ended judged table c r))
  ended_is r =
      ap (λ (n : ℕ). needs (n == length c.fates) (fault_at FateCount n) >> (gap_before judged table c (kept_of listing judged c r) >>= lost))
      (outlines_count c 0 r.world.sent)
      ∙ ap (λ (x : Result Progress CheckFault). needs (next_entry r == length c.fates) (fault_at FateCount (next_entry r)) >> (x >>= lost))
      (gap_is listing judged table c r)
      ∙ by (next_entry r == length c.fates) (gap_by judged table c r)
    where
      lost : Progress → Result Progress CheckFault
      lost p = Ok (last_lost judged p)

      by : (b : Bool) (s : Result Replay CheckFault)
          → (needs b (fault_at FateCount (next_entry r)) >> (map_ok (progress_of listing judged c) s >>= lost))
          ≡ map_ok (progress_of listing judged c) (map_ok (lost_last judged c) (needs b (fault_at FateCount (next_entry r)) >> s))
      by true (Ok next) = ap (λ (p : Progress). let x : Result Progress CheckFault = Ok p in x) (last_is listing judged c next)
      by true (Err reason) = refl
      by false s = refl

-- ---- entries, one by one

module _ (judged : Option Side) (table : Table) (c : Certificate) where
  more_from : (entries : List (Result Item Reason)) (entry : Result Item Reason) (r : Replay)
      → taken_from judged table c (entries ++ entry ∷ []) r ≡ (taken_from judged table c entries r >>= taken_next judged table c entry)
  more_from [] entry r = ok_behind (taken_next judged table c entry r)
  more_from (first ∷ entries) entry r =
      then_same (taken_next judged table c first r) (taken_from judged table c (entries ++ entry ∷ []))
      (λ next. taken_from judged table c entries next >>= taken_next judged table c entry) (more_from entries entry)
      ∙ sym (then_then (taken_next judged table c first r) (taken_from judged table c entries) (taken_next judged table c entry))

  pub taken_more : (entries : List (Result Item Reason)) (entry : Result Item Reason)
      → taken judged table c (entries ++ entry ∷ []) ≡ (taken judged table c entries >>= taken_next judged table c entry)
  taken_more entries entry = by (certificate_fits c)
    where
      by : (fits : Result (Unit {0}) CheckFault)
          → (fits >> taken_from judged table c (entries ++ entry ∷ []) nothing_replayed)
          ≡ (fits >> taken_from judged table c entries nothing_replayed >>= taken_next judged table c entry)
      by (Ok done) = more_from entries entry nothing_replayed
      by (Err fault) = refl

  replayed_from : (entries : List (Result Item Reason)) (r : Replay)
      → entries_by judged table c entries r ≡ (taken_from judged table c entries r >>= ended judged table c)
  replayed_from [] r = refl
  replayed_from (entry ∷ entries) r =
      sym (then_then (ok_or (slice_get c.fates (next_entry r)) (fault_at FateCount (next_entry r)))
      (λ fate. entry_by judged table c fate entry r) (entries_by judged table c entries))
      ∙ then_same (taken_next judged table c entry r) (entries_by judged table c entries)
      (λ next. taken_from judged table c entries next >>= ended judged table c) (replayed_from entries)
      ∙ sym (then_then (taken_next judged table c entry r) (taken_from judged table c entries) (ended judged table c))

  pub replayed_is : (entries : List (Result Item Reason))
      → (certificate_fits c >> entries_by judged table c entries nothing_replayed)
      ≡ (taken judged table c entries >>= ended judged table c)
  replayed_is entries = by (certificate_fits c)
    where
      by : (fits : Result (Unit {0}) CheckFault)
          → (fits >> entries_by judged table c entries nothing_replayed)
          ≡ (fits >> taken_from judged table c entries nothing_replayed >>= ended judged table c)
      by (Ok done) = replayed_from entries nothing_replayed
      by (Err fault) = refl

-- ---- a checker

-- A step over what is kept follows a step of the replay.
then_made : {B C : Type 0} (f : Replay → B) (g : Replay → C) (step : Result Replay CheckFault) (kept : B → Result C CheckFault)
    (on : Replay → Result Replay CheckFault) → ((x : Replay) → step ≡ Ok x → kept (f x) ≡ map_ok g (on x))
    → (map_ok f step >>= kept) ≡ map_ok g (step >>= on)
then_made f g (Ok x) kept on same = same x refl
then_made f g (Err reason) kept on same = refl

-- If a checker implements the replay of these entries, its next step implements one more.
pub took_next : (listing : Bool) (s : CheckerState) (entries : List (Result Item Reason)) (entry : Result Item Reason) → HasTakenListing listing s entries
    → (s.so_far >>= kept_next s.judged s.table s.certificate entry)
    ≡ map_ok (kept_of listing s.judged s.certificate) (taken s.judged s.table s.certificate (entries ++ entry ∷ []))
took_next listing s entries entry took =
    ap (λ (x : Result ReplayState CheckFault). x >>= kept_next s.judged s.table s.certificate entry) took
    ∙ then_made (kept_of listing s.judged s.certificate) (kept_of listing s.judged s.certificate) (taken s.judged s.table s.certificate entries)
    (kept_next s.judged s.table s.certificate entry) (taken_next s.judged s.table s.certificate entry)
    (λ r is. next_is listing s.judged s.table s.certificate entry r)
    ∙ ap (map_ok (kept_of listing s.judged s.certificate)) (sym (taken_more s.judged s.table s.certificate entries entry))

pub took_end : (listing : Bool) (s : CheckerState) (entries : List (Result Item Reason)) → HasTakenListing listing s entries
    → (s.so_far >>= kept_ended s.judged s.table s.certificate)
    ≡ map_ok (progress_of listing s.judged s.certificate) (map_ok (lost_last s.judged s.certificate)
    (certificate_fits s.certificate >> entries_by s.judged s.table s.certificate entries nothing_replayed))
took_end listing s entries took =
    ap (λ (x : Result ReplayState CheckFault). x >>= kept_ended s.judged s.table s.certificate) took
    ∙ then_ended (taken s.judged s.table s.certificate entries)
    ∙ ap (λ (x : Result Replay CheckFault). map_ok (progress_of listing s.judged s.certificate) (map_ok (lost_last s.judged s.certificate) x))
    (sym (replayed_is s.judged s.table s.certificate entries))
  where
    then_ended : (step : Result Replay CheckFault)
        → (map_ok (kept_of listing s.judged s.certificate) step >>= kept_ended s.judged s.table s.certificate)
        ≡ map_ok (progress_of listing s.judged s.certificate) (map_ok (lost_last s.judged s.certificate) (step >>= ended s.judged s.table s.certificate))
    then_ended (Ok r) = ended_is listing s.judged s.table s.certificate r
    then_ended (Err reason) = refl
