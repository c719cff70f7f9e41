-- What was shown of a record as its octets come.
use Rattle.std.proofs.Common.{◌≡◌, ℕ, ◌+◌, ◌≤◌, Bool, true, false, List, [], ◌∷◌, ◌++◌, length, take, drop, Option, refl, sym, ap, ap₂, subst, ◌∙◌, inl, inr, arith, append_assoc, append-nil, take-add, take-append-drop}
use Rattle.std.specs.Prelude.{◌||◌, ◌⊎◌, ◌≢◌, Some, None, Err, Result}
use Rattle.std.specs.List.{list_any}
use Rattle.std.specs.Io.KnownBytes.{Appends}
use Rattle.std.proofs.KnownBytes.{Appends-trans, Appends-nil}
use Rattle.std.proofs.lemmas.List.Folds.{list_any-append}
use Rattle.tcap_record.specs.declared.entry.Entry.{Entry}
use Rattle.tcap_record.specs.declared.fault.FeedFault.{FeedFault}
use Rattle.tcap_record.specs.declared.fault.FeedReason.{FeedReason}
use Rattle.tcap_record.specs.declared.fault.FeedReason.TheVariants as feed
use Rattle.tcap_record.specs.RecordOctets.{IsRestFault}
use Rattle.tcap_record.specs.FramingResult.{feed_fault}
use Rattle.tcap_record.specs.FeederResult.{FailsFrom, FinishesAs}
use Rattle.tcap_record.specs.PartialRecord.{FramerState, IsFramedSoFar, IsFramerState, IsFramerStateWith, IsPart, IsWhole, empty_framer}
use Rattle.tcap_record.proofs.FedLaws.{fed_grown}
use Rattle.tcap_record.proofs.FeederLaws.{taken_on}
use Rattle.tcap_lines.specs.declared.stop.Stop.{Stop}
use Rattle.tcap_lines.specs.declared.stop.Stop.TheVariants as stops
use Rattle.tcap_record.specs.Lines.{lines_of, entry_lines}
use Rattle.tcap_record.specs.Reading.{IsReadAs, FailsOnlyByReader}
use Rattle.tcap_record.proofs.ReadingLaws.{read_to_memory, read_to_fault}
use Rattle.tcap_record.proofs.LineLaws.{lines_one_more}
use Rattle.tcap_lines.specs.ShowRun.{is_bad}
use Rattle.tcap_lines.specs.RecordLines.{ShownSoFar, Leads, UnlessWrite}

-- more octets were taken
pub leads_fed : (h : FramerState) (bad : Bool) (taken : Option (List ℕ)) (piece rest : List ℕ) (n m : ℕ) (mid new : FramerState) (mid_bad : Bool) (mid_taken : Option (List ℕ)) → rest ≡ drop n piece
    → ((octets : List ℕ) (entries : List Entry) → IsFramedSoFar octets entries mid → IsFramedSoFar (octets ++ take m rest) entries new)
    → Leads h bad taken (take n piece) mid mid_bad mid_taken → Leads h bad taken (take (n + m) piece) new mid_bad mid_taken
leads_fed h bad taken piece rest n m mid new mid_bad mid_taken is step leads returned entries start so =
    let was = leads returned entries start so in
    let at : (returned ++ take n piece) ++ take m rest ≡ returned ++ take (n + m) piece =
    append_assoc returned (take n piece) (take m rest) ∙ ap (λ (x : List ℕ). returned ++ (take n piece ++ take m x)) is ∙ ap (λ (x : List ℕ). returned ++ x) (sym (take-add n m piece)) in (
      was.0,
      record {
        fed = subst (λ (x : List ℕ). IsFramedSoFar x was.0 new) at (step (returned ++ take n piece) was.0 was.1.fed);
        written = was.1.written;
        bad_is = was.1.bad_is;
      },
    )

or_false : (b : Bool) → (b || false) ≡ b
or_false true = refl
or_false false = refl

-- an entry was shown and dropped
pub leads_shown : (h : FramerState) (bad : Bool) (taken : Option (List ℕ)) (octets : List ℕ) (mid new : FramerState) (mid_bad : Bool) (mid_taken new_taken : Option (List ℕ)) (entry : Entry)
    → ((fed : List ℕ) (entries : List Entry) → IsFramedSoFar fed entries mid → IsFramedSoFar fed (entries ++ entry ∷ []) new)
    → Appends mid_taken new_taken (entry_lines mid.count entry)
    → Leads h bad taken octets mid mid_bad mid_taken → Leads h bad taken octets new (mid_bad || is_bad entry) new_taken
leads_shown h bad taken octets mid new mid_bad mid_taken new_taken entry step lines leads returned entries start so =
    let was = leads returned entries start so in
    let all : lines_of (was.0 ++ entry ∷ []) ≡ lines_of was.0 ++ entry_lines mid.count entry = lines_one_more 0 mid.count was.0 entry (omega (arith, was.1.fed.count_is)) in
    let one : list_any is_bad (entry ∷ []) ≡ is_bad entry = or_false (is_bad entry) in (
      was.0 ++ entry ∷ [],
      record {
        fed = step (returned ++ octets) was.0 was.1.fed;
        written = subst (Appends start new_taken) (sym all) (Appends-trans start mid_taken new_taken _ _ was.1.written lines);
        bad_is = ap₂ (λ (a b : Bool). a || b) was.1.bad_is (sym one) ∙ sym (list_any-append is_bad was.0 (entry ∷ []));
      },
    )

-- an entry was shown and passed
pub leads_passed : (h : FramerState) (bad : Bool) (taken : Option (List ℕ)) (piece octets : List ℕ) (n m : ℕ) (mid new : FramerState) (mid_bad : Bool) (mid_taken new_taken : Option (List ℕ)) (entry : Entry)
    → octets ≡ take m (drop n piece)
    → ((returned : List ℕ) (entries : List Entry) → IsFramedSoFar returned entries mid → IsFramedSoFar (returned ++ octets) (entries ++ entry ∷ []) new)
    → Appends mid_taken new_taken (entry_lines mid.count entry)
    → Leads h bad taken (take n piece) mid mid_bad mid_taken → Leads h bad taken (take (n + m) piece) new (mid_bad || is_bad entry) new_taken
leads_passed h bad taken piece octets n m mid new mid_bad mid_taken new_taken entry is step lines leads returned entries start so =
    let was = leads returned entries start so in
    let all : lines_of (was.0 ++ entry ∷ []) ≡ lines_of was.0 ++ entry_lines mid.count entry = lines_one_more 0 mid.count was.0 entry (omega (arith, was.1.fed.count_is)) in
    let one : list_any is_bad (entry ∷ []) ≡ is_bad entry = or_false (is_bad entry) in
    let at : (returned ++ take n piece) ++ octets ≡ returned ++ take (n + m) piece = ap (λ (x : List ℕ). (returned ++ take n piece) ++ x) is ∙ taken_on returned piece (drop n piece) n m refl in (
      was.0 ++ entry ∷ [],
      record {
        fed = subst (λ (x : List ℕ). IsFramedSoFar x (was.0 ++ entry ∷ []) new) at (step (returned ++ take n piece) was.0 was.1.fed);
        written = subst (Appends start new_taken) (sym all) (Appends-trans start mid_taken new_taken _ _ was.1.written lines);
        bad_is = ap₂ (λ (a b : Bool). a || b) was.1.bad_is (sym one) ∙ sym (list_any-append is_bad was.0 (entry ∷ []));
      },
    )

-- octets were taken, and then more of the piece
pub leads_then : (h : FramerState) (bad : Bool) (taken : Option (List ℕ)) (piece rest : List ℕ) (n m : ℕ) (mid new : FramerState) (mid_bad new_bad : Bool) (mid_taken new_taken : Option (List ℕ)) → rest ≡ drop n piece
    → Leads mid mid_bad mid_taken (take m rest) new new_bad new_taken
    → Leads h bad taken (take n piece) mid mid_bad mid_taken → Leads h bad taken (take (n + m) piece) new new_bad new_taken
leads_then h bad taken piece rest n m mid new mid_bad new_bad mid_taken new_taken is after leads returned entries start so =
    let was = leads returned entries start so in
    let then = after (returned ++ take n piece) was.0 start was.1 in
    (then.0, subst (λ (x : List ℕ). ShownSoFar x then.0 new new_bad start new_taken) (taken_on returned piece rest n m is) then.1)

-- the octets fed before a failure
pub fails_fed : (f : FeedFault) (old new : FramerState) (piece : List ℕ) → FailsFrom f old new piece
    → (n : ℕ) × (n ≤ length piece) × ((octets : List ℕ) (entries : List Entry) → IsFramedSoFar octets entries old → IsFramedSoFar (octets ++ take n piece) entries new)
fails_fed f old new piece (inl (was, same)) =
    (0, omega arith, λ octets entries fed. rw (same, append-nil octets) fed)
fails_fed f old new piece (inr (inl (sound, (n, most, grew)))) =
    (n, most, λ octets entries fed. rw grew (fed_grown octets entries old (take n piece) (Some f) fed))
fails_fed f old new piece (inr (inr (sound, memory, same, some, part))) =
    (0, omega arith, λ octets entries fed. rw (same, append-nil octets) fed)

-- the reason of a failure
pub fails_why : (f : FeedFault) (old new : FramerState) (piece : List ℕ) → FailsFrom f old new piece → (f ≡ feed_fault feed.Memory 0) ⊎ (new.fault ≡ Some f)
fails_why f old new piece (inl (was, same)) = inr (ap (λ (h : FramerState). h.fault) same ∙ was)
fails_why f old new piece (inr (inl (sound, (n, most, grew)))) = inr (ap (λ (h : FramerState). h.fault) grew)
fails_why f old new piece (inr (inr (sound, memory, same, some, part))) = inl memory

-- without a fault and a whole entry, a part is held
pub part_there : (h : FramerState) → IsFramerState h → h.fault ≡ None → ((h.fault ≡ None) × IsWhole h.octets → ⊥) → IsPart h.octets
part_there h held sound none =
    let with : IsFramerStateWith h None = subst (IsFramerStateWith h) sound held.1 in
    elim with.1 [
      | inl part ↦ part
      | inr whole ↦ absurd (none (sound, whole))
    ]

-- a stop that is not the writer's is a fault
pub is_fault : (stop : Stop) → stop ≢ stops.Write → (f : FeedFault) × (stop ≡ stops.Fault f)
is_fault (stops.Fault f) other = (f, refl)
is_fault stops.Write other = absurd (other refl)

-- ---- why printing stops

-- why printing stops: memory ran out, or the octets held have a fault
abbrev pub IsWhy : FeedFault → FramerState → Type 0
IsWhy f h = (f ≡ feed_fault feed.Memory 0) ⊎ (h.fault ≡ Some f)

pub stopped_read : (returned piece : List ℕ) (n : ℕ) (entries : List Entry) (h : FramerState) (f : FeedFault) → IsFramedSoFar (returned ++ take n piece) entries h → IsFramerState h → IsWhy f h → IsReadAs entries (Err f) (returned ++ piece)
stopped_read returned piece n entries h f fed held why =
    let all : (returned ++ take n piece) ++ drop n piece ≡ returned ++ piece = append_assoc returned (take n piece) (drop n piece) ∙ ap (λ (x : List ℕ). returned ++ x) (take-append-drop n piece) in
    subst (IsReadAs entries (Err f)) all (by_why why)
  where
    by_why : IsWhy f h → IsReadAs entries (Err f) ((returned ++ take n piece) ++ drop n piece)
    by_why (inl memory) = rw memory (read_to_memory (returned ++ take n piece) (drop n piece) entries h fed held)
    by_why (inr wrong) = read_to_fault (returned ++ take n piece) (drop n piece) entries h f fed held wrong

-- the reason is neither a cut entry nor a failed reader
pub not_cut : (h : FramerState) (f : FeedFault) → IsFramerState h → IsWhy f h → f.reason ≢ feed.CutRecord
not_cut h f held (inl memory) is = let bad : feed.Memory ≡ feed.CutRecord = ap (λ (x : FeedFault). x.reason) (sym memory) ∙ is in cc
not_cut h f held (inr wrong) is = (subst (IsFramerStateWith h) wrong held.1).3 is

pub not_read : (h : FramerState) (f : FeedFault) → IsFramerState h → IsWhy f h → f.reason ≢ feed.Read
not_read h f held (inl memory) is = let bad : feed.Memory ≡ feed.Read = ap (λ (x : FeedFault). x.reason) (sym memory) ∙ is in cc
not_read h f held (inr wrong) is =
    let with : IsFramerStateWith h (Some f) = subst (IsFramerStateWith h) wrong held.1 in
    none h.count h.octets with.0 (subst (λ (reason : FeedReason). IsRestFault h.count h.octets reason with.0) is with.2)
  where
    none : (count : ℕ) (rest : List ℕ) (offset : ℕ) → IsRestFault count rest feed.Read offset → ⊥
    none count [] offset h = h
    none count (first ∷ more) offset h = h

-- nothing was taken yet
pub nothing_shown : (h : FramerState) (bad : Bool) (taken : Option (List ℕ)) → h ≡ empty_framer → bad ≡ false → ShownSoFar [] [] h bad taken taken
nothing_shown h bad taken fresh fine = rw (fresh, fine) (record { fed = record { framed = refl; count_is = refl; place_is = refl }; written = Appends-nil taken; bad_is = refl })

pub nothing_is_held : (h : FramerState) → h ≡ empty_framer → IsFramerState h
nothing_is_held h fresh = subst IsFramerState (sym fresh) (omega arith, ((λ some. absurd (some refl)), inl tt))

-- the reader failed as often as before
pub stopped_counts : (f : FeedFault) (h : FramerState) (old new : ℕ) → IsFramerState h → IsWhy f h → new ≡ old → FailsOnlyByReader old new (Err f)
stopped_counts f h old new held why same = ((λ read. absurd (not_read h f held why read)), (λ cut. same), inl same)

pub ended_counts : (f : FeedFault) (h : FramerState) (old new : ℕ) → FinishesAs (Err f) h → h.fault ≡ None → new ≡ old → FailsOnlyByReader old new (Err f)
ended_counts f h old new (inl wrong) sound same = let bad : Some f ≡ None = sym wrong ∙ sound in cc
ended_counts f h old new (inr (none, some, part, is)) sound same =
    ((λ read. let bad : feed.CutRecord ≡ feed.Read = ap (λ (x : FeedFault). x.reason) (sym is) ∙ read in cc), (λ cut. same), inl same)

-- a predicate for each fault holds unless the writer failed
pub unless_write : (Holds : Result (Unit {0}) FeedFault → Type 0) (stop : Stop) → ((f : FeedFault) → stop ≡ stops.Fault f → Holds (Err f)) → UnlessWrite Holds (Err stop)
unless_write Holds (stops.Fault f) holds = holds f refl
unless_write Holds stops.Write holds = tt

pub err_is : (a b : Stop) → (let r : Result (Unit {0}) Stop = Err a in r) ≡ Err b → a ≡ b
err_is a b e = cc
