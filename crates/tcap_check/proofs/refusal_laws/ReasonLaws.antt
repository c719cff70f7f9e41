-- What a refusal shows of the certificate and the entries, for each choice of judged ends.
use Rattle.std.proofs.Common.{◌≡◌, ◌⊎◌, inl, inr, ℕ, ◌+◌, ◌<◌, ◌≤◌, ◌==◌, arith, true, false, List, [], ◌∷◌, ◌++◌, map, length, Option, Some, None, Result, Ok, Err, refl, sym, ap, subst, ◌∙◌, append-nil, append_assoc}
use Rattle.std.specs.Prelude.{not, ok_or, slice_get}
use Rattle.std.proofs.lemmas.Bool.{eq-eqb, eqb-false, eqb-true}
use Rattle.std.proofs.lemmas.List.{map-append}
use Rattle.std.proofs.lemmas.Option.{slice_get_within}
use Rattle.tcap_ber.specs.declared.fault.Fault.{Fault}
use Rattle.tcap_msg.specs.declared.message.Message.{Message}
use Rattle.tcap_record.specs.declared.entry.End.{End as Side}
use Rattle.tcap_record.specs.declared.entry.Body.{Body}
use Rattle.tcap_record.specs.declared.entry.Body.TheVariants.{Good, Bad, Quiet as QuietMark}
use Rattle.tcap_record.specs.declared.entry.Entry.{Entry}
use Rattle.tcap_end.specs.Step.{◌>>=◌, ◌>>◌}
use Rattle.tcap_end.specs.Table.{Table}
use Rattle.tcap_end.proofs.AnsweringLaws.{needs_ok, some_ok, then_ok}
use Rattle.tcap_certificate.specs.declared.fault.CheckFault.{CheckFault}
use Rattle.tcap_model.specs.declared.reason.Reason.{Reason}
use Rattle.tcap_model.specs.declared.reason.Reason.TheVariants as reasons
use Rattle.tcap_certificate.specs.declared.certificate.Fate.{Fate}
use Rattle.tcap_certificate.specs.declared.certificate.Fate.TheVariants.{Gap, Lost, By}
use Rattle.tcap_model.specs.World.{Item, Sent}
use Rattle.tcap_model.specs.Run.{Event, Quiet}
use Rattle.tcap_certificate.specs.Certificate.{Certificate}
use Rattle.tcap_model.specs.Entries.{IsItem, item_by, item_of}
use Rattle.tcap_certificate.specs.DescribedRun.{FatesFit, quiet_by, sending, sending_by, taken_by}
use Rattle.tcap_check.specs.GivenRun.{IsNoItem, IsReason}
use Rattle.tcap_check.specs.CheckerMeaning.{taken, taken_from, taken_next}
use Rattle.tcap_certificate.specs.Replay.{Replay, certificate_fits, entries_by, entry_by, fates_fit, fault_at, gap_by, is_gap, is_nothing, is_overtaking, lost_last, mark_judged, next_entry, nothing_replayed, own_judged, replayed_by}
use Rattle.tcap_check.proofs.replay_laws.ReplayGaps.{fates_ok}
use Rattle.tcap_check.proofs.replay_laws.ReplayLaws.{IsSentBy, message_replays}
use Rattle.tcap_check.proofs.refusal_laws.FollowingLaws.{follows_nothing}
use Rattle.tcap_check.proofs.refusal_laws.PendingLaws.{alone_next, IsSo, SendsSoFar}
use Rattle.tcap_check.proofs.checker_laws.EntryLaws.{taken_more}
use Rattle.tcap_check.proofs.refusal_laws.PendingBoth.{stands_next}
use Rattle.tcap_check.proofs.refusal_laws.ReasonGaps.{Says, as_many, both_err, certificate_says, gap_says, needs_err, next_at, none_err, says, then_err}
use Rattle.tcap_check.proofs.refusal_laws.ReasonItems.{sent_says}
use Rattle.tcap_check.proofs.refusal_laws.ReasonMarks.{gap_stands, quiet_says}
use Rattle.tcap_check.proofs.replay_laws.ReplayEntries.{item_is, nothing_is, quiet_happens}
use Rattle.tcap_check.proofs.progress_laws.KeptEntries.{gap_sends}

-- ---- entries, one by one

-- An entry that is no item shows the reason.
no_item_says : (judged : Option Side) (table : Table) (c : Certificate) (entries : List Entry) (entry : Entry) (number : ℕ) (reason : Reason)
    → slice_get entries number ≡ Some entry → item_of entry ≡ Err reason → IsReason judged table c entries number reason
no_item_says judged table c entries entry number reason there is = by entry.side entry.body refl refl is
  where
    bad : (fault : Fault) → entry.body ≡ Bad fault → reasons.BadMessage fault ≡ reason → IsReason judged table c entries number reason
    bad fault at same = subst (IsReason judged table c entries number) same (entry, there, at)

    none : IsNoItem entry → reasons.NoItem ≡ reason → IsReason judged table c entries number reason
    none why same = subst (IsReason judged table c entries number) same (entry, there, why)

    by : (side : Option Side) (body : Body) → entry.side ≡ side → entry.body ≡ body → item_by side body ≡ Err reason
        → IsReason judged table c entries number reason
    by (Some side) (Good message) of at refuses = cc
    by (Some side) (Bad fault) of at refuses = bad fault at cc
    by (Some side) QuietMark of at refuses = none (inr (side, of, at)) cc
    by None (Good message) of at refuses = none (inl (message, of, at)) cc
    by None (Bad fault) of at refuses = bad fault at cc
    by None QuietMark of at refuses = cc

-- What the refusal of an entry shows.
entry_says : (judged : Option Side) (table : Table) (c : Certificate) (front rest : List Entry) (entry : Entry) (fate : Fate) (r : Replay) (fault : CheckFault)
    → FatesFit (length c.fates) 0 c.fates → SendsSoFar judged table c front (next_entry r) r → taken judged table c (map item_of front) ≡ Ok r
    → slice_get c.fates (next_entry r) ≡ Some fate → entry_by judged table c fate (item_of entry) r ≡ Err fault
    → Says judged table c (front ++ entry ∷ rest) fault
entry_says judged table c front rest entry fate r fault fit old took has is = by (item_of entry) refl is
  where
    by : (o : Result Item Reason) → item_of entry ≡ o → entry_by judged table c fate o r ≡ Err fault
        → Says judged table c (front ++ entry ∷ rest) fault
    by (Ok (Sent side message)) at refuses =
        sent_says judged table c front rest entry fate side message r fault old (item_is entry (Sent side message) at) has refuses
    by (Ok Item.Quiet) at refuses =
        quiet_says judged table c front rest entry fate r fault fit old took (item_is entry Item.Quiet at) has refuses
    by (Err reason) at refuses =
        let there = next_at front rest entry (next_entry r) (sym (as_many front r.world.sent old.are)) in
        says judged table c (front ++ entry ∷ rest) reason (next_entry r) fault (cc)
        (no_item_says judged table c (front ++ entry ∷ rest) entry (next_entry r) reason there at)

-- If both ends are judged, `SendsSoFar` holds after a gap and then an item.
item_stands : (table : Table) (c : Certificate) (front : List Entry) (entry : Entry) (item : Item) (fate : Fate) (r mid next : Replay)
    → FatesFit (length c.fates) 0 c.fates → SendsSoFar None table c front (next_entry r) r → IsItem entry item
    → slice_get c.fates (next_entry r) ≡ Some fate → (item ≡ Item.Quiet → fate ≡ Gap (next_entry r + 1))
    → gap_by None table c r ≡ Ok mid → IsSentBy table c item mid next
    → SendsSoFar None table c (front ++ entry ∷ []) (next_entry next) next
item_stands table c front entry item fate r mid next fit old is has mark goes sent =
    let number : next_entry mid ≡ next_entry r = ap length (gap_sends None table c r mid goes) in
    let stands = subst (λ (n : ℕ). SendsSoFar None table c front (n + 1) mid) (sym number) (gap_stands None table c front r mid old goes) in
    stands_next table c (length c.fates) front entry item fate mid next fit stands is (ap (slice_get c.fates) number ∙ has)
    (λ e. mark e ∙ ap (λ (n : ℕ). Gap (n + 1)) (sym number)) sent

-- The fate of a quiet mark is the next gap.
gap_of : (gap : ℕ) (fate : Fate) → is_gap gap fate ≡ true → fate ≡ Gap gap
gap_of gap (Gap g) is = ap Gap (eqb-true g gap is)
gap_of gap Lost is = cc
gap_of gap (By k) is = cc

-- `SendsSoFar` holds after a quiet mark.
quiet_stands : (table : Table) (c : Certificate) (front : List Entry) (entry : Entry) (fate : Fate) (r next : Replay)
    → FatesFit (length c.fates) 0 c.fates → SendsSoFar None table c front (next_entry r) r → IsItem entry Item.Quiet
    → slice_get c.fates (next_entry r) ≡ Some fate → mark_judged None table c fate r ≡ Ok next
    → SendsSoFar None table c (front ++ entry ∷ []) (next_entry next) next
quiet_stands table c front entry fate r next fit old is has goes =
    let number = next_entry r in
    let so = needs_ok (is_gap (number + 1) fate) (fault_at reasons.FateRange number) _ next goes in
    let gap = then_ok (gap_by None table c r) _ next so.1 in
    let free = needs_ok (is_nothing (taken_by number 0 c.fates)) (fault_at reasons.NotQuiet number) _ next gap.2 in
    let fate_is = gap_of (number + 1) fate so.0 in
    let same : next_entry gap.0 ≡ number = ap length (gap_sends None table c r gap.0 gap.1) in
    let by_gap : quiet_by number (Some (Gap (number + 1))) ≡ Some Quiet = rw (eq-eqb (number + 1) (number + 1) refl) refl in
    let sends : sending c number Item.Quiet ≡ Some Quiet =
    ap (sending_by c number Item.Quiet) (nothing_is (taken_by number 0 c.fates) free.0) ∙ ap (quiet_by number) has
    ∙ ap (λ (f : Fate). quiet_by number (Some f)) fate_is ∙ by_gap in
    item_stands table c front entry Item.Quiet fate r gap.0 next fit old is has (λ e. fate_is) gap.1
    (record {
      implied = [];
      sends = Quiet;
      are_implied = tt;
      sends_is = ap (λ (n : ℕ). sending c n Item.Quiet) same ∙ sends;
      replays = quiet_happens table c number gap.0 next free.1;
    })

-- `SendsSoFar` holds after a message.
sent_stands : (table : Table) (c : Certificate) (front : List Entry) (entry : Entry) (fate : Fate) (side : Side) (message : Message)
    (r next : Replay) → FatesFit (length c.fates) 0 c.fates → SendsSoFar None table c front (next_entry r) r → IsItem entry (Sent side message)
    → slice_get c.fates (next_entry r) ≡ Some fate → own_judged None table c fate side message r ≡ Ok next
    → SendsSoFar None table c (front ++ entry ∷ []) (next_entry next) next
sent_stands table c front entry fate side message r next fit old is has goes =
    let so = needs_ok (not (is_overtaking side fate c.fates r.world.sent)) (fault_at reasons.OutOfOrder (next_entry r)) _ next goes in
    let gap = then_ok (gap_by None table c r) _ next so.1 in
    item_stands table c front entry (Sent side message) fate r gap.0 next fit old is has (λ e. cc) gap.1
    (message_replays table c side message gap.0 next gap.2)

-- `SendsSoFar` holds after an entry, for each choice of judged ends.
pub entry_stands : (judged : Option Side) (table : Table) (c : Certificate) (front : List Entry) (entry : Entry) (fate : Fate) (r next : Replay)
    → FatesFit (length c.fates) 0 c.fates → SendsSoFar judged table c front (next_entry r) r
    → slice_get c.fates (next_entry r) ≡ Some fate → entry_by judged table c fate (item_of entry) r ≡ Ok next
    → SendsSoFar judged table c (front ++ entry ∷ []) (next_entry next) next
entry_stands judged table c front entry fate r next fit old has is = by judged old (item_of entry) refl is
  where
    by : (judged : Option Side) → SendsSoFar judged table c front (next_entry r) r → (o : Result Item Reason) → item_of entry ≡ o
        → entry_by judged table c fate o r ≡ Ok next → SendsSoFar judged table c (front ++ entry ∷ []) (next_entry next) next
    by None old (Ok (Sent side message)) at goes =
        sent_stands table c front entry fate side message r next fit old (item_is entry (Sent side message) at) has goes
    by None old (Ok Item.Quiet) at goes = quiet_stands table c front entry fate r next fit old (item_is entry Item.Quiet at) has goes
    by (Some side) old (Ok item) at goes = alone_next side table c front entry item fate r next fit old (item_is entry item at) has goes
    by judged old (Err reason) at goes = cc

more_left : (n count : ℕ) → n ≤ count → (n ≡ count → ⊥) → n < count
more_left n count within apart = omega arith

-- One more entry was taken.
took_one : (judged : Option Side) (table : Table) (c : Certificate) (front : List Entry) (entry : Entry) (fate : Fate) (r next : Replay)
    → taken judged table c (map item_of front) ≡ Ok r → slice_get c.fates (next_entry r) ≡ Some fate
    → entry_by judged table c fate (item_of entry) r ≡ Ok next → taken judged table c (map item_of (front ++ entry ∷ [])) ≡ Ok next
took_one judged table c front entry fate r next took has goes =
    ap (taken judged table c) (map-append item_of front (entry ∷ []))
    ∙ taken_more judged table c (map item_of front) (item_of entry)
    ∙ ap (λ (o : Result Replay CheckFault). o >>= taken_next judged table c (item_of entry)) took
    ∙ ap (λ (o : Option Fate). ok_or o (fault_at reasons.FateCount (next_entry r)) >>= λ f. entry_by judged table c f (item_of entry) r) has
    ∙ goes

-- What the refusal of these entries shows.
entries_say : (judged : Option Side) (table : Table) (c : Certificate) (front rest : List Entry) (r : Replay) (fault : CheckFault)
    → FatesFit (length c.fates) 0 c.fates → SendsSoFar judged table c front (next_entry r) r → taken judged table c (map item_of front) ≡ Ok r
    → entries_by judged table c (map item_of rest) r ≡ Err fault → Says judged table c (front ++ rest) fault
entries_say judged table c front [] r fault fit old took is =
    by (needs_err (next_entry r == length c.fates) (fault_at reasons.FateCount (next_entry r)) (gap_by judged table c r) fault is)
  where
    by : (((next_entry r == length c.fates) ≡ false) × (fault_at reasons.FateCount (next_entry r) ≡ fault))
        ⊎ (((next_entry r == length c.fates) ≡ true) × (gap_by judged table c r ≡ Err fault))
        → Says judged table c (front ++ []) fault
    by (inl (differ, same)) =
        let all : next_entry r ≡ length (front ++ []) =
        sym (as_many front r.world.sent old.are) ∙ ap length (sym (append-nil front)) in
        let apart : next_entry r ≡ length c.fates → ⊥ = eqb-false (next_entry r) (length c.fates) differ in
        says judged table c (front ++ []) reasons.FateCount (next_entry r) fault same
        (inr (all, more_left (next_entry r) (length c.fates) old.counted apart))
    by (inr (counted, no_gap)) = gap_says judged table c front [] r fault old.are no_gap
entries_say judged table c front (entry ∷ rest) r fault fit old took is =
    by (then_err (ok_or (slice_get c.fates (next_entry r)) (fault_at reasons.FateCount (next_entry r))) _ fault is)
    (λ next stands so. entries_say judged table c (front ++ entry ∷ []) rest next fault fit stands so)
  where
    all : List Entry
    all = front ++ entry ∷ rest

    Goes : Type 0
    Goes = (next : Replay) → SendsSoFar judged table c (front ++ entry ∷ []) (next_entry next) next
        → taken judged table c (map item_of (front ++ entry ∷ [])) ≡ Ok next → entries_by judged table c (map item_of rest) next ≡ Err fault
        → Says judged table c ((front ++ entry ∷ []) ++ rest) fault

    behind : (fate : Fate) → slice_get c.fates (next_entry r) ≡ Some fate
        → (entry_by judged table c fate (item_of entry) r ≡ Err fault)
        ⊎ ((next : Replay) × (entry_by judged table c fate (item_of entry) r ≡ Ok next)
        × (entries_by judged table c (map item_of rest) next ≡ Err fault))
        → Goes → Says judged table c all fault
    behind fate has (inl refuses) on = entry_says judged table c front rest entry fate r fault fit old took has refuses
    behind fate has (inr (next, goes, refuses)) on =
        let said = on next (entry_stands judged table c front entry fate r next fit old has goes)
        (took_one judged table c front entry fate r next took has goes) refuses in
        subst (λ (es : List Entry). Says judged table c es fault) (append_assoc front (entry ∷ []) rest) said

    by : (ok_or (slice_get c.fates (next_entry r)) (fault_at reasons.FateCount (next_entry r)) ≡ Err fault)
        ⊎ ((fate : Fate) × (ok_or (slice_get c.fates (next_entry r)) (fault_at reasons.FateCount (next_entry r)) ≡ Ok fate)
        × ((entry_by judged table c fate (item_of entry) r >>= entries_by judged table c (map item_of rest)) ≡ Err fault))
        → Goes → Says judged table c all fault
    by (inl refuses) on =
        let none = none_err (slice_get c.fates (next_entry r)) (fault_at reasons.FateCount (next_entry r)) fault refuses in
        let there = next_at front rest entry (next_entry r) (sym (as_many front r.world.sent old.are)) in
        says judged table c all reasons.FateCount (next_entry r) fault none.1
        (inl (slice_get_within all (next_entry r) entry there, none.0))
    by (inr (fate, found, refuses)) on =
        let has = some_ok (slice_get c.fates (next_entry r)) (fault_at reasons.FateCount (next_entry r)) fate found in
        behind fate has (then_err (entry_by judged table c fate (item_of entry) r) _ fault refuses) on

-- `SendsSoFar` holds at the start.
pub nothing_stands : (judged : Option Side) (table : Table) (c : Certificate)
    → SendsSoFar judged table c [] (next_entry nothing_replayed) nothing_replayed
nothing_stands judged table c = record {
  runs = refl;
  are = tt;
  counted = omega arith;
  taken = λ n side message fate heard is has over. cc;
  so = by judged;
}
  where
    by : (judged : Option Side) → IsSo judged c (next_entry nothing_replayed) nothing_replayed
    by None = record {
      marks = λ n is. cc;
      follows = record { before = λ is. follows_nothing c; behind = λ is. absurd (omega (arith, is)) };
    }
    by (Some side) = tt

pub first_ok : {B F : Type 0} (step : Result (Unit {0}) F) (rest : Result B F) {x : B} → (step >> rest) ≡ Ok x → step ≡ Ok tt
first_ok (Ok tt) rest is = refl
first_ok (Err reason) rest is = cc

-- What a refusal shows.
pub refusal_says : (judged : Option Side) (table : Table) (c : Certificate) (entries : List Entry) (fault : CheckFault)
    → replayed_by judged table c entries ≡ Err fault → IsReason judged table c entries fault.entry fault.reason
refusal_says judged table c entries fault is = by (both_err (certificate_fits c) _ fault is)
  where
    whole : Result Replay CheckFault
    whole = entries_by judged table c (map item_of entries) nothing_replayed

    fits : certificate_fits c ≡ Ok tt → FatesFit (length c.fates) 0 c.fates
    fits ok = fates_ok (length c.fates) 0 c.fates (first_ok (fates_fit (length c.fates) 0 c.fates) _ ok)

    took : certificate_fits c ≡ Ok tt → taken judged table c [] ≡ Ok nothing_replayed
    took ok = ap (λ (o : Result (Unit {0}) CheckFault). o >> taken_from judged table c [] nothing_replayed) ok

    walk : certificate_fits c ≡ Ok tt → (whole ≡ Err fault)
        ⊎ ((r : Replay) × (whole ≡ Ok r) × ((let o : Result (List Event) CheckFault = Ok (lost_last judged c r).events in o) ≡ Err fault))
        → Says judged table c entries fault
    walk ok (inl refuses) =
        entries_say judged table c [] entries nothing_replayed fault (fits ok) (nothing_stands judged table c) (took ok) refuses
    walk ok (inr (r, goes, differ)) = cc

    by : (certificate_fits c ≡ Err fault)
        ⊎ ((certificate_fits c ≡ Ok tt) × ((whole >>= λ r. Ok (lost_last judged c r).events) ≡ Err fault))
        → Says judged table c entries fault
    by (inl refuses) = certificate_says judged table c entries fault refuses
    by (inr (ok, refuses)) = walk ok (then_err whole _ fault refuses)
