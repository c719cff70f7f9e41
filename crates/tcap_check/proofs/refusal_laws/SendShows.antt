-- If an entry is refused since its end may not send it, the end that is left refuses to send it. No other step is
-- refused for this reason.
use Rattle.std.proofs.Common.{◌≡◌, ◌⊎◌, inl, inr, ℕ, ◌==◌, ◌+◌, ◌≤◌, ◌<◌, arith, get_or, true, false, List, [], ◌∷◌, length, map, take, Option, Some, None, Result, Ok, Err, refl, sym, ap, subst, ◌∙◌, IfSome}
use Rattle.std.specs.Prelude.{◌&&◌, nat_le, nat_lt, ok_or, slice_get}
use Rattle.std.proofs.lemmas.List.{length-take-le}
use Rattle.std.proofs.lemmas.Option.{slice_get-get_or}
use Rattle.tcap_msg.specs.declared.message.Message.{Message}
use Rattle.tcap_record.specs.declared.entry.End.{End as Side}
use Rattle.tcap_record.specs.declared.entry.End.TheVariants as sides
use Rattle.tcap_record.specs.declared.entry.Entry.{Entry}
use Rattle.tcap_record.specs.Ends.{other}
use Rattle.tcap_end.specs.declared.fault.EndFault.{EndFault}
use Rattle.tcap_end.specs.End.{End}
use Rattle.tcap_end.specs.Message.{send}
use Rattle.tcap_end.specs.Table.{Table}
use Rattle.tcap_model.specs.Entries.{item_of}
use Rattle.tcap_model.specs.World.{Item, Sent}
use Rattle.tcap_end.specs.Step.{needs, ◌>>◌, ◌>>=◌}
use Rattle.tcap_model.specs.declared.reason.Reason.{Reason}
use Rattle.tcap_model.specs.declared.reason.Reason.TheVariants.{BadReply, FateCount, FateRange, Memory}
use Rattle.tcap_model.specs.Run.{Tells}
use Rattle.tcap_certificate.specs.declared.certificate.Fate.{Fate}
use Rattle.tcap_certificate.specs.declared.fault.CheckFault.{CheckFault}
use Rattle.tcap_check.specs.declared.outline.Outline.{Outline}
use Rattle.tcap_check.specs.declared.progress.Progress.{Progress}
use Rattle.tcap_check.specs.declared.replaying.Replaying.{Replaying}
use Rattle.tcap_certificate.specs.Certificate.{Certificate}
use Rattle.tcap_check.specs.CheckerMeaning.{ReplayState, HasTakenListing, entry_kept, gap_before, item_kept, kept_ended, kept_next, kept_of, kept_with, taken, tied_now}
use Rattle.tcap_check.specs.GivenRun.{IsAt}
use Rattle.tcap_check.specs.ReplayInvariants.{checking_of, kept_in}
use Rattle.tcap_check.specs.ReplaySteps.{gap_kept, mark_taken, peer_message_taken}
use Rattle.tcap_check.specs.Progress.{IsMemory, YieldsInMemory, front_lost, last_lost, map_ok, reply_kept, side_at, sent_by}
use Rattle.tcap_certificate.specs.Replay.{Replay, all_fit, certificate_fits, fate_fits, fates_fit, fault_at, is_gap, is_nothing}
use Rattle.tcap_check.specs.RunSoFar.{IsRefusedThere, ShowsAmong, ShowsItem, ShowsSend, of_side, refusal_to_send}
use Rattle.tcap_check.proofs.progress_laws.KeptGaps.{outlines_count}
use Rattle.tcap_check.proofs.refusal_laws.ReasonGaps.{as_many, both_err, needs_err, none_err, then_err}
use Rattle.tcap_check.proofs.replay_laws.ReplayEntries.{item_is}
use Rattle.tcap_check.proofs.refusal_laws.TakenEntriesLaws.{taken_stands}
use Rattle.tcap_check.proofs.refusal_laws.NoSends.{NoSend, answered_no, gap_no, map_err, mark_no, same_no}

-- ---- calls

-- If a step is refused for another reason than a send, so is the call that makes it. A lack of memory is another
-- reason.
in_memory_no : {A : Type 0} (step : Result A CheckFault) (fault : CheckFault) (left : A) → ((f : CheckFault) → step ≡ Err f → NoSend f)
    → YieldsInMemory step (Err fault) left → NoSend fault
in_memory_no step fault left never yields = by (refusal_to_send fault.reason) refl
  where
    by : (o : Option EndFault) → refusal_to_send fault.reason ≡ o → o ≡ None
    by None at = refl
    by (Some reason) at =
        sym at ∙ never fault (yields (λ memory. let none : NoSend fault = same_no (fault_at Memory 0) fault (sym memory) refl in
        let so : Some reason ≡ None = sym at ∙ none in cc))

-- For such a refusal nothing has to be shown.
none_shows : (table : Table) (side : Side) (number : ℕ) (message : Message) (fault : CheckFault) (left : Progress) → NoSend fault
    → (let x : Result (Unit {0}) CheckFault = Err fault in ShowsSend table side number message x left)
none_shows table side number message fault left never = rw never tt

pub memory_shows : (table : Table) (side : Side) (number : ℕ) (message : Message) (result : Result (Unit {0}) CheckFault) (left : Progress)
    → IsMemory result → ShowsSend table side number message result left
memory_shows table side number message (Ok done) left is = tt
memory_shows table side number message (Err fault) left is =
    none_shows table side number message fault left (same_no (fault_at Memory 0) fault (sym is) refl)

step_shows : {A : Type 0} (step : Result A CheckFault) (table : Table) (side : Side) (number : ℕ) (message : Message)
    (result : Result (Unit {0}) CheckFault) (behind : A) (left : Progress) → ((f : CheckFault) → step ≡ Err f → NoSend f)
    → YieldsInMemory step result behind → ShowsSend table side number message result left
step_shows step table side number message (Ok done) behind left never yields = tt
step_shows step table side number message (Err fault) behind left never yields =
    none_shows table side number message fault left (in_memory_no step fault behind never yields)

pub gap_shows : (judged : Option Side) (table : Table) (c : Certificate) (entries : List Outline) (since : ℕ) (p q left : Progress) (side : Side)
    (number : ℕ) (message : Message) (result : Result (Unit {0}) CheckFault) → YieldsInMemory (gap_kept judged table c entries since p) result q
    → ShowsSend table side number message result left
gap_shows judged table c entries since p q left side number message result yields =
    step_shows (gap_kept judged table c entries since p) table side number message result q left (gap_no judged table c entries since p) yields

pub reply_shows : (judged : Option Side) (table : Table) (side from : Side) (fate : Fate) (number at taken : ℕ) (abort message : Message) (p q left : Progress)
    (result : Result (Unit {0}) CheckFault) → YieldsInMemory (reply_kept judged from fate at abort taken p) result q
    → ShowsSend table side number message result left
reply_shows judged table side from fate number at taken abort message p q left result yields =
    let before = front_lost judged (other from) p in
    step_shows (reply_kept judged from fate at abort taken p) table side number message result q left
    (answered_no from fate at abort taken (side_at (other from) before).waiting before) yields

pub told_shows : (table : Table) (side from : Side) (fate : Fate) (number at : ℕ) (told message : Message) (takes : List ℕ) (p q left : Progress)
    (result : Result (Unit {0}) CheckFault) → YieldsInMemory (peer_message_taken from fate at told takes p) result q
    → ShowsSend table side number message result left
told_shows table side from fate number at told message takes p q left result yields =
    step_shows (peer_message_taken from fate at told takes p) table side number message result q left by yields
  where
    sent : Result Progress CheckFault
    sent = Ok (sent_by (Tells from told) from fate at told p)

    of : (fault : CheckFault) → ((is_nothing takes ≡ false) × (fault_at BadReply at ≡ fault)) ⊎ ((is_nothing takes ≡ true) × (sent ≡ Err fault)) → NoSend fault
    of fault (inl (_, same)) = same_no (fault_at BadReply at) fault same refl
    of fault (inr (_, none)) = cc

    by : (fault : CheckFault) → peer_message_taken from fate at told takes p ≡ Err fault → NoSend fault
    by fault is = of fault (needs_err (is_nothing takes) (fault_at BadReply at) sent fault is)

-- ---- entries

next_no : (judged : Option Side) (table : Table) (c : Certificate) (k : ReplayState) (fault : CheckFault)
    → kept_next judged table c (Ok Item.Quiet) k ≡ Err fault → NoSend fault
next_no judged table c k fault is =
    by (then_err (ok_or (slice_get c.fates number) (fault_at FateCount number)) (λ fate. entry_kept judged table c fate (Ok Item.Quiet) k) fault is)
  where
    number : ℕ
    number = length k.entries

    before : Result Progress CheckFault
    before = gap_before judged table c k

    mark : Progress → Result Progress CheckFault
    mark = mark_taken judged table number (tied_now judged c k)

    fits : Fate → Result (Unit {0}) CheckFault
    fits fate = needs (is_gap (number + 1) fate) (fault_at FateRange number)

    of : (fate : Fate) → ((fits fate >> before) ≡ Err fault) ⊎ ((q : Progress) × ((fits fate >> before) ≡ Ok q) × (mark q ≡ Err fault)) → NoSend fault
    of fate (inl none) = one (needs_err (is_gap (number + 1) fate) (fault_at FateRange number) before fault none)
      where
        one : ((is_gap (number + 1) fate ≡ false) × (fault_at FateRange number ≡ fault)) ⊎ ((is_gap (number + 1) fate ≡ true) × (before ≡ Err fault))
            → NoSend fault
        one (inl (_, same)) = same_no (fault_at FateRange number) fault same refl
        one (inr (_, none)) = gap_no judged table c k.entries k.since k.progress fault none
    of fate (inr (q, passed, none)) = mark_no judged table number (tied_now judged c k) q fault none

    by : (ok_or (slice_get c.fates number) (fault_at FateCount number) ≡ Err fault)
        ⊎ ((fate : Fate) × (ok_or (slice_get c.fates number) (fault_at FateCount number) ≡ Ok fate)
        × (entry_kept judged table c fate (Ok Item.Quiet) k ≡ Err fault)) → NoSend fault
    by (inl none) = same_no (fault_at FateCount number) fault (none_err (slice_get c.fates number) (fault_at FateCount number) fault none).1 refl
    by (inr (fate, found, none)) =
        of fate (then_err (fits fate >> before) mark fault (map_err (kept_with c Item.Quiet k) (item_kept judged table c fate Item.Quiet k) fault none))

pub mark_shows : (judged : Option Side) (table : Table) (c : Certificate) (k behind : ReplayState) (number : ℕ) (left : Progress)
    (result : Result (Unit {0}) CheckFault) → YieldsInMemory (kept_next judged table c (Ok Item.Quiet) k) result behind
    → ShowsItem table number (Ok Item.Quiet) result left
mark_shows judged table c k behind number left (Ok done) yields = tt
mark_shows judged table c k behind number left (Err fault) yields =
    in_memory_no (kept_next judged table c (Ok Item.Quiet) k) fault behind (next_no judged table c k) yields

-- an entry that is no item
pub refused_shows : (judged : Option Side) (table : Table) (c : Certificate) (k : ReplayState) (reason : Reason) (fault : CheckFault)
    → refusal_to_send reason ≡ None → kept_next judged table c (Err reason) k ≡ Err fault → refusal_to_send fault.reason ≡ None
refused_shows judged table c k reason fault never is =
    by (then_err (ok_or (slice_get c.fates number) (fault_at FateCount number)) (λ fate. entry_kept judged table c fate (Err reason) k) fault is)
  where
    number : ℕ
    number = length k.entries

    by : (ok_or (slice_get c.fates number) (fault_at FateCount number) ≡ Err fault)
        ⊎ ((fate : Fate) × (ok_or (slice_get c.fates number) (fault_at FateCount number) ≡ Ok fate)
        × (entry_kept judged table c fate (Err reason) k ≡ Err fault)) → NoSend fault
    by (inl none) = same_no (fault_at FateCount number) fault (none_err (slice_get c.fates number) (fault_at FateCount number) fault none).1 refl
    by (inr (fate, found, none)) = same_no (fault_at reason number) fault (cc) never

-- What is shown of this entry, stated for the record.
pub entry_shows : (table : Table) (entries : List Entry) (entry : Entry) (number : ℕ) (fault : CheckFault) (left : Progress)
    → slice_get entries number ≡ Some entry
    → (let x : Result (Unit {0}) CheckFault = Err fault in ShowsItem table number (item_of entry) x left)
    → IsRefusedThere table entries fault left.a.end left.b.end
entry_shows table entries entry number fault left there shows = by (item_of entry) refl (refusal_to_send fault.reason) refl shows
  where
    side_is : (side : Side) → (side_at side left).end ≡ of_side side left.a.end left.b.end
    side_is sides.A = refl
    side_is sides.B = refl

    Found : Option EndFault → Type 0
    Found o = IfSome o (λ reason. (side : Side) × (message : Message) × IsAt entries fault.entry (Sent side message)
        × (send table (of_side side left.a.end left.b.end) message ≡ Err reason))

    sent : (side : Side) (message : Message) (o : Option EndFault) → item_of entry ≡ Ok (Sent side message)
        → IfSome o (λ reason. (fault.entry ≡ number) × (send table (side_at side left).end message ≡ Err reason)) → Found o
    sent side message None at shows = tt
    sent side message (Some reason) at shows = (
      side,
      message,
      (entry, ap (slice_get entries) shows.0 ∙ there, item_is entry (Sent side message) at),
      ap (λ (e : End). send table e message) (sym (side_is side)) ∙ shows.1,
    )

    none : (o : Option EndFault) → refusal_to_send fault.reason ≡ o → refusal_to_send fault.reason ≡ None
        → IsRefusedThere table entries fault left.a.end left.b.end
    none o at never = rw never tt

    by : (item : Result Item Reason) → item_of entry ≡ item → (o : Option EndFault) → refusal_to_send fault.reason ≡ o
        → (let x : Result (Unit {0}) CheckFault = Err fault in ShowsItem table number item x left)
        → IsRefusedThere table entries fault left.a.end left.b.end
    by (Ok (Sent side message)) at o is shows = sent side message (refusal_to_send fault.reason) at shows
    by (Ok Item.Quiet) at o is shows = none o is shows
    by (Err reason) at o is shows = none o is shows

-- ---- the whole record

-- As many outlines are kept as entries were taken.
pub count_taken : (x : Replaying) (entries : List Entry) → HasTakenListing true (checking_of x) (map item_of entries)
    → length x.entries.items ≡ length entries
count_taken x entries took = by (taken x.judged x.table.now x.certificate.now (map item_of entries)) refl took
  where
    by : (o : Result Replay CheckFault) → taken x.judged x.table.now x.certificate.now (map item_of entries) ≡ o
        → (let a : Result ReplayState CheckFault = Ok (kept_in x) in a) ≡ map_ok (kept_of true x.judged x.certificate.now) o
        → length x.entries.items ≡ length entries
    by (Err fault) at same = cc
    by (Ok r) at same =
        let is : kept_in x ≡ kept_of true x.judged x.certificate.now r = cc in
        ap (λ (k : ReplayState). length k.entries) is ∙ outlines_count x.certificate.now 0 r.world.sent
        ∙ sym (as_many entries r.world.sent (taken_stands x.judged x.table.now x.certificate.now entries r at).are)

-- If all entries before this one were taken, and it is refused, then it is refused at its number.
pub next_shows : (table : Table) (all lent : List Entry) (place : ℕ) (entry : Entry) (x : Replaying) (fault : CheckFault) (left : Progress)
    → lent ≡ all → place < length lent → entry ≡ get_or lent place entry → HasTakenListing true (checking_of x) (map item_of (take place all))
    → (let o : Result (Unit {0}) CheckFault = Err fault in ShowsItem table (length x.entries.items) (item_of entry) o left)
    → IsRefusedThere table all fault left.a.end left.b.end
next_shows table all lent place entry x fault left same less is took shows =
    let within : place ≤ length all = subst (λ (es : List Entry). place ≤ length es) same (omega (arith, less)) in
    let number : length x.entries.items ≡ place = count_taken x (take place all) took ∙ length-take-le place all within in
    entry_shows table all entry place fault left
    (ap (λ (es : List Entry). slice_get es place) (sym same) ∙ slice_get-get_or lent place entry less ∙ ap (λ (e : Entry). Some e) (sym is))
    (subst (λ (n : ℕ). let o : Result (Unit {0}) CheckFault = Err fault in ShowsItem table n (item_of entry) o left) number shows)

pub end_shows : (judged : Option Side) (table : Table) (c : Certificate) (k : ReplayState) (entries : List Entry) (left : Progress)
    (result : Result (Unit {0}) CheckFault) → YieldsInMemory (kept_ended judged table c k) result left → ShowsAmong table entries result left
end_shows judged table c k entries left (Ok done) yields = tt
end_shows judged table c k entries left (Err fault) yields = rw (in_memory_no (kept_ended judged table c k) fault left never yields) tt
  where
    number : ℕ
    number = length k.entries

    rest : Result Progress CheckFault
    rest = gap_before judged table c k >>= λ behind. Ok (last_lost judged behind)

    of : (f : CheckFault) → (gap_before judged table c k ≡ Err f)
        ⊎ ((q : Progress) × (gap_before judged table c k ≡ Ok q) × ((let x : Result Progress CheckFault = Ok (last_lost judged q) in x) ≡ Err f)) → NoSend f
    of f (inl none) = gap_no judged table c k.entries k.since k.progress f none
    of f (inr (q, passed, none)) = cc

    by : (f : CheckFault) → (((number == length c.fates) ≡ false) × (fault_at FateCount number ≡ f)) ⊎ (((number == length c.fates) ≡ true) × (rest ≡ Err f))
        → NoSend f
    by f (inl (_, same)) = same_no (fault_at FateCount number) f same refl
    by f (inr (_, none)) = of f (then_err (gap_before judged table c k) (λ behind. Ok (last_lost judged behind)) f none)

    never : (f : CheckFault) → kept_ended judged table c k ≡ Err f → NoSend f
    never f is = by f (needs_err (number == length c.fates) (fault_at FateCount number) rest f is)

-- numbers out of range
listed_no : (count : ℕ) (listed : List (ℕ × ℕ)) (fault : CheckFault) → all_fit count listed ≡ Err fault → NoSend fault
listed_no count [] fault is = cc
listed_no count ((entry, gap) ∷ listed) fault is =
    by (listed_no count listed fault) (needs_err (nat_lt entry gap && nat_le gap count) (fault_at FateRange entry) (all_fit count listed) fault is)
  where
    by : (all_fit count listed ≡ Err fault → NoSend fault)
        → (((nat_lt entry gap && nat_le gap count) ≡ false) × (fault_at FateRange entry ≡ fault))
        ⊎ (((nat_lt entry gap && nat_le gap count) ≡ true) × (all_fit count listed ≡ Err fault)) → NoSend fault
    by rest (inl (_, same)) = same_no (fault_at FateRange entry) fault same refl
    by rest (inr (_, none)) = rest none

fates_no : (count entry : ℕ) (fates : List Fate) (fault : CheckFault) → fates_fit count entry fates ≡ Err fault → NoSend fault
fates_no count entry [] fault is = cc
fates_no count entry (fate ∷ fates) fault is =
    by (fates_no count (entry + 1) fates fault)
    (needs_err (fate_fits count entry fate) (fault_at FateRange entry) (fates_fit count (entry + 1) fates) fault is)
  where
    by : (fates_fit count (entry + 1) fates ≡ Err fault → NoSend fault) → ((fate_fits count entry fate ≡ false) × (fault_at FateRange entry ≡ fault))
        ⊎ ((fate_fits count entry fate ≡ true) × (fates_fit count (entry + 1) fates ≡ Err fault)) → NoSend fault
    by rest (inl (_, same)) = same_no (fault_at FateRange entry) fault same refl
    by rest (inr (_, none)) = rest none

pub unfit_shows : (c : Certificate) (table : Table) (entries : List Entry) (fault : CheckFault) (a b : End) → certificate_fits c ≡ Err fault
    → IsRefusedThere table entries fault a b
unfit_shows c table entries fault a b is = rw (by (both_err (fates_fit count 0 c.fates) (all_fit count close >> all_fit count expire) fault is)) tt
  where
    count : ℕ
    count = length c.fates

    close : List (ℕ × ℕ)
    close = map (λ x. (x.entry, x.gap)) c.close

    expire : List (ℕ × ℕ)
    expire = map (λ x. (x.entry, x.gap)) c.expire

    of : (all_fit count close ≡ Err fault) ⊎ ((all_fit count close ≡ Ok tt) × (all_fit count expire ≡ Err fault)) → NoSend fault
    of (inl none) = listed_no count close fault none
    of (inr (fits, none)) = listed_no count expire fault none

    by : (fates_fit count 0 c.fates ≡ Err fault) ⊎ ((fates_fit count 0 c.fates ≡ Ok tt) × ((all_fit count close >> all_fit count expire) ≡ Err fault))
        → NoSend fault
    by (inl none) = fates_no count 0 c.fates fault none
    by (inr (fits, none)) = of (both_err (all_fit count close) (all_fit count expire) fault none)
