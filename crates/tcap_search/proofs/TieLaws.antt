-- The stacks of candidates give the ties, from the last Abort to the first.
use Rattle.std.proofs.Common.{◌≡◌, ℕ, ◌+◌, ◌<◌, ◌≤◌, ◌==◌, ◌&&◌, not, Bool, true, false, cond, List, [], ◌∷◌, length, map, take, get_or, reverse, Option, Some, None, refl, sym, ap, ◌∙◌, arith}
use Rattle.std.specs.Prelude.{filter, option_map}
use Rattle.std.specs.Str.{bytes_eq}
use Rattle.std.proofs.lemmas.Bool.{and_parts, eq-eqb, eqb-true, false_from_ne_true, ne_eqb}
use Rattle.std.proofs.lemmas.Slice.Eq.{bytes_eq-Decides}
use Rattle.tcap_msg.specs.declared.message.AbortReason.TheVariants as reasons
use Rattle.tcap_msg.specs.declared.message.Message.{Message}
use Rattle.tcap_msg.specs.declared.message.Message.TheVariants.{Unidirectional, Begin, Continue, End as EndMessage, Abort}
use Rattle.tcap_record.specs.declared.entry.Body.{Body}
use Rattle.tcap_record.specs.declared.entry.Body.TheVariants.{Good, Bad, Quiet}
use Rattle.tcap_record.specs.declared.entry.End.{End as Side}
use Rattle.tcap_record.specs.declared.entry.End.TheVariants as sides
use Rattle.tcap_record.specs.declared.entry.Entry.{Entry}
use Rattle.tcap_end.specs.End.{is_id}
use Rattle.tcap_record.specs.Ends.{other, is_entry_of}
use Rattle.tcap_model.specs.World.{is_side}
use Rattle.tcap_search.specs.declared.candidates.Candidates.{Candidates}
use Rattle.tcap_search.specs.declared.tie.Tie.{Tie}
use Rattle.tcap_search.specs.Candidates.{AreUntied, answered_by, answered_of, asks, asks_by, candidates_at, is_candidate, newest_of, top, under_top, untied, without}
use Rattle.tcap_search.specs.SegmentEntries.{Line, is_from, line_after, lines_of, message_of}
use Rattle.tcap_search.specs.ProposedCertificate.{answered_line, is_answered_by, is_tied, ties_from, ties_of, with_tie, with_tie_by}
use Rattle.tcap_search.proofs.LineLaws.{count_taken, last_none, lines_more, reverse_push}
use Rattle.tcap_search.proofs.UntiedLaws.{AreBelow, Falls, are_below, falls_of, first_holds, first_passes, is_left, last_reversed, left, left_others, left_popped, top_of}

-- ---- keys distinguish candidates

one_side : (a b : Side) (sender : Option Side) → is_entry_of a sender ≡ true → is_entry_of b sender ≡ true → a ≡ b
one_side a b None is is_too = cc
one_side sides.A sides.A (Some s) is is_too = refl
one_side sides.B sides.B (Some s) is is_too = refl
one_side sides.A sides.B (Some sides.A) is is_too = cc
one_side sides.A sides.B (Some sides.B) is is_too = cc
one_side sides.B sides.A (Some sides.A) is is_too = cc
one_side sides.B sides.A (Some sides.B) is is_too = cc

one_id : (a b : List ℕ) (otid : Option (List ℕ)) → is_id a otid ≡ true → is_id b otid ≡ true → a ≡ b
one_id a b None is is_too = cc
one_id a b (Some c) is is_too = (bytes_eq-Decides a c).0 is ∙ sym ((bytes_eq-Decides b c).0 is_too)

one_from : (a b : List ℕ) (e : Entry) → is_from a e ≡ true → is_from b e ≡ true → a ≡ b
one_from a b e = by e.body
  where
    by : (body : Body) → is_from a (record e { body = body }) ≡ true → is_from b (record e { body = body }) ≡ true
        → a ≡ b
    by (Good message) is is_too = one_id a b _ is is_too
    by (Bad fault) is is_too = cc
    by Quiet is is_too = cc

one_cause : (a b : ℕ) (message : Option Message) → is_answered_by a message ≡ true → is_answered_by b message ≡ true
    → a ≡ b
one_cause a b None is is_too = cc
one_cause a b (Some (Unidirectional dialogue components)) is is_too = cc
one_cause a b (Some (Begin otid dialogue components)) is is_too = eqb-true a 4 is ∙ sym (eqb-true b 4 is_too)
one_cause a b (Some (Continue otid dtid dialogue components)) is is_too = eqb-true a 1 is ∙ sym (eqb-true b 1 is_too)
one_cause a b (Some (EndMessage dtid dialogue components)) is is_too = cc
one_cause a b (Some (Abort dtid reason)) is is_too = cc

-- A candidate has one key.
one_key : (side asked : Side) (id dtid : List ℕ) (cause given : ℕ) (e : Entry) → is_candidate side id cause e ≡ true
    → is_candidate asked dtid given e ≡ true → (side ≡ asked) × (id ≡ dtid) × (cause ≡ given)
one_key side asked id dtid cause given e is is_too =
    let first = and_parts (is_entry_of side e.side && is_from id e) (is_answered_by cause (message_of e)) is in
    let second = and_parts (is_entry_of asked e.side && is_from dtid e) (is_answered_by given (message_of e)) is_too in
    let sent = and_parts (is_entry_of side e.side) (is_from id e) first.0 in
    let sent_too = and_parts (is_entry_of asked e.side) (is_from dtid e) second.0 in (
      one_side side asked e.side sent.0 sent_too.0,
      one_from id dtid e sent.1 sent_too.1,
      one_cause cause given (message_of e) first.1 second.1,
    )

-- ---- the key that an Abort asks for

turned_round : (side sender : Side) → is_side (other side) sender ≡ true → side ≡ other sender
turned_round sides.A sides.A is = cc
turned_round sides.A sides.B is = refl
turned_round sides.B sides.A is = refl
turned_round sides.B sides.B is = cc

asks_itself : (sender : Side) → is_side (other (other sender)) sender ≡ true
asks_itself sides.A = refl
asks_itself sides.B = refl

asked_key : (side sender : Side) (id dtid : List ℕ) (cause given : ℕ)
    → (is_side (other side) sender && bytes_eq id dtid && (cause == given)) ≡ true
    → (side ≡ other sender) × (id ≡ dtid) × (cause ≡ given)
asked_key side sender id dtid cause given is =
    let first = and_parts (is_side (other side) sender && bytes_eq id dtid) (cause == given) is in
    let second = and_parts (is_side (other side) sender) (bytes_eq id dtid) first.0 in
    (turned_round side sender second.0, (bytes_eq-Decides id dtid).0 second.1, eqb-true cause given first.1)

asks_for : (side sender : Side) (id dtid : List ℕ) (cause given : ℕ)
    → (side ≡ other sender) × (id ≡ dtid) × (cause ≡ given)
    → (is_side (other side) sender && bytes_eq id dtid && (cause == given)) ≡ true
asks_for side sender id dtid cause given are =
    let one : is_side (other side) sender ≡ true = rw are.0 (asks_itself sender) in
    let two : bytes_eq id dtid ≡ true = (bytes_eq-Decides id dtid).1 are.1 in
    let three : (cause == given) ≡ true = eq-eqb cause given are.2 in
    rw (one, two, three) refl

-- ---- one step back

-- the ties with that of a reply, if it answers an entry
abbrev pub more_tie : Option ℕ → ℕ → List Tie → List Tie
more_tie None reply ties = ties
more_tie (Some answered) reply ties = record { entry = answered; reply = reply } ∷ ties

-- The candidates give the tie.
tie_is : (ties : List Tie) (lines : List Line) (c : Candidates) (x : Line) → AreUntied ties lines c
    → with_tie (reverse lines) ties x ≡ more_tie (answered_of c x.entry) x.number ties
tie_is ties lines c x kept = by x.entry.side (message_of x.entry)
  where
    from : Option Side → Line
    from side = record x { entry = record x.entry { side = side } }

    chosen : (side : Option Side) (id : List ℕ) (cause : ℕ)
        → option_map (λ z. z.number) (answered_line (reverse lines) ties (from side).entry id cause)
        ≡ newest_of c side id cause
    chosen None id cause = ap (option_map (λ (z : Line). z.number)) (last_none (reverse lines))
    chosen (Some side) id cause =
        ap (option_map (λ (z : Line). z.number))
        (last_reversed (is_left (λ z. is_candidate (other side) id cause z.entry) ties) lines)
        ∙ (sym (top_of (left (λ z. is_candidate (other side) id cause z.entry) ties lines))
        ∙ sym (ap top (kept (other side) id cause)))

    tied : (side : Option Side) (id : List ℕ) (cause : ℕ) (o : Option Line)
        → answered_line (reverse lines) ties (from side).entry id cause ≡ o
        → with_tie_by (reverse lines) ties (from side) (Some (Abort id (Some (reasons.Cause cause))))
        ≡ more_tie (option_map (λ z. z.number) o) x.number ties
    tied side id cause None is = rw is refl
    tied side id cause (Some z) is = rw is refl

    by : (side : Option Side) (message : Option Message)
        → with_tie_by (reverse lines) ties (from side) message ≡ more_tie (answered_by c side message) x.number ties
    by side None = refl
    by side (Some (Unidirectional dialogue components)) = refl
    by side (Some (Begin otid dialogue components)) = refl
    by side (Some (Continue otid dtid dialogue components)) = refl
    by side (Some (EndMessage dtid dialogue components)) = refl
    by side (Some (Abort dtid None)) = refl
    by side (Some (Abort dtid (Some (reasons.Dialogue dialogue)))) = refl
    by side (Some (Abort dtid (Some (reasons.Cause cause)))) =
        tied side dtid cause (answered_line (reverse lines) ties (from side).entry dtid cause) refl
        ∙ ap (λ (o : Option ℕ). more_tie o x.number ties) (chosen side dtid cause)

-- After the tie, the other candidates are kept.
module _ (ties : List Tie) (lines : List Line) (old new : Candidates) (reply : ℕ) (kept : AreUntied ties lines old)
    (falls : Falls lines) where
  -- The candidate taken is the one that the Abort asks for.
  abbrev Takes : Option Side → Option Message → Type 0
  Takes sender message =
      (side : Side) (id : List ℕ) (cause : ℕ) → candidates_at side id cause new
      ≡ cond (asks_by side id cause sender message) (under_top (candidates_at side id cause old))
      (candidates_at side id cause old)

  module _ (sender : Side) (dtid : List ℕ) (given : ℕ)
      (takes : Takes (Some sender) (Some (Abort dtid (Some (reasons.Cause given))))) where
    abbrev asked : Line → Bool
    asked x = is_candidate (other sender) dtid given x.entry

    -- for the key asked for
    taken_at : candidates_at (other sender) dtid given new ≡ under_top (untied (other sender) dtid given ties lines)
    taken_at =
        takes (other sender) dtid given
        ∙ (ap (λ (b : Bool). cond b (under_top (candidates_at (other sender) dtid given old))
        (candidates_at (other sender) dtid given old))
        (asks_for (other sender) sender dtid dtid given given (refl, refl, refl))
        ∙ ap under_top (kept (other sender) dtid given))

    -- for each key
    each : (more : List Tie)
        → candidates_at (other sender) dtid given new ≡ untied (other sender) dtid given more lines
        → ((side : Side) (id : List ℕ) (cause : ℕ)
        → (is_side (other side) sender && bytes_eq id dtid && (cause == given)) ≡ false
        → untied side id cause ties lines ≡ untied side id cause more lines)
        → AreUntied more lines new
    each more here others side id cause =
        by (is_side (other side) sender && bytes_eq id dtid && (cause == given)) refl (takes side id cause)
      where
        by : (b : Bool) → (is_side (other side) sender && bytes_eq id dtid && (cause == given)) ≡ b
            → candidates_at side id cause new
            ≡ cond b (under_top (candidates_at side id cause old)) (candidates_at side id cause old)
            → candidates_at side id cause new ≡ untied side id cause more lines
        by true asks new_is =
            let key = asked_key side sender id dtid cause given asks in rw (key.0, key.1, key.2) here
        by false not_asks new_is = new_is ∙ (kept side id cause ∙ others side id cause not_asks)

    -- the newest of the key asked for
    newest_is : newest_of old (Some sender) dtid given ≡ top (map (λ x. x.number) (left asked ties lines))
    newest_is = ap top (kept (other sender) dtid given)

    from : (found : List Line) → left asked ties lines ≡ found → (o : Option ℕ) → o ≡ top (map (λ x. x.number) found)
        → AreUntied (more_tie o reply ties) lines new
    from [] is (Some n) newest = cc
    from [] is None newest =
        each ties (taken_at ∙ (ap (λ (xs : List Line). under_top (map (λ x. x.number) xs)) is
        ∙ sym (ap (map (λ (x : Line). x.number)) is))) (λ side id cause apart. refl)
    from (y ∷ rest) is None newest = cc
    from (y ∷ rest) is (Some n) newest =
        each (t ∷ ties)
        (taken_at ∙ (ap (λ (xs : List Line). under_top (map (λ x. x.number) xs)) is
        ∙ sym (ap (map (λ (x : Line). x.number)) (left_popped t ties asked lines y rest falls is its))))
        (λ side id cause apart. sym (ap (map (λ (x : Line). x.number))
        (left_others t ties asked (λ x. is_candidate side id cause x.entry) lines y rest falls is its
        (fails side id cause apart))))
      where
        t : Tie
        t = record { entry = n; reply = reply }

        its : n ≡ y.number
        its = cc

        passes : asked y ≡ true
        passes = (and_parts (asked y) (not (is_tied ties y)) (first_passes (is_left asked ties) lines y rest is)).0

        fails : (side : Side) (id : List ℕ) (cause : ℕ)
            → (is_side (other side) sender && bytes_eq id dtid && (cause == given)) ≡ false
            → is_candidate side id cause y.entry ≡ false
        fails side id cause apart =
            false_from_ne_true (is_candidate side id cause y.entry)
            (λ so. let asks = asks_for side sender id dtid cause given
            (one_key side (other sender) id dtid cause given y.entry so passes) in cc)

  tie_kept_by : (sender : Option Side) (message : Option Message) → Takes sender message
      → AreUntied (more_tie (answered_by old sender message) reply ties) lines new
  tie_kept_by sender None takes = λ side id cause. takes side id cause ∙ kept side id cause
  tie_kept_by sender (Some (Unidirectional dialogue components)) takes =
      λ side id cause. takes side id cause ∙ kept side id cause
  tie_kept_by sender (Some (Begin otid dialogue components)) takes =
      λ side id cause. takes side id cause ∙ kept side id cause
  tie_kept_by sender (Some (Continue otid dtid dialogue components)) takes =
      λ side id cause. takes side id cause ∙ kept side id cause
  tie_kept_by sender (Some (EndMessage dtid dialogue components)) takes =
      λ side id cause. takes side id cause ∙ kept side id cause
  tie_kept_by sender (Some (Abort dtid None)) takes = λ side id cause. takes side id cause ∙ kept side id cause
  tie_kept_by sender (Some (Abort dtid (Some (reasons.Dialogue dialogue)))) takes =
      λ side id cause. takes side id cause ∙ kept side id cause
  tie_kept_by None (Some (Abort dtid (Some (reasons.Cause given)))) takes =
      λ side id cause. takes side id cause ∙ kept side id cause
  tie_kept_by (Some sender) (Some (Abort dtid (Some (reasons.Cause given)))) takes =
      from sender dtid given takes (left (asked sender dtid given takes) ties lines) refl
      (newest_of old (Some sender) dtid given) (newest_is sender dtid given takes)

-- ---- an entry is not earlier than itself

without_low : (number : ℕ) (passes : Line → Bool) (lines : List Line) → AreBelow number lines
    → without number (map (λ x. x.number) (filter passes lines)) ≡ map (λ x. x.number) (filter passes lines)
without_low number passes lines below = by (filter passes lines) refl
  where
    by : (found : List Line) → filter passes lines ≡ found
        → without number (map (λ x. x.number) found) ≡ map (λ x. x.number) found
    by [] is = refl
    by (y ∷ rest) is =
        let low = first_holds (λ (z : Line). z.number < number) passes lines y rest below is in
        ap (λ (b : Bool). cond b (map (λ (x : Line). x.number) rest) (y.number ∷ map (λ x. x.number) rest))
        (ne_eqb y.number number (λ same. omega arith))

drop_kept : (ties : List Tie) (lines : List Line) (x : Line) (old new : Candidates) → AreUntied ties (x ∷ lines) old
    → Falls (x ∷ lines)
    → ((side : Side) (id : List ℕ) (cause : ℕ) → candidates_at side id cause new
    ≡ cond (is_candidate side id cause x.entry) (without x.number (candidates_at side id cause old))
    (candidates_at side id cause old))
    → AreUntied ties lines new
drop_kept ties lines x old new kept falls dropped side id cause =
    dropped side id cause
    ∙ (ap (λ (ns : List ℕ). cond (passes x) (without x.number ns) ns) (kept side id cause)
    ∙ by (passes x) (is_tied ties x))
  where
    passes : Line → Bool
    passes z = is_candidate side id cause z.entry

    found : List Line
    found = filter (λ z. is_candidate side id cause z.entry && not (is_tied ties z)) lines

    by : (candidate tied : Bool)
        → cond candidate (without x.number (map (λ z. z.number) (cond (candidate && not tied) (x ∷ found) found)))
        (map (λ z. z.number) (cond (candidate && not tied) (x ∷ found) found)) ≡ map (λ z. z.number) found
    by false tied = refl
    by true true =
        without_low x.number (λ z. is_candidate side id cause z.entry && not (is_tied ties z)) lines
        (are_below x.number lines falls.1 (omega arith))
    by true false =
        ap (λ (b : Bool). cond b (map (λ (z : Line). z.number) found) (x.number ∷ map (λ z. z.number) found))
        (eq-eqb x.number x.number refl)

-- ---- along the entries

-- the candidates of the first entries, before ties
pub record Collected (entries : List Entry) (count : ℕ) (c : Candidates) : Type 0 where
  pub kept : AreUntied [] (reverse (lines_of (take count entries))) c

pub collected_more : (entries : List Entry) (i : ℕ) (old new : Candidates) (e : Entry) → i < length entries
    → e ≡ get_or entries i e → Collected entries i old
    → ((side : Side) (id : List ℕ) (cause : ℕ) → candidates_at side id cause new
    ≡ cond (is_candidate side id cause e) (i ∷ candidates_at side id cause old) (candidates_at side id cause old))
    → Collected entries (i + 1) new
collected_more entries i old new e below is so_far pushed = record {
  kept = λ side id cause. pushed side id cause
      ∙ (ap (λ (ns : List ℕ). cond (is_candidate side id cause e) (i ∷ ns) ns) (so_far.kept side id cause)
      ∙ (ap (λ (n : ℕ). cond (is_candidate side id cause e) (n ∷ untied side id cause [] lines)
      (untied side id cause [] lines))
      (sym (count_taken entries i (omega arith)))
      ∙ (by side id cause (is_candidate side id cause e)
      ∙ sym (ap (λ (more : List Line). untied side id cause [] (reverse more)) (lines_more entries i e below is)
      ∙ ap (untied side id cause []) (reverse_push (lines_of (take i entries)) x)))));
}
  where
    lines : List Line
    lines = reverse (lines_of (take i entries))

    x : Line
    x = line_after (lines_of (take i entries)) e

    by : (side : Side) (id : List ℕ) (cause : ℕ) (b : Bool)
        → cond b (x.number ∷ untied side id cause [] lines) (untied side id cause [] lines)
        ≡ map (λ z. z.number) (cond (b && true)
        (x ∷ filter (λ z. is_candidate side id cause z.entry && not (is_tied [] z)) lines)
        (filter (λ z. is_candidate side id cause z.entry && not (is_tied [] z)) lines))
    by side id cause true = refl
    by side id cause false = refl

-- The ties so far, from the last Abort on, and the candidates of the entries before.
pub record Tied (entries : List Entry) (count : ℕ) (c : Candidates) (found : List Tie) : Type 0 where
  pub within : count ≤ length entries
  pub kept : AreUntied (reverse found) (reverse (lines_of (take count entries))) c
  pub ties : ties_from (reverse (lines_of (take count entries))) (reverse found) ≡ ties_of (lines_of entries)

pub tied_more : (entries : List Entry) (i : ℕ) (old dropped new : Candidates) (ties more : List Tie) (e : Entry)
    (answered : Option ℕ) → i < length entries → e ≡ get_or entries i e → Tied entries (i + 1) old ties
    → ((side : Side) (id : List ℕ) (cause : ℕ) → candidates_at side id cause dropped
    ≡ cond (is_candidate side id cause e) (without i (candidates_at side id cause old))
    (candidates_at side id cause old))
    → answered ≡ answered_of dropped e
    → ((side : Side) (id : List ℕ) (cause : ℕ) → candidates_at side id cause new
    ≡ cond (asks side id cause e) (under_top (candidates_at side id cause dropped))
    (candidates_at side id cause dropped))
    → reverse more ≡ more_tie answered i (reverse ties) → Tied entries i new more
tied_more entries i old dropped new ties more e answered below is so_far drops has taken grown = record {
  within = omega arith;
  kept = rw grown_is (tie_kept_by (reverse ties) lines dropped new i kept falls.1 e.side (message_of e) taken);
  ties = ap (ties_from lines) (grown_is ∙ sym tie)
      ∙ (sym (ap (λ (ls : List Line). ties_from ls (reverse ties)) reversed) ∙ so_far.ties);
}
  where
    lines : List Line
    lines = reverse (lines_of (take i entries))

    x : Line
    x = line_after (lines_of (take i entries)) e

    number : x.number ≡ i
    number = count_taken entries i (omega arith)

    reversed : reverse (lines_of (take (i + 1) entries)) ≡ x ∷ lines
    reversed = ap (reverse {A = Line}) (lines_more entries i e below is) ∙ reverse_push (lines_of (take i entries)) x

    falls : Falls (x ∷ lines)
    falls = rw reversed at (falls_of (take (i + 1) entries))

    kept : AreUntied (reverse ties) lines dropped
    kept =
        drop_kept (reverse ties) lines x old dropped (rw reversed at so_far.kept) falls
        (λ side id cause. drops side id cause
        ∙ ap (λ (n : ℕ). cond (is_candidate side id cause e) (without n (candidates_at side id cause old))
        (candidates_at side id cause old)) (sym number))

    grown_is : reverse more ≡ more_tie (answered_of dropped e) i (reverse ties)
    grown_is = grown ∙ ap (λ (o : Option ℕ). more_tie o i (reverse ties)) has

    tie : with_tie (reverse lines) (reverse ties) x ≡ more_tie (answered_of dropped e) i (reverse ties)
    tie =
        tie_is (reverse ties) lines dropped x kept
        ∙ ap (λ (n : ℕ). more_tie (answered_of dropped e) n (reverse ties)) number
