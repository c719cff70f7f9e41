-- All octets fed remain the entries taken, the entries queued and the octets held.
use Rattle.std.proofs.Common.{◌≡◌, ℕ, ◌+◌, ◌-◌, ◌<◌, ◌≤◌, List, [], ◌∷◌, ◌++◌, length, take, drop, refl, sym, ap, subst, ◌∙◌, arith, append_assoc, take-add, drop-drop, Option, None, Result, Ok, Err, inl, inr}
use Rattle.std.specs.Prelude.{◌↔◌, Bool, true, false, ◌==◌, MatchResult, IsOk}
use Rattle.std.proofs.lemmas.Bool.{eqb-true, eqb-false}
use Rattle.std.proofs.lemmas.List.{length-drop, take_at}
use Rattle.std.proofs.Math.Seq.{take-length}
use Rattle.tcap_record.specs.declared.entry.Entry.{Entry}
use Rattle.tcap_record.specs.declared.fault.FeedFault.{FeedFault}
use Rattle.tcap_record.specs.RecordOctets.{entry_limit}
use Rattle.tcap_record.specs.PartialRecord.{FramerState, IsFramedSoFar, IsFramerState, IsFramerStateWith, IsPart, IsWhole, dropped, grown, cut_to}
use Rattle.tcap_record.specs.FeederResult.{FinishesAs}
use Rattle.tcap_record.proofs.FrontLaws.{part_not_whole}

pub no_less : (n all : ℕ) → n ≤ all → (n < all → ⊥) → n ≡ all
no_less n all most not_less = by_test (n == all) refl
  where
    by_test : (b : Bool) → (n == all) ≡ b → n ≡ all
    by_test true e = eqb-true n all e
    by_test false e = let apart = eqb-false n all e in absurd (not_less (omega (arith, most, apart)))

-- after a held entry, the record may have one more
pub held_dropped : (h : FramerState) → IsFramerState h → h.fault ≡ None → IsWhole h.octets → IsFramerState (dropped h)
held_dropped h held sound whole =
    let with : IsFramerStateWith h None = subst (IsFramerStateWith h) sound held.1 in
    let room : h.count < entry_limit = with.0 (λ none. part_not_whole [] tt (subst IsWhole none whole)) in
    (omega (arith, room), ((λ some. absurd (some refl)), inl tt))

-- octets taken from the rest of a piece are octets of the piece
pub taken_on : (octets piece rest : List ℕ) (n m : ℕ) → rest ≡ drop n piece
    → (octets ++ take n piece) ++ take m rest ≡ octets ++ take (n + m) piece
taken_on octets piece rest n m is =
    append_assoc octets (take n piece) (take m rest)
    ∙ ap (λ (x : List ℕ). octets ++ (take n piece ++ take m x)) is
    ∙ ap (λ (x : List ℕ). octets ++ x) (sym (take-add n m piece))

-- with the rest, all of the piece was taken
pub taken_all : (octets piece rest : List ℕ) (n m : ℕ) → rest ≡ drop n piece → m ≡ length rest → n ≤ length piece
    → octets ++ take (n + m) piece ≡ octets ++ piece
taken_all octets piece rest n m is all most =
    ap (λ (k : ℕ). octets ++ take k piece) (omega (arith, all, ap length is, length-drop n piece, most))
    ∙ ap (λ (x : List ℕ). octets ++ x) (take-length piece)

-- what is left of the rest is what is left of the piece
pub rest_on : (piece rest : List ℕ) (n m : ℕ) → rest ≡ drop n piece → m ≤ length rest
    → take (length rest - m) (drop m rest) ≡ drop (n + m) piece
rest_on piece rest n m is most =
    ap (λ (k : ℕ). take k (drop m rest)) (omega (arith, length-drop m rest))
    ∙ take-length (drop m rest)
    ∙ ap (drop m) is
    ∙ drop-drop m n piece

pub rest_is : (piece : List ℕ) (n : ℕ) → take (length piece - n) (drop n piece) ≡ drop n piece
rest_is piece n = ap (λ (k : ℕ). take k (drop n piece)) (sym (length-drop n piece)) ∙ take-length (drop n piece)

-- `IsFramedSoFar` with one more queued entry
pub entry_waits : (octets : List ℕ) (taken waiting : List Entry) (entry : Entry) (h : FramerState)
    → IsFramedSoFar octets ((taken ++ waiting) ++ entry ∷ []) h → IsFramedSoFar octets (taken ++ (waiting ++ entry ∷ [])) h
entry_waits octets taken waiting entry h fed =
    subst (λ (entries : List Entry). IsFramedSoFar octets entries h) (append_assoc taken waiting (entry ∷ [])) fed

-- octets taken from the rest of a piece were taken from the piece
pub fed_behind : (P : List ℕ → Type 0) (octets piece rest : List ℕ) (n : ℕ) (kept : Result (Unit {0}) FeedFault)
    → rest ≡ drop n piece → n ≤ length piece
    → MatchResult kept (λ _. P ((octets ++ take n piece) ++ rest))
    (λ _. (m : ℕ) × (m ≤ length rest) × P ((octets ++ take n piece) ++ take m rest))
    → MatchResult kept (λ _. P (octets ++ piece)) (λ _. (m : ℕ) × (m ≤ length piece) × P (octets ++ take m piece))
fed_behind P octets piece rest n (Ok done) is most fed =
    subst P (ap (λ (x : List ℕ). (octets ++ take n piece) ++ x) (sym (take-length rest))
    ∙ taken_on octets piece rest n (length rest) is ∙ taken_all octets piece rest n (length rest) is refl most) fed
fed_behind P octets piece rest n (Err f) is most (m, few, fed) =
    (n + m, omega (arith, most, few, ap length is, length-drop n piece), subst P (taken_on octets piece rest n m is) fed)

-- cutting the added octets restores the state
pub cut_back : (h new : FramerState) (more : List ℕ) (len : ℕ) → h.fault ≡ None → len ≡ length h.octets → new ≡ grown h more None
    → cut_to len new ≡ h
cut_back h new more len sound is grew =
    ap (cut_to len) grew
    ∙ ap (λ (x : List ℕ). let c : FramerState = record { octets = x; place = h.place; count = h.count; fault = None } in c)
    (take_at h.octets more len (sym is))
    ∙ ap (λ (x : Option FeedFault). let c : FramerState = record { octets = h.octets; place = h.place; count = h.count; fault = x } in c)
    (sym sound)

-- if at most a part is held, the record may end exactly if nothing is held
pub may_end : (r : Result (Unit {0}) FeedFault) (h : FramerState) → (h.fault ≡ None → IsPart h.octets) → FinishesAs r h
    → IsOk r ↔ ((h.fault ≡ None) × (h.octets ≡ []))
may_end (Ok done) h is_part (sound, inl none) = (λ _. (sound, none), λ _. refl)
may_end (Ok done) h is_part (sound, inr whole) = absurd (part_not_whole h.octets (is_part sound) whole)
may_end (Err f) h is_part (inl wrong) = (λ no. absurd cc, λ there. (let e = sym wrong ∙ there.0 in absurd cc))
may_end (Err f) h is_part (inr (sound, some, part, e)) = (λ no. absurd cc, λ there. absurd (some there.1))
