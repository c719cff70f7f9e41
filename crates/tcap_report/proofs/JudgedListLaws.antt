-- Dialogues that are judged one after another, and all that are judged when an entry comes or a segment ends.
use Rattle.std.proofs.Common.{◌≡◌, ◌⊎◌, inl, inr, Bool, true, List, [], ◌∷◌, ◌++◌, refl, sym, ap, subst, ◌∙◌, append_assoc, append-nil}
use Rattle.std.specs.Prelude.{◌||◌, Contains, Err, Ok, OnOk, Result}
use Rattle.std.specs.List.{list_any}
use Rattle.std.proofs.lemmas.List.Elements.{Contains-append_cases, Contains-append_left, Contains-append_right}
use Rattle.std.proofs.lemmas.List.Folds.{list_any-append}
use Rattle.tcap_dialogues.specs.Course.{Course, has_entry}
use Rattle.tcap_dialogues.specs.CutDialogues.{AreCompleteDialogues, IsCompleteDialogue}
use Rattle.tcap_dialogues.specs.CutState.{IsCut}
use Rattle.tcap_dialogues.specs.DialoguesOfList.{IdOf}
use Rattle.tcap_dialogues.specs.declared.complete_dialogue.CompleteDialogue.{CompleteDialogue}
use Rattle.tcap_dialogues.proofs.CutLists.{first_in, in_cases}
use Rattle.tcap_traces.specs.declared.case.NextItem.{NextItem}
use Rattle.tcap_traces.specs.declared.case.NextItem.TheVariants as items
use Rattle.tcap_traces.specs.Case.{after_of}
use Rattle.tcap_traces.specs.JudgedTrace.{all_in}
use Rattle.tcap_traces.specs.Pieces.{TraceEntry}
use Rattle.tcap_traces.specs.TraceProgress.{AllDiffer, AreAligned, all_of}
use Rattle.tcap_traces.specs.TraceState.{State}
use Rattle.tcap_traces.proofs.DialoguePairs.{AreEntered, IsShuffled, differ_apart, differ_both, differ_left, differ_right, in_order, shuffled_any, shuffled_in}
use Rattle.tcap_traces.proofs.SegmentState.{entered_all}
use Rattle.tcap_report.specs.declared.trace.Trace.{Trace}
use Rattle.tcap_report.specs.declared.trace.TraceOptions.{TraceOptions}
use Rattle.tcap_report.specs.KeptState.{AreSeparate, HoldsEntry, IsAt, IsBefore, IsReading, Keeps, before_item, courses_at, headings_of, no_id, with_next}
use Rattle.tcap_report.proofs.KeptLaws.{keeps_before, keeps_shuffled, keeps_waiting}

-- These dialogues were judged, from one state of the trace to another. No other state of the segment changes.
abbrev pub HasJudgedAll : NextItem → List CompleteDialogue → Trace → Trace → Type 0
HasJudgedAll next given old new =
    (options : TraceOptions) (s : State) (names : IdOf → Bool) (done waiting those : List Course)
    → AreAligned those given → AreSeparate options s (those ++ waiting) → ((d : Course) → Contains those d → IsBefore next s d)
    → Keeps options s done (those ++ waiting) names old → Keeps options s (done ++ those) waiting names new

abbrev pub HasJudgedOne : NextItem → CompleteDialogue → Trace → Trace → Type 0
HasJudgedOne next g old new =
    (options : TraceOptions) (s : State) (names : IdOf → Bool) (done waiting : List Course) (d : Course)
    → IsCompleteDialogue d g → AreSeparate options s (d ∷ waiting) → IsBefore next s d
    → Keeps options s done (d ∷ waiting) names old → Keeps options s (done ++ d ∷ []) waiting names new

-- All were judged, if the call returned.
pub all_if : {T E : Type 0} (r : Result T E) (next : NextItem) (given : List CompleteDialogue) (old new : Trace)
    → ((options : TraceOptions) (s : State) (names : IdOf → Bool) (done waiting those : List Course)
    → AreAligned those given → AreSeparate options s (those ++ waiting) → ((d : Course) → Contains those d → IsBefore next s d)
    → Keeps options s done (those ++ waiting) names old → OnOk r (Keeps options s (done ++ those) waiting names new))
    → OnOk r (HasJudgedAll next given old new)
all_if (Ok x) next given old new judges = judges
all_if (Err e) next given old new judges = tt

-- ---- aligned lists

no_aligned : (ds : List Course) → AreAligned ds [] → ds ≡ []
no_aligned [] are = refl
no_aligned (d ∷ ds) are = absurd are

one_aligned : (ds : List Course) (g : CompleteDialogue) → AreAligned ds (g ∷ []) → (d : Course) × (ds ≡ d ∷ []) × IsCompleteDialogue d g
one_aligned [] g are = absurd are
one_aligned (d ∷ ds) g (is, rest) = (d, ap (λ l. d ∷ l) (no_aligned ds rest), is)

-- dialogues that are aligned with two lists
record Parts (ds : List Course) (gs hs : List CompleteDialogue) : Type 0 where
  front : List Course
  back : List Course
  joined : ds ≡ front ++ back
  first : AreAligned front gs
  second : AreAligned back hs

aligned_parts : (ds : List Course) (gs hs : List CompleteDialogue) → AreAligned ds (gs ++ hs) → Parts ds gs hs
aligned_parts ds [] hs are = record { front = []; back = ds; joined = refl; first = tt; second = are }
aligned_parts [] (g ∷ gs) hs are = absurd are
aligned_parts (d ∷ ds) (g ∷ gs) hs (is, are) =
    let parts = aligned_parts ds gs hs are in record {
      front = d ∷ parts.front;
      back = parts.back;
      joined = ap (λ l. d ∷ l) parts.joined;
      first = (is, parts.first);
      second = parts.second;
    }

-- ---- one after another

pub none_judged : (next : NextItem) (t : Trace) → HasJudgedAll next [] t t
none_judged next t options s names done waiting those aligned separate before keeps =
    let none : those ≡ [] = no_aligned those aligned in
    subst (λ l. Keeps options s (done ++ l) waiting names t) (sym none)
    (subst (λ l. Keeps options s l waiting names t) (sym (append-nil done))
    (subst (λ l. Keeps options s done (l ++ waiting) names t) none keeps))

-- The last one is judged after the others.
last_judged : (next : NextItem) (gs : List CompleteDialogue) (g : CompleteDialogue) (a b c : Trace)
    → HasJudgedAll next gs a b → HasJudgedOne next g b c
    → (options : TraceOptions) (s : State) (names : IdOf → Bool) (done waiting front : List Course) (d : Course)
    → AreAligned front gs → IsCompleteDialogue d g → AreSeparate options s ((front ++ d ∷ []) ++ waiting)
    → ((e : Course) → Contains (front ++ d ∷ []) e → IsBefore next s e)
    → Keeps options s done ((front ++ d ∷ []) ++ waiting) names a → Keeps options s (done ++ (front ++ d ∷ [])) waiting names c
last_judged next gs g a b c all one options s names done waiting front d aligned is separate before keeps =
    let same : (front ++ d ∷ []) ++ waiting ≡ front ++ d ∷ waiting = append_assoc front (d ∷ []) waiting in
    let apart : AreSeparate options s (front ++ d ∷ waiting) = subst (AreSeparate options s) same separate in
    let kept : Keeps options s (done ++ front) (d ∷ waiting) names b =
    all options s names done (d ∷ waiting) front aligned apart (λ e has. before e (Contains-append_left front (d ∷ []) e has))
    (subst (λ l. Keeps options s done l names a) same keeps) in
    let rest : AreSeparate options s (d ∷ waiting) = record {
      inside = λ e has. apart.inside e (Contains-append_right front (d ∷ waiting) e has);
      differ = differ_right front (d ∷ waiting) apart.differ;
    } in
    subst (λ l. Keeps options s l waiting names c) (append_assoc done front (d ∷ []))
    (one options s names (done ++ front) waiting d is rest (before d (Contains-append_right front (d ∷ []) d (first_in d []))) kept)

pub one_more_judged : (next : NextItem) (gs : List CompleteDialogue) (g : CompleteDialogue) (a b c : Trace)
    → HasJudgedAll next gs a b → HasJudgedOne next g b c
    → HasJudgedAll next (gs ++ g ∷ []) a c
one_more_judged next gs g a b c all one options s names done waiting those aligned separate before keeps =
    let parts = aligned_parts those gs (g ∷ []) aligned in
    let (d, only, is) = one_aligned parts.back g parts.second in
    let joined : those ≡ parts.front ++ d ∷ [] = parts.joined ∙ ap (λ l. parts.front ++ l) only in
    subst (λ l. Keeps options s (done ++ l) waiting names c) (sym joined)
    (last_judged next gs g a b c all one options s names done waiting parts.front d parts.first is
    (subst (λ l. AreSeparate options s (l ++ waiting)) joined separate) (λ e has. before e (subst (λ l. Contains l e) (sym joined) has))
    (subst (λ l. Keeps options s done (l ++ waiting) names a) joined keeps))

-- ---- all that are given

-- One more element that is new.
differ_more : {X : Type 0} (front : List X) (x : X) (back : List X) → AllDiffer (front ++ back) → (Contains (front ++ back) x → ⊥)
    → AllDiffer (front ++ x ∷ back)
differ_more {X} front x back all new =
    differ_both front (x ∷ back) (differ_left front back all)
    (λ has. new (Contains-append_right front back x has), differ_right front back all)
    (λ y has also. by y has (in_cases x y back also))
  where
    by : (y : X) → Contains front y → (x ≡ y) ⊎ Contains back y → ⊥
    by y has (inl same) = new (Contains-append_left front back x (subst (Contains front) (sym same) has))
    by y has (inr there) = differ_apart front back all y has there

-- Elements that differ do so in any order.
differ_shuffled : {X : Type 0} (xs ys : List X) → IsShuffled xs ys → AllDiffer xs → AllDiffer ys
differ_shuffled [] ys is all = subst AllDiffer (sym is) tt
differ_shuffled (x ∷ xs) ys (front, back, joined, rest) (new, all) =
    subst AllDiffer (sym joined)
    (differ_more front x back (differ_shuffled xs (front ++ back) rest all) (λ has. new (shuffled_in xs (front ++ back) x rest has)))

-- A test passes for an element of these and the others, in any order of these.
any_within : {X : Type 0} (p : X → Bool) (xs ys zs : List X) → IsShuffled xs ys → list_any p (ys ++ zs) ≡ true → list_any p (xs ++ zs) ≡ true
any_within p xs ys zs shuffled is =
    list_any-append p xs zs ∙ ap (λ b. b || list_any p zs) (sym (shuffled_any p xs ys shuffled)) ∙ sym (list_any-append p ys zs) ∙ is

-- Of the dialogues of a segment, `gone` were given and are judged. The others are done, or wait.
module _ (options : TraceOptions) (s : State) (names : IdOf → Bool) (done gone waiting : List Course) (next : NextItem)
    (given : List CompleteDialogue) (t u : Trace)
    (all : (courses_at options s).done ++ (courses_at options s).live ≡ (done ++ gone) ++ waiting)
    (before : (d : Course) → Contains gone d → IsBefore next s d) (are : AreCompleteDialogues gone given)
    (keeps : Keeps options s done (gone ++ waiting) names t) (judges : HasJudgedAll next given t u) where
  differ : AllDiffer ((done ++ gone) ++ waiting)
  differ = subst AllDiffer all keeps.tracked.differ

  inside : (d : Course) → Contains ((done ++ gone) ++ waiting) d → Contains (all_of options.reuse (headings_of s)) d
  inside d has = subst (λ l. Contains l d) (sym all) has

  gone_inside : (d : Course) → Contains gone d → Contains (all_of options.reuse (headings_of s)) d
  gone_inside d has = inside d (Contains-append_left (done ++ gone) waiting d (Contains-append_right done gone d has))

  gone_differ : AllDiffer gone
  gone_differ = differ_right done gone (differ_left (done ++ gone) waiting differ)

  gone_entered : AreEntered gone
  gone_entered = entered_all options.reuse (headings_of s) keeps.begun gone keeps.tracked gone_inside

  module _ (es : List Course) (shuffled : IsShuffled gone es) where
    separate : AreSeparate options s (es ++ waiting)
    separate = record {
      inside = λ d has. by d (Contains-append_cases es waiting d has);
      differ = differ_both es waiting (differ_shuffled gone es shuffled gone_differ) (differ_right (done ++ gone) waiting differ)
          (λ d has also. differ_apart (done ++ gone) waiting differ d (Contains-append_right done gone d (shuffled_in gone es d shuffled has)) also);
    }
      where
        by : (d : Course) → Contains es d ⊎ Contains waiting d → Contains (all_in (courses_at options s)) d
        by d (inl has) = gone_inside d (shuffled_in gone es d shuffled has)
        by d (inr has) = inside d (Contains-append_right (done ++ gone) waiting d has)

    ordered : AreAligned es given → Keeps options s (done ++ gone) waiting names u
    ordered aligned =
        keeps_shuffled options s done gone es waiting names u shuffled
        (judges options s names done waiting es aligned separate (λ d has. before d (shuffled_in gone es d shuffled has))
        (keeps_waiting options s done (gone ++ waiting) (es ++ waiting) names t (λ n. any_within (λ d. has_entry d n) gone es waiting shuffled)
        keeps))

  all_judged : Keeps options s (done ++ gone) waiting names u
  all_judged = let (es, aligned, shuffled) = in_order gone given gone_differ gone_entered are in ordered es shuffled aligned

-- An entry was held, and then the dialogues were judged whose IDs are free.
pub entry_read : (options : TraceOptions) (s : State) (e : TraceEntry) (given : List CompleteDialogue) (t u : Trace)
    → HoldsEntry options s e given t
    → HasJudgedAll items.More given t u → u.cut ≡ t.cut → u.count ≡ t.count → IsReading options (with_next options s e) u
entry_read options s e given t u holds judges cut count =
    let then = with_next options s e in
    let live = (courses_at options then).live in record {
      keeps = subst (λ l. Keeps options then l live no_id u) (sym holds.done)
          (all_judged options then no_id (courses_at options s).done holds.freed live items.More given t u
          (ap (λ l. l ++ live) holds.done) (λ d has. inl (holds.over d has)) holds.are holds.keeps judges);
      cut = subst (IsCut options.reuse (headings_of then)) (sym cut) holds.cut;
      count = count ∙ holds.count;
    }

-- What is kept does not depend on the cut.
keeps_cut : (options : TraceOptions) (s : State) (done waiting : List Course) (names : IdOf → Bool) (t u : Trace) → u ≡ record t { cut = u.cut }
    → Keeps options s done waiting names t → Keeps options s done waiting names u
keeps_cut options s done waiting names t u same keeps = subst (Keeps options s done waiting names) (sym same) (record {
  asks = keeps.asks;
  counts = keeps.counts;
  messages = keeps.messages;
  readable = keeps.readable;
  broken_off = keeps.broken_off;
  under_way = keeps.under_way;
  held = keeps.held;
  marks = keeps.marks;
  begun = keeps.begun;
  noted = keeps.noted;
  tracked = keeps.tracked;
})

-- The live dialogues of a segment were judged. `one` is the trace with an empty cut.
pub live_judged : (options : TraceOptions) (s : State) (names : IdOf → Bool) (next : NextItem) (given : List CompleteDialogue) (old one u : Trace)
    → IsAt options s names old → one ≡ record old { cut = one.cut }
    → AreCompleteDialogues (courses_at options s).live given → HasJudgedAll next given one u
    → Keeps options (before_item (after_of next) s) (all_in (courses_at options s)) [] names u
live_judged options s names next given old one u at same are judges =
    let then = before_item (after_of next) s in
    let done = (courses_at options s).done in
    let live = (courses_at options s).live in
    let kept : Keeps options then done live names one =
    keeps_before options s (after_of next) done live names one at.keeps.tracked.over
    (keeps_cut options s done live names old one same at.keeps) in
    all_judged options then names done live [] next given one u (sym (append-nil (done ++ live))) (λ d has. inr refl) are
    (subst (λ l. Keeps options then done l names one) (sym (append-nil live)) kept) judges
