-- Losses, from the least time of what each end sends later.
use Rattle.std.proofs.Common.{◌≡◌, ℕ, suc, min, Bool, true, false, cond, List, [], ◌∷◌, map, length, Option, Some, None, refl, sym, ap, arith, ◌∙◌, ◌*◌, ◌≤◌}
use Rattle.std.specs.Prelude.{◌&&◌, ◌||◌, is_some, nat_lt}
use Rattle.std.specs.List.{list_any, AllByRecursion}
use Rattle.std.proofs.lemmas.Bool.Decides.{nat_tests}
use Rattle.std.proofs.lemmas.List.{length-map}
use Rattle.tcap_record.specs.declared.entry.End.{End as Side}
use Rattle.tcap_record.specs.declared.entry.Entry.{Entry}
use Rattle.tcap_certificate.specs.declared.certificate.Fate.{Fate}
use Rattle.tcap_certificate.specs.declared.certificate.Fate.TheVariants.{Lost, Gap, By}
use Rattle.tcap_certificate.specs.Replay.{is_later, time_of}
use Rattle.tcap_search.specs.SegmentEntries.{Line, lines_of, message_of, are_of_one_end}
use Rattle.tcap_record.specs.Ends.{is_entry_of}
use Rattle.tcap_search.specs.ProposedCertificate.{Fated, all_fated, fate_before, fate_of, fated, first_fates, is_gap, is_overtaken, ties_of, with_losses, without_unanswered}
use Rattle.tcap_search.specs.declared.tie.Tie.{Tie}
use Rattle.tcap_search.specs.SegmentLists.{AreFates, AreTies}
use Rattle.tcap_search.specs.Fates.{fate_after_least, least_time, sooner}
use Rattle.tcap_search.proofs.LineLaws.{count_lines}
use Rattle.tcap_search.proofs.TestLaws.{one_end, one_end_none, or_false}
use Rattle.std.proofs.lemmas.Bool.{ltb-false, or_parts}
use Rattle.tcap_search.specs.DeliveryOrder.{AreInOrder, ComesNoEarlier}

-- ---- the least time

min_before : (a b c : ℕ) → nat_lt (min a b) c ≡ (nat_lt a c || nat_lt b c)
min_before a b c = grind (arith, nat_tests)

-- The lesser of two times is before another if one of them is.
sooner_is : (o p q : Option ℕ) → is_later (sooner o p) q ≡ (is_later o q || is_later p q)
sooner_is None p q = refl
sooner_is (Some a) None q = sym (or_false (is_later (Some a) q))
sooner_is (Some a) (Some b) None = refl
sooner_is (Some a) (Some b) (Some c) = min_before a b c

-- A fate is overtaken if the least time of its end is before its own.
overtaken_by : (x : Fated) (side : Side) (later : List Fated) → x.line.entry.side ≡ Some side
    → list_any (is_overtaken x) later ≡ is_later (least_time side later) (time_of x.fate)
overtaken_by x side [] at = refl
overtaken_by x side (y ∷ later) at =
    rw (one_end x.line.entry y.line.entry side at, overtaken_by x side later at) (by (is_entry_of side y.line.entry.side))
  where
    by : (b : Bool) → ((b && is_later (time_of y.fate) (time_of x.fate))
        || is_later (least_time side later) (time_of x.fate))
        ≡ is_later (cond b (sooner (time_of y.fate) (least_time side later)) (least_time side later)) (time_of x.fate)
    by true = sym (sooner_is (time_of y.fate) (least_time side later) (time_of x.fate))
    by false = refl

overtaken_never : (x : Fated) (later : List Fated) → x.line.entry.side ≡ None → list_any (is_overtaken x) later ≡ false
overtaken_never x [] at = refl
overtaken_never x (y ∷ later) at = rw (one_end_none x.line.entry y.line.entry at) (overtaken_never x later at)

abbrev pub least_so_far : List Fated → Option Side → Option ℕ
least_so_far later None = None
least_so_far later (Some side) = least_time side later

-- The least time gives the fate after losses.
pub fate_before_is : (later : List Fated) (x : Fated)
    → fate_before later x ≡ fate_after_least x.line.entry x.fate (least_so_far later x.line.entry.side)
fate_before_is later x =
    ap (λ (b : Bool). cond (is_gap x.fate && is_some (message_of x.line.entry) && b) Lost x.fate)
    (by x.line.entry.side refl)
  where
    by : (s : Option Side) → x.line.entry.side ≡ s
        → list_any (is_overtaken x) later ≡ is_later (least_so_far later s) (time_of x.fate)
    by None at = overtaken_never x later at
    by (Some side) at = overtaken_by x side later at

-- ---- lines and fates

abbrev pub fated_at : Line → Fate → Fated
fated_at line fate = record { line = line; fate = fate }

pub count_fated : (lines : List Line) (fates : List Fate) → length fates ≡ length lines
    → length (fated lines fates) ≡ length fates
count_fated [] [] same = refl
count_fated (line ∷ lines) [] same = refl
count_fated [] (fate ∷ fates) same = absurd (omega arith)
count_fated (line ∷ lines) (fate ∷ fates) same = ap suc (count_fated lines fates (omega arith))

-- The fates of lines with fates.
pub fates_fated : (lines : List Line) (fates : List Fate) → length fates ≡ length lines
    → map (λ x. x.fate) (fated lines fates) ≡ fates
fates_fated [] [] same = refl
fates_fated (line ∷ lines) [] same = absurd (omega arith)
fates_fated [] (fate ∷ fates) same = absurd (omega arith)
fates_fated (line ∷ lines) (fate ∷ fates) same = ap (λ (fs : List Fate). fate ∷ fs)
    (fates_fated lines fates (omega arith))

-- Lines and fates, taken apart and joined again.
pub fated_parts : (all : List Fated) → fated (map (λ x. x.line) all) (map (λ x. x.fate) all) ≡ all
fated_parts [] = refl
fated_parts (x ∷ all) = ap (λ (more : List Fated). x ∷ more) (fated_parts all)

-- ---- losses, from the last line to the first

losses_step : (x : Fated) (more : List Fated)
    → map (λ x. x.fate) (with_losses (x ∷ more))
    ≡ fate_before (with_losses more) x ∷ map (λ x. x.fate) (with_losses more)
losses_step x more = refl

-- Losses keep the lines, and so does the rule on unanswered messages.
pub lines_kept : (all : List Fated) → map (λ x. x.line) (with_losses all) ≡ map (λ x. x.line) all
lines_kept [] = refl
lines_kept (x ∷ more) = ap (λ (lines : List Line). x.line ∷ lines) (lines_kept more)

pub count_lost : (lines : List Line) (fates : List Fate) → length fates ≡ length lines
    → length (map (λ x. x.fate) (with_losses (fated lines fates))) ≡ length fates
count_lost lines fates same =
    length-map (with_losses (fated lines fates)) (λ x. x.fate)
    ∙ sym (length-map (with_losses (fated lines fates)) (λ y. y.line))
    ∙ ap length (lines_kept (fated lines fates)) ∙ length-map (fated lines fates) (λ y. y.line)
    ∙ count_fated lines fates same

pub lines_answered : (judged : Option Side) (marked : Bool) (lines : List Line) (all : List Fated)
    → map (λ x. x.line) (without_unanswered judged marked lines all) ≡ map (λ x. x.line) all
lines_answered None marked lines all = refl
lines_answered (Some side) false lines all = refl
lines_answered (Some side) true lines [] = refl
lines_answered (Some side) true lines (x ∷ all) =
    ap (λ (ls : List Line). x.line ∷ ls) (lines_answered (Some side) true lines all)

pub lines_fated : (lines : List Line) (fates : List Fate) → length fates ≡ length lines
    → map (λ x. x.line) (fated lines fates) ≡ lines
lines_fated [] [] same = refl
lines_fated (line ∷ lines) [] same = absurd (omega arith)
lines_fated [] (fate ∷ fates) same = absurd (omega arith)
lines_fated (line ∷ lines) (fate ∷ fates) same = ap (λ (ls : List Line). line ∷ ls)
    (lines_fated lines fates (omega arith))

pub entries_fated : (lines : List Line) (fates : List Fate) → length fates ≡ length lines
    → map (λ x. x.line.entry) (fated lines fates) ≡ map (λ x. x.entry) lines
entries_fated [] [] same = refl
entries_fated (line ∷ lines) [] same = absurd (omega arith)
entries_fated [] (fate ∷ fates) same = absurd (omega arith)
entries_fated (line ∷ lines) (fate ∷ fates) same =
    ap (λ (es : List Entry). line.entry ∷ es) (entries_fated lines fates (omega arith))

-- ---- the fates after all rules

module _ (judged : Option Side) (marked : Bool) where
  -- the fates before losses
  abbrev pub before_losses : List Line → List Fated
  before_losses lines = without_unanswered judged marked lines (fated lines (first_fates judged lines (ties_of lines)))

  pub lines_before : (lines : List Line) → map (λ y. y.line) (before_losses lines) ≡ lines
  lines_before lines =
      let same : length (first_fates judged lines (ties_of lines)) ≡ length lines =
      length-map lines (fate_of judged lines (ties_of lines)) in
      lines_answered judged marked lines (fated lines (first_fates judged lines (ties_of lines)))
      ∙ lines_fated lines (first_fates judged lines (ties_of lines)) same

  -- The lines are those of the entries.
  pub all_lines : (lines : List Line) → map (λ y. y.line) (all_fated judged marked lines) ≡ lines
  all_lines lines = lines_kept (before_losses lines) ∙ lines_before lines

  pub count_fates : (entries : List Entry) (fates : List Fate) → AreFates judged marked entries fates
      → length fates ≡ length entries
  count_fates entries fates are =
      ap length are ∙ length-map (all_fated judged marked (lines_of entries)) (λ x. x.fate)
      ∙ sym (length-map (all_fated judged marked (lines_of entries)) (λ y. y.line))
      ∙ ap length (all_lines (lines_of entries))
      ∙ count_lines entries

  -- The fates with their lines are those of the rules.
  pub all_is : (entries : List Entry) (fates : List Fate) → AreFates judged marked entries fates
      → fated (lines_of entries) fates ≡ all_fated judged marked (lines_of entries)
  all_is entries fates are =
      let lines = lines_of entries in
      let all = all_fated judged marked lines in
      sym (sym (fated_parts all)
      ∙ (ap (λ (ls : List Line). fated ls (map (λ x. x.fate) all)) (all_lines lines) ∙ ap (fated lines) (sym are)))

  pub parts_before : (lines : List Line) (fates : List Fate) → fates ≡ map (λ x. x.fate) (before_losses lines)
      → fated lines fates ≡ before_losses lines
  parts_before lines fates are =
      ap (fated lines) are
      ∙ ap (λ (ls : List Line). fated ls (map (λ x. x.fate) (before_losses lines))) (sym (lines_before lines))
      ∙ fated_parts (before_losses lines)

  -- The three steps together give the fates.
  module _ (entries : List Entry) (ties : List Tie) (first left : List Fate) (are_ties : AreTies entries ties)
      (is_first : first ≡ first_fates judged (lines_of entries) ties)
      (is_left : left ≡ map (λ x. x.fate)
      (without_unanswered judged marked (lines_of entries) (fated (lines_of entries) first))) where
    left_is : left ≡ map (λ x. x.fate) (before_losses (lines_of entries))
    left_is =
        is_left
        ∙ ap (λ (fs : List Fate). map (λ x. x.fate)
        (without_unanswered judged marked (lines_of entries) (fated (lines_of entries) fs)))
        (is_first ∙ ap (first_fates judged (lines_of entries)) are_ties)

    pub count_left : length left ≡ length entries
    count_left =
        ap length left_is ∙ length-map (before_losses (lines_of entries)) (λ x. x.fate)
        ∙ sym (length-map (before_losses (lines_of entries)) (λ y. y.line))
        ∙ ap length (lines_before (lines_of entries)) ∙ count_lines entries

    pub fates_are : (fates : List Fate)
        → fates ≡ map (λ x. x.fate) (with_losses (fated (lines_of entries) left))
        → AreFates judged marked entries fates
    fates_are fates is =
        is
        ∙ ap (λ (all : List Fated). map (λ x. x.fate) (with_losses all))
        (parts_before (lines_of entries) left left_is)

-- ---- the order of deliveries

-- A gap after losses was the gap before, and is not overtaken.
kept_gap : (b c : Bool) (fate : Fate) (g : ℕ) → cond (is_gap fate && b && c) Lost fate ≡ Gap g → b ≡ true
    → (fate ≡ Gap g) × (c ≡ false)
kept_gap true true (Gap k) g is some = absurd (cc)
kept_gap true false (Gap k) g is some = (is, refl)
kept_gap false c fate g is some = absurd (cc)
kept_gap b c Lost g is some = absurd (cc)
kept_gap b c (By reply) g is some = absurd (cc)

not_overtaken : (x y : Fated) (g h : ℕ) → is_overtaken x y ≡ false → x.fate ≡ Gap g → y.fate ≡ Gap h
    → are_of_one_end x.line.entry y.line.entry ≡ true → g ≤ h
not_overtaken x y g h never of_x of_y one =
    let earlier : (are_of_one_end x.line.entry y.line.entry && is_later (time_of y.fate) (time_of x.fate))
    ≡ false = never in
    let lt : nat_lt (2 * h) (2 * g) ≡ false = rw (one, of_x, of_y) at earlier in
    omega (arith, ltb-false (2 * h) (2 * g) lt)

each_not_overtaken : (line : Line) (fate kept : Fate) (later : List Fated)
    → ((g : ℕ) → kept ≡ Gap g → is_some (message_of line.entry) ≡ true
    → (fate ≡ Gap g) × (list_any (is_overtaken (fated_at line fate)) later ≡ false))
    → AllByRecursion (ComesNoEarlier (fated_at line kept)) later
each_not_overtaken line fate kept [] never = tt
each_not_overtaken line fate kept (y ∷ later) never = (
  λ g h of_x of_y some one.
      let parts = or_parts (is_overtaken (fated_at line fate) y) (list_any (is_overtaken (fated_at line fate)) later)
      (never g of_x some).1 in
      not_overtaken (fated_at line fate) y g h parts.0 (never g of_x some).0 of_y one,
  each_not_overtaken line fate kept later (λ g of_x some. (
    (never g of_x some).0,
    (or_parts (is_overtaken (fated_at line fate) y) (list_any (is_overtaken (fated_at line fate)) later)
        (never g of_x some).1).1,
  )),
)

-- The fates after losses are in order.
pub losses_order : (all : List Fated) → AreInOrder (with_losses all)
losses_order [] = tt
losses_order (x ∷ more) = (
  each_not_overtaken x.line x.fate (fate_before (with_losses more) x) (with_losses more) (λ g is some.
      kept_gap (is_some (message_of x.line.entry)) (list_any (is_overtaken x) (with_losses more)) x.fate g is some),
  losses_order more,
)
