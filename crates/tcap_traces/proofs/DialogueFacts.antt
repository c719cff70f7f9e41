-- A gathered dialogue with its entries, and with what is noted of it, is the dialogue that it represents.
use Rattle.std.proofs.Common.{arith, ◌≡◌, ℕ, suc, ◌<◌, Bool, true, false, cond, List, [], ◌∷◌, Option, Some, None, refl, sym, ap, ◌∙◌, length}
use Rattle.std.specs.Prelude.{◌&&◌, ◌||◌, not, is_some, option_map, slice_get}
use Rattle.tcap_dialogues.specs.Course.{Course, Heading, has_entry, is_begin}
use Rattle.tcap_dialogues.specs.CutDialogues.{IsCompleteDialogue}
use Rattle.tcap_dialogues.specs.declared.complete_dialogue.CompleteDialogue.{CompleteDialogue}
use Rattle.tcap_traces.specs.Pieces.{TraceEntry}
use Rattle.tcap_traces.specs.Dialogue.{After, Dialogue, begun_by, heading_in}
use Rattle.tcap_traces.specs.Case.{gathered_as, has_some, unread_after, unread_by}
use Rattle.tcap_traces.specs.Segments.{Before, Segment, after_it, dialogue_of, entries_in, headings_in, is_in_use, least_unread, numbers_in, unreadable_from}
use Rattle.tcap_traces.specs.UnreadableEntries.{Notes, first_above}
use Rattle.tcap_traces.proofs.CaseFacts.{has_ids_is}
use Rattle.tcap_traces.specs.TraceProgress.{AreNoted, IsFirst}
use Rattle.tcap_traces.proofs.TakenEntries.{as_many, entries_are, entries_at, first_is, numbers_are}

module _ (before : Before) (seg : Segment) (d : Course) (g : CompleteDialogue) (are : IsCompleteDialogue d g)
    (below : (n : ℕ) → has_entry d n ≡ true → n < length seg.entries) where
  -- the heading of the first entry
  abbrev first : Option Heading
  first = option_map heading_in (slice_get (entries_in d 0 seg.entries) 0)

  pub numbers_same : g.numbers.items ≡ numbers_in d 0 seg.entries
  numbers_same = numbers_are d seg.entries g.numbers.items are.ascending are.numbers below

  pub entries_same : entries_at seg.entries g.numbers.items ≡ entries_in d 0 seg.entries
  entries_same = ap (entries_at seg.entries) numbers_same ∙ entries_are d seg.entries

  -- the unreadable entry that may belong to the dialogue
  abbrev unread_is : Option ℕ
  unread_is =
      cond (is_some (slice_get d.ids 0))
      (unreadable_from (least_unread first (slice_get (numbers_in d 0 seg.entries) 0)) 0 (headings_in before seg)) None

  pub facts_same : (after : After) (in_use : Bool) (unread : Option ℕ) → after ≡ after_it d.over seg.end
      → in_use ≡ (not d.again && is_in_use before first d.ids) → unread ≡ unread_is
      → gathered_as g (entries_at seg.entries g.numbers.items) after seg.under_way in_use unread ≡ dialogue_of before seg d
  facts_same after in_use unread is_after is_used is_unread =
      ap (λ es. made es g.numbers.items (has_some g.a || has_some g.b) g.over (is_some g.earlier) g.unsettled after in_use unread) entries_same
      ∙ ap (λ ns. made (entries_in d 0 seg.entries) ns (has_some g.a || has_some g.b) g.over (is_some g.earlier) g.unsettled after in_use unread) numbers_same
      ∙ ap (λ b. made (entries_in d 0 seg.entries) (numbers_in d 0 seg.entries) b g.over (is_some g.earlier) g.unsettled after in_use unread) (has_ids_is d g are)
      ∙ ap (λ o. made (entries_in d 0 seg.entries) (numbers_in d 0 seg.entries) (is_some (slice_get d.ids 0)) o (is_some g.earlier) g.unsettled after in_use unread) are.over
      ∙ ap (λ b. made (entries_in d 0 seg.entries) (numbers_in d 0 seg.entries) (is_some (slice_get d.ids 0)) d.over b g.unsettled after in_use unread) are.again
      ∙ ap (λ b. made (entries_in d 0 seg.entries) (numbers_in d 0 seg.entries) (is_some (slice_get d.ids 0)) d.over d.again b after in_use unread) are.unsettled
      ∙ ap (λ x. made (entries_in d 0 seg.entries) (numbers_in d 0 seg.entries) (is_some (slice_get d.ids 0)) d.over d.again d.unsettled x in_use unread) is_after
      ∙ ap (λ b. made (entries_in d 0 seg.entries) (numbers_in d 0 seg.entries) (is_some (slice_get d.ids 0)) d.over d.again d.unsettled (after_it d.over seg.end) b unread) is_used
      ∙ ap (made (entries_in d 0 seg.entries) (numbers_in d 0 seg.entries) (is_some (slice_get d.ids 0)) d.over d.again d.unsettled (after_it d.over seg.end)
      (not d.again && is_in_use before first d.ids)) is_unread
    where
      made : List TraceEntry → List ℕ → Bool → Option ℕ → Bool → Bool → After → Bool → Option ℕ → Dialogue
      made entries numbers has_ids over again unsettled after in_use unread = record {
        entries = entries;
        numbers = numbers;
        has_ids = has_ids;
        over = over;
        again = again;
        unsettled = unsettled;
        after = after;
        under_way = seg.under_way;
        in_use = in_use;
        unread = unread;
      }

  module _ (n : ℕ) (is_first : IsFirst d n) where
    -- its first number
    pub first_number : slice_get (numbers_in d 0 seg.entries) 0 ≡ Some n
    first_number = first_is d 0 seg.entries n is_first.has (omega arith) (let less = below n is_first.has in omega (less, arith)) is_first.least

    -- its first entry
    pub first_entry : (h : Heading) × (first ≡ Some h)
    first_entry = by (numbers_in d 0 seg.entries) (entries_in d 0 seg.entries) refl (as_many d 0 seg.entries) first_number
      where
        by : (ns : List ℕ) (es : List TraceEntry) → entries_in d 0 seg.entries ≡ es → length ns ≡ length es → slice_get ns 0 ≡ Some n
            → (h : Heading) × (first ≡ Some h)
        by [] es is same none = cc
        by (m ∷ ns) [] is same some = absurd (omega (same, arith))
        by (m ∷ ns) (e ∷ es) is same some = (heading_in e, ap (λ l. option_map heading_in (slice_get l 0)) is)

    -- The unreadable entry that is noted is the right one.
    pub unread_same : (begun : ℕ → Bool) (notes : Notes) → AreNoted (headings_in before seg) begun notes → begun n ≡ true
        → unread_by notes.0 g first ≡ unread_is
    unread_same begun notes noted is_begun =
        ap (λ b. cond b (first_above (unread_after (begun_by first) (slice_get g.numbers.items 0)) notes.0) None) (has_ids_is d g are)
        ∙ ap (λ o. cond (is_some (slice_get d.ids 0)) (first_above (unread_after (begun_by first) o) notes.0) None)
        (ap (λ l. slice_get l 0) numbers_same ∙ first_number)
        ∙ ap (λ o. cond (is_some (slice_get d.ids 0)) o None) (here first_entry)
        ∙ ap (λ o. cond (is_some (slice_get d.ids 0)) (unreadable_from (least_unread first o) 0 (headings_in before seg)) None) (sym first_number)
      where
        by : (h : Heading) (b : Bool) → is_begin h.kind ≡ b
            → first_above (unread_after (cond b (Some h.sender) None) (Some n)) notes.0 ≡ unreadable_from (cond b (suc n) 0) 0 (headings_in before seg)
        by h true is = noted.above n is_begun
        by h false is = noted.all

        here : (h : Heading) × (first ≡ Some h)
            → first_above (unread_after (begun_by first) (Some n)) notes.0 ≡ unreadable_from (least_unread first (Some n)) 0 (headings_in before seg)
        here (h, is) =
            ap (λ f. first_above (unread_after (begun_by f) (Some n)) notes.0) is ∙ by h (is_begin h.kind) refl
            ∙ sym (ap (λ f. unreadable_from (least_unread f (Some n)) 0 (headings_in before seg)) is)
