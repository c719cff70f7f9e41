-- What an end did not answer, by the sets of IDs.
use Rattle.std.proofs.Common.{◌≡◌, ℕ, ◌+◌, ◌<◌, ◌≤◌, Bool, true, false, cond, List, [], ◌∷◌, ◌++◌, length, map, take, get_or, Option, Some, None, not, bytes_eq, refl, sym, ap, ap₂, ◌∙◌, arith}
use Rattle.std.specs.Prelude.{◌&&◌, ◌||◌}
use Rattle.std.specs.BTreeMap.{is_at}
use Rattle.std.specs.BTreeSet.{BTreeSet}
use Rattle.std.specs.BTreeSet as set
use Rattle.std.specs.List.{list_any}
use Rattle.std.proofs.lemmas.List.{map-append, take_all, take_more}
use Rattle.std.proofs.lemmas.List.Folds.{list_any_more}
use Rattle.std.proofs.lemmas.Simd.{map-map}
use Rattle.tcap_msg.specs.declared.message.Message.{Message}
use Rattle.tcap_msg.specs.declared.message.Message.TheVariants.{Unidirectional, Begin, Continue, End as EndMessage, Abort}
use Rattle.tcap_record.specs.declared.entry.End.{End as Side}
use Rattle.tcap_record.specs.declared.entry.Entry.{Entry}
use Rattle.tcap_end.specs.End.{is_id}
use Rattle.tcap_end.specs.Table.{octets_cmp}
use Rattle.tcap_record.specs.Ends.{other, is_entry_of}
use Rattle.tcap_certificate.specs.declared.certificate.Fate.{Fate}
use Rattle.tcap_certificate.specs.declared.certificate.Fate.TheVariants.{Gap, Lost}
use Rattle.tcap_search.specs.declared.unanswered.UsedIds.{UsedIds}
use Rattle.tcap_search.specs.SegmentEntries.{Line, lines_of, message_of}
use Rattle.tcap_search.specs.ProposedCertificate.{Fated, fate_unanswered, fated, goes_on_from, is_gap, is_unanswered, is_sent_to_id, without_unanswered}
use Rattle.tcap_search.specs.UnansweredIds.{AreUsedIds, fate_unless_unanswered, unanswered_by}
use Rattle.tcap_search.proofs.FateSteps.{entry_here, fate_here}
use Rattle.tcap_search.proofs.TestLaws.{same_id}
use Rattle.tcap_search.proofs.LineLaws.{count_lines, entries_of_lines, line_at}
use Rattle.tcap_search.proofs.LossLaws.{count_fated, fates_fated}

-- ---- IDs

-- a set with one more ID
pub set_more : (id : List ℕ) (old new : BTreeSet (List ℕ))
    → ((key : List ℕ) → set.contains octets_cmp new key
    ≡ cond (is_at (octets_cmp id) key) true (set.contains octets_cmp old key))
    → (key : List ℕ) → set.contains octets_cmp new key ≡ (set.contains octets_cmp old key || is_id key (Some id))
set_more id old new puts key =
    puts key ∙ ap (λ (b : Bool). cond b true (set.contains octets_cmp old key)) (same_id id key)
    ∙ by (set.contains octets_cmp old key) (bytes_eq key id)
  where
    by : (was is : Bool) → cond is true was ≡ (was || is)
    by true true = refl
    by true false = refl
    by false true = refl
    by false false = refl

-- the IDs of entries, with one more
pub spoken_more : (side : Side) (entries : List Entry) (i : ℕ) (old new : UsedIds) (e : Entry) → i < length entries
    → e ≡ get_or entries i e → AreUsedIds side (take i entries) old
    → ((id : List ℕ) → set.contains octets_cmp new.to id
    ≡ (set.contains octets_cmp old.to id || is_sent_to_id side id e))
    → ((id : List ℕ) → set.contains octets_cmp new.from id
    ≡ (set.contains octets_cmp old.from id || goes_on_from side id e))
    → AreUsedIds side (take (i + 1) entries) new
spoken_more side entries i old new e within is so_far to from = record {
  to = λ id. to id ∙ ap (λ (b : Bool). b || is_sent_to_id side id e) (so_far.to id) ∙ one_more (is_sent_to_id side id);
  from = λ id. from id ∙ ap (λ (b : Bool). b || goes_on_from side id e) (so_far.from id)
      ∙ one_more (goes_on_from side id);
}
  where
    one_more : (test : Entry → Bool) → (list_any test (take i entries) || test e) ≡ list_any test (take (i + 1) entries)
    one_more test =
        ap (λ (x : Entry). list_any test (take i entries) || test x) is ∙ sym (list_any_more test entries i e within)

-- ---- unanswered messages

any_entry : (test : Entry → Bool) (lines : List Line)
    → list_any (λ y. test y.entry) lines ≡ list_any test (map (λ y. y.entry) lines)
any_entry test [] = refl
any_entry test (x ∷ lines) = ap (λ (b : Bool). test x.entry || b) (any_entry test lines)

pub any_line : (test : Entry → Bool) (entries : List Entry)
    → list_any (λ y. test y.entry) (lines_of entries) ≡ list_any test entries
any_line test entries = any_entry test (lines_of entries) ∙ ap (list_any test) (entries_of_lines entries)

module _ (side : Side) (entries : List Entry) (s : UsedIds) (is : AreUsedIds side entries s) where
  to_is : (id : List ℕ) → set.contains octets_cmp s.to id ≡ list_any (λ y. is_sent_to_id side id y.entry) (lines_of entries)
  to_is id = is.to id ∙ sym (any_line (is_sent_to_id side id) entries)

  from_is : (id : List ℕ)
      → set.contains octets_cmp s.from id ≡ list_any (λ y. goes_on_from side id y.entry) (lines_of entries)
  from_is id = is.from id ∙ sym (any_line (goes_on_from side id) entries)

  unanswered_is : (m : Option Message) → unanswered_by s m ≡ is_unanswered side (lines_of entries) m
  unanswered_is None = refl
  unanswered_is (Some (Unidirectional dialogue components)) = refl
  unanswered_is (Some (Begin otid dialogue components)) = ap not (to_is otid)
  unanswered_is (Some (Continue otid dtid dialogue components)) =
      ap₂ (λ (a b : Bool). not a && not b) (to_is otid) (from_is dtid)
  unanswered_is (Some (EndMessage dtid dialogue components)) = refl
  unanswered_is (Some (Abort dtid reason)) = refl

  -- The fate found is that of the line.
  heard_is : (x : Fated) → fate_unless_unanswered s side x.line.entry x.fate ≡ fate_unanswered side (lines_of entries) x
  heard_is x =
      ap (λ (b : Bool). cond (is_gap x.fate && is_entry_of (other side) x.line.entry.side && b) Lost x.fate)
      (unanswered_is (message_of x.line.entry))

  module _ (fates : List Fate) (counted : length fates ≡ length entries) where
    abbrev all : List Fated
    all = fated (lines_of entries) fates

    same : length fates ≡ length (lines_of entries)
    same = counted ∙ sym (count_lines entries)

    count : length all ≡ length entries
    count = count_fated (lines_of entries) fates same ∙ counted

    abbrev fate_so : Fated → Fate
    fate_so = fate_unanswered side (lines_of entries)

    -- one more entry
    pub heard_step : (i : ℕ) (e : Entry) (heard : List Fate) → i < length entries → e ≡ get_or entries i e
        → heard ≡ map fate_so (take i all)
        → heard ++ fate_unless_unanswered s side e (get_or fates i (Gap 0)) ∷ [] ≡ map fate_so (take (i + 1) all)
    heard_step i e heard within is_entry so_far =
        let d : Fated = record { line = line_at i e None; fate = Gap 0 } in
        let here : Fated = get_or all i d in
        let heard_here : fate_unless_unanswered s side e (get_or fates i (Gap 0)) ≡ fate_so here =
        ap₂ (fate_unless_unanswered s side) (sym (entry_here entries fates counted i (i + 1) refl within e is_entry))
        (sym (fate_here entries fates counted i (i + 1) refl within e is_entry))
        ∙ heard_is here in
        ap₂ (λ (fs : List Fate) (f : Fate). fs ++ f ∷ []) so_far heard_here
        ∙ sym (map-append fate_so (take i all) (here ∷ []))
        ∙ ap (map fate_so) (sym (take_more all i d (omega (arith, within, count))))

    -- all entries
    pub heard_all : (i : ℕ) (heard : List Fate) → length entries ≤ i → heard ≡ map fate_so (take i all)
        → heard ≡ map (λ x. x.fate) (without_unanswered (Some side) true (lines_of entries) all)
    heard_all i heard past so_far =
        so_far ∙ ap (map fate_so) (take_all i all (omega (arith, past, count)))
        ∙ sym (map-map (λ (x : Fated). x.fate) (λ (x : Fated). record x { fate = fate_so x }) all)

-- Without the rule, the fates stay.
pub heard_same : (entries : List Entry) (fates : List Fate) → length fates ≡ length entries
    → fates ≡ map (λ x. x.fate) (fated (lines_of entries) fates)
heard_same entries fates counted = sym (fates_fated (lines_of entries) fates (counted ∙ sym (count_lines entries)))
