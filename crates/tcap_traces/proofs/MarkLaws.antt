-- What is noted of transaction IDs before a quiet mark, and what is known after it.
use Rattle.std.proofs.Common.{◌≡◌, Bool, true, false, cond, List, [], ◌∷◌, ◌++◌, ℕ, refl, sym, ap, ◌∙◌}
use Rattle.std.specs.Prelude.{◌&&◌, ◌||◌, not, filter}
use Rattle.std.specs.List.{flat_map, list_any}
use Rattle.std.specs.BTreeSet as set
use Rattle.std.specs.BTreeSet.{BTreeSet}
use Rattle.std.proofs.lemmas.List.Folds.{list_any-append}
use Rattle.tcap_record.specs.declared.entry.End.{End as Side}
use Rattle.tcap_record.specs.declared.entry.End.TheVariants as sides
use Rattle.tcap_end.specs.Table.{octets_cmp}
use Rattle.tcap_dialogues.specs.Course.{Course, Heading, own_ids}
use Rattle.tcap_dialogues.specs.DialoguesOfList.{IdOf, is_among, is_same}
use Rattle.tcap_dialogues.specs.CutDialogues.{IsCompleteDialogue}
use Rattle.tcap_dialogues.specs.declared.complete_dialogue.CompleteDialogue.{CompleteDialogue}
use Rattle.tcap_dialogues.proofs.CutIds.{same_id}
use Rattle.tcap_traces.specs.declared.before_marks.Before.{Before as Known}
use Rattle.tcap_traces.specs.declared.before_marks.BeforeMarks.{BeforeMarks}
use Rattle.tcap_traces.specs.declared.before_marks.EndMarks.{EndMarks}
use Rattle.tcap_traces.specs.IdsBeforeMarks.{Changes, IsFresh, Notes, Sends, known_after, known_in, sent_in}
use Rattle.tcap_traces.specs.TraceProgress.{AreMarked, IsMarked, any_goes, any_stays, id_of}

-- ---- one more dialogue

or_swap : (a g : Bool) → (a || g) ≡ (g || ((true && a) || false))
or_swap true true = refl
or_swap true false = refl
or_swap false true = refl
or_swap false false = refl

or_none : (g a : Bool) → g ≡ (g || ((false && a) || false))
or_none true a = refl
or_none false a = refl

both_open : (a s o : Bool) → ((a && o) || (s && o)) ≡ ((s || ((true && a) || false)) && o)
both_open true true true = refl
both_open true true false = refl
both_open true false true = refl
both_open true false false = refl
both_open false true true = refl
both_open false true false = refl
both_open false false true = refl
both_open false false false = refl

module _ (sent «open» : List IdOf) (goes : Course → Bool) (names : IdOf → Bool) (ds : List Course) (d : Course) (side : Side) (old new : EndMarks)
    (m : IsMarked sent «open» (any_goes goes ds) (any_stays goes ds) names side old) (ids : BTreeSet (List ℕ))
    (same : (o : List ℕ) → set.contains octets_cmp ids o ≡ is_among d.ids (id_of side o)) where
  goes_more : (b : Bool) → goes d ≡ b → (id : IdOf)
      → any_goes goes (ds ++ d ∷ []) id ≡ (any_goes goes ds id || ((b && is_among d.ids id) || false))
  goes_more b is id =
      list_any-append (λ e. goes e && is_among e.ids id) ds (d ∷ [])
      ∙ ap (λ x. any_goes goes ds id || ((x && is_among d.ids id) || false)) is

  stays_more : (b : Bool) → goes d ≡ b → (id : IdOf)
      → any_stays goes (ds ++ d ∷ []) id ≡ (any_stays goes ds id || ((not b && is_among d.ids id) || false))
  stays_more b is id =
      list_any-append (λ e. not (goes e) && is_among e.ids id) ds (d ∷ [])
      ∙ ap (λ x. any_stays goes ds id || ((not x && is_among d.ids id) || false)) is

  end_noted : (b : Bool) → goes d ≡ b → Changes b ids old new
      → IsMarked sent «open» (any_goes goes (ds ++ d ∷ [])) (any_stays goes (ds ++ d ∷ [])) names side new
  end_noted true is (opens, rest) = record {
    known = λ o. ap (λ (x : EndMarks). known_in x o) rest ∙ m.known o;
    opened = λ o.
        let id = id_of side o in
        opens o ∙ ap (λ x. x || set.contains octets_cmp old.opened o) (same o) ∙ ap (λ x. is_among d.ids id || x) (m.opened o)
        ∙ or_swap (is_among d.ids id) (any_goes goes ds id) ∙ sym (goes_more true is id);
    closed = λ o.
        let id = id_of side o in
        ap (λ (x : EndMarks). set.contains octets_cmp x.closed o) rest ∙ m.closed o
        ∙ ap (λ x. x && is_among «open» id) (or_none (any_stays goes ds id) (is_among d.ids id) ∙ sym (stays_more true is id));
    named = λ o. ap (λ (x : EndMarks). set.contains octets_cmp x.sent o) rest ∙ m.named o;
  }
  end_noted false is (closes, rest) = record {
    known = λ o. ap (λ (x : EndMarks). known_in x o) rest ∙ m.known o;
    opened = λ o.
        let id = id_of side o in
        ap (λ (x : EndMarks). set.contains octets_cmp x.opened o) rest ∙ m.opened o
        ∙ or_none (any_goes goes ds id) (is_among d.ids id) ∙ sym (goes_more false is id);
    closed = λ o.
        let id = id_of side o in
        closes o ∙ ap (λ x. (x && (known_in old o).open) || set.contains octets_cmp old.closed o) (same o)
        ∙ ap (λ (x : Known). (is_among d.ids id && x.open) || set.contains octets_cmp old.closed o) (m.known o)
        ∙ ap (λ x. (is_among d.ids id && is_among «open» id) || x) (m.closed o)
        ∙ both_open (is_among d.ids id) (any_stays goes ds id) (is_among «open» id)
        ∙ ap (λ x. x && is_among «open» id) (sym (stays_more false is id));
    named = λ o. ap (λ (x : EndMarks). set.contains octets_cmp x.sent o) rest ∙ m.named o;
  }

pub noted : (sent «open» : List IdOf) (goes : Course → Bool) (names : IdOf → Bool) (ds : List Course) (d : Course) (g : CompleteDialogue) (old new : BeforeMarks)
    (b : Bool) → IsCompleteDialogue d g → b ≡ goes d → AreMarked sent «open» goes names ds old → Notes b g old new
    → AreMarked sent «open» goes names (ds ++ d ∷ []) new
noted sent «open» goes names ds d g old new b is goes_on m (at_a, at_b) = record {
  a = end_noted sent «open» goes names ds d sides.A old.a new.a m.a g.a (λ o. is.ids (id_of sides.A o)) b (sym goes_on) at_a;
  b = end_noted sent «open» goes names ds d sides.B old.b new.b m.b g.b (λ o. is.ids (id_of sides.B o)) b (sym goes_on) at_b;
}

-- ---- a quiet mark

-- the IDs that are sent from and open after the segment with these headings and dialogues
abbrev pub sent_next : List IdOf → List Heading → List IdOf
sent_next sent hs = flat_map own_ids hs ++ sent

abbrev pub open_next : List IdOf → (Course → Bool) → List Course → List IdOf
open_next «open» goes ds =
    flat_map (λ d. cond (goes d) d.ids []) ds ++ filter (λ id. not (list_any (λ d. is_among d.ids id) ds)) «open»

among_going : (goes : Course → Bool) (ds : List Course) (id : IdOf) → is_among (flat_map (λ d. cond (goes d) d.ids []) ds) id ≡ any_goes goes ds id
among_going goes [] id = refl
among_going goes (d ∷ ds) id =
    list_any-append (is_same id) (cond (goes d) d.ids []) (flat_map (λ e. cond (goes e) e.ids []) ds)
    ∙ ap (λ x. x || is_among (flat_map (λ e. cond (goes e) e.ids []) ds) id) (by (goes d))
    ∙ ap (λ x. (goes d && is_among d.ids id) || x) (among_going goes ds id)
  where
    by : (b : Bool) → is_among (cond b d.ids []) id ≡ (b && is_among d.ids id)
    by true = refl
    by false = refl

among_filter : (p : IdOf → Bool) (ids : List IdOf) (id : IdOf) → is_among (filter p ids) id ≡ (is_among ids id && p id)
among_filter p [] id = refl
among_filter p (x ∷ ids) id = by (is_same id x) refl (p x) refl (among_filter p ids id)
  where
    split : (a b c : Bool) → (a || (b && c)) ≡ ((a || b) && (a || c))
    split true b c = refl
    split false b c = refl

    gone : (a b : Bool) → b ≡ false → (a && b) ≡ b
    gone true b is = refl
    gone false b is = sym is

    by : (s : Bool) → is_same id x ≡ s → (b : Bool) → p x ≡ b → is_among (filter p ids) id ≡ (is_among ids id && p id)
        → is_among (cond b (x ∷ filter p ids) (filter p ids)) id ≡ ((s || is_among ids id) && p id)
    by true same true is rest =
        ap (λ y. y || is_among (filter p ids) id) same ∙ sym (ap p (same_id id x same) ∙ is)
    by true same false is rest =
        let none : p id ≡ false = ap p (same_id id x same) ∙ is in
        rest ∙ gone (is_among ids id) (p id) none
    by false same true is rest = ap (λ y. y || is_among (filter p ids) id) same ∙ rest
    by false same false is rest = rest

any_both : (goes : Course → Bool) (ds : List Course) (id : IdOf)
    → list_any (λ d. is_among d.ids id) ds ≡ (any_goes goes ds id || any_stays goes ds id)
any_both goes [] id = refl
any_both goes (d ∷ ds) id = ap (λ x. is_among d.ids id || x) (any_both goes ds id) ∙ by (goes d) (is_among d.ids id) (any_goes goes ds id) (any_stays goes ds id)
  where
    by : (b a g s : Bool) → (a || (g || s)) ≡ (((b && a) || g) || ((not b && a) || s))
    by true true g s = refl
    by true false g s = refl
    by false true true s = refl
    by false true false s = refl
    by false false g s = refl

open_same : (g s o : Bool) → (g || (o && not (s && o))) ≡ (g || (o && not (g || s)))
open_same true s o = refl
open_same false true true = refl
open_same false true false = refl
open_same false false true = refl
open_same false false false = refl

or_turned : (a b : Bool) → (a || b) ≡ (b || a)
or_turned true true = refl
or_turned true false = refl
or_turned false true = refl
or_turned false false = refl

-- The IDs from which the ends sent are noted.
pub sends_noted : (sent «open» : List IdOf) (goes : Course → Bool) (ds : List Course) (hs : List Heading) (side : Side) (old new : EndMarks)
    → IsMarked sent «open» (any_goes goes ds) (any_stays goes ds) (λ id. false) side old → Sends (sent_in hs side) old new
    → IsMarked sent «open» (any_goes goes ds) (any_stays goes ds) (is_among (flat_map own_ids hs)) side new
sends_noted sent «open» goes ds hs side old new m (sends, rest) = record {
  known = λ o. ap (λ (x : EndMarks). known_in x o) rest ∙ m.known o;
  opened = λ o. ap (λ (x : EndMarks). set.contains octets_cmp x.opened o) rest ∙ m.opened o;
  closed = λ o. ap (λ (x : EndMarks). set.contains octets_cmp x.closed o) rest ∙ m.closed o;
  named = λ o. sends o ∙ ap (λ b. b || sent_in hs side o) (m.named o);
}

module _ (sent «open» : List IdOf) (goes : Course → Bool) (ds : List Course) (hs : List Heading) (side : Side) (old new : EndMarks)
    (m : IsMarked sent «open» (any_goes goes ds) (any_stays goes ds) (is_among (flat_map own_ids hs)) side old)
    (known : (o : List ℕ) → known_in new o ≡ known_after old o) (fresh : IsFresh new) where
  sent_is : (o : List ℕ) → (known_after old o).sent ≡ is_among (sent_next sent hs) (id_of side o)
  sent_is o =
      let id = id_of side o in
      ap (λ (x : Known). x.sent || set.contains octets_cmp old.sent o) (m.known o)
      ∙ ap (λ x. is_among sent id || x) (m.named o)
      ∙ or_turned (is_among sent id) (is_among (flat_map own_ids hs) id)
      ∙ sym (list_any-append (is_same id) (flat_map own_ids hs) sent)

  open_is : (o : List ℕ) → (known_after old o).open ≡ is_among (open_next «open» goes ds) (id_of side o)
  open_is o =
      let id = id_of side o in
      let goers = flat_map (λ d. cond (goes d) d.ids []) ds in
      ap (λ x. x || ((known_in old o).open && not (set.contains octets_cmp old.closed o))) (m.opened o)
      ∙ ap (λ (x : Known). any_goes goes ds id || (x.open && not (set.contains octets_cmp old.closed o))) (m.known o)
      ∙ ap (λ x. any_goes goes ds id || (is_among «open» id && not x)) (m.closed o)
      ∙ open_same (any_goes goes ds id) (any_stays goes ds id) (is_among «open» id)
      ∙ ap (λ x. any_goes goes ds id || (is_among «open» id && not x)) (sym (any_both goes ds id))
      ∙ ap (λ x. any_goes goes ds id || x) (sym (among_filter (λ i. not (list_any (λ d. is_among d.ids i) ds)) «open» id))
      ∙ ap (λ x. x || is_among (filter (λ i. not (list_any (λ d. is_among d.ids i) ds)) «open») id) (sym (among_going goes ds id))
      ∙ sym (list_any-append (is_same id) goers (filter (λ i. not (list_any (λ d. is_among d.ids i) ds)) «open»))

  pub end_passed : (then : Course → Bool) → IsMarked (sent_next sent hs) (open_next «open» goes ds) (any_goes then []) (any_stays then []) (λ id. false) side new
  end_passed then = record {
    known = λ o.
        known o ∙ ap (λ (x : Bool). made x (known_after old o).open) (sent_is o)
        ∙ ap (made (is_among (sent_next sent hs) (id_of side o))) (open_is o);
    opened = λ o. (fresh o).0;
    closed = λ o. (fresh o).1;
    named = λ o. (fresh o).2;
  }
    where
      made : Bool → Bool → Known
      made sent is_open = record { sent = sent; «open» = is_open }
