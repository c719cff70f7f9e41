-- The lists show F2 to F4 of a message, and F15 of a quiet mark.
use Rattle.tcap_evidence_laws.proofs.Common.{◌≡◌, inl, inr, ℕ, Bool, true, false, not, ◌&&◌, List, [], ◌∷◌, Option, Some, None, is_none, refl, ap, ◌∙◌, list_any, and_parts, not-true, Message, Begin, Continue, cause_in, dtid_in, otid_in, Side, Entry, is_id, Table, Item, ended_by, peer_sent_from, has_a, is_a, sent_by, goes_elsewhere, is_surely_open, any_is, any_has, Subject, mark_scene, scene_of, entries_where, Scene, is_open_continue, peer_from_dtid, HasKind, ListsNone, ListsOne, items_before}
use Rattle.tcap_msg.specs.declared.kind.Kind.TheVariants as forms
use Rattle.tcap_refute.specs.declared.kind.Kind.TheVariants as kinds
use Rattle.tcap_refute.specs.Kind.{is_after_end, is_reused, is_unasked, is_unknown_transaction}
use Rattle.tcap_faults.specs.Fault.{is_left_open, is_open_at_mark}
use Rattle.tcap_evidence.specs.declared.shown_facts.ShownFact.TheVariants as facts
use Rattle.tcap_evidence_laws.specs.ListedEntries.{ShowsReused, ShowsUnknown}
use Rattle.tcap_evidence_laws.proofs.CountedLaws.{scene_to}
use Rattle.tcap_evidence_laws.proofs.HasKindLaws.{kind_so}
use Rattle.tcap_evidence_laws.proofs.ListsLaws.{none_there, sent_one}
use Rattle.tcap_evidence_laws.proofs.SceneLists.{IsTo}

-- ---- F2

module _ (side : Side) (items : List Item) (s : Scene) (id : List ℕ) (of : IsTo side items id s) where
  abbrev unasked : Option ℕ → List Message → Type 0
  unasked cause ms = peer_sent_from side id items ≡ ms → is_unasked cause ms ≡ true → ShowsUnknown s cause

  no_such : (p : Message → Bool) → list_any p (peer_sent_from side id items) ≡ false → entries_where p (peer_from_dtid s) ≡ []
  no_such p none = none_there side items s id of p none

  nothing : (p : Message → Bool) → peer_sent_from side id items ≡ [] → entries_where p (peer_from_dtid s) ≡ []
  nothing p none = no_such p (ap (list_any p) none)

  unasked_shows : (cause : Option ℕ) (ms : List Message) → unasked cause ms
  unasked_shows None [] are is = (nothing (is_a forms.Begin) are, nothing (is_a forms.Continue) are)
  unasked_shows None (m ∷ ms) are is = cc
  unasked_shows (Some cause) [] are is = (λ one. nothing (is_a forms.Continue) are, λ four. nothing (is_a forms.Begin) are)
  unasked_shows (Some cause) (m ∷ ms) are is = (by_one, by_four)
    where
      by_one : cause ≡ 1 → ListsNone s facts.PeerContinues
      by_one one =
          let none : not (has_a forms.Continue (m ∷ ms)) ≡ true = rw one at is in
          no_such (is_a forms.Continue) (ap (has_a forms.Continue) are ∙ not-true (has_a forms.Continue (m ∷ ms)) none)

      by_four : cause ≡ 4 → ListsNone s facts.PeerBegins
      by_four four =
          let none : not (has_a forms.Begin (m ∷ ms)) ≡ true = rw four at is in
          no_such (is_a forms.Begin) (ap (has_a forms.Begin) are ∙ not-true (has_a forms.Begin (m ∷ ms)) none)

-- ---- each of these kinds

module _ (table : Table) (side : Side) (entries : List Entry) (number : ℕ) (m : Message) (about : Subject) where
  abbrev items : List Item
  items = items_before entries number

  pub unknown_shows : HasKind table side items m kinds.UnknownTransaction
      → ShowsUnknown (scene_of table side entries number m kinds.UnknownTransaction about) (cause_in m)
  unknown_shows has = by (dtid_in m) refl (kind_so table side items m kinds.UnknownTransaction refl has)
    where
      by : (o : Option (List ℕ)) → dtid_in m ≡ o → is_unknown_transaction side items m ≡ true
          → ShowsUnknown (scene_of table side entries number m kinds.UnknownTransaction about) (cause_in m)
      by None to is = let bad : false ≡ true = rw to at is in cc
      by (Some id) to is =
          unasked_shows side items (scene_of table side entries number m kinds.UnknownTransaction about) id
          (scene_to table side entries number m kinds.UnknownTransaction about id to) (cause_in m) (peer_sent_from side id items)
          refl (rw to at is)

reused_shows_by : (table : Table) (side : Side) (entries : List Entry) (number : ℕ) (m : Message) (about : Subject)
    → is_reused side (items_before entries number) m ≡ true
    → ShowsReused (scene_of table side entries number m kinds.ReusedId about) m
reused_shows_by table side entries number (Begin otid dialogue components) about is =
    inl (
      refl,
      sent_one side entries number
          (scene_of table side entries number (Begin otid dialogue components) kinds.ReusedId about)
          (λ m. is_id otid (otid_in m)) refl is,
    )
reused_shows_by table side entries number (Continue otid dtid dialogue components) about is =
    inr (
      refl,
      sent_one side entries number
          (scene_of table side entries number (Continue otid dtid dialogue components) kinds.ReusedId about)
          (goes_elsewhere otid dtid) refl is,
    )
reused_shows_by table side entries number m about is = cc

module _ (table : Table) (side : Side) (entries : List Entry) (number : ℕ) (m : Message) (about : Subject) where
  pub reused_shows : HasKind table side (items_before entries number) m kinds.ReusedId
      → ShowsReused (scene_of table side entries number m kinds.ReusedId about) m
  reused_shows has =
      reused_shows_by table side entries number m about
      (kind_so table side (items_before entries number) m kinds.ReusedId refl has)

  abbrev after : Scene
  after = scene_of table side entries number m kinds.AfterEnd about

  pub ended_shows : HasKind table side (items_before entries number) m kinds.AfterEnd → ListsOne after facts.Ended
  ended_shows has =
      by (is_none (cause_in m)) (dtid_in m) refl refl
      (kind_so table side (items_before entries number) m kinds.AfterEnd refl has)
    where
      by : (b : Bool) (o : Option (List ℕ)) → is_none (cause_in m) ≡ b → dtid_in m ≡ o
          → is_after_end side (items_before entries number) m ≡ true → ListsOne after facts.Ended
      by true None no_cause to is = let bad : false ≡ true = rw (no_cause, to) at is in cc
      by true (Some id) no_cause to is =
          rw to
          (sent_one side entries number after (λ n. is_id id (ended_by n)) refl (rw (no_cause, to) at is))
      by false o cause to is = let bad : false ≡ true = rw cause at is in cc

-- ---- a quiet mark

module _ (table : Table) (side : Side) (entries : List Entry) (number : ℕ) where
  abbrev mark : Scene
  mark = mark_scene table side entries number

  open_still : (m : Message) → is_left_open table side (items_before entries number) m ≡ true
      → is_open_continue mark m ≡ true
  open_still m is = by (otid_in m) refl
    where
      by : (o : Option (List ℕ)) → otid_in m ≡ o → is_open_continue mark m ≡ true
      by None of =
          let still : (is_a forms.Continue m && false) ≡ true =
          (and_parts (is_a forms.Continue m && false) _ (rw of at is)).0 in
          rw of still
      by (Some own) of =
          let still : (is_a forms.Continue m && is_surely_open table side (items_before entries number) own) ≡ true =
          (and_parts (is_a forms.Continue m && is_surely_open table side (items_before entries number) own) _
          (rw of at is)).0 in
          rw of still

  pub open_shows : is_open_at_mark table side (items_before entries number) ≡ true → ListsOne mark facts.Open
  open_shows is =
      let (m, has, still) =
      any_is (is_left_open table side (items_before entries number)) (sent_by side (items_before entries number)) is in
      sent_one side entries number mark (is_open_continue mark) refl
      (any_has (is_open_continue mark) (sent_by side (items_before entries number)) m has (open_still m still))
