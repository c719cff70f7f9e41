-- When is a list of the entries of messages empty, and when not?
use Rattle.tcap_evidence_laws.proofs.Common.{◌≡◌, ℕ, Bool, true, false, cond, ◌&&◌, ◌||◌, List, [], ◌∷◌, length, map, Option, None, refl, ap, ◌∙◌, Contains, filter, list_any, Message, cause_in, dtid_in, otid_in, Side, Entry, Item, peer_sent_from, sent_by, is_nothing, is_abort_with, is_cause, outgoing, any_is, Numbered, entries_where, sent_before, Scene, is_same_id, peer_from_dtid, sent_to_dtid, ListsOne, items_before, other}
use Rattle.tcap_evidence_laws.proofs.NumberedLists.{map_is, where_has}
use Rattle.tcap_evidence.proofs.SceneLaws.{none_kept}
use Rattle.tcap_evidence_laws.proofs.SceneLists.{IsTo, there_are, outgoing_are}
use Rattle.tcap_evidence_laws.proofs.SentBefore.{messages, sent_are}
use Rattle.tcap_evidence.specs.declared.shown_facts.ShownFact.TheVariants as facts

-- A list of length 0 is empty.
pub empty_is : {A : Type 0} (xs : List A) → length xs ≡ 0 → xs ≡ []
empty_is [] none = refl
empty_is (x ∷ xs) none = cc

-- The list is empty if no message passes.
pub none_pass : (p : Message → Bool) (sent : List Numbered) → list_any p (messages sent) ≡ false → entries_where p sent ≡ []
none_pass p [] none = refl
none_pass p (n ∷ sent) none = by (p n.1) none (none_pass p sent)
  where
    kept : List Numbered
    kept = filter (λ (k : Numbered). p k.1) sent

    by : (b : Bool) → (b || list_any p (messages sent)) ≡ false
        → (list_any p (messages sent) ≡ false → entries_where p sent ≡ [])
        → map (λ (k : Numbered). k.0) (cond b (n ∷ kept) kept) ≡ []
    by true none rest = cc
    by false none rest = rest none

-- The list has an entry if a message passes.
pub one_passes : (p : Message → Bool) (sent : List Numbered) → list_any p (messages sent) ≡ true
    → (n : ℕ) × Contains (entries_where p sent) n
one_passes p sent some =
    let (m, has, passes) = any_is p (messages sent) some in
    let ((n, other), peer_from_dtid, same) = map_is (λ (k : Numbered). k.1) sent m has in
    (n, where_has p sent n other peer_from_dtid (ap p same ∙ passes))

-- The end sent a message that passes.
pub sent_one : (side : Side) (entries : List Entry) (number : ℕ) (s : Scene) (p : Message → Bool)
    → s.own ≡ sent_before side entries number → list_any p (sent_by side (items_before entries number)) ≡ true
    → (n : ℕ) × Contains (entries_where p s.own) n
sent_one side entries number s p own some =
    one_passes p s.own
    (ap (λ (ns : List Numbered). list_any p (messages ns)) own ∙ ap (list_any p) (sent_are side entries number) ∙ some)

-- Without a destination ID, the peer's messages from it are none.
pub nothing_there : (s : Scene) → s.to ≡ None → peer_from_dtid s ≡ []
nothing_there s to =
    ap (λ (o : Option (List ℕ)). filter (λ (n : Numbered). is_same_id o (otid_in n.1)) s.peer) to
    ∙ none_kept (λ (n : Numbered). is_same_id None (otid_in n.1)) (λ n. refl) s.peer

-- The scene of a message to this ID.
module _ (side : Side) (items : List Item) (s : Scene) (id : List ℕ) (of : IsTo side items id s) (p : Message → Bool) where
  pub none_there : list_any p (peer_sent_from side id items) ≡ false → entries_where p (peer_from_dtid s) ≡ []
  none_there none = none_pass p (peer_from_dtid s) (ap (list_any p) (there_are side items id s of) ∙ none)

  pub one_there : list_any p (peer_sent_from side id items) ≡ true → (n : ℕ) × Contains (entries_where p (peer_from_dtid s)) n
  one_there some = one_passes p (peer_from_dtid s) (ap (list_any p) (there_are side items id s of) ∙ some)

  pub none_outgoing : list_any p (outgoing side id items) ≡ false → entries_where p (sent_to_dtid s) ≡ []
  none_outgoing none = none_pass p (sent_to_dtid s) (ap (list_any p) (outgoing_are side items id s of) ∙ none)

  pub one_outgoing : list_any p (outgoing side id items) ≡ true → (n : ℕ) × Contains (entries_where p (sent_to_dtid s)) n
  one_outgoing some = one_passes p (sent_to_dtid s) (ap (list_any p) (outgoing_are side items id s of) ∙ some)

  pub one_sent : list_any p (sent_by side items) ≡ true → (n : ℕ) × Contains (entries_where p s.own) n
  one_sent some = one_passes p s.own (ap (list_any p) of.own ∙ some)

module _ (side : Side) (items : List Item) (s : Scene) (id : List ℕ) (of : IsTo side items id s) where
  -- whether a message is an Abort of the provider to the destination ID with this cause
  abbrev aborts : ℕ → Message → Bool
  aborts cause m = is_same_id s.to (dtid_in m) && is_cause cause (cause_in m)

  aborts_are : (cause : ℕ)
      → list_any (aborts cause) (sent_by side items) ≡ list_any (is_abort_with cause id) (sent_by side items)
  aborts_are cause =
      ap (λ (o : Option (List ℕ)). list_any (λ (m : Message). is_same_id o (dtid_in m) && is_cause cause (cause_in m))
      (sent_by side items)) of.to

  pub none_aborts : (cause : ℕ) → list_any (is_abort_with cause id) (sent_by side items) ≡ false
      → entries_where (λ m. is_same_id s.to (dtid_in m) && is_cause cause (cause_in m)) s.own ≡ []
  none_aborts cause none =
      none_pass (aborts cause) s.own (ap (list_any (aborts cause)) of.own ∙ aborts_are cause ∙ none)

  pub one_aborts : (cause : ℕ) → list_any (is_abort_with cause id) (sent_by side items) ≡ true
      → (n : ℕ) × Contains (entries_where (λ m. is_same_id s.to (dtid_in m) && is_cause cause (cause_in m)) s.own) n
  one_aborts cause some =
      one_passes (aborts cause) s.own (ap (list_any (aborts cause)) of.own ∙ aborts_are cause ∙ some)

  -- The end sent something to the destination ID.
  pub something_outgoing : is_nothing (outgoing side id items) ≡ false → ListsOne s facts.OutgoingComponents
  something_outgoing some = one_outgoing side items s id of (λ m. true) (by (outgoing side id items) some)
    where
      by : (ms : List Message) → is_nothing ms ≡ false → list_any (λ (m : Message). true) ms ≡ true
      by [] some = cc
      by (m ∷ ms) some = refl
