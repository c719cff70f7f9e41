-- What a cut keeps of a segment after an entry joins the live dialogues that have one of its IDs.
use Rattle.std.proofs.Common.{arith, ◌≡◌, ◌⊎◌, inl, inr, ℕ, ◌<◌, Bool, true, false, cond, List, [], ◌∷◌, Option, Some, None, refl, sym, ap, subst, ◌∙◌}
use Rattle.std.specs.Prelude.{◌==◌, not, Contains, filter}
use Rattle.std.specs.BTreeMap as tree
use Rattle.std.specs.List.{list_any}
use Rattle.std.specs.Ordering.{nat_cmp}
use Rattle.std.proofs.lemmas.Bool.{cases_Bool, eq-eqb, eqb-true, false_from_ne_true, true≢false}
use Rattle.tcap_record.specs.declared.entry.End.{End as Side}
use Rattle.tcap_record.specs.declared.entry.End.TheVariants as sides
use Rattle.tcap_record.specs.Ends.{other}
use Rattle.tcap_dialogues.specs.Course.{Course, Courses, Earlier, Heading, has_entry, share_id, ids_in, own_ids, peer_ids, with_entry}
use Rattle.tcap_dialogues.specs.DialoguesOfList.{IdOf, is_among, is_same}
use Rattle.tcap_dialogues.specs.CutState.{AreApart, HasValuesOf, HoldsLive, HoldsOver, IsIdState, IsOwned, known_at, known_of, with_joined_entry}
use Rattle.tcap_dialogues.specs.CutUpdate.{IsAdded, ids_at, is_over_at}
use Rattle.tcap_dialogues.specs.declared.cut.Cut.{Cut}
use Rattle.tcap_dialogues.specs.declared.known_ids.Ids.{Ids}
use Rattle.tcap_dialogues.specs.declared.live.LiveDialogue.{LiveDialogue}
use Rattle.tcap_dialogues.proofs.CourseJoins.{IsNew, hit_by}
use Rattle.tcap_dialogues.proofs.Joins.{in_hit, joins, number_comes, number_stays, stays, which}
use Rattle.tcap_dialogues.proofs.CutIds.{same_id}
use Rattle.tcap_dialogues.proofs.CutLists.{found, left_in}
use Rattle.tcap_dialogues.proofs.HeldLists.{AreSame, or_none}

-- What is known of an ID of the heading.
pub known_here : (ids : Ids) (end : Side) (octets : Option (List ℕ)) (id : IdOf) → is_among (ids_at end octets) id ≡ true
    → known_of ids end octets ≡ known_at ids id
known_here ids end None id is = cc
known_here ids end (Some octets) id is =
    let it : IdOf = record { end = end; octets = octets } in
    ap (known_at ids) (sym (same_id id it (sym (or_none (is_same id it)) ∙ is)))

-- The dialogue that has an ID is known by its name.
pub name_known : (s : Courses) (names : Course → ℕ) (sent : IdOf → Bool) (ids : Ids) → AreApart s.live
    → ((id : IdOf) → IsIdState s names sent id (known_at ids id)) → (d : Course) (id : IdOf) → Contains s.live d → is_among d.ids id ≡ true
    → (known_at ids id).dialogue ≡ Some (names d)
name_known s names sent ids apart are d id has its = by (known_at ids id).dialogue (are id).owned
  where
    by : (o : Option ℕ) → IsOwned s.live names id o (known_at ids id).used (known_at ids id).begun → o ≡ Some (names d)
    by None (nobody, unused, unbegun) = absurd (true≢false (sym its ∙ nobody d has))
    by (Some m) (e, listed, hers, name, used, begun) =
        ap (λ x. Some x) (sym name ∙ ap names (apart.one_id e d id listed has hers its))

-- An ID is not of both ends.
pub ends_apart : (h : Heading) (id : IdOf) → is_among (own_ids h) id ≡ true → is_among (peer_ids h) id ≡ true → ⊥
ends_apart h id own peer = differ h.sender id.end (end_of h.sender h.otid own) (end_of (other h.sender) h.dtid peer)
  where
    end_of : (end : Side) (octets : Option (List ℕ)) → is_among (ids_at end octets) id ≡ true → id.end ≡ end
    end_of end None is = cc
    end_of end (Some octets) is =
        let it : IdOf = record { end = end; octets = octets } in
        ap (λ x. x.end) (same_id id it (sym (or_none (is_same id it)) ∙ is))

    differ : (s e : Side) → e ≡ s → e ≡ other s → ⊥
    differ sides.A e is so = let bad : sides.A ≡ sides.B = sym is ∙ so in cc
    differ sides.B e is so = let bad : sides.B ≡ sides.A = sym is ∙ so in cc

module _ (live : List Course) (names : Course → ℕ) (earlier : Earlier) (n : ℕ) (h : Heading) (apart : AreApart live)
    (later : AreApart (with_joined_entry earlier n h live))
    (below : (d : Course) (i : ℕ) → Contains live d → has_entry d i ≡ true → i < n) where
  -- the new dialogue
  abbrev pub new : Course
  new = with_entry earlier n h (hit_by h live)

  pub made : IsNew earlier.ids n h live new
  made = record { joins = record { numbers_are = refl; ids_are = refl }; again_is = refl }

  -- an old dialogue that it does not join
  abbrev pub Old : Course → Type 0
  Old d = Contains live d × (share_id (ids_in h) d.ids ≡ false)

  pub old_later : (d : Course) → Old d → Contains (with_joined_entry earlier n h live) d
  old_later d (there, misses) = stays made.joins d there misses

  pub new_later : Contains (with_joined_entry earlier n h live) new
  new_later = joins made.joins

  pub cases : (d : Course) → Contains (with_joined_entry earlier n h live) d → Old d ⊎ (new ≡ d)
  cases d has = which made.joins d has

  not_here : (d : Course) → Contains live d → has_entry d n ≡ false
  not_here d has = false_from_ne_true _ (λ is. let less = below d n has is in absurd (omega (arith, less)))

  module _ (k : ℕ) where
    -- the names after the entry: the new dialogue has name k
    pub names_then : Course → ℕ
    names_then d = cond (has_entry d n) k (names d)

    pub name_old : (d : Course) → Old d → names_then d ≡ names d
    unfolding names_then
    name_old d (there, misses) = ap (λ b. cond b k (names d)) (not_here d there)

    pub name_new : names_then new ≡ k
    unfolding names_then
    name_new = ap (λ b. cond b k (names new)) (number_comes made.joins)

    module _ (entry : (k ≡ n) ⊎ (list_any (λ d. has_entry d k) (hit_by h live) ≡ true)) where
      new_entry : has_entry new k ≡ true
      new_entry = by entry
        where
          by : (k ≡ n) ⊎ (list_any (λ d. has_entry d k) (hit_by h live) ≡ true) → has_entry new k ≡ true
          by (inl is) = ap (has_entry new) is ∙ number_comes made.joins
          by (inr is) =
              let (d, has, so) = found (λ x. has_entry x k) (hit_by h live) is in
              number_stays made.joins d k (in_hit made.joins d has) so

      -- An old dialogue differs from the new one.
      differ : (d : Course) → Old d → d ≡ new → ⊥
      differ d (there, misses) same =
          true≢false (sym (number_comes made.joins) ∙ ap (λ x. has_entry x n) (sym same) ∙ not_here d there)

      module _ (lives : tree.BTreeMap ℕ LiveDialogue) (overs : tree.BTreeMap ℕ ℕ) (left : List Course)
          (miss : AreSame left (filter (λ d. not (share_id (ids_in h) d.ids)) live)) (are : HoldsLive left names lives)
          (ends : HoldsOver left names overs) (old now : Cut) (old_lives : old.live ≡ lives) (old_overs : old.overs ≡ overs) (l : LiveDialogue)
          (name : l.name ≡ k) (kept : HasValuesOf (new ∷ []) l) (put : IsAdded l old now) where
        old_of : (d : Course) → Contains left d → Old d
        old_of d has =
            let (there, so) = Rattle.tcap_dialogues.proofs.CutLists.kept_in (λ e. not (share_id (ids_in h) e.ids)) live d (miss.there d has) in
            (there, Rattle.std.proofs.lemmas.Bool.not-true (share_id (ids_in h) d.ids) so)

        left_old : (d : Course) → Old d → Contains left d
        left_old d (there, misses) = miss.back d (left_in (λ e. not (share_id (ids_in h) e.ids)) live d there (ap not misses))

        at : (q : ℕ) → tree.get nat_cmp now.live q ≡ cond (k == q) (Some l) (tree.get nat_cmp lives q)
        at q =
            put.lives q ∙ ap (λ x. cond (x == q) (Some l) (tree.get nat_cmp old.live q)) name
            ∙ ap (λ m. cond (k == q) (Some l) (tree.get nat_cmp m q)) old_lives

        -- Its name differs, too.
        other_name : (d : Course) → Old d → (k == names d) ≡ false
        other_name d o =
            false_from_ne_true _
            (λ is. differ d o (later.one_number d new (names d) (old_later d o) new_later (are.entry d (left_old d o))
            (ap (has_entry new) (sym (eqb-true k (names d) is)) ∙ new_entry)))

        pub lives_then : HoldsLive (with_joined_entry earlier n h live) names_then now.live
        lives_then = record {
          there = λ d has. there d (cases d has);
          back = λ q x found_at. back q x (cases_Bool (k == q)) found_at;
          entry = λ d has. entry_of d (cases d has);
        }
          where
            there : (d : Course) → Old d ⊎ (new ≡ d)
                → (x : LiveDialogue) × (tree.get nat_cmp now.live (names_then d) ≡ Some x) × (x.name ≡ names_then d) × HasValuesOf (d ∷ []) x
            there d (inl o) =
                let (x, found_at, named, is) = are.there d (left_old d o) in (
                  x,
                  ap (tree.get nat_cmp now.live) (name_old d o) ∙ at (names d)
                      ∙ ap (λ b. cond b (Some l) (tree.get nat_cmp lives (names d))) (other_name d o) ∙ found_at,
                  named ∙ sym (name_old d o),
                  is,
                )
            there d (inr same) =
                subst (λ e. (x : LiveDialogue) × (tree.get nat_cmp now.live (names_then e) ≡ Some x) × (x.name ≡ names_then e) × HasValuesOf (e ∷ []) x) same (
                  l,
                  ap (tree.get nat_cmp now.live) name_new ∙ at k ∙ ap (λ b. cond b (Some l) (tree.get nat_cmp lives k)) (eq-eqb k k refl),
                  name ∙ sym name_new,
                  kept,
                )

            back : (q : ℕ) (x : LiveDialogue) → ((k == q) ≡ true) ⊎ ((k == q) ≡ false) → tree.get nat_cmp now.live q ≡ Some x
                → (d : Course) × Contains (with_joined_entry earlier n h live) d × (names_then d ≡ q)
            back q x (inl is) found_at = (new, new_later, name_new ∙ eqb-true k q is)
            back q x (inr is) found_at =
                let was : tree.get nat_cmp lives q ≡ Some x =
                sym (at q ∙ ap (λ b. cond b (Some l) (tree.get nat_cmp lives q)) is) ∙ found_at in
                let (d, has, named) = are.back q x was in
                (d, old_later d (old_of d has), name_old d (old_of d has) ∙ named)

            entry_of : (d : Course) → Old d ⊎ (new ≡ d) → has_entry d (names_then d) ≡ true
            entry_of d (inl o) = ap (has_entry d) (name_old d o) ∙ are.entry d (left_old d o)
            entry_of d (inr same) = subst (λ e. has_entry e (names_then e) ≡ true) same (ap (has_entry new) name_new ∙ new_entry)

        over_new : l.over ≡ new.over
        over_new = kept.over ∙ Rattle.tcap_dialogues.proofs.HeldOvers.lower_none new.over

        over_at : (q : ℕ) → tree.get nat_cmp now.overs q ≡ cond (is_over_at new.over q) (Some k) (tree.get nat_cmp overs q)
        over_at q =
            put.overs q ∙ ap (λ o. cond (is_over_at o q) (Some l.name) (tree.get nat_cmp old.overs q)) over_new
            ∙ ap (λ x. cond (is_over_at new.over q) (Some x) (tree.get nat_cmp old.overs q)) name
            ∙ ap (λ m. cond (is_over_at new.over q) (Some k) (tree.get nat_cmp m q)) old_overs

        over_is : (o : Option ℕ) (q : ℕ) → is_over_at o q ≡ true → o ≡ Some q
        over_is None q is = cc
        over_is (Some x) q is = ap (λ y. Some y) (eqb-true x q is)

        is_over : (o : Option ℕ) (q : ℕ) → o ≡ Some q → is_over_at o q ≡ true
        is_over None q is = cc
        is_over (Some x) q is = let same : x ≡ q = cc in eq-eqb x q same

        pub overs_then : HoldsOver (with_joined_entry earlier n h live) names_then now.overs
        overs_then = record {
          there = λ d q has over. there d q (cases d has) over;
          back = λ q x found_at. back q x (cases_Bool (is_over_at new.over q)) found_at;
        }
          where
            there : (d : Course) (q : ℕ) → Old d ⊎ (new ≡ d) → d.over ≡ Some q → tree.get nat_cmp now.overs q ≡ Some (names_then d)
            there d q (inl o) over =
                over_at q
                ∙ ap (λ b. cond b (Some k) (tree.get nat_cmp overs q))
                (false_from_ne_true _ (λ is. differ d o (later.one_number d new q (old_later d o) new_later
                (later.over_in d q (old_later d o) over) (later.over_in new q new_later (over_is new.over q is)))))
                ∙ ends.there d q (left_old d o) over ∙ ap (λ x. Some x) (sym (name_old d o))
            there d q (inr same) over =
                over_at q
                ∙ ap (λ b. cond b (Some k) (tree.get nat_cmp overs q)) (is_over new.over q (ap (λ x. x.over) same ∙ over))
                ∙ ap (λ x. Some x) (sym name_new ∙ ap names_then same)

            back : (q x : ℕ) → (is_over_at new.over q ≡ true) ⊎ (is_over_at new.over q ≡ false) → tree.get nat_cmp now.overs q ≡ Some x
                → (d : Course) × Contains (with_joined_entry earlier n h live) d × (d.over ≡ Some q) × (names_then d ≡ x)
            back q x (inl is) found_at =
                let one : Some k ≡ Some x = sym (over_at q ∙ ap (λ b. cond b (Some k) (tree.get nat_cmp overs q)) is) ∙ found_at in
                let same : k ≡ x = cc in (new, new_later, over_is new.over q is, name_new ∙ same)
            back q x (inr is) found_at =
                let was : tree.get nat_cmp overs q ≡ Some x =
                sym (over_at q ∙ ap (λ b. cond b (Some k) (tree.get nat_cmp overs q)) is) ∙ found_at in
                let (d, has, over, named) = ends.back q x was in
                (d, old_later d (old_of d has), over, name_old d (old_of d has) ∙ named)
