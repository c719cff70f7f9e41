-- What is known of transaction IDs after a change.
use Rattle.std.proofs.Common.{◌≡◌, ℕ, Bool, true, false, cond, List, [], ◌∷◌, ◌++◌, Option, Some, None, is_some, bytes_eq, refl, sym, ap, ◌∙◌}
use Rattle.std.proofs.Math.Bool.{and-or_distrib_left, or-true}
use Rattle.std.specs.Prelude.{◌&&◌, ◌||◌, nat_lt, not}
use Rattle.std.specs.BTreeMap as tree
use Rattle.std.specs.BTreeMap.{BTreeMap, is_at}
use Rattle.std.specs.BTreeSet as set
use Rattle.std.specs.BTreeSet.{BTreeSet}
use Rattle.std.specs.Cmp.Lexicographic.{nat_list_cmp_total}
use Rattle.std.specs.List.{list_any}
use Rattle.std.proofs.lemmas.Cmp.{eq_by_cmp_equiv}
use Rattle.std.proofs.lemmas.List.Folds.{list_any-append}
use Rattle.std.proofs.lemmas.Map.Text.{is_eq-slice_cmp}
use Rattle.std.proofs.lemmas.Slice.Eq.{bytes_eq-Decides}
use Rattle.tcap_end.specs.Table.{octets_cmp}
use Rattle.tcap_record.specs.declared.entry.End.{End as Side}
use Rattle.tcap_record.specs.declared.entry.End.TheVariants as sides
use Rattle.tcap_model.specs.World.{is_side}
use Rattle.tcap_dialogues.specs.DialoguesOfList.{IdOf, is_same}
use Rattle.tcap_dialogues.specs.CutDialogues.{by_end, has_id}
use Rattle.tcap_dialogues.specs.CutState.{changed, free_since, free_id_since, known_at, known_by, known_in, last_of}
use Rattle.tcap_dialogues.specs.declared.known_ids.Change.{Change}
use Rattle.tcap_dialogues.specs.declared.known_ids.Change.TheVariants as changes
use Rattle.tcap_dialogues.specs.declared.known_ids.EndIds.{EndIds}
use Rattle.tcap_dialogues.specs.declared.known_ids.FreeIdState.{FreeIdState}
use Rattle.tcap_dialogues.specs.declared.known_ids.Ids.{Ids}
use Rattle.tcap_dialogues.specs.declared.known_ids.IdState.{IdState}
use Rattle.tcap_dialogues.proofs.CutIds.{same_id}
use Rattle.tcap_dialogues.proofs.HeldLists.{or_none}

-- A key finds equal octets.
pub at_octets : (a b : List ℕ) → is_at (octets_cmp a) b ≡ bytes_eq b a
at_octets a b = (eq_by_cmp_equiv nat_list_cmp_total).symm a b ∙ is_eq-slice_cmp b a

-- The value at one key is replaced.
abbrev pub Puts : {X : Type 0} → BTreeMap (List ℕ) X → BTreeMap (List ℕ) X → List ℕ → X → Type 0
Puts old new key x = (q : List ℕ) → tree.get octets_cmp new q ≡ cond (is_at (octets_cmp key) q) (Some x) (tree.get octets_cmp old q)

-- What is known of one ID of an end is replaced.
pub set_in : (old new : EndIds) (key : List ℕ) (known : IdState) → Puts old.live new.live key known → new.done ≡ old.done
    → (q : List ℕ) → known_in new q ≡ cond (bytes_eq q key) known (known_in old q)
set_in old new key known puts same q =
    ap (λ kept. known_by kept (tree.get octets_cmp new.done q)) (puts q)
    ∙ ap (λ done. known_by (cond (is_at (octets_cmp key) q) (Some known) (tree.get octets_cmp old.live q)) (tree.get octets_cmp done q)) same
    ∙ ap (λ b. known_by (cond b (Some known) (tree.get octets_cmp old.live q)) (tree.get octets_cmp old.done q)) (at_octets key q)
    ∙ by (bytes_eq q key)
  where
    by : (b : Bool) → known_by (cond b (Some known) (tree.get octets_cmp old.live q)) (tree.get octets_cmp old.done q)
        ≡ cond b known (known_in old q)
    by true = refl
    by false = refl

-- The ID is freed.
pub freed_in : (old new : EndIds) (key : List ℕ) (gone : FreeIdState) → Puts old.done new.done key gone
    → ((q : List ℕ) → tree.get octets_cmp new.live q ≡ cond (is_at (octets_cmp key) q) None (tree.get octets_cmp old.live q))
    → (q : List ℕ) → known_in new q ≡ cond (bytes_eq q key) (known_by None (Some gone)) (known_in old q)
freed_in old new key gone puts removed q =
    ap (λ kept. known_by kept (tree.get octets_cmp new.done q)) (removed q)
    ∙ ap (λ last. known_by (cond (is_at (octets_cmp key) q) None (tree.get octets_cmp old.live q)) last) (puts q)
    ∙ ap (λ b. known_by (cond b None (tree.get octets_cmp old.live q)) (cond b (Some gone) (tree.get octets_cmp old.done q)))
    (at_octets key q)
    ∙ by (bytes_eq q key)
  where
    by : (b : Bool)
        → known_by (cond b None (tree.get octets_cmp old.live q)) (cond b (Some gone) (tree.get octets_cmp old.done q))
        ≡ cond b (known_by None (Some gone)) (known_in old q)
    by true = refl
    by false = refl

-- So it is with what was known of it, if a live dialogue had it or none.
pub freed_known : (old new : EndIds) (key : List ℕ) (first : ℕ) (early : Bool) (known : IdState) → known ≡ known_in old key
    → Puts old.done new.done key (free_id_since first early known)
    → ((q : List ℕ) → tree.get octets_cmp new.live q ≡ cond (is_at (octets_cmp key) q) None (tree.get octets_cmp old.live q))
    → (q : List ℕ) → known_in new q ≡ cond (bytes_eq q key) (free_since first early (known_in old key)) (known_in old q)
freed_known old new key first early known is puts removed q =
    freed_in old new key (free_id_since first early known) puts removed q
    ∙ ap (λ k. cond (bytes_eq q key) (free_since first early k) (known_in old q)) is

pub known_live : (ids : EndIds) (key : List ℕ) (known : IdState) → Some known ≡ tree.get octets_cmp ids.live key → known ≡ known_in ids key
known_live ids key known is = ap (λ o. known_by o (tree.get octets_cmp ids.done key)) is

pub known_done : (ids : EndIds) (key : List ℕ) (known : IdState) → None ≡ tree.get octets_cmp ids.live key
    → known ≡ known_by None (tree.get octets_cmp ids.done key) → known ≡ known_in ids key
known_done ids key known none is = is ∙ ap (λ o. known_by o (tree.get octets_cmp ids.done key)) none

-- ---- many changes

either_way : (n : ℕ) (b : Bool) → cond b n n ≡ n
either_way n true = refl
either_way n false = refl

-- A second equal change changes nothing.
last_twice : (first : ℕ) (last : Option ℕ) → last_of first (Some (last_of first last)) ≡ last_of first last
last_twice first None = either_way first (nat_lt first first)
last_twice first (Some last) = by (nat_lt first last) refl
  where
    by : (b : Bool) → nat_lt first last ≡ b → cond (nat_lt first (cond b last first)) (cond b last first) first ≡ cond b last first
    by true is = ap (λ c. cond c last first) is
    by false is = either_way first (nat_lt first first)

twice : (change : Change) (known : IdState) → changed change (changed change known) ≡ changed change known
twice (changes.Free first early) known =
    ap (λ last. known_by None (Some (record { last = last; firm = (known.firm || known.used || not early) || false || not early; sent = known.sent })))
    (last_twice first known.last)
    ∙ ap (λ firm. known_by None (Some (record { last = last_of first known.last; firm = firm; sent = known.sent })))
    (firm_twice known.firm known.used (not early))
  where
    firm_twice : (a b c : Bool) → ((a || b || c) || false || c) ≡ (a || b || c)
    firm_twice true b c = refl
    firm_twice false true c = refl
    firm_twice false false true = refl
    firm_twice false false false = refl
twice (changes.JoinTo name) known = refl

-- whether an ID is one of these of an end
abbrev pub is_one : Side → List (List ℕ) → IdOf → Bool
is_one end keys id = is_side id.end end && list_any (is_at (octets_cmp id.octets)) keys

-- All IDs that pass are changed.
abbrev pub Changes : (IdOf → Bool) → Change → Ids → Ids → Type 0
Changes passes change old new = (id : IdOf) → known_at new id ≡ cond (passes id) (changed change (known_at old id)) (known_at old id)

-- one more ID
pub change_more : (end : Side) (keys : List (List ℕ)) (key : List ℕ) (change : Change) (old now new : Ids)
    → Changes (is_one end keys) change old now
    → ((id : IdOf) → known_at new id
    ≡ cond (is_same id (record { end = end; octets = key })) (changed change (known_at now (record { end = end; octets = key }))) (known_at now id))
    → Changes (is_one end (keys ++ key ∷ [])) change old new
change_more end keys key change old now new so_far puts id =
    puts id
    ∙ ap (λ b. cond b (changed change (known_at now it)) (known_at now id)) (same_at id)
    ∙ by (is_side id.end end && bytes_eq id.octets key) refl
    ∙ ap (λ b. cond b (changed change (known_at old id)) (known_at old id)) (sym passes)
  where
    it : IdOf
    it = record { end = end; octets = key }

    same_at : (x : IdOf) → is_same x it ≡ (is_side x.end end && bytes_eq x.octets key)
    same_at x = refl

    passes : is_one end (keys ++ key ∷ []) id ≡ (is_one end keys id || (is_side id.end end && bytes_eq id.octets key))
    passes =
        ap (λ b. is_side id.end end && b)
        (list_any-append (is_at (octets_cmp id.octets)) keys (key ∷ [])
        ∙ ap (λ b. list_any (is_at (octets_cmp id.octets)) keys || b)
        (or_none (is_at (octets_cmp id.octets) key) ∙ is_eq-slice_cmp id.octets key))
        ∙ and-or_distrib_left (is_side id.end end) (list_any (is_at (octets_cmp id.octets)) keys) (bytes_eq id.octets key)

    by : (b : Bool) → (is_side id.end end && bytes_eq id.octets key) ≡ b
        → cond b (changed change (known_at now it)) (known_at now id)
        ≡ cond (is_one end keys id || b) (changed change (known_at old id)) (known_at old id)
    by true is =
        let same : id ≡ it = same_id id it is in
        ap (λ x. changed change (known_at now x)) (sym same) ∙ ap (changed change) (so_far id)
        ∙ at (is_one end keys id)
      where
        at : (b : Bool) → changed change (cond b (changed change (known_at old id)) (known_at old id))
            ≡ cond (b || true) (changed change (known_at old id)) (known_at old id)
        at true = twice change (known_at old id)
        at false = refl
    by false is = so_far id ∙ ap (λ b. cond b (changed change (known_at old id)) (known_at old id)) (sym (or_none (is_one end keys id)))

-- IDs that pass one of two tests
pub change_then : (p q : IdOf → Bool) (change : Change) (old now new : Ids) → Changes p change old now → Changes q change now new
    → Changes (λ id. p id || q id) change old new
change_then p q change old now new first second id =
    second id ∙ ap (λ known. cond (q id) (changed change known) known) (first id) ∙ by (p id) (q id)
  where
    by : (a b : Bool) → cond b (changed change (cond a (changed change (known_at old id)) (known_at old id))) (cond a (changed change (known_at old id)) (known_at old id))
        ≡ cond (a || b) (changed change (known_at old id)) (known_at old id)
    by true true = twice change (known_at old id)
    by true false = refl
    by false true = refl
    by false false = refl

-- The IDs of both ends are those of A and those of B.
of_both : (a b : BTreeSet (List ℕ)) (id : IdOf)
    → ((is_side id.end sides.A && set.contains octets_cmp a id.octets) || (is_side id.end sides.B && set.contains octets_cmp b id.octets))
    ≡ has_id a b id
of_both a b id = by id.end
  where
    by : (end : Side) → ((is_side end sides.A && set.contains octets_cmp a id.octets) || (is_side end sides.B && set.contains octets_cmp b id.octets))
        ≡ set.contains octets_cmp (by_end end a b) id.octets
    by sides.A = or_none (set.contains octets_cmp a id.octets)
    by sides.B = refl

pub both_change : (a b : BTreeSet (List ℕ)) (change : Change) (old now new : Ids)
    → Changes (λ id. is_side id.end sides.A && set.contains octets_cmp a id.octets) change old now
    → Changes (λ id. is_side id.end sides.B && set.contains octets_cmp b id.octets) change now new
    → Changes (has_id a b) change old new
both_change a b change old now new first second id =
    change_then (λ x. is_side x.end sides.A && set.contains octets_cmp a x.octets) (λ x. is_side x.end sides.B && set.contains octets_cmp b x.octets)
    change old now new first second id
    ∙ ap (λ passes. cond passes (changed change (known_at old id)) (known_at old id)) (of_both a b id)

-- ---- IDs from which their owner sent

-- The IDs among these keys from which their owner sent are added.
abbrev pub AddsSent : EndIds → List (List ℕ) → BTreeSet (List ℕ) → BTreeSet (List ℕ) → Type 0
AddsSent ids keys old new =
    (q : List ℕ) → set.contains octets_cmp new q ≡ (set.contains octets_cmp old q || (list_any (is_at (octets_cmp q)) keys && (known_in ids q).sent))

-- no keys
pub none_sent : (ids : EndIds) (old : BTreeSet (List ℕ)) → AddsSent ids [] old old
none_sent ids old q = sym (or_none (set.contains octets_cmp old q))

-- one more key
pub sent_more : (ids : EndIds) (keys : List (List ℕ)) (key : List ℕ) (old now new : BTreeSet (List ℕ)) → AddsSent ids keys old now
    → ((q : List ℕ) → set.contains octets_cmp new q ≡ (set.contains octets_cmp now q || (bytes_eq q key && (known_in ids q).sent)))
    → AddsSent ids (keys ++ key ∷ []) old new
sent_more ids keys key old now new so_far adds q =
    adds q ∙ ap (λ b. b || (bytes_eq q key && (known_in ids q).sent)) (so_far q)
    ∙ by (set.contains octets_cmp old q) (list_any (is_at (octets_cmp q)) keys) (bytes_eq q key) (known_in ids q).sent
    ∙ ap (λ b. set.contains octets_cmp old q || (b && (known_in ids q).sent)) (sym keys_are)
  where
    keys_are : list_any (is_at (octets_cmp q)) (keys ++ key ∷ []) ≡ (list_any (is_at (octets_cmp q)) keys || bytes_eq q key)
    keys_are =
        list_any-append (is_at (octets_cmp q)) keys (key ∷ [])
        ∙ ap (λ b. list_any (is_at (octets_cmp q)) keys || b) (or_none (is_at (octets_cmp q) key) ∙ is_eq-slice_cmp q key)

    by : (was some is sent : Bool) → ((was || (some && sent)) || (is && sent)) ≡ (was || ((some || is) && sent))
    by true some is sent = refl
    by false true is true = refl
    by false true true false = refl
    by false true false false = refl
    by false false is sent = refl

-- The ID of a key is added if its owner sent from it.
pub sent_added : (ids : EndIds) (key : List ℕ) (old new : BTreeSet (List ℕ)) → (known_in ids key).sent ≡ true
    → ((q : List ℕ) → set.contains octets_cmp new q ≡ cond (is_at (octets_cmp key) q) true (set.contains octets_cmp old q))
    → (q : List ℕ) → set.contains octets_cmp new q ≡ (set.contains octets_cmp old q || (bytes_eq q key && (known_in ids q).sent))
sent_added ids key old new sent adds q =
    adds q ∙ ap (λ b. cond b true (set.contains octets_cmp old q)) (at_octets key q) ∙ by (bytes_eq q key) refl
  where
    by : (b : Bool) → bytes_eq q key ≡ b
        → cond b true (set.contains octets_cmp old q) ≡ (set.contains octets_cmp old q || (b && (known_in ids q).sent))
    by true is =
        sym (or-true (set.contains octets_cmp old q))
        ∙ ap (λ b. set.contains octets_cmp old q || b) (sym (ap (λ x. (known_in ids x).sent) ((bytes_eq-Decides q key).0 is) ∙ sent))
    by false is = sym (or_none (set.contains octets_cmp old q))

-- The keys of both maps are all known IDs.
pub all_sent : (ids : EndIds) (live done : List (List ℕ)) (old new : BTreeSet (List ℕ))
    → ((q : List ℕ) → is_some (tree.get octets_cmp ids.live q) ≡ list_any (is_at (octets_cmp q)) live)
    → ((q : List ℕ) → is_some (tree.get octets_cmp ids.done q) ≡ list_any (is_at (octets_cmp q)) done)
    → AddsSent ids (live ++ done) old new
    → (q : List ℕ) → set.contains octets_cmp new q ≡ (set.contains octets_cmp old q || (known_in ids q).sent)
all_sent ids live done old new in_live in_done adds q =
    adds q
    ∙ ap (λ b. set.contains octets_cmp old q || (b && (known_in ids q).sent))
    (list_any-append (is_at (octets_cmp q)) live done ∙ ap (λ b. b || list_any (is_at (octets_cmp q)) done) (sym (in_live q))
    ∙ ap (λ b. is_some (tree.get octets_cmp ids.live q) || b) (sym (in_done q)))
    ∙ ap (λ b. set.contains octets_cmp old q || b) (by (tree.get octets_cmp ids.live q) (tree.get octets_cmp ids.done q))
  where
    by : (o : Option IdState) (p : Option FreeIdState) → ((is_some o || is_some p) && (known_by o p).sent) ≡ (known_by o p).sent
    by (Some known) p = refl
    by None (Some gone) = refl
    by None None = refl
