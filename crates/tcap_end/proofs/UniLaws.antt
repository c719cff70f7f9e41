-- The loop over the components of a Unidirectional: the check of all is that of the rest, given the IDs so far.
use Rattle.std.proofs.Common.{◌≡◌, ℕ, ℤ, Bool, true, false, cond, not, List, [], ◌∷◌, Option, Some, None, Err, is_some, is_none, refl, sym, ap, ◌∙◌}
use Rattle.std.specs.BTreeMap.{is_at}
use Rattle.std.specs.Ordering.{int_cmp, is_eq}
use Rattle.std.proofs.lemmas.Cmp.{eq_by_cmp_equiv, int_cmp_total}
use Rattle.tcap_parts.specs.declared.code.Code.{Code}
use Rattle.tcap_parts.specs.declared.component.Component.{Component}
use Rattle.tcap_parts.specs.declared.component.Component.TheVariants.{Invoke}
use Rattle.tcap_end.specs.declared.fault.EndFault.TheVariants as faults
use Rattle.tcap_end.specs.Class.{reports_neither}
use Rattle.tcap_end.specs.Table.{Table, class_of}
use Rattle.tcap_end.specs.Message.{has_id, send_uni_components}
use Rattle.tcap_lists.proofs.MapLaws.{kept_at}

-- The keys are the IDs so far, and the check of all is that of the rest.
pub record Uni (table : Table) (all : List Component) (used : List (ℤ × Unit {0})) (left : List Component) : Type 0 where
  pub ids : List ℤ
  pub had : (id : ℤ) → has_id id ids ≡ is_some (kept_at int_cmp used id)
  pub told : send_uni_components table [] all ≡ send_uni_components table ids left

-- before the first component
pub uni_all : (table : Table) (all : List Component) → Uni table all [] all
uni_all table all = record { ids = []; had = λ id. refl; told = refl }

module _ {table : Table} {all : List Component} {used : List (ℤ × Unit {0})} {left : List Component}
    {id : ℤ} {linked : Option ℤ} {code : Code} {parameter : Option (List ℕ)} {more : List Component}
    (u : Uni table all used left) (is : left ≡ Invoke id linked code parameter ∷ more) where
  -- the table does not have the operation
  pub uni_unknown : class_of table code ≡ None → send_uni_components table [] all ≡ Err faults.UnknownOperation
  uni_unknown none = u.told ∙ ap (send_uni_components table u.ids) is ∙ rw none refl

  module _ {class : ℕ} (classed : class_of table code ≡ Some class) where
    -- the class reports something
    pub uni_reports : reports_neither class ≡ false → send_uni_components table [] all ≡ Err faults.UniNotClass4
    uni_reports reported = u.told ∙ ap (send_uni_components table u.ids) is ∙ rw (classed, reported) refl

    module _ (neither : reports_neither class ≡ true) where
      is_free : (b : Bool) → is_some (kept_at int_cmp used id) ≡ b → not (has_id id u.ids) ≡ not b
      is_free b kept = ap not (u.had id ∙ kept)

      is_alone : (o : Option ℤ) → is_none o ≡ not (is_some o)
      is_alone None = refl
      is_alone (Some other) = refl

      -- the ID was used before
      pub uni_busy : is_some (kept_at int_cmp used id) ≡ true → send_uni_components table [] all ≡ Err faults.InvokeIdBusy
      uni_busy kept = u.told ∙ ap (send_uni_components table u.ids) is ∙ rw (classed, neither, is_free true kept) refl

      module _ (free : is_some (kept_at int_cmp used id) ≡ false) where
        -- the Invoke has a linked ID
        pub uni_linked : is_some linked ≡ true → send_uni_components table [] all ≡ Err faults.BadLink
        uni_linked link =
            u.told ∙ ap (send_uni_components table u.ids) is
            ∙ rw (classed, neither, is_free false free, is_alone linked ∙ ap not link) refl

        -- the Invoke is allowed, and its ID is now used
        pub uni_more : (next : List (ℤ × Unit {0})) → is_some linked ≡ false
            → ((q : ℤ) → kept_at int_cmp next q ≡ cond (is_at (int_cmp id) q) (Some tt) (kept_at int_cmp used q)) → Uni table all next more
        uni_more next link inserted = record {
          ids = id ∷ u.ids;
          had = λ q. had q (is_eq (int_cmp id q)) refl;
          told = u.told ∙ ap (send_uni_components table u.ids) is
              ∙ rw (classed, neither, is_free false free, is_alone linked ∙ ap not link) refl;
        }
          where
            had : (q : ℤ) (b : Bool) → is_eq (int_cmp id q) ≡ b → has_id q (id ∷ u.ids) ≡ is_some (kept_at int_cmp next q)
            had q true same = rw ((eq_by_cmp_equiv int_cmp_total).symm q id ∙ same) (sym (ap is_some (inserted q) ∙ rw same refl))
            had q false other =
                rw ((eq_by_cmp_equiv int_cmp_total).symm q id ∙ other) (u.had q ∙ sym (ap is_some (inserted q) ∙ rw other refl))
