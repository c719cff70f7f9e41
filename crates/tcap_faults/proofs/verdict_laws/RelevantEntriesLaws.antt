-- The history for one half, entry by entry.
use Rattle.std.proofs.Common.{◌≡◌, ℕ, ◌+◌, ◌<◌, ◌≤◌, ◌^◌, arith, true, false, cond, List, [], ◌∷◌, ◌++◌, length, filter, map, Option, Some, None, Result, Ok, Err, refl, sym, ap, subst, ◌∙◌}
use Rattle.std.specs.Prelude.{OnOk, slice_get}
use Rattle.std.proofs.lemmas.List.{append-nil, take_all}
use Rattle.std.proofs.lemmas.List.Elements.{filter-append}
use Rattle.tcap_msg.specs.declared.message.Message.{Message}
use Rattle.tcap_record.specs.declared.entry.End.{End as Side}
use Rattle.tcap_record.specs.declared.entry.Body.{Body}
use Rattle.tcap_record.specs.declared.entry.Body.TheVariants.{Good, Bad, Quiet as QuietMark}
use Rattle.tcap_record.specs.declared.entry.Entry.{Entry}
use Rattle.tcap_end.specs.Table.{Table}
use Rattle.tcap_model.specs.declared.reason.Reason.{Reason}
use Rattle.tcap_model.specs.Entries.{item_by, item_of}
use Rattle.tcap_model.specs.World.{Item}
use Rattle.tcap_faults.specs.declared.transaction.history.Facts.{Facts}
use Rattle.tcap_faults.specs.Replay.{items_up_to}
use Rattle.tcap_faults.specs.SearchState.{AreCounted, AreRoomy, IsHalfKey, components_in_all}
use Rattle.tcap_faults.specs.FaultSubject.{items_among}
use Rattle.tcap_faults.specs.RelevantItems.{IsNoted, IsNotedFor, matters_for_half, items_for_entry}
use Rattle.tcap_faults.proofs.component_laws.FewComponentsLaws.{counted_roomy, more_counted, none_counted, still_counted}
use Rattle.tcap_faults.proofs.verdict_laws.EarlierEntriesLaws.{one_item}

pub on_ok_then : {A E P Q : Type 0} (r : Result A E) → (P → Q) → OnOk r P → OnOk r Q
on_ok_then (Ok a) next so = next so
on_ok_then (Err e) next so = so

-- The history has room for an entry.
pub noted_roomy : (table : Table) (items : List Item) (number : ℕ) (kept : Facts) → IsNoted table items number kept
    → number < 2 ^ 63 → (count : ℕ) → count < 2 ^ 63 → (entry : Entry)
    → ((item : Item) → item_of entry ≡ Ok item → components_in_all (item ∷ []) ≤ count)
    → (item : Item) → item_of entry ≡ Ok item → AreRoomy (items ++ item ∷ [])
noted_roomy table items number kept noted few count small entry counted item good =
    counted_roomy items number noted.counted item count (counted item good) small few

-- If an entry is no message, no items matter for it.
pub none_for_bad : (side : Side) (items : List Item) (entry : Entry) → ((m : Message) → entry.body ≡ Good m → ⊥)
    → items_for_entry side (item_of entry) items ≡ []
none_for_bad side items entry never = by entry.side entry.body never
  where
    by : (from : Option Side) (body : Body) → ((m : Message) → body ≡ Good m → ⊥)
        → items_for_entry side (item_by from body) items ≡ []
    by from (Good m) never = absurd (never m refl)
    by from (Bad fault) never = refl
    by None QuietMark never = refl
    by (Some sender) QuietMark never = refl

pub none_from_no_end : (side : Side) (items : List Item) (entry : Entry) → entry.side ≡ None
    → items_for_entry side (item_of entry) items ≡ []
none_from_no_end side items entry none = rw none (by entry.body)
  where
    by : (body : Body) → items_for_entry side (item_by None body) items ≡ []
    by (Good m) = refl
    by (Bad fault) = refl
    by QuietMark = refl

-- If no items matter, nothing has to be kept.
pub noted_nothing : (table : Table) (items : List Item) (number : ℕ) (kept : Facts) → items ≡ [] → IsHalfKey table [] kept
    → IsNoted table items number kept
noted_nothing table items number kept none are =
    subst (λ (xs : List Item). IsNoted table xs number kept) (sym none)
    (record { are = are; counted = record { few = omega arith; components = omega arith } })

module _ (table : Table) (side : Side) (id : List ℕ) (entries : List Entry) where
  pub noted_none : (kept : Facts) → IsHalfKey table [] kept → IsNotedFor table side id entries 0 kept
  noted_none kept are = record { are = are; counted = none_counted }

  -- All entries were looked at.
  pub noted_all : (number to : ℕ) (kept : Facts) → IsNotedFor table side id entries number kept → length entries ≤ number
      → number ≤ to → IsNotedFor table side id entries to kept
  noted_all number to kept noted up on = record {
    are = subst (λ (items : List Item). IsHalfKey table items kept) same noted.are;
    counted = weaker (subst (λ (items : List Item). AreCounted items number) same noted.counted);
  }
    where
      same : filter (matters_for_half side id) (items_up_to entries number) ≡ filter (matters_for_half side id) (items_up_to entries to)
      same = ap (λ es. filter (matters_for_half side id) (items_among (map item_of es)))
          (take_all number entries up ∙ sym (take_all to entries (omega (arith, up, on))))

      weaker : AreCounted (filter (matters_for_half side id) (items_up_to entries to)) number
          → AreCounted (filter (matters_for_half side id) (items_up_to entries to)) to
      weaker are = let a = are.few in let b = are.components in record {
        few = omega (arith, a, on);
        components = omega (arith, b, on);
      }

  module _ (number : ℕ) (old : Facts) (so_far : IsNotedFor table side id entries number old) (entry : Entry)
      (there : slice_get entries number ≡ Some entry) where
    abbrev before : List Item
    before = filter (matters_for_half side id) (items_up_to entries number)

    one_those : filter (matters_for_half side id) (items_up_to entries (number + 1))
        ≡ before ++ filter (matters_for_half side id) (items_among (item_of entry ∷ []))
    one_those =
        ap (filter (matters_for_half side id)) (one_item entries number entry there)
        ∙ filter-append (matters_for_half side id) (items_up_to entries number) (items_among (item_of entry ∷ []))

    -- An entry that does not matter is skipped.
    pub passed_over : ((item : Item) → item_of entry ≡ Ok item → matters_for_half side id item ≡ false)
        → IsNotedFor table side id entries (number + 1) old
    passed_over not = record {
      are = subst (λ (items : List Item). IsHalfKey table items old) (sym same) so_far.are;
      counted = subst (λ (items : List Item). AreCounted items (number + 1)) (sym same)
          (still_counted before number so_far.counted);
    }
      where
        none : (r : Result Item Reason) → ((item : Item) → r ≡ Ok item → matters_for_half side id item ≡ false)
            → filter (matters_for_half side id) (items_among (r ∷ [])) ≡ []
        none (Ok item) not = ap (λ b. cond b (item ∷ []) []) (not item refl)
        none (Err reason) not = refl

        same : filter (matters_for_half side id) (items_up_to entries (number + 1)) ≡ before
        same = one_those ∙ ap (λ items. before ++ items) (none (item_of entry) not) ∙ append-nil before

    -- An entry that matters is noted.
    pub noted_more : (count : ℕ) → ((item : Item) → item_of entry ≡ Ok item → components_in_all (item ∷ []) ≤ count)
        → count < 2 ^ 63 → ((item : Item) → item_of entry ≡ Ok item → matters_for_half side id item ≡ true) → (new : Facts)
        → IsHalfKey table (before ++ items_among (item_of entry ∷ [])) new
        → IsNotedFor table side id entries (number + 1) new
    noted_more count counted small does new are = record {
      are = subst (λ (items : List Item). IsHalfKey table items new) (sym same) are;
      counted = subst (λ (items : List Item). AreCounted items (number + 1)) (sym same) (by (item_of entry) refl);
    }
      where
        all : (r : Result Item Reason) → ((item : Item) → r ≡ Ok item → matters_for_half side id item ≡ true)
            → filter (matters_for_half side id) (items_among (r ∷ [])) ≡ items_among (r ∷ [])
        all (Ok item) does = ap (λ b. cond b (item ∷ []) []) (does item refl)
        all (Err reason) does = refl

        same : filter (matters_for_half side id) (items_up_to entries (number + 1)) ≡ before ++ items_among (item_of entry ∷ [])
        same = one_those ∙ ap (λ items. before ++ items) (all (item_of entry) does)

        by : (r : Result Item Reason) → item_of entry ≡ r → AreCounted (before ++ items_among (r ∷ [])) (number + 1)
        by (Ok item) good = more_counted before number so_far.counted item count (counted item good) small
        by (Err reason) bad =
            subst (λ (items : List Item). AreCounted items (number + 1)) (sym (append-nil before))
            (still_counted before number so_far.counted)
