-- The history before an entry, and the entries in which an own ID was used again.
use Rattle.std.proofs.Common.{◌≡◌, ℕ, ◌+◌, ◌≤◌, ◌<◌, ◌^◌, arith, Bool, true, false, cond, ◌||◌, List, [], ◌∷◌, ◌++◌, length, map, take, Option, Some, None, is_some, Result, Ok, Err, refl, sym, ap, ap₂, subst, ◌∙◌}
use Rattle.std.specs.Prelude.{slice_get}
use Rattle.std.specs.Option.{option_or}
use Rattle.std.proofs.lemmas.List.{append-nil, append_assoc, length-map, length-take-le, map_more, take_all}
use Rattle.std.proofs.lemmas.Option.{get_or_from_slice_get, slice_get_within}
use Rattle.tcap_record.specs.declared.entry.End.{End as Side}
use Rattle.tcap_record.specs.declared.entry.Entry.{Entry}
use Rattle.tcap_end.specs.Table.{Table}
use Rattle.tcap_model.specs.declared.reason.Reason.{Reason}
use Rattle.tcap_model.specs.World.{Item, Sent}
use Rattle.tcap_model.specs.Entries.{item_of}
use Rattle.tcap_refute.specs.EarlierMessages.{since_quiet}
use Rattle.tcap_refute.proofs.ItemLaws.{since_mark, since_more}
use Rattle.tcap_faults.specs.declared.transaction.history.Facts.{Facts}
use Rattle.tcap_faults.specs.declared.verdict.earlier_entries.Replay.{Replay}
use Rattle.tcap_faults.specs.Replay.{IsReplayed, items_up_to}
use Rattle.tcap_faults.specs.SearchState.{AreCounted, AreRoomy, IsHalfKey, components_in_all}
use Rattle.tcap_faults.specs.FaultSubject.{items_among}
use Rattle.tcap_faults.specs.Unblamed.{again_after}
use Rattle.tcap_faults.specs.UsedAgain.{has_used_again, is_used_again}
use Rattle.tcap_faults.proofs.component_laws.FewComponentsLaws.{counted_roomy, more_counted, none_counted, still_counted}
use Rattle.tcap_faults.proofs.list_laws.FindLaws.{one_more}

-- ---- the items among the entries

among_both : (xs ys : List (Result Item Reason)) → items_among (xs ++ ys) ≡ items_among xs ++ items_among ys
among_both [] ys = refl
among_both (Ok item ∷ xs) ys = ap (λ items. item ∷ items) (among_both xs ys)
among_both (Err reason ∷ xs) ys = among_both xs ys

-- The items since the last quiet mark, after these items.
abbrev seen_behind : List Item → List (Result Item Reason) → List Item
seen_behind seen [] = seen
seen_behind seen (Err reason ∷ more) = seen_behind seen more
seen_behind seen (Ok Item.Quiet ∷ more) = seen_behind [] more
seen_behind seen (Ok (Sent sender m) ∷ more) = seen_behind (seen ++ Sent sender m ∷ []) more

seen_is : (items : List Item) (xs : List (Result Item Reason))
    → since_quiet (items ++ items_among xs) ≡ seen_behind (since_quiet items) xs
seen_is items [] = ap since_quiet (append-nil items)
seen_is items (Err reason ∷ xs) = seen_is items xs
seen_is items (Ok Item.Quiet ∷ xs) =
    ap since_quiet (sym (append_assoc items (Item.Quiet ∷ []) (items_among xs)))
    ∙ seen_is (items ++ Item.Quiet ∷ []) xs
    ∙ ap (λ seen. seen_behind seen xs) (since_mark items)
seen_is items (Ok (Sent sender m) ∷ xs) =
    ap since_quiet (sym (append_assoc items (Sent sender m ∷ []) (items_among xs)))
    ∙ seen_is (items ++ Sent sender m ∷ []) xs
    ∙ ap (λ seen. seen_behind seen xs) (since_more sender m items)

-- ---- one more entry

module _ (entries : List Entry) (number : ℕ) (entry : Entry) (there : slice_get entries number ≡ Some entry) where
  within : number < length entries
  within = slice_get_within entries number entry there

  one_entry : map item_of (take (number + 1) entries) ≡ map item_of (take number entries) ++ item_of entry ∷ []
  one_entry =
      map_more item_of entries number entry within
      ∙ ap (λ e. map item_of (take number entries) ++ item_of e ∷ []) (get_or_from_slice_get entries number entry entry there)

  pub one_item : items_up_to entries (number + 1) ≡ items_up_to entries number ++ items_among (item_of entry ∷ [])
  one_item = ap items_among one_entry ∙ among_both (map item_of (take number entries)) (item_of entry ∷ [])

-- ---- the first entry in which an own ID was used again

-- In one more entry, no own ID is used again.
first_stays : (first : Option ℕ) (again : Bool) (k : ℕ) → is_some first ≡ again
    → first ≡ cond again (option_or first (Some k)) None
first_stays first again k so = grind (arith, so)

-- In one more entry, an own ID may be used again.
first_more : (first : Option ℕ) (again now : Bool) (k : ℕ) → is_some first ≡ again
    → option_or first (cond now (Some k) None) ≡ cond (again || now) (option_or first (Some k)) None
first_more first again now k so = grind (arith, so)

some_more : (first : Option ℕ) (again now : Bool) (k : ℕ) → is_some first ≡ again
    → is_some (option_or first (cond now (Some k) None)) ≡ (again || now)
some_more first again now k so = grind (arith, so)

module _ (table : Table) (side : Side) where
  again_more : (seen : List Item) (item : Item)
      → has_used_again table side (seen ++ item ∷ [])
      ≡ (has_used_again table side seen || is_used_again table side seen item)
  again_more seen item = one_more (is_used_again table side) [] seen item

  -- The first entry is the new one if there was none before and an own ID is used again now.
  again_next : (k number : ℕ) (xs : List (Result Item Reason)) (x : Result Item Reason) (seen : List Item) (first : Option ℕ)
      → k ≡ number + length xs → is_some first ≡ has_used_again table side seen
      → again_after table side number (xs ++ x ∷ []) seen first
      ≡ cond (has_used_again table side (seen_behind seen (xs ++ x ∷ [])))
      (option_or (again_after table side number xs seen first) (Some k)) None
  again_next k number [] (Err reason) seen first at so = first_stays first (has_used_again table side seen) k so
  again_next k number [] (Ok Item.Quiet) seen first at so = refl
  again_next k number [] (Ok (Sent sender m)) seen first at so =
      let here : number ≡ k = omega (arith, at) in
      rw (again_more seen (Sent sender m), here)
      (first_more first (has_used_again table side seen) (is_used_again table side seen (Sent sender m)) k so)
  again_next k number (Err reason ∷ xs) x seen first at so = again_next k (number + 1) xs x seen first (omega (arith, at)) so
  again_next k number (Ok Item.Quiet ∷ xs) x seen first at so = again_next k (number + 1) xs x [] None (omega (arith, at)) refl
  again_next k number (Ok (Sent sender m) ∷ xs) x seen first at so =
      again_next k (number + 1) xs x (seen ++ Sent sender m ∷ [])
      (option_or first (cond (is_used_again table side seen (Sent sender m)) (Some number) None)) (omega (arith, at))
      (some_more first (has_used_again table side seen) (is_used_again table side seen (Sent sender m)) number so
      ∙ sym (again_more seen (Sent sender m)))

-- ---- the history, entry by entry

pub replayed_none : (table : Table) (side : Side) (entries : List Entry) (kept : Facts) → IsHalfKey table [] kept
    → IsReplayed table side entries 0 (record { kept = kept; again = None })
replayed_none table side entries kept are = record { are = are; counted = none_counted; again = refl }

module _ (table : Table) (side : Side) (entries : List Entry) (number : ℕ) (old : Replay)
    (so_far : IsReplayed table side entries number old) where
  -- All entries are noted.
  pub replayed_all : (to : ℕ) → length entries ≤ number → number ≤ to → IsReplayed table side entries to old
  replayed_all to up on = record {
    are = subst (λ (es : List Entry). IsHalfKey table (items_among (map item_of es)) old.kept) same so_far.are;
    counted = weaker (subst (λ (es : List Entry). AreCounted (items_among (map item_of es)) number) same so_far.counted);
    again = so_far.again ∙ ap (λ es. again_after table side 0 (map item_of es) [] None) same;
  }
    where
      same : take number entries ≡ take to entries
      same = take_all number entries up ∙ sym (take_all to entries (omega (arith, up, on)))

      weaker : AreCounted (items_up_to entries to) number → AreCounted (items_up_to entries to) to
      weaker are = let a = are.few in let b = are.components in record {
        few = omega (arith, a, on);
        components = omega (arith, b, on);
      }

  module _ (entry : Entry) (there : slice_get entries number ≡ Some entry) (count : ℕ)
      (counted : (item : Item) → item_of entry ≡ Ok item → components_in_all (item ∷ []) ≤ count) (small : count < 2 ^ 63) where
    -- The next entry is noted.
    pub replayed_more : (new : Replay)
        → IsHalfKey table (items_up_to entries number ++ items_among (item_of entry ∷ [])) new.kept
        → new.again ≡ cond (has_used_again table side (since_quiet (items_up_to entries number ++ items_among (item_of entry ∷ []))))
        (option_or old.again (Some number)) None
        → IsReplayed table side entries (number + 1) new
    replayed_more new are again = record {
      are = subst (λ (items : List Item). IsHalfKey table items new.kept) (sym (one_item entries number entry there)) are;
      counted = subst (λ (items : List Item). AreCounted items (number + 1)) (sym (one_item entries number entry there))
          (by (item_of entry) refl);
      again = again
          ∙ ap₂ (λ seen first. cond (has_used_again table side seen) first None)
          (ap since_quiet (sym (among_both before (item_of entry ∷ []))) ∙ seen_is [] (before ++ item_of entry ∷ []))
          (ap (λ first. option_or first (Some number)) so_far.again)
          ∙ sym (ap (λ xs. again_after table side 0 xs [] None) (one_entry entries number entry there)
          ∙ again_next table side number 0 before (item_of entry) [] None many refl);
    }
      where
        before : List (Result Item Reason)
        before = map item_of (take number entries)

        many : number ≡ 0 + length before
        many =
            let a = length-map (take number entries) item_of in
            let b = length-take-le number entries (omega (arith, within entries number entry there)) in
            omega (arith, a, b)

        by : (r : Result Item Reason) → item_of entry ≡ r
            → AreCounted (items_up_to entries number ++ items_among (r ∷ [])) (number + 1)
        by (Ok item) good =
            more_counted (items_up_to entries number) number so_far.counted item count (counted item good) small
        by (Err reason) bad =
            subst (λ (items : List Item). AreCounted items (number + 1)) (sym (append-nil (items_up_to entries number)))
            (still_counted (items_up_to entries number) number so_far.counted)

    -- The history has room for the next entry.
    pub replayed_roomy : number < 2 ^ 63 → (item : Item) → item_of entry ≡ Ok item
        → AreRoomy (items_up_to entries number ++ item ∷ [])
    replayed_roomy few item good =
        counted_roomy (items_up_to entries number) number so_far.counted item count (counted item good) small few
