-- The notes after one more item.
use Rattle.std.proofs.Common.{◌≡◌, ℕ, Bool, true, false, cond, ◌&&◌, ◌||◌, List, [], ◌∷◌, ◌++◌, map, drop, Option, Some, None, Ok, refl, sym, ap, ◌∙◌, arith}
use Rattle.std.specs.List.{cons_option, list_any}
use Rattle.std.proofs.lemmas.List.Folds.{list_any-append}
use Rattle.tcap_msg.specs.declared.message.Message.{Message}
use Rattle.tcap_record.specs.declared.entry.End.{End as Side}
use Rattle.tcap_record.specs.declared.entry.Entry.{Entry}
use Rattle.tcap_end.specs.Table.{Table}
use Rattle.tcap_model.specs.World.{Item, Sent, is_side}
use Rattle.tcap_model.specs.Entries.{item_of}
use Rattle.tcap_model.specs.World.{has_quiet, is_quiet}
use Rattle.tcap_model.specs.Run.{only_if}
use Rattle.tcap_refute.specs.declared.judging.EntryResult.TheVariants.{Passed}
use Rattle.tcap_refute.specs.declared.kind.Kind.{Kind}
use Rattle.tcap_refute.specs.declared.notes.Notes.{Notes}
use Rattle.tcap_refute.specs.EarlierMessages.{message_of, sent_by, since_quiet}
use Rattle.tcap_refute.specs.Facts.{EndFact, shows_end, fact_since_mark}
use Rattle.tcap_refute.specs.KeptFacts.{AreNotesOf, fact_by_notes}
use Rattle.tcap_refute.specs.Kind.{lowest_kind, refuted, refuted_after}
use Rattle.tcap_refute.specs.EntryConclusion.{Judges}
use Rattle.tcap_refute.proofs.TestLaws.{or_none}

-- ---- one more message

module _ (side : Side) (m : Message) where
  quiet_kept : (xs : List Item) → has_quiet (xs ++ Sent side m ∷ []) ≡ has_quiet xs
  quiet_kept [] = refl
  quiet_kept (item ∷ xs) = ap (cond (is_quiet item) true) (quiet_kept xs)

  pub since_more : (xs : List Item) → since_quiet (xs ++ Sent side m ∷ []) ≡ since_quiet xs ++ Sent side m ∷ []
  since_more [] = refl
  since_more (item ∷ xs) =
      ap (λ b. cond b (since_quiet (xs ++ Sent side m ∷ [])) (item ∷ xs ++ Sent side m ∷ [])) (quiet_kept (item ∷ xs))
      ∙ by (has_quiet (item ∷ xs)) (since_more xs)
    where
      by : (b : Bool) → since_quiet (xs ++ Sent side m ∷ []) ≡ since_quiet xs ++ Sent side m ∷ []
          → cond b (since_quiet (xs ++ Sent side m ∷ [])) (item ∷ xs ++ Sent side m ∷ [])
          ≡ cond b (since_quiet xs) (item ∷ xs) ++ Sent side m ∷ []
      by b rest = grind (arith, rest)

  sent_last : (test : Message → Bool) (end : Side)
      → list_any test (sent_by end (Sent side m ∷ [])) ≡ (is_side end side && test m)
  sent_last test end = grind arith

  sent_more : (end : Side) (xs : List Item)
      → sent_by end (xs ++ Sent side m ∷ []) ≡ sent_by end xs ++ sent_by end (Sent side m ∷ [])
  sent_more end [] = refl
  sent_more end (x ∷ xs) = grind (arith, sent_more end xs)

  -- The facts in the list with the message.
  told_more : (table : Table) (items : List Item) (end : Side) (fact : EndFact)
      → fact_since_mark table (items ++ Sent side m ∷ []) end fact
      ≡ (fact_since_mark table items end fact || (is_side end side && shows_end table fact m))
  told_more table items end fact =
      ap (λ xs. list_any (shows_end table fact) (sent_by end xs)) (since_more items)
      ∙ ap (list_any (shows_end table fact)) (sent_more end (since_quiet items))
      ∙ list_any-append (shows_end table fact) (sent_by end (since_quiet items)) (sent_by end (Sent side m ∷ []))
      ∙ ap (λ b. fact_since_mark table items end fact || b) (sent_last (shows_end table fact) end)

  pub noted : (table : Table) (items : List Item) (old new : Notes) → AreNotesOf table items old
      → ((end : Side) (fact : EndFact) → fact_by_notes new end fact
      ≡ (fact_by_notes old end fact || (is_side end side && shows_end table fact m)))
      → AreNotesOf table (items ++ Sent side m ∷ []) new
  noted table items old new are told = record {
    facts = λ end fact. told end fact
        ∙ ap (λ b. b || (is_side end side && shows_end table fact m)) (are.facts end fact)
        ∙ sym (told_more table items end fact);
  }

  -- The message has no kind, and was noted.
  pub passes : (table : Table) (items : List Item) (old new : Notes) → AreNotesOf table items old
      → (asked : Option Kind) → asked ≡ lowest_kind table items (Sent side m) → (asked ≡ None)
      → ((end : Side) (fact : EndFact) → fact_by_notes new end fact
      ≡ (fact_by_notes old end fact || (is_side end side && shows_end table fact m)))
      → Judges table items (Ok (Sent side m)) Passed new
  passes table items old new are asked is none told = (sym is ∙ none, noted table items old new are told)

-- ---- one more quiet mark

quiet_last : (xs : List Item) → has_quiet (xs ++ Item.Quiet ∷ []) ≡ true
quiet_last [] = refl
quiet_last (item ∷ xs) = grind (arith, quiet_last xs)

pub since_mark : (xs : List Item) → since_quiet (xs ++ Item.Quiet ∷ []) ≡ []
since_mark [] = refl
since_mark (item ∷ xs) =
    ap (λ b. cond b (since_quiet (xs ++ Item.Quiet ∷ [])) (item ∷ xs ++ Item.Quiet ∷ [])) (quiet_last (item ∷ xs))
    ∙ since_mark xs

pub noted_mark : (table : Table) (items : List Item) (new : Notes)
    → ((end : Side) (fact : EndFact) → fact_by_notes new end fact ≡ false) → AreNotesOf table (items ++ Item.Quiet ∷ []) new
noted_mark table items new told = record {
  facts = λ end fact. told end fact
      ∙ sym (ap (λ xs. list_any (shows_end table fact) (sent_by end xs)) (since_mark items));
}

pub marked : (table : Table) (items : List Item) (new : Notes)
    → ((end : Side) (fact : EndFact) → fact_by_notes new end fact ≡ false)
    → Judges table items (Ok Item.Quiet) Passed new
marked table items new told = (refl, noted_mark table items new told)

-- ---- a record

-- The notes are on the items before the remaining entries, and these entries decide.
pub record Searches (table : Table) (entries : List Entry) (number : ℕ) (notes : Notes) : Type 0 where
  pub items : List Item
  pub noted : AreNotesOf table items notes
  pub left : refuted_after table items number (map item_of (drop number entries)) ≡ refuted table (map item_of entries)
