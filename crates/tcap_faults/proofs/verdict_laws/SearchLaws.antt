-- The search over the entries, after one more entry.
use Rattle.std.proofs.Common.{◌≡◌, ℕ, suc, ◌+◌, ◌≤◌, ◌<◌, ◌^◌, Bool, true, false, cond, not, ◌||◌, List, [], ◌∷◌, ◌++◌, length, map, drop, Option, Some, None, Result, Ok, Err, refl, sym, ap, subst, ◌∙◌, arith}
use Rattle.std.specs.Option.{option_or}
use Rattle.std.specs.Prelude.{get_or}
use Rattle.std.proofs.Math.Numerals.{suc-eq-add-one}
use Rattle.std.proofs.Math.Seq.{drop-cons}
use Rattle.std.proofs.lemmas.List.{drop_all}
use Rattle.tcap_msg.specs.declared.message.Message.{Message}
use Rattle.tcap_record.specs.declared.entry.End.{End as Side}
use Rattle.tcap_record.specs.declared.entry.End.TheVariants as sides
use Rattle.tcap_record.specs.declared.entry.Entry.{Entry}
use Rattle.tcap_end.specs.Table.{Table}
use Rattle.tcap_model.specs.World.{Item, Sent, is_side}
use Rattle.tcap_model.specs.Entries.{item_of}
use Rattle.tcap_model.specs.declared.reason.Reason.{Reason}
use Rattle.tcap_refute.specs.declared.kind.Kind.{Kind}
use Rattle.tcap_refute.specs.declared.kind.Refutation.{Refutation}
use Rattle.tcap_refute.specs.EarlierMessages.{since_quiet}
use Rattle.tcap_refute.specs.Kind.{refutation_at}
use Rattle.tcap_faults.specs.declared.verdict.first_fault.EndSearch.{EndSearch}
use Rattle.tcap_faults.specs.declared.verdict.first_fault.SearchState.{SearchState}
use Rattle.tcap_faults.specs.declared.transaction.history.Facts.{Facts}
use Rattle.tcap_faults.specs.Fault.{bad_entry_of, blamed, blamed_after, fault_since}
use Rattle.tcap_faults.specs.SearchState.{AreCounted, AreRoomy, IsFound, IsHalfKey, IsTaken, Takes, components_in_all, search_of, search_after_bad, search_after_item, search_begun, search_continued, with_search, search_ended}
use Rattle.tcap_faults.proofs.component_laws.FewComponentsLaws.{counted_roomy, more_counted, none_counted}
use Rattle.tcap_faults.proofs.verdict_laws.NextEntryLaws.{peer_alone}

abbrev look : Bool → Option Refutation → EndSearch
look is_over found = record { is_over = is_over; found = found }

-- ---- an item is judged

-- If an item is no fault of an end, the state does not change.
still : (number : ℕ) (kind : Option Kind) (is_over : Bool) (found : Option Refutation) → kind ≡ None
    → search_continued number kind (look is_over found) ≡ look is_over found
still number kind is_over found none = grind (arith, none)

-- If the search is over, the state does not change.
over_still : (table : Table) (items : List Item) (number : ℕ) (item : Item) (side : Side) (end_search : EndSearch)
    → end_search.is_over ≡ true → search_after_item table items number item side end_search ≡ end_search
over_still table items number item side end_search over =
    ap (λ b. cond b end_search (search_ended number (fault_since table side (since_quiet items) item) end_search)) over

-- Otherwise the state has what was found in the item.
looked_on : (table : Table) (items : List Item) (number : ℕ) (item : Item) (side : Side) (end_search : EndSearch)
    (kind : Option Kind) → end_search.is_over ≡ false → kind ≡ fault_since table side (since_quiet items) item
    → search_after_item table items number item side end_search ≡ search_ended number kind end_search
looked_on table items number item side end_search kind over is =
    ap (λ b. cond b end_search (search_ended number (fault_since table side (since_quiet items) item) end_search)) over
    ∙ ap (λ k. search_ended number k end_search) (sym is)

peer_still : (table : Table) (items : List Item) (number : ℕ) (sender : Side) (m : Message) (side : Side) (end_search : EndSearch)
    → is_side side sender ≡ false → search_after_item table items number (Sent sender m) side end_search ≡ end_search
peer_still table items number sender m side end_search is =
    still number _ end_search.is_over end_search.found (peer_alone table side sender (since_quiet items) m is)

-- ---- a message of an end

-- The state of the sender is updated, and that of the other end did not change.
pub record IsLookedAt (table : Table) (items : List Item) (number : ℕ) (sender : Side) (m : Message) (old new : SearchState) : Type 0 where
  pub kept : new.kept ≡ old.kept
  pub own : search_of sender new ≡ search_after_item table items number (Sent sender m) sender (search_of sender old)
  pub peer : (side : Side) → is_side side sender ≡ false → search_of side new ≡ search_of side old

put_kept : (side : Side) (end_search : EndSearch) (old : SearchState) → (with_search side end_search old).kept ≡ old.kept
put_kept side end_search old = grind arith

put_own : (side : Side) (end_search : EndSearch) (old : SearchState) → search_of side (with_search side end_search old) ≡ end_search
put_own side end_search old = grind arith

put_peer : (side sender : Side) (end_search : EndSearch) (old : SearchState) → is_side side sender ≡ false
    → search_of side (with_search sender end_search old) ≡ search_of side old
put_peer side sender end_search old is = grind (arith, is)

-- If the search for the sender is not over.
pub looked_put : (table : Table) (items : List Item) (number : ℕ) (sender : Side) (m : Message) (old : SearchState)
    (end_search with_it : EndSearch) (kind : Option Kind) → end_search ≡ search_of sender old → end_search.is_over ≡ false
    → kind ≡ fault_since table sender (since_quiet items) (Sent sender m) → with_it ≡ search_ended number kind end_search
    → IsLookedAt table items number sender m old (with_search sender with_it old)
looked_put table items number sender m old end_search with_it kind same over is put = record {
  kept = put_kept sender with_it old;
  own =
      put_own sender with_it old
      ∙ put
      ∙ sym (looked_on table items number (Sent sender m) sender end_search kind over is)
      ∙ ap (search_after_item table items number (Sent sender m) sender) same;
  peer = λ side apart. put_peer side sender with_it old apart;
}

-- If the search for the sender is over.
pub looked_over : (table : Table) (items : List Item) (number : ℕ) (sender : Side) (m : Message) (old : SearchState)
    (end_search : EndSearch) → end_search ≡ search_of sender old → end_search.is_over ≡ true
    → IsLookedAt table items number sender m old old
looked_over table items number sender m old end_search same over = record {
  kept = refl;
  own =
      sym (over_still table items number (Sent sender m) sender (search_of sender old) (sym (ap (λ l. l.is_over) same) ∙ over));
  peer = λ side apart. refl;
}

pub message_taken : (table : Table) (items : List Item) (number : ℕ) (sender : Side) (m : Message) (old new : SearchState)
    (kept : Facts) → IsLookedAt table items number sender m old new → IsHalfKey table (items ++ Sent sender m ∷ []) kept
    → IsTaken table items number (Sent sender m) old (record { kept = kept; a = new.a; b = new.b })
message_taken table items number sides.A m old new kept looked are = record {
  are = are;
  end_search = by;
}
  where
    by : (side : Side) → search_of side (record { kept = kept; a = new.a; b = new.b })
        ≡ search_after_item table items number (Sent sides.A m) side (search_of side old)
    by sides.A = looked.own
    by sides.B = looked.peer sides.B refl ∙ sym (peer_still table items number sides.A m sides.B old.b refl)
message_taken table items number sides.B m old new kept looked are = record {
  are = are;
  end_search = by;
}
  where
    by : (side : Side) → search_of side (record { kept = kept; a = new.a; b = new.b })
        ≡ search_after_item table items number (Sent sides.B m) side (search_of side old)
    by sides.A = looked.peer sides.A refl ∙ sym (peer_still table items number sides.B m sides.A old.a refl)
    by sides.B = looked.own

pub mark_taken : (table : Table) (items : List Item) (number : ℕ) (old : SearchState) (kept : Facts) (a b : EndSearch)
    → IsHalfKey table (items ++ Item.Quiet ∷ []) kept → a ≡ search_after_item table items number Item.Quiet sides.A old.a
    → b ≡ search_after_item table items number Item.Quiet sides.B old.b
    → IsTaken table items number Item.Quiet old (record { kept = kept; a = a; b = b })
mark_taken table items number old kept a b are is_a is_b = record {
  are = are;
  end_search = by;
}
  where
    by : (side : Side) → search_of side (record { kept = kept; a = a; b = b })
        ≡ search_after_item table items number Item.Quiet side (search_of side old)
    by sides.A = is_a
    by sides.B = is_b

-- ---- the entries

-- The entries, each with its end.
abbrev outgoing : List Entry → List (Option Side × Result Item Reason)
outgoing entries = map (λ e. (e.side, item_of e)) entries

-- The next entry, with those after it.
abbrev outgoing_at : List Entry → ℕ → Entry → List (Option Side × Result Item Reason)
outgoing_at entries number entry = (entry.side, item_of entry) ∷ outgoing (drop (number + 1) entries)

next_outgoing : (entries : List Entry) (number : ℕ) (entry : Entry) → number < length entries
    → entry ≡ get_or entries number entry → outgoing (drop number entries) ≡ outgoing_at entries number entry
next_outgoing entries number entry there is =
    let e : drop number entries ≡ get_or entries number entry ∷ drop (suc number) entries = drop-cons entries number entry there in
    let f : drop (suc number) entries ≡ drop (number + 1) entries = ap (λ k. drop k entries) (suc-eq-add-one number) in
    ap outgoing (e ∙ ap (λ xs. get_or entries number entry ∷ xs) f ∙ ap (λ x. x ∷ drop (number + 1) entries) (sym is))

-- ---- what is known of an end

first_found : (table : Table) (side : Side) (entries : List Entry) (asked : Bool) → asked ≡ true
    → IsFound table side entries [] 0 (search_begun asked)
first_found table side entries true is = (refl, refl)
first_found table side entries false is = cc

module _ (table : Table) (side : Side) (entries : List Entry) (items : List Item) (number : ℕ) where
  over_found : (is_over : Bool) (found : Option Refutation) → IsFound table side entries items number (look is_over found)
      → is_over ≡ true → found ≡ blamed table side entries
  over_found true found known is = known
  over_found false found known is = cc

  end_found : (is_over : Bool) (found : Option Refutation) → IsFound table side entries items number (look is_over found)
      → drop number entries ≡ [] → found ≡ blamed table side entries
  end_found true found known nothing = known
  end_found false found (none, left) nothing =
      none ∙ sym (ap (λ xs. blamed_after table side items number (outgoing xs)) nothing) ∙ left

  -- If nothing was found before, the next entry decides.
  module _ (entry : Entry) (there : number < length entries) (is : entry ≡ get_or entries number entry) where
    next_left : blamed_after table side items number (outgoing (drop number entries)) ≡ blamed table side entries
        → blamed_after table side items number (outgoing_at entries number entry) ≡ blamed table side entries
    next_left left = sym (ap (blamed_after table side items number) (next_outgoing entries number entry there is)) ∙ left

    -- The next entry is no item.
    bad_found : (reason : Reason) → item_of entry ≡ Err reason → (is_over : Bool) (found : Option Refutation) (new : EndSearch)
        → IsFound table side entries items number (look is_over found)
        → new ≡ search_after_bad number entry.side reason side (look is_over found) → new.found ≡ blamed table side entries
    bad_found reason bad true found new known so = ap (λ l. l.found) so ∙ known
    bad_found reason bad false found new (none, left) so =
        ap (λ l. l.found) so
        ∙ by (bad_entry_of side entry.side reason)
        ∙ sym (ap (λ r. blamed_after table side items number ((entry.side, r) ∷ outgoing (drop (number + 1) entries))) bad)
        ∙ next_left left
      where
        by : (kind : Option Kind) → (search_ended number kind (look false found)).found ≡ refutation_at number kind
        by None = none
        by (Some kind) = refl

    -- The next entry is an item.
    next_found : (item : Item) → item_of entry ≡ Ok item → (is_over : Bool) (found : Option Refutation) (new : EndSearch)
        → IsFound table side entries items number (look is_over found)
        → new ≡ search_after_item table items number item side (look is_over found)
        → IsFound table side entries (items ++ item ∷ []) (number + 1) new
    next_found item good true found new known so =
        subst (λ (l : EndSearch). IsFound table side entries (items ++ item ∷ []) (number + 1) l) (sym so) known
    next_found item good false found new (none, left) so =
        subst (λ (l : EndSearch). IsFound table side entries (items ++ item ∷ []) (number + 1) l) (sym so)
        (by (fault_since table side (since_quiet items) item)
        (sym (ap (λ r. blamed_after table side items number ((entry.side, r) ∷ outgoing (drop (number + 1) entries))) good)
        ∙ next_left left))
      where
        rest : Option Refutation
        rest = blamed_after table side (items ++ item ∷ []) (number + 1) (outgoing (drop (number + 1) entries))

        by : (kind : Option Kind) → option_or (refutation_at number kind) rest ≡ blamed table side entries
            → IsFound table side entries (items ++ item ∷ []) (number + 1) (search_ended number kind (look false found))
        by None is = (none, is)
        by (Some kind) is = is

-- ---- the search

-- What is known of the ends that are asked for, after `number` entries.
pub record IsSearched (table : Table) (entries : List Entry) (a b : Bool) (number : ℕ) (state : SearchState) : Type 0 where
  pub items : List Item
  pub are : IsHalfKey table items state.kept
  pub counted : AreCounted items number
  pub of_a : a ≡ true → IsFound table sides.A entries items number state.a
  pub of_b : b ≡ true → IsFound table sides.B entries items number state.b

pub started : (table : Table) (entries : List Entry) (asked_a asked_b : Bool) (kept : Facts) (a b : EndSearch)
    → IsHalfKey table [] kept → a ≡ search_begun asked_a → b ≡ search_begun asked_b
    → IsSearched table entries asked_a asked_b 0 (record { kept = kept; a = a; b = b })
started table entries asked_a asked_b kept a b are is_a is_b = record {
  items = [];
  are = are;
  counted = none_counted;
  of_a = λ asked. subst (λ (l : EndSearch). IsFound table sides.A entries [] 0 l) (sym is_a)
      (first_found table sides.A entries asked_a asked);
  of_b = λ asked. subst (λ (l : EndSearch). IsFound table sides.B entries [] 0 l) (sym is_b)
      (first_found table sides.B entries asked_b asked);
}

module _ (table : Table) (entries : List Entry) (a b : Bool) (number : ℕ) (state : SearchState)
    (so_far : IsSearched table entries a b number state) where
  -- The history has room for the next entry.
  pub roomy_next : number < 2 ^ 63 → (count : ℕ) → count < 2 ^ 63 → (entry : Entry)
      → ((item : Item) → item_of entry ≡ Ok item → components_in_all (item ∷ []) ≤ count)
      → (item : Item) → item_of entry ≡ Ok item → AreRoomy (so_far.items ++ item ∷ [])
  roomy_next few count small entry counted item is =
      counted_roomy so_far.items number so_far.counted item count (counted item is) small few

  -- There is no next entry.
  pub all_searched : length entries ≤ number
      → (a ≡ true → state.a.found ≡ blamed table sides.A entries) × (b ≡ true → state.b.found ≡ blamed table sides.B entries)
  all_searched up = (
    λ is. end_found table sides.A entries so_far.items number state.a.is_over state.a.found (so_far.of_a is)
        (drop_all number entries up),
    λ is. end_found table sides.B entries so_far.items number state.b.is_over state.b.found (so_far.of_b is)
        (drop_all number entries up),
  )

  module _ (entry : Entry) (there : number < length entries) (is : entry ≡ get_or entries number entry) (new : SearchState)
      (count : ℕ) (counted : (item : Item) → item_of entry ≡ Ok item → components_in_all (item ∷ []) ≤ count)
      (small : count < 2 ^ 63) where
    -- The next entry is an item.
    item_taken : (item : Item) → item_of entry ≡ Ok item → IsTaken table so_far.items number item state new
        → IsSearched table entries a b (number + 1) new
    item_taken item good taken = record {
      items = so_far.items ++ item ∷ [];
      are = taken.are;
      counted = more_counted so_far.items number so_far.counted item count (counted item good) small;
      of_a = λ asked. next_found table sides.A entries so_far.items number entry there is item good state.a.is_over
          state.a.found new.a (so_far.of_a asked) (taken.end_search sides.A);
      of_b = λ asked. next_found table sides.B entries so_far.items number entry there is item good state.b.is_over
          state.b.found new.b (so_far.of_b asked) (taken.end_search sides.B);
    }

    -- The search goes on.
    pub searched_on : Takes table so_far.items number entry true state new → IsSearched table entries a b (number + 1) new
    searched_on takes = by (item_of entry) refl
      where
        by : (r : Result Item Reason) → item_of entry ≡ r → IsSearched table entries a b (number + 1) new
        by (Ok item) good =
            let so : IsTaken table so_far.items number item state new × (true ≡ (not new.a.is_over || not new.b.is_over))
            = rw good at takes in
            item_taken item good so.0
        by (Err reason) bad =
            let so : (true ≡ false) × ((side : Side)
            → search_of side new ≡ search_after_bad number entry.side reason side (search_of side state)) = rw bad at takes in
            let (never, end_search) = so in cc

    -- The search stops.
    pub searched_up : Takes table so_far.items number entry false state new
        → (a ≡ true → new.a.found ≡ blamed table sides.A entries) × (b ≡ true → new.b.found ≡ blamed table sides.B entries)
    searched_up takes = by (item_of entry) refl
      where
        both_over : (a_over b_over : Bool) → false ≡ (not a_over || not b_over) → (a_over ≡ true) × (b_over ≡ true)
        both_over true true over = (refl, refl)
        both_over true false over = cc
        both_over false b_over over = cc

        by : (r : Result Item Reason) → item_of entry ≡ r
            → (a ≡ true → new.a.found ≡ blamed table sides.A entries)
            × (b ≡ true → new.b.found ≡ blamed table sides.B entries)
        by (Ok item) good =
            let so : IsTaken table so_far.items number item state new × (false ≡ (not new.a.is_over || not new.b.is_over))
            = rw good at takes in
            let next = item_taken item good so.0 in
            let (a_over, b_over) = both_over new.a.is_over new.b.is_over so.1 in (
              λ asked. over_found table sides.A entries next.items (number + 1) new.a.is_over new.a.found
                  (next.of_a asked) a_over,
              λ asked. over_found table sides.B entries next.items (number + 1) new.b.is_over new.b.found
                  (next.of_b asked) b_over,
            )
        by (Err reason) bad =
            let so : (false ≡ false) × ((side : Side)
            → search_of side new ≡ search_after_bad number entry.side reason side (search_of side state)) = rw bad at takes in (
              λ asked. bad_found table sides.A entries so_far.items number entry there is reason bad state.a.is_over
                  state.a.found new.a (so_far.of_a asked) (so.1 sides.A),
              λ asked. bad_found table sides.B entries so_far.items number entry there is reason bad state.b.is_over
                  state.b.found new.b (so_far.of_b asked) (so.1 sides.B),
            )
