-- The kind of the next item for an end, from the history; and the history after it.
use Rattle.std.proofs.Common.{◌≡◌, Bool, true, false, cond, not, ◌&&◌, ◌||◌, List, [], ◌∷◌, ◌++◌, Option, Some, None, Result, Ok, Err, refl, sym, ap, subst, ◌∙◌, ap₂, is_some, arith}
use Rattle.std.specs.Option.{option_or}
use Rattle.std.specs.Prelude.{IfOk}
use Rattle.std.specs.List.{find}
use Rattle.tcap_msg.specs.declared.message.Message.{Message}
use Rattle.tcap_msg.specs.Parts.{dtid_in}
use Rattle.tcap_record.specs.declared.entry.End.{End as Side}
use Rattle.tcap_end.specs.Table.{Table}
use Rattle.tcap_model.specs.World.{Item, Sent, is_side}
use Rattle.tcap_refute.specs.declared.kind.Kind.{Kind}
use Rattle.tcap_refute.specs.EarlierMessages.{since_quiet}
use Rattle.tcap_refute.specs.FirstKinds.{first_kinds, is_of_first_kind}
use Rattle.tcap_model.proofs.WorldLaws.{itself}
use Rattle.tcap_refute.proofs.ItemLaws.{since_mark, since_more}
use Rattle.tcap_faults.specs.declared.transaction.history.Facts.{Facts}
use Rattle.tcap_faults.specs.Fault.{fault_since, further_kinds, is_fault, is_of_further_kind}
use Rattle.tcap_faults.specs.History.{AreFacts}
use Rattle.tcap_faults.specs.SearchState.{IsHalfKey}
use Rattle.tcap_faults.specs.TangledIds.{goes_over_tangled, tangled_in}
use Rattle.tcap_faults.specs.UsedAgain.{has_used_again, is_used_again, uses_again}
use Rattle.tcap_faults.proofs.list_laws.FindLaws.{one_more}
use Rattle.tcap_faults.proofs.verdict_laws.LowestKindLaws.{fault_found, none_found}
use Rattle.tcap_faults.proofs.transaction_laws.FirstTangled.{tangled_outgoing}
use Rattle.tcap_faults.specs.declared.verdict.unblamed_reason.TangledId.{TangledId}

-- ---- own IDs that are used again

again_more : (table : Table) (side : Side) (items : List Item) (m : Message)
    → has_used_again table side (items ++ Sent side m ∷ [])
    ≡ (has_used_again table side items || uses_again table side items m)
again_more table side items m =
    one_more (is_used_again table side) [] items (Sent side m)
    ∙ ap (λ b. has_used_again table side items || (b && uses_again table side items m)) (itself side)

-- ---- the lowest kind of the end's message

fault_is : (table : Table) (side : Side) (items : List Item) (m : Message)
    → fault_since table side items (Sent side m)
    ≡ cond (not (has_used_again table side items || uses_again table side items m))
    (find (is_fault table side items m) (first_kinds ++ further_kinds)) None
fault_is table side items m =
    ap₂ (λ b c. cond (b && not c) (find (is_fault table side items m) (first_kinds ++ further_kinds)) None)
    (itself side) (again_more table side items m)

-- If an own ID was used again, or the message goes over tangled IDs, it has no kind.
pub no_fault : (table : Table) (side : Side) (items : List Item) (m : Message)
    → (has_used_again table side items || uses_again table side items m || goes_over_tangled side items m) ≡ true
    → None ≡ fault_since table side items (Sent side m)
no_fault table side items m is =
    sym (fault_is table side items m
    ∙ by (has_used_again table side items || uses_again table side items m) (goes_over_tangled side items m) refl is)
  where
    by : (again over : Bool) → goes_over_tangled side items m ≡ over → (again || over) ≡ true
        → cond (not again) (find (is_fault table side items m) (first_kinds ++ further_kinds)) None ≡ None
    by true over same so = refl
    by false true same so = none_found table side items m same
    by false false same so = cc

-- Otherwise it has the lowest first kind, or else the lowest further one.
either_fault : (table : Table) (side : Side) (items : List Item) (m : Message)
    → (has_used_again table side items || uses_again table side items m || goes_over_tangled side items m) ≡ false
    → fault_since table side items (Sent side m)
    ≡ option_or (find (is_of_first_kind table side items m) first_kinds)
    (find (is_of_further_kind table side items m (dtid_in m)) further_kinds)
either_fault table side items m is =
    fault_is table side items m
    ∙ by (has_used_again table side items || uses_again table side items m) (goes_over_tangled side items m) refl is
  where
    by : (again over : Bool) → goes_over_tangled side items m ≡ over → (again || over) ≡ false
        → cond (not again) (find (is_fault table side items m) (first_kinds ++ further_kinds)) None
        ≡ option_or (find (is_of_first_kind table side items m) first_kinds)
        (find (is_of_further_kind table side items m (dtid_in m)) further_kinds)
    by true over same so = cc
    by false true same so = cc
    by false false same so = fault_found table side items m same

-- The first of three conditions makes their disjunction hold.
pub first_where : (a b c : Bool) → a ≡ true → (a || b || c) ≡ true
first_where a b c is = grind (arith, is)

pub second_so : (a b c : Bool) → b ≡ true → (a || b || c) ≡ true
second_so a b c is = grind (arith, is)

pub third_so : (a b c : Bool) → c ≡ true → (a || b || c) ≡ true
third_so a b c is = grind (arith, is)

pub none_so : (a b c : Bool) → a ≡ false → b ≡ false → c ≡ false → (a || b || c) ≡ false
none_so true b c is_a is_b is_c = cc
none_so false true c is_a is_b is_c = cc
none_so false false c is_a is_b is_c = is_c

pub first_fault : (table : Table) (side : Side) (items : List Item) (m : Message) (kind : Kind)
    → (has_used_again table side items || uses_again table side items m || goes_over_tangled side items m) ≡ false
    → Some kind ≡ find (is_of_first_kind table side items m) first_kinds
    → Some kind ≡ fault_since table side items (Sent side m)
first_fault table side items m kind is first =
    sym (either_fault table side items m is
    ∙ ap (λ o. option_or o (find (is_of_further_kind table side items m (dtid_in m)) further_kinds)) (sym first))

pub further_fault : {E : Type 0} (table : Table) (side : Side) (items : List Item) (m : Message)
    (result : Result (Option Kind) E)
    → (has_used_again table side items || uses_again table side items m || goes_over_tangled side items m) ≡ false
    → None ≡ find (is_of_first_kind table side items m) first_kinds
    → IfOk result (λ kind. kind ≡ find (is_of_further_kind table side items m (dtid_in m)) further_kinds)
    → IfOk result (λ kind. kind ≡ fault_since table side items (Sent side m))
further_fault {E} table side items m (Err e) is none found = tt
further_fault {E} table side items m (Ok kind) is none found =
    found ∙ sym (either_fault table side items m is
    ∙ ap (λ o. option_or o (find (is_of_further_kind table side items m (dtid_in m)) further_kinds)) (sym none))

-- A message of the other end is no fault.
pub peer_alone : (table : Table) (side sender : Side) (items : List Item) (m : Message) → is_side side sender ≡ false
    → fault_since table side items (Sent sender m) ≡ None
peer_alone table side sender items m is =
    ap (λ b. cond (b && not (has_used_again table side (items ++ Sent sender m ∷ [])))
    (find (is_fault table side items m) (first_kinds ++ further_kinds)) None) is

-- ---- the history after one more item

pub kept_more : (table : Table) (sender : Side) (items : List Item) (m : Message) (kept : Facts)
    → AreFacts table (since_quiet items ++ Sent sender m ∷ []) kept
    → IsHalfKey table (items ++ Sent sender m ∷ []) kept
kept_more table sender items m kept facts =
    subst (λ (xs : List Item). AreFacts table xs kept) (sym (since_more sender m items)) facts

pub kept_mark : (table : Table) (items : List Item) (kept : Facts) → AreFacts table [] kept
    → IsHalfKey table (items ++ Item.Quiet ∷ []) kept
kept_mark table items kept facts = subst (λ (xs : List Item). AreFacts table xs kept) (sym (since_mark items)) facts

-- A message goes over tangled IDs exactly if a first tangled ID is found.
pub over : (table : Table) (side : Side) (items : List Item) (m : Message) (o : Option TangledId) (found : Bool)
    → o ≡ tangled_in side items m → found ≡ is_some o → goes_over_tangled side items m ≡ found
over table side items m o found is so = sym (so ∙ ap is_some is ∙ tangled_outgoing side items m)
