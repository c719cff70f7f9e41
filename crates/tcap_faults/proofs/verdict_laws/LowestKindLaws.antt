-- The lowest kind of a message is the lowest first kind or else the lowest further kind; and the lowest further kind
-- over a half.
use Rattle.std.proofs.Common.{◌≡◌, ℕ, Bool, true, false, cond, not, ◌&&◌, ◌||◌, List, [], ◌∷◌, ◌++◌, Option, Some, None, is_some, refl, sym, ap, ap₂, ◌∙◌, arith}
use Rattle.std.specs.Option.{option_or}
use Rattle.std.specs.List.{find, list_any}
use Rattle.std.proofs.Math.Bool.{or-false}
use Rattle.std.proofs.lemmas.Bool.{or_parts}
use Rattle.tcap_parts.specs.declared.component.Component.{Component}
use Rattle.tcap_msg.specs.declared.message.Message.{Message}
use Rattle.tcap_msg.specs.Parts.{cause_in, components_in, dtid_in}
use Rattle.tcap_record.specs.declared.entry.End.{End as Side}
use Rattle.tcap_end.specs.Table.{Table}
use Rattle.tcap_model.specs.World.{Item}
use Rattle.tcap_refute.specs.declared.kind.Kind.{Kind}
use Rattle.tcap_refute.specs.declared.kind.Kind.TheVariants as kinds
use Rattle.tcap_faults.specs.Components.{has_component, invokes_again, is_linked}
use Rattle.tcap_refute.specs.FirstKinds.{first_kinds, is_of_first_kind}
use Rattle.tcap_refute.proofs.TestLaws.{some_first}
use Rattle.tcap_faults.specs.declared.component.component_faults.ComponentFaults.{ComponentFaults}
use Rattle.tcap_faults.specs.ComponentKinds.{answers_again, invokes_busy, links_badly, rejects_wrongly}
use Rattle.tcap_faults.specs.ComponentFaults.{component_at}
use Rattle.tcap_faults.specs.Fault.{further_kinds, is_fault, is_of_further_kind, is_of_half_kind, is_of_kind_to}
use Rattle.tcap_faults.specs.HalfKinds.{is_wrong_dialogue, is_wrong_half}
use Rattle.tcap_faults.specs.HalfByPeerId.{HalfMessages, half_of}
use Rattle.tcap_faults.specs.SearchState.{kind_of_components}
use Rattle.tcap_faults.specs.FaultSubject.{alone_component, half_component}
use Rattle.tcap_faults.specs.TangledIds.{are_tangled, goes_over_tangled, is_own_tangled, is_peer_tangled, near, own_of_continue}
use Rattle.tcap_faults.proofs.component_laws.ComponentFaultLaws.{some_component}

-- ---- the further kinds

-- A message that goes over a half.
pub half_found : (table : Table) (side : Side) (items : List Item) (m : Message) (id : List ℕ)
    → dtid_in m ≡ Some id → cause_in m ≡ None
    → find (is_of_further_kind table side items m (dtid_in m)) further_kinds
    ≡ find (is_of_half_kind table side id items m (half_of side items id)) further_kinds
half_found table side items m id there is =
    ap (λ o. find (is_of_further_kind table side items m o) further_kinds) there
    ∙ ap (λ o. find (is_of_kind_to table side id items m o) further_kinds) is

-- ---- over a half

-- The lowest kind over a half, from the conditions of each kind.
abbrev by_half : Bool → Bool → Bool → Bool → Bool → Bool → Option Kind
by_half half dialogue busy linked answered rejected =
    cond half (Some kinds.WrongHalf)
    (cond (not half && dialogue) (Some kinds.WrongDialogue)
    (kind_of_components (not half && busy) (not half && linked) (not half && answered) (not half && rejected)))

-- The lowest kind of a message over a half, from whether it has F8 and F9.
abbrev kind_by : Table → HalfMessages → Message → Bool → Bool → Option Kind
kind_by table h m half dialogue =
    by_half half dialogue (has_component (invokes_busy table h (h.outgoing ++ components_in m)) [] h.outgoing (components_in m))
    (has_component (links_badly table h) [] h.outgoing (components_in m))
    (has_component (answers_again table h) [] h.outgoing (components_in m))
    (has_component (rejects_wrongly table h) [] h.outgoing (components_in m))

found_over : (table : Table) (side : Side) (id : List ℕ) (items : List Item) (m : Message) (h : HalfMessages)
    → find (is_of_half_kind table side id items m h) further_kinds
    ≡ kind_by table h m (is_wrong_half side items m h) (is_wrong_dialogue side items id m h)
found_over table side id items m h = refl

-- If F8 does not hold and F9 does.
pub kind_of_dialogue : (table : Table) (side : Side) (id : List ℕ) (items : List Item) (m : Message) (h : HalfMessages)
    → false ≡ is_wrong_half side items m h → true ≡ is_wrong_dialogue side items id m h
    → Some kinds.WrongDialogue ≡ find (is_of_half_kind table side id items m h) further_kinds
kind_of_dialogue table side id items m h half dialogue =
    ap₂ (λ a b. kind_by table h m a b) half dialogue ∙ sym (found_over table side id items m h)

-- If neither F8 nor F9 holds.
pub kind_last : (table : Table) (side : Side) (id : List ℕ) (items : List Item) (m : Message) (h : HalfMessages) (k : Option Kind)
    → false ≡ is_wrong_half side items m h → false ≡ is_wrong_dialogue side items id m h
    → k ≡ kind_of_components
    (has_component (invokes_busy table h (h.outgoing ++ components_in m)) [] h.outgoing (components_in m))
    (has_component (links_badly table h) [] h.outgoing (components_in m))
    (has_component (answers_again table h) [] h.outgoing (components_in m))
    (has_component (rejects_wrongly table h) [] h.outgoing (components_in m))
    → k ≡ find (is_of_half_kind table side id items m h) further_kinds
kind_last table side id items m h k half dialogue is =
    is ∙ ap₂ (λ a b. kind_by table h m a b) half dialogue ∙ sym (found_over table side id items m h)

-- ---- the components

-- A message over a half has a kind exactly if a component with the kind was found.
pub kinds_found : (table : Table) (h : HalfMessages) (cs : List Component) (found : ComponentFaults)
    → ((kind : Kind) → component_at kind found ≡ half_component table h cs kind)
    → kind_of_components (is_some found.busy) (is_some found.badly_linked) (is_some found.answered_already)
    (is_some found.wrongly_rejected)
    ≡ kind_of_components
    (has_component (invokes_busy table h (h.outgoing ++ cs)) [] h.outgoing cs)
    (has_component (links_badly table h) [] h.outgoing cs)
    (has_component (answers_again table h) [] h.outgoing cs)
    (has_component (rejects_wrongly table h) [] h.outgoing cs)
kinds_found table h cs found are = λ i. kind_of_components (busy i) (linked i) (answered i) (rejected i)
  where
    busy : is_some found.busy ≡ has_component (invokes_busy table h (h.outgoing ++ cs)) [] h.outgoing cs
    busy = ap is_some (are kinds.InvokeIdBusy) ∙ some_component (invokes_busy table h (h.outgoing ++ cs)) 0 [] h.outgoing cs

    linked : is_some found.badly_linked ≡ has_component (links_badly table h) [] h.outgoing cs
    linked = ap is_some (are kinds.BadLink) ∙ some_component (links_badly table h) 0 [] h.outgoing cs

    answered : is_some found.answered_already ≡ has_component (answers_again table h) [] h.outgoing cs
    answered = ap is_some (are kinds.AnsweredAlready) ∙ some_component (answers_again table h) 0 [] h.outgoing cs

    rejected : is_some found.wrongly_rejected ≡ has_component (rejects_wrongly table h) [] h.outgoing cs
    rejected = ap is_some (are kinds.RejectNotAllowed) ∙ some_component (rejects_wrongly table h) 0 [] h.outgoing cs

-- A message without destination ID has a kind exactly if a component with the kind was found.
pub alone_found : (table : Table) (side : Side) (items : List Item) (m : Message) (found : ComponentFaults)
    → None ≡ dtid_in m → ((kind : Kind) → component_at kind found ≡ alone_component (components_in m) kind)
    → kind_of_components (is_some found.busy) (is_some found.badly_linked) (is_some found.answered_already)
    (is_some found.wrongly_rejected)
    ≡ find (is_of_further_kind table side items m (dtid_in m)) further_kinds
alone_found table side items m found none are =
    (λ i. kind_of_components (busy i) (linked i) (answered i) (rejected i))
    ∙ ap (λ o. find (is_of_further_kind table side items m o) further_kinds) none
  where
    busy : is_some found.busy ≡ has_component invokes_again [] [] (components_in m)
    busy = ap is_some (are kinds.InvokeIdBusy) ∙ some_component invokes_again 0 [] [] (components_in m)

    linked : is_some found.badly_linked ≡ list_any is_linked (components_in m)
    linked = ap is_some (are kinds.BadLink) ∙ some_first is_linked 0 (components_in m)

    answered : is_some found.answered_already ≡ false
    answered = ap is_some (are kinds.AnsweredAlready)

    rejected : is_some found.wrongly_rejected ≡ false
    rejected = ap is_some (are kinds.RejectNotAllowed)

-- ---- all kinds

same_find : (p q : Kind → Bool) (xs : List Kind) → ((k : Kind) → p k ≡ q k) → find p xs ≡ find q xs
same_find p q [] same = refl
same_find p q (x ∷ xs) same =
    ap (λ b. cond b (Some x) (find p xs)) (same x) ∙ ap (λ o. cond (q x) (Some x) o) (same_find p q xs same)

find_two : (p : Kind → Bool) (xs ys : List Kind) → find p (xs ++ ys) ≡ option_or (find p xs) (find p ys)
find_two p [] ys = refl
find_two p (x ∷ xs) ys = grind (arith, find_two p xs ys)

-- The kinds of a message that goes over no tangled IDs.
abbrev either_kind : Table → Side → List Item → Message → Option (List ℕ) → Kind → Bool
either_kind table side items m id kind =
    is_of_first_kind table side items m kind || is_of_further_kind table side items m id kind

-- No first kind is a further one.
no_further : (table : Table) (side : Side) (items : List Item) (m : Message) (id : Option (List ℕ)) (cause : Option ℕ)
    → cause_in m ≡ cause
    → find (either_kind table side items m id) first_kinds
    ≡ find (λ kind. is_of_first_kind table side items m kind || false) first_kinds
no_further table side items m None cause is = refl
no_further table side items m (Some id) cause is =
    ap (λ o. find (λ kind. is_of_first_kind table side items m kind || is_of_kind_to table side id items m o kind) first_kinds) is
    ∙ by cause
  where
    by : (cause : Option ℕ)
        → find (λ kind. is_of_first_kind table side items m kind || is_of_kind_to table side id items m cause kind) first_kinds
        ≡ find (λ kind. is_of_first_kind table side items m kind || false) first_kinds
    by cause = grind arith

first_alone : (table : Table) (side : Side) (items : List Item) (m : Message)
    → find (either_kind table side items m (dtid_in m)) first_kinds ≡ find (is_of_first_kind table side items m) first_kinds
first_alone table side items m =
    no_further table side items m (dtid_in m) (cause_in m) refl
    ∙ same_find _ _ first_kinds (λ kind. or-false (is_of_first_kind table side items m kind))

-- No further kind is a first one.
further_alone : (table : Table) (side : Side) (items : List Item) (m : Message) (id : Option (List ℕ))
    → find (either_kind table side items m id) further_kinds ≡ find (is_of_further_kind table side items m id) further_kinds
further_alone table side items m id = refl

-- Over no tangled IDs, the lowest kind is the lowest first kind, or else the lowest further one.
pub fault_found : (table : Table) (side : Side) (items : List Item) (m : Message) → goes_over_tangled side items m ≡ false
    → find (is_fault table side items m) (first_kinds ++ further_kinds)
    ≡ option_or (find (is_of_first_kind table side items m) first_kinds)
    (find (is_of_further_kind table side items m (dtid_in m)) further_kinds)
fault_found table side items m plain =
    ap (λ b. find (λ kind. not b && either_kind table side items m (dtid_in m) kind) (first_kinds ++ further_kinds)) plain
    ∙ find_two (either_kind table side items m (dtid_in m)) first_kinds further_kinds
    ∙ ap₂ option_or (first_alone table side items m) (further_alone table side items m (dtid_in m))

-- Over tangled IDs, a message has no kind.
pub none_found : (table : Table) (side : Side) (items : List Item) (m : Message) → goes_over_tangled side items m ≡ true
    → find (is_fault table side items m) (first_kinds ++ further_kinds) ≡ None
none_found table side items m over =
    ap (λ b. find (λ kind. not b && either_kind table side items m (dtid_in m) kind) (first_kinds ++ further_kinds)) over

-- ---- the destination ID

pub not_tangled : (side : Side) (items : List Item) (m : Message) (id : List ℕ) → dtid_in m ≡ Some id
    → goes_over_tangled side items m ≡ false → is_peer_tangled side items id ≡ false
not_tangled side items m id to over =
    let so : are_tangled side items (own_of_continue m) id ≡ false = rw to at over in
    let (own, peers) = or_parts (list_any (is_own_tangled side items) (near side items (own_of_continue m) id)) _ so in
    (or_parts (is_peer_tangled side items id) _ peers).0
