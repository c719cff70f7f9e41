use Rattle.std.proofs.Common.{◌≡◌, ℕ, List, Option, sym, ap, ◌∙◌}
use Rattle.std.specs.Prelude.{option_copied}
use Rattle.std.specs.Option.{option_to_list}
use Rattle.tcap_record.specs.declared.entry.End.{End as Side}
use Rattle.tcap_record.specs.Ends.{other}
use Rattle.tcap_model.specs.World.{Item}
use Rattle.tcap_faults.specs.declared.verdict.unblamed_reason.TangledId.{TangledId}
use Rattle.tcap_faults.specs.IdList.{IsOneOf}
use Rattle.tcap_faults.specs.TangledIds.{owns_of, tangle_of_peer, tangled_for, tangled_id}
use Rattle.tcap_faults.proofs.transaction_laws.FirstTangled.{one_near, tangled_alone, tangled_first, tangled_joined}
use Rattle.tcap_faults.proofs.transaction_laws.LookupLaws.{own_is, own_none}
use Rattle.tcap_faults.proofs.transaction.tangled_ids.Ends.tangled_id.Goals as goal

-- A tangled ID of the other end is one of the peer.
of_peer : (side of : Side) (items : List Item) (id : List ℕ) (o : Option TangledId)
    → o ≡ tangled_for of id (tangle_of_peer side items id) → of ≡ other side
    → o ≡ tangled_for (other side) id (tangle_of_peer side items id)
of_peer side of items id o outgoing same = outgoing ∙ ap (λ s. tangled_for s id (tangle_of_peer side items id)) same

pub returns-in-Some : goal.returns-in-Some
returns-in-Some c = λ table items id near was their there is.
    let end = c.args.end in
    tangled_first end items id c.in-Some.tangled _
    (sym c.in-Some.is
    ∙ of_peer end c.other.result items id _ (c.tangled_peer.ensures table end items id was their there) c.other.ensures)

pub returns-in-Some-tangled_near : goal.returns-in-Some-tangled_near
returns-in-Some-tangled_near c = λ table items id near was their there is.
    let end = c.args.end in
    let plain = sym c.in_default.is
    ∙ of_peer end c.other.result items id _ (c.tangled_peer.ensures table end items id was their there) c.other.ensures in
    let one : IsOneOf (owns_of end items id) (option_copied c.as_ref-near.result) =
    rw c.as_ref-near.ensures.value (c.joined_own-joined.ensures table end items id there) in
    tangled_joined end items id plain c.in-Some-tangled_near.tangled _
    (sym c.in-Some-tangled_near.is
    ∙ c.tangled_near.ensures table end items near (owns_of end items id) was their is one (one_near end items id plain))

pub returns-in-Some-own : goal.returns-in-Some-own
returns-in-Some-own c = λ table items id near was their there is.
    let end = c.args.end in
    let plain = sym c.in_default.is
    ∙ of_peer end c.other.result items id _ (c.tangled_peer.ensures table end items id was their there) c.other.ensures in
    let one : IsOneOf (owns_of end items id) (option_copied c.as_ref-near.result) =
    rw c.as_ref-near.ensures.value (c.joined_own-joined.ensures table end items id there) in
    let no_own = sym c.in_default-tangled_near.is
    ∙ c.tangled_near.ensures table end items near (owns_of end items id) was their is one (one_near end items id plain) in
    let (own, named, at) = own_is table end items near c.in-Some-own.own (rw c.in-Some-own.is at is) in
    c.tangled_besides.ensures table items own id was their at one plain no_own
    ∙ ap (λ o. tangled_id end items (option_to_list o) id) (sym named)

pub returns-in-None : goal.returns-in-None
returns-in-None c = λ table items id near was their there is.
    let end = c.args.end in
    let plain = sym c.in_default.is
    ∙ of_peer end c.other.result items id _ (c.tangled_peer.ensures table end items id was their there) c.other.ensures in
    let one : IsOneOf (owns_of end items id) (option_copied c.as_ref-near.result) =
    rw c.as_ref-near.ensures.value (c.joined_own-joined.ensures table end items id there) in
    let no_own = sym c.in_default-tangled_near.is
    ∙ c.tangled_near.ensures table end items near (owns_of end items id) was their is one (one_near end items id plain) in
    tangled_alone end items id plain no_own
    ∙ ap (λ o. tangled_id end items (option_to_list o) id) (sym (own_none table end items near (rw c.in-None.is at is)))
