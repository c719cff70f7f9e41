use Rattle.std.proofs.Common.{◌≡◌, ℕ, List, Option, Some, sym, ap, ◌∙◌}
use Rattle.std.specs.Prelude.{Contains, option_copied}
use Rattle.tcap_faults.specs.IdList.{IsOneOf}
use Rattle.tcap_faults.specs.TangledIds.{first_tangled, owns_of, peers_of, tangle_of_peer}
use Rattle.tcap_faults.proofs.transaction_laws.FirstTangled.{one_behind, tangled_after, tangled_besides, tangled_itself}
use Rattle.tcap_faults.proofs.transaction_laws.JoinTestLaws.{it_is}
use Rattle.tcap_faults.proofs.transaction.tangled_ids.Ends.tangled_besides.Goals as goal

one_of_those : (ids : List (List ℕ)) (o : Option (List ℕ)) (x : List ℕ) → IsOneOf ids o → o ≡ Some x → Contains ids x
one_of_those ids o x one is = rw is at one

pub returns-then-is_that : goal.returns-then-is_that
returns-then-is_that c = λ table items own id was their is one plain no_own.
    let end = c.args.end in
    let it = it_is c.args.own.id.now (option_copied c.args.joined) (sym c.is_that.ensures ∙ c.if-is_that.true) in
    tangled_itself end items id plain no_own own (one_of_those (owns_of end items id) _ own one (rw is.it at it))

pub returns-in-Some : goal.returns-in-Some
returns-in-Some c = λ table items own id was their is one plain no_own.
    let end = c.args.end in
    tangled_besides end items id plain no_own own c.in-Some.tangled
    (sym c.in-Some.is ∙ c.tangled.ensures table end items own is)

pub returns : goal.returns
returns c = λ table items own id was their is one plain no_own.
    let end = c.args.end in
    let plain_own = sym c.in_default.is ∙ c.tangled.ensures table end items own is in
    c.tangled_after.ensures table end items own was their is (one_behind end items own plain_own)
    ∙ ap (λ s. first_tangled s (tangle_of_peer end items) (peers_of end items own)) c.other.ensures
    ∙ tangled_after end items id plain no_own own plain_own
