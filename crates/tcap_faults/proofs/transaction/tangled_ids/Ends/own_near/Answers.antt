use Rattle.std.proofs.Common.{◌≡◌, ℕ, List, subst, sym, ◌∙◌}
use Rattle.std.proofs.lemmas.Slice.Eq.{bytes_eq-Decides}
use Rattle.tcap_faults.specs.KeptForMessage.{IsOwnId}
use Rattle.tcap_faults.proofs.transaction_laws.LookupLaws.{own_is}
use Rattle.tcap_faults.proofs.transaction.tangled_ids.Ends.own_near.Goals as goal

pub returns-in-Some : goal.returns-in-Some
returns-in-Some c = λ table side items near was their is.
    let own = c.in-Some.own in
    let (id, named, at) = own_is table side items near own (rw c.in-Some.is at is) in
    let same : own.id.now ≡ c.args.id.now =
    (bytes_eq-Decides own.id.now c.args.id.now).0 (sym c.is_that.ensures ∙ c.if-is_that.true) in
    subst (λ (i : List ℕ). IsOwnId table side items i own) (sym at.it ∙ same) at
