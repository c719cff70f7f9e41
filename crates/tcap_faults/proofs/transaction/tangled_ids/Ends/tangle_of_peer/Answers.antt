use Rattle.std.proofs.Common.{refl, sym, ◌∙◌}
use Rattle.tcap_record.specs.Ends.{other}
use Rattle.tcap_faults.specs.History.{sent_from}
use Rattle.tcap_faults.proofs.transaction_laws.HistoryLookupLaws.{other_twice}
use Rattle.tcap_faults.proofs.transaction.tangled_ids.Ends.tangle_of_peer.Goals as goal

pub returns-then-owns_differ : goal.returns-then-owns_differ
returns-then-owns_differ c = λ table side items id was their is.
    rw (sym (c.owns_differ.ensures table side items id is) ∙ c.if-owns_differ.true) refl

pub returns-then-begins_twice : goal.returns-then-begins_twice
returns-then-begins_twice c = λ table side items id was their is.
    let two = sym (c.owns_differ.ensures table side items id is) ∙ c.if-owns_differ.false in
    let twice = sym (c.begins_twice.ensures table (sent_from (other side) items id) is.from) ∙ c.if-begins_twice.true in
    rw (two, twice) refl

pub returns-then-is_begun_by_both : goal.returns-then-is_begun_by_both
returns-then-is_begun_by_both c = λ table side items id was their is.
    let two = sym (c.owns_differ.ensures table side items id is) ∙ c.if-owns_differ.false in
    let twice = sym (c.begins_twice.ensures table (sent_from (other side) items id) is.from) ∙ c.if-begins_twice.false in
    let both = sym (c.is_begun_by_both.ensures table side items id was is two) ∙ c.if-is_begun_by_both.true in
    rw (two, twice, both) refl

pub returns-then-has_guessed : goal.returns-then-has_guessed
returns-then-has_guessed c = λ table side items id was their is.
    let two = sym (c.owns_differ.ensures table side items id is) ∙ c.if-owns_differ.false in
    let twice = sym (c.begins_twice.ensures table (sent_from (other side) items id) is.from) ∙ c.if-begins_twice.false in
    let both = sym (c.is_begun_by_both.ensures table side items id was is two) ∙ c.if-is_begun_by_both.false in
    let guessed = rw (other_twice side, is.it) at (c.has_guessed.ensures table (other side) items their) in
    rw (two, twice, both, sym guessed ∙ c.if-has_guessed.true) refl

pub returns-else-has_guessed : goal.returns-else-has_guessed
returns-else-has_guessed c = λ table side items id was their is.
    let two = sym (c.owns_differ.ensures table side items id is) ∙ c.if-owns_differ.false in
    let twice = sym (c.begins_twice.ensures table (sent_from (other side) items id) is.from) ∙ c.if-begins_twice.false in
    let both = sym (c.is_begun_by_both.ensures table side items id was is two) ∙ c.if-is_begun_by_both.false in
    let guessed = rw (other_twice side, is.it) at (c.has_guessed.ensures table (other side) items their) in
    rw (two, twice, both, sym guessed ∙ c.if-has_guessed.false) refl
