use Rattle.std.proofs.Common.{true, false, sym, ◌∙◌, arith}
use Rattle.tcap_search.proofs.ClosingLaws.{no_entry, no_side, no_transaction, shown_is}
use Rattle.tcap_search.proofs.LineLaws.{count_transactions}
use Rattle.tcap_search.proofs.closings.shown_by.Goals as goal

pub returns-in_err-entry : goal.returns-in_err-entry
returns-in_err-entry c = λ all delivered.
    let entries = c.args.entries.now in
    let t = c.args.tie.now in
    c.from_residual.ensures
    ∙ no_entry entries all t.entry t.reply c.in_err-entry.ensures.lookup.3

pub returns-in_err-side : goal.returns-in_err-side
returns-in_err-side c = λ all delivered.
    let entries = c.args.entries.now in
    let t = c.args.tie.now in
    let look = c.in_ok-entry.ensures.lookup in
    c.from_residual-in_err-side.ensures
    ∙ no_side entries c.args.transactions.now all t.entry t.reply c.in_ok-entry.entry.now
    c.requires.transactions look.3.0 look.1 c.in_err-side.was

pub bounds-transactions-tie : goal.bounds-transactions-tie
bounds-transactions-tie c =
    let counted = count_transactions c.args.entries.now c.args.transactions.now c.requires.transactions in
    omega (arith, c.in_ok-entry.ensures.lookup.3.0)

pub returns-in_err-transaction : goal.returns-in_err-transaction
returns-in_err-transaction c = λ all delivered.
    let entries = c.args.entries.now in
    let t = c.args.tie.now in
    let look = c.in_ok-entry.ensures.lookup in
    c.from_residual-in_err-transaction.ensures
    ∙ no_transaction entries c.args.transactions.now all t.entry t.reply
    c.in_ok-entry.entry.now c.requires.transactions look.3.0 look.1 c.in_ok-side.side c.in_ok-side.was
    c.in_err-transaction.was

pub returns-then-shows_closing : goal.returns-then-shows_closing
returns-then-shows_closing c = λ all delivered.
    let entries = c.args.entries.now in
    let t = c.args.tie.now in
    let look = c.in_ok-entry.ensures.lookup in
    rw c.other.ensures (shown_is entries c.args.transactions.now all t.entry t.reply
    c.in_ok-entry.entry.now c.requires.transactions look.3.0 look.1 c.args.ended.now c.args.delivered.now c.in_ok-side.side
    c.in_ok-transaction.transaction true c.in_ok-side.was c.in_ok-transaction.was c.requires.ended delivered
    (sym c.if-shows_closing.true ∙ c.shows_closing.ensures))

pub returns-else-shows_closing : goal.returns-else-shows_closing
returns-else-shows_closing c = λ all delivered.
    let entries = c.args.entries.now in
    let t = c.args.tie.now in
    let look = c.in_ok-entry.ensures.lookup in
    shown_is entries c.args.transactions.now all t.entry t.reply
    c.in_ok-entry.entry.now c.requires.transactions look.3.0 look.1 c.args.ended.now c.args.delivered.now c.in_ok-side.side
    c.in_ok-transaction.transaction false c.in_ok-side.was c.in_ok-transaction.was c.requires.ended delivered
    (sym c.if-shows_closing.false ∙ c.shows_closing.ensures)
