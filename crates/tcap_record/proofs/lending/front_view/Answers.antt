use Rattle.std.proofs.Common.{◌+◌, Some, sym, ◌∙◌, take, arith}
use Rattle.std.proofs.lemmas.List.{length-take-le}
use Rattle.tcap_msg.specs.Meaning.{message_of}
use Rattle.tcap_record.specs.declared.entry.Body.TheVariants.{Good}
use Rattle.tcap_record.specs.declared.entry.Entry.{Entry}
use Rattle.tcap_record.proofs.LendLaws.{whole_within, none_whole, found_whole, good_lent}
use Rattle.tcap_record.proofs.lending.front_view.Goals as goal

pub returns-in-Some-Ok-clause-found : goal.returns-in-Some-Ok-clause-found
returns-in-Some-Ok-clause-found c =
    let m = message_of c.in-Some-Ok.message in
    let e : Entry = record { side = Some c.in-Some-Ok.side; place = c.args.place + 1; body = Good m } in
    let n = c.in-Some-Ok.len in
    rw c.in_ok-first.ensures.cases.0 (good_lent c.args.place c.in_ok-first.first.now n c.in_ok-first.element.now c.in-Some-Ok.side m (sym c.in-Some-Ok.ensures) c.in-Some-Ok.ensures'.exact)

pub returns-in_err-len-clause-none : goal.returns-in_err-len-clause-none
returns-in_err-len-clause-none c = λ e n. none_whole c.args.octets.now n (sym c.whole_len.ensures ∙ c.in_err-len.was)

pub slice_bounds-entry_view-end : goal.slice_bounds-entry_view-end
slice_bounds-entry_view-end c =
    let found = found_whole c.args.octets.now c.in_ok-len.len (sym c.in_ok-len.ensures) in
    sym (length-take-le c.in_ok-len.len c.args.octets.now found.0)

pub entry_view-requires-clause-whole : goal.entry_view-requires-clause-whole
entry_view-requires-clause-whole c = (found_whole c.args.octets.now c.in_ok-len.len (sym c.in_ok-len.ensures)).1

pub entry_view-requires-clause-fits : goal.entry_view-requires-clause-fits
entry_view-requires-clause-fits c =
    let found = found_whole c.args.octets.now c.in_ok-len.len (sym c.in_ok-len.ensures) in
    omega (arith, c.requires.fits, whole_within (take c.in_ok-len.len c.args.octets.now) found.1)

pub returns-clause-found : goal.returns-clause-found
returns-clause-found c =
    let found = found_whole c.args.octets.now c.in_ok-len.len (sym c.in_ok-len.ensures) in
    record { most = found.0; is_whole = found.1; is_entry = c.entry_view.ensures }
