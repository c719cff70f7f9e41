use Rattle.std.proofs.Common.{◌≡◌, ◌∙◌, ℕ, None, Ok, ap, length, rules, sym, vec_len}
use Rattle.tcap_certificate.specs.Certificate.{Certificate, prompt}
use Rattle.tcap_certificate.specs.Replay.{replayed_by}
use Rattle.tcap_check.proofs.refusal_laws.ReasonGaps.{as_many}
use Rattle.tcap_uses.proofs.PromptLaws.{made_prompt, memory_is, read_whole, refused_run, reported_run}
use Rattle.tcap_uses.proofs.prompt.is_prompt.Goals as goal

pub returns-in-Ok-check-clause-prompt : goal.returns-in-Ok-check-clause-prompt
returns-in-Ok-check-clause-prompt c = λ is.
    let entries = c.in-Ok.record.entries.items in
    let certificate = c.in_ok-certificate.certificate in
    let (returned, all, read) = c.in-Ok.ensures.returned in
    let whole =
    read_whole entries c.args.octets.now returned _ (rw c.new-reader.ensures.inner at all) c.in-Ok.ensures.ended read in
    let (events, given) =
    reported_run c.args.table.now certificate entries c.in-Ok-check.field-0
    (sym (c.in-Ok-check.ensures.exact (λ e. cc))) in
    let (items, spells, run, at_once, plain) =
    c.prompt_certificates_say_so_of_octets.ensures c.args.table.now certificate c.args.octets.now entries events whole
    (made_prompt certificate c.len.result c.in_ok-certificate.ensures) given in
    (items, events, spells, run, at_once, plain)

pub returns : goal.returns
returns c = record {
  prompt = λ is. cc;
  other = λ is items events spells few run seen at_once.
      let entries = c.in-Ok.record.entries.items in
      let certificate = c.in_ok-certificate.certificate in
      let (returned, all, read) = c.in-Ok.ensures.returned in
      let whole =
      read_whole entries c.args.octets.now returned _ (rw c.new-reader.ensures.inner at all) c.in-Ok.ensures.ended read in
      let (fine, are) = c.octets_are_read_as_their_items.ensures items c.args.octets.now entries (Ok tt) spells few whole tt in
      let (given, is_given) =
      c.prompt_octets_are_given.ensures c.args.table.now items c.args.octets.now entries events spells few whole run
      seen at_once in
      let count : vec_len c.in-Ok.record.entries ≡ length entries = search rules in
      let same : certificate ≡ prompt (length items) =
      c.in_ok-certificate.ensures ∙ ap (λ (n : ℕ). prompt n) (c.len.ensures ∙ count ∙ as_many entries items are) in
      refused_run c.args.table.now certificate entries c.in-Err.fault given
      (c.in-Err.ensures.exact (λ e. c.in_default-reason.not-Memory (memory_is c.in-Err.fault e)))
      (ap (λ (x : Certificate). replayed_by None c.args.table.now x entries) same ∙ is_given);
}
