use Rattle.std.proofs.Common.{sym, subst, ◌∙◌}
use Rattle.tcap_record.specs.declared.entry.End.{End as Side}
use Rattle.tcap_evidence.specs.Unblamed.{IsUnblamed}
use Rattle.tcap_explain.proofs.NamedEnds.{is_unblamed}
use Rattle.tcap_explain.proofs.refuted_text.push_where_unblamed.Goals as goal

pub push_unblamed-requires : goal.push_unblamed-requires
push_unblamed-requires c =
    let table = c.args.table.now in
    let entries = c.args.read.now.entries.items in
    let r = c.args.refutation in record {
      unblamed = subst (λ (end : Side). IsUnblamed table end entries r.entry) (sym c.requires.sent)
          (is_unblamed table entries r c.requires.refuted c.args.ends c.requires.found
          (sym c.is_blamed_by.ensures ∙ c.if-is_blamed_by.false)
          (sym c.is_blamed_by-else-is_blamed_by.ensures ∙ c.if-is_blamed_by-2.false));
    }
