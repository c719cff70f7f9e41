use Rattle.tcap_check.proofs.checker_laws.RefusalLaws.{says_as_described, says_bounded, says_lawful, says_with_reason}
use Rattle.tcap_check.proofs.records.check.Goals as goal

pub returns-clause-lawful : goal.returns-clause-lawful
returns-clause-lawful c =
    says_lawful c.args.judged c.args.table.now c.args.certificate.now c.args.record.now.entries.items c.replay.result c.replay.ensures

pub returns-clause-described : goal.returns-clause-described
returns-clause-described c =
    says_as_described c.args.judged c.args.table.now c.args.certificate.now c.args.record.now.entries.items c.replay.result c.replay.ensures

pub returns-clause-refuses : goal.returns-clause-refuses
returns-clause-refuses c =
    says_with_reason c.args.judged c.args.table.now c.args.certificate.now c.args.record.now.entries.items c.replay.result c.replay.ensures

pub returns-clause-bound : goal.returns-clause-bound
returns-clause-bound c =
    says_bounded c.args.judged c.args.table.now c.args.certificate.now c.args.record.now.entries.items c.replay.result c.replay.ensures
