use Rattle.tcap_ber.specs.Reading.{element}
use Rattle.tcap_ber.proofs.ResultLaws.{body_found, body_only, body_faulty}
use Rattle.tcap_msg.specs.TransactionId.{transaction_id, transaction_id_of}
use Rattle.tcap_msg.proofs.KindLaws.{reads_transaction_id}
use Rattle.tcap_msg.proofs.transaction_id.TransactionIdView.read.Goals as goal

pub returns-clause-found : goal.returns-clause-found
returns-clause-found c =
    body_found transaction_id transaction_id_of reads_transaction_id (λ id. id.octets.now) (element c.args.tlv) c.from_content.result c.from_content.ensures.exact

pub returns-clause-only : goal.returns-clause-only
returns-clause-only c =
    body_only transaction_id transaction_id_of reads_transaction_id (λ id. id.octets.now) (element c.args.tlv) c.from_content.result c.from_content.ensures.exact

pub returns-clause-faulty : goal.returns-clause-faulty
returns-clause-faulty c =
    body_faulty transaction_id transaction_id_of reads_transaction_id (λ id. id.octets.now) (element c.args.tlv) c.from_content.result c.from_content.ensures.exact
