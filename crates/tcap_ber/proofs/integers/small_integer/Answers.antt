use Rattle.tcap_ber.specs.Grammar.{integer}
use Rattle.tcap_ber.specs.Reading.{element, small_integer_at}
use Rattle.tcap_ber.proofs.BodyLaws.{reads_integer}
use Rattle.tcap_ber.proofs.ResultLaws.{body_found, body_only, body_faulty}
use Rattle.tcap_ber.proofs.integers.small_integer.Goals as goal

pub returns-clause-found : goal.returns-clause-found
returns-clause-found c = body_found (integer c.args.limit c.args.too_wide) (small_integer_at c.args.limit c.args.too_wide) (reads_integer c.args.limit c.args.too_wide) (λ n. n) (element c.args.tlv) c.read_small.result c.read_small.ensures.exact

pub returns-clause-only : goal.returns-clause-only
returns-clause-only c = body_only (integer c.args.limit c.args.too_wide) (small_integer_at c.args.limit c.args.too_wide) (reads_integer c.args.limit c.args.too_wide) (λ n. n) (element c.args.tlv) c.read_small.result c.read_small.ensures.exact

pub returns-clause-faulty : goal.returns-clause-faulty
returns-clause-faulty c = body_faulty (integer c.args.limit c.args.too_wide) (small_integer_at c.args.limit c.args.too_wide) (reads_integer c.args.limit c.args.too_wide) (λ n. n) (element c.args.tlv) c.read_small.result c.read_small.ensures.exact
