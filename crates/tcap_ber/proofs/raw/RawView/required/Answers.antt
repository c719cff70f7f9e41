use Rattle.std.proofs.Common.{ℕ, List}
use Rattle.tcap_ber.specs.declared.raw.RawView.{RawView}
use Rattle.tcap_ber.specs.Grammar.{verbatim}
use Rattle.tcap_ber.specs.Reading.{span, verbatim_at}
use Rattle.tcap_ber.proofs.ResultLaws.{field_found, field_only, field_faulty}
use Rattle.tcap_ber.proofs.VerbatimLaws.{reads_verbatim}
use Rattle.tcap_ber.proofs.raw.RawView.required.Goals as goal

-- the octets of a view
abbrev octets_of : RawView → List ℕ
octets_of raw = raw.octets.now

pub returns-clause-found : goal.returns-clause-found
returns-clause-found c = field_found (verbatim c.args.tag) (verbatim_at c.args.tag) (reads_verbatim c.args.tag) octets_of (span c.args.window) c.read_required.result c.read_required.ensures.exact

pub returns-clause-only : goal.returns-clause-only
returns-clause-only c = field_only (verbatim c.args.tag) (verbatim_at c.args.tag) (reads_verbatim c.args.tag) octets_of (span c.args.window) c.read_required.result c.read_required.ensures.exact

pub returns-clause-faulty : goal.returns-clause-faulty
returns-clause-faulty c = field_faulty (verbatim c.args.tag) (verbatim_at c.args.tag) (reads_verbatim c.args.tag) octets_of (span c.args.window) c.read_required.result c.read_required.ensures.exact
