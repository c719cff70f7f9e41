use Rattle.std.proofs.Common.{◌≡◌, ℕ, ◌≤◌, length, arith}
use Rattle.std.specs.Prelude.{min}
use Rattle.tcap_ber.proofs.ResumingLaws.{skipped}
use Rattle.tcap_ber.proofs.walk.Walk.skipping.Goals as goal

fewer : (a b n : ℕ) → n ≡ min a b → n ≤ a
fewer a b n e = omega (arith, e)

there : (a b n : ℕ) → n ≡ min a b → n ≤ b
there a b n e = omega (arith, e)

pub returns-clause-same : goal.returns-clause-same
returns-clause-same c = λ more. skipped c.args.self c.min-count.result c.args.octets.now more (omega (arith, fewer c.args.self.skip (length c.args.octets.now) c.min-count.result c.min-count.ensures)) (omega (arith, there c.args.self.skip (length c.args.octets.now) c.min-count.result c.min-count.ensures))
