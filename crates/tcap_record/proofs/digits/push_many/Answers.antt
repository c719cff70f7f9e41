use Rattle.std.proofs.Common.{rules, ◌++◌, ap, ◌∙◌}
use Rattle.std.specs.String.{string_bytes}
use Rattle.tcap_record.proofs.DigitLaws.{piece_more, none_left}
use Rattle.tcap_record.proofs.digits.push_many.Goals as goal

pub loop-chunk-preserved : goal.loop-chunk-preserved
loop-chunk-preserved c =
    let steps = c.in-Some.ensures.steps in record {
      can_next = search rules;
      is_finite = tt;
      size = steps.0 ∙ c.loop-chunk.invariant.size;
      made = piece_more _ _ _ c.in-Some.chunk.now _ _ steps.1.0 (c.in_ok-push_str.ensures.bytes ∙ ap (λ l. string_bytes c.loop-chunk.text ++ l) c.digits_of.ensures) c.loop-chunk.invariant.made;
    }

pub returns : goal.returns
returns c = none_left _ _ _ c.in-None.ensures.steps.1.0 c.loop-chunk.invariant.made
