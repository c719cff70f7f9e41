use mir.Syntax.{w8}
use Rattle.std.proofs.Common.{sym, subst, ◌∙◌}
use Rattle.std.proofs.lemmas.Int.{to_z-of_z}
use Rattle.std.specs.List.Sorted.{IsSearchInRange}
use Rattle.std.specs.Vec.{vec_len}
use Rattle.tcap_end.proofs.OutLaws.{not_absent, put_there, was_there}
use Rattle.tcap_end.proofs.own_invocations.Outs.put.Goals as goal

pub index_mut-requires : goal.index_mut-requires
index_mut-requires c = subst (λ r. IsSearchInRange r (vec_len c.args.self.now.places)) c.in-Ok.is c.find.ensures.range

pub invariant_of-self : goal.invariant_of-self
invariant_of-self c =
    let put = put_there c.args.id c.args.invocation c.args.self.now.places.items c.in-Ok.at
    c.args.self.now.ordered
    (sym (rw (to_z-of_z w8 c.args.id c.ranges.id) at c.find.ensures.value) ∙ c.in-Ok.is)
    c.index_mut.result.now c.index_mut.ensures.value c.replace.new.dest c.replace.ensures.after in
    record { ordered = put.rises }

pub unreachable-requires : goal.unreachable-requires
unreachable-requires c =
    not_absent c.args.id c.args.self.now.places.items c.in-Err.field-0 c.args.self.now.ordered
    (sym (rw (to_z-of_z w8 c.args.id c.ranges.id) at c.find.ensures.value) ∙ c.in-Err.is) c.requires.made

pub returns : goal.returns
returns c =
    let put = put_there c.args.id c.args.invocation c.args.self.now.places.items c.in-Ok.at
    c.args.self.now.ordered
    (sym (rw (to_z-of_z w8 c.args.id c.ranges.id) at c.find.ensures.value) ∙ c.in-Ok.is)
    c.index_mut.result.now c.index_mut.ensures.value c.replace.new.dest c.replace.ensures.after in
    record {
      was = c.replace.ensures.value
          ∙ was_there c.args.id c.args.self.now.places.items c.in-Ok.at c.args.self.now.ordered
          (sym (rw (to_z-of_z w8 c.args.id c.ranges.id) at c.find.ensures.value) ∙ c.in-Ok.is) c.index_mut.result.now
          c.index_mut.ensures.value;
      put = put.kept;
      others = put.others;
    }
