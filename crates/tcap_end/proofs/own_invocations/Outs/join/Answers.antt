use mir.Syntax.{w8}
use Rattle.std.proofs.Common.{Some, sym, subst, ◌∙◌}
use Rattle.std.proofs.lemmas.Int.{to_z-of_z}
use Rattle.std.specs.List.Sorted.{IsSearchInRange}
use Rattle.std.specs.Vec.{vec_len}
use Rattle.tcap_end.proofs.OutLaws.{put_between, put_there, rises_either, was_absent, was_there}
use Rattle.tcap_end.proofs.own_invocations.Outs.join.Goals as goal

pub index_mut-requires : goal.index_mut-requires
index_mut-requires c = subst (λ r. IsSearchInRange r (vec_len c.args.self.now.places)) c.in-Ok.is c.find.ensures.range

pub insert_at-requires : goal.insert_at-requires
insert_at-requires c = subst (λ r. IsSearchInRange r (vec_len c.args.self.now.places)) c.in-Err.is c.find.ensures.range

pub invariant_of-self : goal.invariant_of-self
invariant_of-self c =
    let put = put_there c.args.id (Some c.args.invocation) c.args.self.now.places.items c.in-Ok.at
    c.args.self.now.ordered
    (sym (rw (to_z-of_z w8 c.args.id c.ranges.id) at c.find.ensures.value) ∙ c.in-Ok.is)
    c.index_mut.result.now c.index_mut.ensures.value c.replace.new.dest c.replace.ensures.after in
    record { ordered = put.rises }

pub invariant_of-self-in-Err : goal.invariant_of-self-in-Err
invariant_of-self-in-Err c =
    let rises = rises_either c.insert_at.result c.args.id (Some c.args.invocation) c.args.self.now.places.items
    c.insert_at.new.places.items c.in-Err.at c.args.self.now.ordered
    (sym (rw (to_z-of_z w8 c.args.id c.ranges.id) at c.find.ensures.value) ∙ c.in-Err.is)
    (rw (to_z-of_z w8 c.args.id c.ranges.id) at c.insert_at.ensures.put) c.insert_at.ensures.kept in
    record { ordered = rises }

pub returns-in-Ok : goal.returns-in-Ok
returns-in-Ok c =
    let put = put_there c.args.id (Some c.args.invocation) c.args.self.now.places.items c.in-Ok.at
    c.args.self.now.ordered
    (sym (rw (to_z-of_z w8 c.args.id c.ranges.id) at c.find.ensures.value) ∙ c.in-Ok.is)
    c.index_mut.result.now c.index_mut.ensures.value c.replace.new.dest c.replace.ensures.after in
    record {
      was = c.replace.ensures.value
          ∙ was_there c.args.id c.args.self.now.places.items c.in-Ok.at c.args.self.now.ordered
          (sym (rw (to_z-of_z w8 c.args.id c.ranges.id) at c.find.ensures.value) ∙ c.in-Ok.is) c.index_mut.result.now
          c.index_mut.ensures.value;
      put = put.kept;
      kept = tt;
      made = put.made;
      others = put.others;
    }

pub returns-in_ok-insert_at-in-Err : goal.returns-in_ok-insert_at-in-Err
returns-in_ok-insert_at-in-Err c =
    let put = put_between c.args.id (Some c.args.invocation) c.args.self.now.places.items
    c.insert_at.new.places.items c.in-Err.at c.args.self.now.ordered
    (sym (rw (to_z-of_z w8 c.args.id c.ranges.id) at c.find.ensures.value) ∙ c.in-Err.is)
    (rw (to_z-of_z w8 c.args.id c.ranges.id) at c.in_ok-insert_at-in-Err.ensures.put) in
    record {
      was = was_absent c.args.id c.args.self.now.places.items c.in-Err.at c.args.self.now.ordered
          (sym (rw (to_z-of_z w8 c.args.id c.ranges.id) at c.find.ensures.value) ∙ c.in-Err.is);
      put = put.kept;
      kept = tt;
      made = put.made;
      others = put.others;
    }
