use Rattle.std.proofs.Common.{[], ◌∷◌, ◌++◌, is_some, sym, ap, ◌∙◌}
use Rattle.tcap_parts.specs.declared.code.Code.TheVariants.{Global}
use Rattle.tcap_faults.specs.InvokeCounts.{sum}
use Rattle.tcap_faults.specs.TallyMeaning.{or_zero}
use Rattle.tcap_faults.proofs.component_laws.CodeListLaws.{listed_stays}
use Rattle.tcap_faults.proofs.component_laws.GlobalCodeLaws.{counts_one_more, inserted, is_set, listed_inserted, lists_one_more}
use Rattle.tcap_faults.proofs.component.code_count_maps.ManyCodes.add_global.Goals as goal

pub returns-in-Some-clause-codes : goal.returns-in-Some-clause-codes
returns-in-Some-clause-codes c =
    let found = c.in-Some.ensures.value in
    listed_stays (Global c.args.id.octets.now) c.args.self.now.codes.items
    (c.args.self.now.listed (Global c.args.id.octets.now) (sym (ap is_some found)))

pub invariant_of-self : goal.invariant_of-self
invariant_of-self c =
    let was = c.args.self.now in
    let octets = c.args.id.octets.now in
    let there = sym (ap is_some c.in-Some.ensures.value) in
    record {
      listed = rw (c.get_mut.follows.holds c.more.result).0
          (lists_one_more octets was.locals.entries was.globals.entries _ c.more.result
          (is_set octets c.more.result was.globals.entries there) was.codes.items was.listed
          (was.listed (Global octets) there));
    }

pub invariant_of-self-in-None : goal.invariant_of-self-in-None
invariant_of-self-in-None c =
    let was = c.args.self.now in
    record {
      listed = listed_inserted was.locals.entries was.globals.entries c.insert.new.self.entries
          c.in_ok-from_slice-in-None.field-0 c.args.id.octets.now 1 c.in_ok-from_slice-in-None.ensures.items
          c.in-None.ensures.value c.insert.result was.codes.items c.push.new.self.items
          (c.in_ok-push-in-None.ensures.items
          ∙ ap (λ octets. was.codes.items ++ Global octets ∷ []) c.in_ok-to_object_id-in-None.ensures)
          (rw c.get_mut.follows.holds-at-none at c.insert.ensures.entries)
          (rw c.get_mut.follows.holds-at-none at c.insert.ensures.err) was.listed;
    }

pub returns-in-Some-clause-counts : goal.returns-in-Some-clause-counts
returns-in-Some-clause-counts c = λ other.
    let was = c.args.self.now in
    let there = sym (ap is_some c.in-Some.ensures.value) in
    counts_one_more c.args.id.octets.now was.locals.entries was.globals.entries
    (c.get_mut.follows.lender c.more.result).entries c.more.result
    (rw (c.get_mut.follows.holds c.more.result).0
    (is_set c.args.id.octets.now c.more.result was.globals.entries there))
    (c.more.ensures ∙ ap (λ o. sum (or_zero o) 1) c.in-Some.ensures.value) other

pub returns-in_ok-insert-in-None-clause-counts : goal.returns-in_ok-insert-in-None-clause-counts
returns-in_ok-insert-in-None-clause-counts c = λ other.
    let was = c.args.self.now in
    counts_one_more c.args.id.octets.now was.locals.entries was.globals.entries c.insert.new.self.entries 1
    (inserted was.locals.entries was.globals.entries c.insert.new.self.entries c.in_ok-from_slice-in-None.field-0
    c.args.id.octets.now 1 c.in_ok-from_slice-in-None.ensures.items c.in-None.ensures.value
    (rw c.get_mut.follows.holds-at-none at c.in_ok-insert-in-None.ensures.entries))
    (ap (λ o. sum (or_zero o) 1) c.in-None.ensures.value) other
