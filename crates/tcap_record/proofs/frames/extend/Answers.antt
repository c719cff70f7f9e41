use Rattle.std.proofs.Common.{◌≡◌, length, sym, ◌∙◌, arith}
use Rattle.std.proofs.lemmas.List.{length-take-le}
use Rattle.tcap_record.proofs.FrontLaws.{part_within}
use Rattle.tcap_record.proofs.TakenLaws.{comes, window_some, window_fits, is_longer, taken_within, is_taken}
use Rattle.tcap_record.proofs.frames.extend.Goals as goal

pub overflow_sub-held : goal.overflow_sub-held
overflow_sub-held c = omega (arith, c.len-held.ensures, c.args.part.now.ok.0, part_within c.args.part.now.items c.requires.part)

pub front_with-front-requires-clause-some : goal.front_with-front-requires-clause-some
front_with-front-requires-clause-some c =
    let old = c.args.part.now.items in
    let window = c.split_at.result.0.now in
    let len : c.len-held.result ≡ length old = c.len-held.ensures ∙ c.args.part.now.ok.0 in
    let there = comes old c.args.piece.now window c.split_at.result.1.now c.len-held.result c.min.result c.requires.part c.requires.some len c.min.ensures c.split_at.ensures.front_len c.split_at.ensures.by_index.0 in
    window_some old c.args.piece.now window there

pub front_with-front-requires-clause-fits : goal.front_with-front-requires-clause-fits
front_with-front-requires-clause-fits c =
    let old = c.args.part.now.items in
    let window = c.split_at.result.0.now in
    let len : c.len-held.result ≡ length old = c.len-held.ensures ∙ c.args.part.now.ok.0 in
    let there = comes old c.args.piece.now window c.split_at.result.1.now c.len-held.result c.min.result c.requires.part c.requires.some len c.min.ensures c.split_at.ensures.front_len c.split_at.ensures.by_index.0 in
    omega (arith, c.deref.ensures.len, c.args.part.now.ok.0, window_fits old c.args.piece.now window there)

pub taken_of-taken-requires : goal.taken_of-taken-requires
taken_of-taken-requires c =
    let old = c.args.part.now.items in
    let window = c.split_at.result.0.now in
    let len : c.len-held.result ≡ length old = c.len-held.ensures ∙ c.args.part.now.ok.0 in
    let front = rw c.deref.ensures.value at c.front_with-front.ensures.front in
    rw len (is_longer c.args.count old window c.front_with-front.result.0 c.requires.part front)

pub slice_bounds-extend_from_slice-end : goal.slice_bounds-extend_from_slice-end
slice_bounds-extend_from_slice-end c =
    let old = c.args.part.now.items in
    let window = c.split_at.result.0.now in
    let len : c.len-held.result ≡ length old = c.len-held.ensures ∙ c.args.part.now.ok.0 in
    let front = rw c.deref.ensures.value at c.front_with-front.ensures.front in
    let few = taken_within c.args.count old window c.front_with-front.result.0 front in
    let is = rw len at c.taken_of-taken.ensures in
    sym (length-take-le c.taken_of-taken.result window (omega (arith, few, is)))

pub returns-clause-taken : goal.returns-clause-taken
returns-clause-taken c =
    let old = c.args.part.now.items in
    let window = c.split_at.result.0.now in
    let len : c.len-held.result ≡ length old = c.len-held.ensures ∙ c.args.part.now.ok.0 in
    let there = comes old c.args.piece.now window c.split_at.result.1.now c.len-held.result c.min.result c.requires.part c.requires.some len c.min.ensures c.split_at.ensures.front_len c.split_at.ensures.by_index.0 in
    let front = rw c.deref.ensures.value at c.front_with-front.ensures.front in
    let is = rw len at c.taken_of-taken.ensures in
    is_taken c.args.count c.taken_of-taken.result old c.args.piece.now window c.extend_from_slice.new.self.items c.front_with-front.result.0 there c.requires.within front is c.in_ok-extend_from_slice.ensures.items
