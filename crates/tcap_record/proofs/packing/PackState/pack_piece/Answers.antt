use Rattle.std.proofs.Common.{ℕ, ◌++◌, List, sym, ap, ◌∙◌, append_assoc}
use Rattle.std.proofs.lemmas.Result.{err_from_is_err_and}
use Rattle.tcap_record.specs.declared.packing.PackFault.TheVariants.{Fault}
use Rattle.tcap_record.proofs.PackLaws.{handed_on, packs_then, stops_then}
use Rattle.tcap_record.proofs.packing.PackState.pack_piece.Goals as goal

pub returns-in_err-rest-clause-refused : goal.returns-in_err-rest-clause-refused
returns-in_err-rest-clause-refused g c fault e remaining =
    let p = err_from_is_err_and c.from_residual.result c.from_residual.ensures.1 in
    let why = c.in_err-rest.ensures.refused fault
    (handed_on c.from_residual.result p.0 (Fault fault) c.in_err-rest.field-0.0 p.1 p.2 e) remaining in
    let before = c.loop-rest.invariant in
    rw before.joined (stops_then c.args.self.now c.loop-rest.self before.octets c.loop-rest.rest.now fault remaining
    (g.W.Write.taken c.args.writer.now) (g.W.Write.taken c.loop-rest.writer)
    (g.W.Write.taken c.pack_line.new.writer) before.packs why)

pub loop-rest-preserved : goal.loop-rest-preserved
loop-rest-preserved g c =
    let before = c.loop-rest.invariant in
    let packed = c.in_ok-rest.ensures.packed in
    record {
      octets = before.octets ++ packed.0;
      joined = before.joined ∙ ap (λ (x : List ℕ). before.octets ++ x) packed.1
          ∙ sym (append_assoc before.octets packed.0 c.in_ok-rest.rest.now);
      is_open = c.in_ok-rest.ensures.open;
      packs = packs_then c.args.self.now c.loop-rest.self c.pack_line.new.self before.octets packed.0
          (g.W.Write.taken c.args.writer.now) (g.W.Write.taken c.loop-rest.writer)
          (g.W.Write.taken c.pack_line.new.writer) before.packs packed.3;
      count = c.in_ok-rest.ensures.others (λ e. absurd cc) ∙ before.count;
    }
