use Rattle.std.proofs.Common.{ℕ, ap, subst, ◌∙◌, w32}
use Rattle.std.proofs.lemmas.Int.{to_z-of_z}
use Rattle.std.specs.Int.{cast_unsigned}
use Rattle.std.specs.Io.KnownBytes.{Appends}
use Rattle.tcap_ber.specs.Canonical.{shortest_header, number_octets, integer_len, integer_octets}
use Rattle.tcap_ber.proofs.PutLaws.{contents_of, takes_then}
use Rattle.tcap_ber.proofs.put.put_integer.Goals as goal

pub returns-clause-ok : goal.returns-clause-ok
returns-clause-ok g c =
    let before = g.W.Write.taken c.args.writer.now in
    let between = g.W.Write.taken c.put_header.new.writer in
    let passed = to_z-of_z w32 c.args.value c.ranges.value in
    let len = c.integer_len-len.ensures.exact ∙ ap integer_len passed in
    let octets = c.four_octets-octets.ensures ∙ ap (λ (n : ℕ). number_octets 4 n) (c.cast_unsigned.ensures ∙ ap (cast_unsigned w32) passed) in
    let header = subst (λ (n : ℕ). Appends before between (shortest_header c.args.tag n)) len c.in_ok-put_header.ensures.ok in
    takes_then before between _ _ _ (integer_octets c.args.value) c.write_all.result header c.write_all.ensures.takes
    (contents_of c.args.value _ _ len octets)
