use Rattle.std.proofs.Common.{◌≡◌, ◌∙◌, ◌++◌, [], ap, length, refl}
use Rattle.std.proofs.lemmas.List.{append-nil}
use Rattle.tcap_uses.proofs.Results.{same_value}
use Rattle.tcap_uses.proofs.msg.read_again.Goals as goal

-- The decoded message is the encoded one, and no octet comes after it.
pub returns-in-Ok-decode : goal.returns-in-Ok-decode
returns-in-Ok-decode c =
    let wrote = c.in-Ok.ensures.ok in
    let spelled = c.canonical_spelling.ensures c.args.message.now wrote.0 c.is_message.ensures wrote.1 in
    let joined : (c.deref.result.now ≡ wrote.0 ++ []) = (
    c.deref.ensures.value ∙ ap (λ v. v.items) c.into_inner.ensures ∙ wrote.2
    ∙ rw c.new-writer.ensures.inner (rw c.new.ensures.items (rw (append-nil wrote.0) refl))) in
    let read = c.in-Ok-decode.ensures.only c.args.message.now wrote.0 [] spelled joined in
    record { same = same_value c.args.message.now c.in-Ok-decode.again (length wrote.0) c.in-Ok-decode.field-0-1 read }
