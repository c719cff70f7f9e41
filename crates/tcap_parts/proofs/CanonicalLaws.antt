-- The canonical spellings of components and portions are spellings by the grammar.
use Rattle.std.proofs.Common.{◌≡◌, ◌≢◌, ℕ, ◌%◌, ℤ, true, false, List, [], ◌∷◌, ◌++◌, length, Option, Some, None, refl, sym, subst, ◌∙◌, inl, inr, arith}
use Rattle.std.specs.List.{All}
use Rattle.std.specs.Prelude.{Bool, nat_le}
use Rattle.std.proofs.lemmas.List.Elements.{All-head, All-tail}
use Rattle.tcap_ber.specs.Element.{content_limit}
use Rattle.tcap_ber.specs.Grammar.{IsElementOf, BeginsWith, SpellsOptional, SpellsParameter, SpellsEach, required, optional, parameter, ended, ◌⨾◌}
use Rattle.tcap_ber.specs.Choice.{IsOneOf, one_of}
use Rattle.tcap_ber.specs.Canonical.{◌⧺◌, integer_octets}
use Rattle.tcap_ber.proofs.Steps.{chosen}
use Rattle.tcap_ber.proofs.CanonicalLaws.{there, some_is, apart, integer_is_integer, integer_is_signed, integer_at_most_four, integer_one, element_around-spells, element_of-spells, one_around-spells, one_of-spells, begins_with-tag, join-is, join_assoc, then-spells, last-spells}
use Rattle.tcap_parts.specs.declared.code.Code.{Code}
use Rattle.tcap_parts.specs.declared.code.Code.TheVariants.{Local, Global}
use Rattle.tcap_parts.specs.declared.problem.Problem.{Problem}
use Rattle.tcap_parts.specs.declared.problem.Problem.TheVariants as problems
use Rattle.tcap_parts.specs.declared.component.ResultBody.{ResultBody}
use Rattle.tcap_parts.specs.declared.component.Component.{Component}
use Rattle.tcap_parts.specs.declared.component.Component.TheVariants.{Invoke, ReturnResult, ReturnError, Reject}
use Rattle.tcap_parts.specs.Component.{invoke_id, code, invoke, result_body, return_result, return_error, rejected_id, problem, reject, components, component, SpellsComponent, SpellsPortion}
use Rattle.tcap_parts.specs.Canonical.{canonical_integer, canonical_code, parameter_octets, canonical_coded, canonical_linked, canonical_body, canonical_rejected, canonical_problem, canonical_content, canonical_component, canonical_components, within_limit, canonical_portion}
use Rattle.tcap_parts.specs.Valid.{IsId, IsOptionalId, IsCode, IsParameter, IsResultBody, IsProblem, IsComponent, IsPortion}

-- ---- parts

-- the content of an invoke ID or of a linked ID
id_is : (id : ℤ) → IsId id → invoke_id.spells id (integer_octets id)
id_is id w =
    let one = integer_one id w in (integer_is_integer id (omega arith), omega arith, sym (integer_is_signed id (omega arith)))

id_spells : (tag : ℕ) (id : ℤ) (octets : List ℕ) → tag % 32 ≢ 31 → IsId id → canonical_integer tag id ≡ Some octets → IsElementOf tag (invoke_id.spells id) octets
id_spells tag id octets short w e = element_of-spells tag (invoke_id.spells id) (integer_octets id) octets short (id_is id w) e

code_spells : (c : Code) (octets : List ℕ) → IsCode c → canonical_code c ≡ Some octets → IsOneOf code c octets
code_spells (Local n) octets w e =
    one_of-spells code (Local n) 0x02 (integer_octets n) octets (omega arith)
    (inl (refl, (n, refl, (integer_is_integer n w, integer_at_most_four n w, sym (integer_is_signed n w))))) e
code_spells (Global id) octets w e =
    one_of-spells code (Global id) 0x06 id octets (omega arith)
    (inr (apart (omega arith), inl (refl, (id, refl, (w, refl))))) e

-- a code begins with 02 or 06, so not with 80, the tag of a linked ID
code_begins : (c : Code) (octets behind : List ℕ) → canonical_code c ≡ Some octets → BeginsWith 0x80 (octets ++ behind) → ⊥
code_begins (Local n) octets behind e begins = let k = begins_with-tag 0x02 0x80 (Some (integer_octets n)) octets behind e begins in omega (arith, k)
code_begins (Global id) octets behind e begins = let k = begins_with-tag 0x06 0x80 (Some id) octets behind e begins in omega (arith, k)

parameter_spells : (p : Option (List ℕ)) (octets : List ℕ) → IsParameter p → there (parameter_octets p) ≡ Some octets → SpellsParameter p octets []
parameter_spells None octets w e = (sym (some_is [] octets e), refl)
parameter_spells (Some raw) octets w e = (w, sym (some_is raw octets e))

-- a code and a parameter
coded_spells : (c : Code) (p : Option (List ℕ)) (octets : List ℕ) → IsCode c → IsParameter p → canonical_coded c p ≡ Some octets → (one_of code ⨾ parameter ⨾ ended).spells (c, (p, tt)) octets
coded_spells c p octets w v e =
    then-spells (one_of code) (parameter ⨾ ended) c (p, tt) (canonical_code c) (there (parameter_octets p)) octets
    (λ front rest k l. code_spells c front w k)
    (λ rest l. last-spells parameter p rest (parameter_spells p rest v l)) e

coded_begins : (c : Code) (p : Option (List ℕ)) (octets : List ℕ) → canonical_coded c p ≡ Some octets → BeginsWith 0x80 octets → ⊥
coded_begins c p octets e =
    let j = join-is (canonical_code c) (there (parameter_octets p)) octets e in
    subst (λ (o : List ℕ). BeginsWith 0x80 o → ⊥) (sym j.octets_are) (code_begins c j.front j.rest j.is_front)

-- no octets spell a linked ID that is left out, if the tag of a linked ID does not follow
linked_spells : (linked : Option ℤ) (octets behind : List ℕ) → IsOptionalId linked → (BeginsWith 0x80 behind → ⊥) → canonical_linked linked ≡ Some octets → SpellsOptional 0x80 invoke_id linked octets behind
linked_spells None octets behind w other e = (sym (some_is [] octets e), other)
linked_spells (Some id) octets behind w other e = id_spells 0x80 id octets (omega arith) w e

-- a linked ID or none, and then a code and a parameter
linked_coded_spells : (linked : Option ℤ) (c : Code) (p : Option (List ℕ)) (octets : List ℕ) → IsOptionalId linked → IsCode c → IsParameter p
    → canonical_linked linked ⧺ canonical_coded c p ≡ Some octets → (optional 0x80 invoke_id ⨾ one_of code ⨾ parameter ⨾ ended).spells (linked, (c, (p, tt))) octets
linked_coded_spells linked c p octets u w v e =
    then-spells (optional 0x80 invoke_id) (one_of code ⨾ parameter ⨾ ended) linked (c, (p, tt)) (canonical_linked linked) (canonical_coded c p) octets
    (λ front rest k l. linked_spells linked front rest u (coded_begins c p rest l) k)
    (λ rest l. coded_spells c p rest w v l) e

-- the body of a Return Result, at its end
body_spells : (body : Option ResultBody) (octets : List ℕ) → IsResultBody body → canonical_body body ≡ Some octets → SpellsOptional 0x30 result_body body octets []
body_spells None octets w e = (sym (some_is [] octets e), λ begins. begins)
body_spells (Some body) octets w e =
    element_around-spells 0x30 (result_body.spells body) (canonical_coded body.code body.parameter) octets (omega arith)
    (λ content k. ((body.code, (body.parameter, tt)), refl, coded_spells body.code body.parameter content w.0 w.1 k)) e

rejected_spells : (id : Option ℤ) (octets : List ℕ) → IsOptionalId id → canonical_rejected id ≡ Some octets → IsOneOf rejected_id id octets
rejected_spells None octets w e =
    one_of-spells rejected_id None 0x05 [] octets (omega arith)
    (inr (apart (omega arith), inl (refl, (tt, refl, refl)))) e
rejected_spells (Some id) octets w e =
    one_of-spells rejected_id (Some id) 0x02 (integer_octets id) octets (omega arith)
    (inl (refl, (id, refl, id_is id w))) e

problem_spells : (p : Problem) (octets : List ℕ) → IsProblem p → canonical_problem p ≡ Some octets → IsOneOf problem p octets
problem_spells (problems.General n) octets w e =
    one_of-spells problem (problems.General n) 0x80 (n ∷ []) octets (omega arith)
    (inl (refl, (n, refl, (refl, w)))) e
problem_spells (problems.Invoke n) octets w e =
    one_of-spells problem (problems.Invoke n) 0x81 (n ∷ []) octets (omega arith)
    (inr (apart (omega arith), inl (refl, (n, refl, (refl, w))))) e
problem_spells (problems.ReturnResult n) octets w e =
    one_of-spells problem (problems.ReturnResult n) 0x82 (n ∷ []) octets (omega arith)
    (inr (apart (omega arith), inr (apart (omega arith), inl (refl, (n, refl, (refl, w)))))) e
problem_spells (problems.ReturnError n) octets w e =
    one_of-spells problem (problems.ReturnError n) 0x83 (n ∷ []) octets (omega arith)
    (inr (apart (omega arith), inr (apart (omega arith), inr (apart (omega arith), inl (refl, (n, refl, (refl, w))))))) e

-- ---- the contents of components

invoke_spells : (id : ℤ) (linked : Option ℤ) (c : Code) (p : Option (List ℕ)) (content : List ℕ) → IsComponent (Invoke id linked c p)
    → canonical_content (Invoke id linked c p) ≡ Some content → invoke.spells (Invoke id linked c p) content
invoke_spells id linked c p content w e = (
  (id, (linked, (c, (p, tt)))),
  refl,
  then-spells (required 0x02 invoke_id) (optional 0x80 invoke_id ⨾ one_of code ⨾ parameter ⨾ ended) id (linked, (c, (p, tt)))
      (canonical_integer 0x02 id) (canonical_linked linked ⧺ canonical_coded c p) content
      (λ front rest k l. id_spells 0x02 id front (omega arith) w.0 k)
      (λ rest l. linked_coded_spells linked c p rest w.1 w.2 w.3 l)
      (sym (join_assoc (canonical_integer 0x02 id) (canonical_linked linked) (canonical_coded c p)) ∙ e),
)

return_result_spells : (last : Bool) (id : ℤ) (body : Option ResultBody) (content : List ℕ) → IsComponent (ReturnResult last id body)
    → canonical_content (ReturnResult last id body) ≡ Some content → (return_result last).spells (ReturnResult last id body) content
return_result_spells last id body content w e = (
  (id, (body, tt)),
  refl,
  then-spells (required 0x02 invoke_id) (optional 0x30 result_body ⨾ ended) id (body, tt) (canonical_integer 0x02 id) (canonical_body body) content
      (λ front rest k l. id_spells 0x02 id front (omega arith) w.0 k)
      (λ rest l. last-spells (optional 0x30 result_body) body rest (body_spells body rest w.1 l)) e,
)

return_error_spells : (id : ℤ) (c : Code) (p : Option (List ℕ)) (content : List ℕ) → IsComponent (ReturnError id c p)
    → canonical_content (ReturnError id c p) ≡ Some content → return_error.spells (ReturnError id c p) content
return_error_spells id c p content w e = (
  (id, (c, (p, tt))),
  refl,
  then-spells (required 0x02 invoke_id) (one_of code ⨾ parameter ⨾ ended) id (c, (p, tt)) (canonical_integer 0x02 id) (canonical_coded c p) content
      (λ front rest k l. id_spells 0x02 id front (omega arith) w.0 k)
      (λ rest l. coded_spells c p rest w.1 w.2 l) e,
)

reject_spells : (id : Option ℤ) (p : Problem) (content : List ℕ) → IsComponent (Reject id p)
    → canonical_content (Reject id p) ≡ Some content → reject.spells (Reject id p) content
reject_spells id p content w e = (
  (id, (p, tt)),
  refl,
  then-spells (one_of rejected_id) (one_of problem ⨾ ended) id (p, tt) (canonical_rejected id) (canonical_problem p) content
      (λ front rest k l. rejected_spells id front w.0 k)
      (λ rest l. last-spells (one_of problem) p rest (problem_spells p rest w.1 l)) e,
)

-- ---- components

pub canonical_component_spells : (c : Component) (octets : List ℕ) → IsComponent c → canonical_component c ≡ Some octets → SpellsComponent c octets
canonical_component_spells (Invoke id linked c p) octets w e =
    one_around-spells components (Invoke id linked c p) 0xA1 (canonical_content (Invoke id linked c p)) octets (omega arith)
    (λ content k. inl (refl, invoke_spells id linked c p content w k)) e
canonical_component_spells (ReturnResult true id body) octets w e =
    one_around-spells components (ReturnResult true id body) 0xA2 (canonical_content (ReturnResult true id body)) octets (omega arith)
    (λ content k. inr (apart (omega arith), inl (refl, return_result_spells true id body content w k))) e
canonical_component_spells (ReturnError id c p) octets w e =
    one_around-spells components (ReturnError id c p) 0xA3 (canonical_content (ReturnError id c p)) octets (omega arith)
    (λ content k. inr (apart (omega arith), inr (apart (omega arith), inl (refl, return_error_spells id c p content w k)))) e
canonical_component_spells (Reject id p) octets w e =
    one_around-spells components (Reject id p) 0xA4 (canonical_content (Reject id p)) octets (omega arith)
    (λ content k. inr (apart (omega arith), inr (apart (omega arith), inr (apart (omega arith), inl (refl, reject_spells id p content w k))))) e
canonical_component_spells (ReturnResult false id body) octets w e =
    one_around-spells components (ReturnResult false id body) 0xA7 (canonical_content (ReturnResult false id body)) octets (omega arith)
    (λ content k. inr (apart (omega arith), inr (apart (omega arith), inr (apart (omega arith), inr (apart (omega arith), inl (refl, return_result_spells false id body content w k)))))) e

pub canonical_components_spell : (cs : List Component) (octets : List ℕ) → All IsComponent cs → canonical_components cs ≡ Some octets → SpellsEach component cs octets
canonical_components_spell [] octets w e = sym (some_is [] octets e)
canonical_components_spell (c ∷ cs) octets w e =
    let j = join-is (canonical_component c) (canonical_components cs) octets e in (
      j.front,
      j.rest,
      j.octets_are,
      canonical_component_spells c j.front (All-head IsComponent c cs w) j.is_front,
      canonical_components_spell cs j.rest (All-tail IsComponent c cs w) j.is_rest,
    )

-- `within_limit` does not change a content
pub within_limit-is : (x : Option (List ℕ)) (octets : List ℕ) → within_limit x ≡ Some octets → x ≡ Some octets
within_limit-is None octets e = e
within_limit-is (Some content) octets e =
    elim (chosen (nat_le (length content) content_limit) (there content) None (Some octets) e) [
      | inl h ↦ h.1
      | inr h ↦ absurd cc
    ]

pub canonical_portion_spells : (cs : List Component) (octets : List ℕ) → IsPortion cs → canonical_portion cs ≡ Some octets → SpellsPortion cs octets
canonical_portion_spells cs octets w e = (w.0, canonical_components_spell cs octets w.1 (within_limit-is (canonical_components cs) octets e))
