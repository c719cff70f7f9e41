-- The lengths and the octets of the parts of a dialogue portion, as the code counts and writes them.
use Rattle.std.proofs.Common.{◌≡◌, ℕ, List, ◌++◌, length, Option, Some, None, refl, sym, ap, subst, ◌∙◌}
use Rattle.std.specs.Option.{option_map}
use Rattle.std.specs.Io.KnownBytes.{Appends}
use Rattle.tcap_ber.specs.Canonical.{◌⧺◌, element_around, shortest_header}
use Rattle.tcap_ber.proofs.PutLaws.{around_is, join_none, no_len}
use Rattle.tcap_parts.specs.declared.dialogue.Syntax.{Syntax}
use Rattle.tcap_parts.specs.declared.dialogue.Syntax.TheVariants.{Structured, Unstructured}
use Rattle.tcap_parts.specs.declared.dialogue.Source.{Source}
use Rattle.tcap_parts.specs.declared.dialogue.Source.TheVariants.{User, Provider}
use Rattle.tcap_parts.specs.Dialogue.{as_id}
use Rattle.tcap_parts.specs.DialogueCanonical.{canonical_source}
use Rattle.tcap_parts.specs.Writing.{Written}

-- the name of an abstract syntax has nine octets
pub name_len : (s : Syntax) → option_map length (element_around 0x06 (Some (as_id s))) ≡ Some 9
name_len Structured = refl
name_len Unstructured = refl

-- the source and number of a diagnostic have five octets
pub source_len : (s : Source) → Some 5 ≡ option_map length (canonical_source s)
source_len (User n) = refl
source_len (Provider n) = refl

-- if the second part does not exist, both together do not
pub joined_no_len : (x y : Option (List ℕ)) → None ≡ option_map length y → None ≡ option_map length (x ⧺ y)
joined_no_len x y none = sym (ap (λ (z : Option (List ℕ)). option_map length (x ⧺ z)) (no_len y none) ∙ ap (option_map length) (join_none x))

-- a written element
pub put_written : (tag : ℕ) (content : List ℕ) (a b : Option (List ℕ)) → Appends a b (shortest_header tag (length content) ++ content) → Written (element_around tag (Some content)) a b
put_written tag content a b put = λ octets e. subst (Appends a b) (around_is tag content octets e) put

-- the written name of an abstract syntax
pub name_written : (s : Syntax) (name : List ℕ) (a b : Option (List ℕ)) → name ≡ as_id s → Appends a b (shortest_header 0x06 (length name) ++ name)
    → Written (element_around 0x06 (Some (as_id s))) a b
name_written s name a b same put = put_written 0x06 (as_id s) a b (subst (λ (x : List ℕ). Appends a b (shortest_header 0x06 (length x) ++ x)) same put)
