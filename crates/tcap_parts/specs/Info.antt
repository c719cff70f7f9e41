-- Which octets spell user information (Q.773 4.2.3)? EXTERNALs, one after the other.
use Rattle.std.specs.Prelude.{◌≡◌, ℕ, List}
use Rattle.tcap_ber.specs.Grammar.{Body, Field, verbatim, each}

-- an EXTERNAL, 28, kept verbatim
abbrev pub external : Field (List ℕ)
external = verbatim 0x28

-- the octets are EXTERNALs one after the other; there may be none
abbrev pub AreExternals : List ℕ → Type 0
AreExternals octets = (externals : List (List ℕ)) × (each external).spells externals octets

-- the content of user information, BE: EXTERNALs, whose value is their octets
abbrev pub info : Body (List ℕ)
info = record {
  spells = λ value octets. AreExternals octets × (value ≡ octets);
  faulty = λ at content reason place. (each external).faulty content reason place;
}
