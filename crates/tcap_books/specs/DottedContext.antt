-- Which content octets of an OBJECT IDENTIFIER do dotted numbers mean (X.690 8.19)?
use Rattle.std.specs.Prelude.{ℕ, ◌+◌, ◌-◌, ◌*◌, ◌/◌, ◌%◌, ◌^◌, Bool, List, [], ◌∷◌, ◌++◌, Option, Some, None, option_map, option_and_then, cond, nat_lt, nat_le, ◌==◌, ◌&&◌, ◌||◌}
use Rattle.std.specs.List.{flat_map, list_any}

abbrev pub dot : ℕ
dot = 46

-- whether a text has a dot
abbrev pub has_dot : List ℕ → Bool
has_dot text = list_any (λ character. character == dot) text

-- a number, if it is below 2 ^ 32, this profile's limit
abbrev pub within : ℕ → Option ℕ
within number = cond (nat_lt number (2 ^ 32)) (Some number) None

-- a number, if it has digits already, with one more; no digit follows a leading zero
abbrev pub with_digit : Option ℕ → ℕ → Option ℕ
with_digit None digit = Some digit
with_digit (Some number) digit = cond (number == 0) None (within (10 * number + digit))

-- a number with one more character, which must be a decimal digit
abbrev pub with_character : Option ℕ → ℕ → Option ℕ
with_character number character =
    cond (nat_le 48 character && nat_le character 57) (with_digit number (character - 48)) None

-- the numbers of a text, after those that were found and the front of the next; None if the text is something else
abbrev pub numbers_after : List ℕ → Option ℕ → List ℕ → Option (List ℕ)
numbers_after found number [] = option_map (λ last. found ++ last ∷ []) number
numbers_after found number (character ∷ more) =
    cond (character == dot)
    (option_and_then (λ last. numbers_after (found ++ last ∷ []) None more) number)
    (option_and_then (λ longer. numbers_after found (Some longer) more) (with_character number character))

-- The subidentifiers of at least two numbers: the first joins the first two numbers (X.690 8.19.4). The first number is
-- at most 2, and the second at most 39 if the first is below 2.
abbrev pub subidentifiers : List ℕ → Option (List ℕ)
subidentifiers (first ∷ second ∷ more) =
    cond (nat_lt first 2 && nat_lt second 40 || first == 2) (Some ((40 * first + second) ∷ more)) None
subidentifiers _ = None

-- an octet before the last of a subidentifier, with the lowest 7 bits of `high`; none for a leading zero
abbrev pub before_last : ℕ → List ℕ
before_last high = cond (high == 0) [] ((128 + high % 128) ∷ [])

-- a subidentifier below 2 ^ 35: 7 bits in each octet, the highest first, and the top bit in all but the last (X.690
-- 8.19.2)
abbrev pub spelled : ℕ → List ℕ
spelled n = before_last (n / 2 ^ 28) ++ before_last (n / 2 ^ 21) ++ before_last (n / 2 ^ 14) ++ before_last (n / 2 ^ 7)
    ++ (n % 128) ∷ []

-- the content octets that dotted numbers mean
abbrev pub dotted : List ℕ → Option (List ℕ)
dotted text = option_map (flat_map spelled) (option_and_then subidentifiers (numbers_after [] None text))
