-- White space after a JSON text changes none of its tokens.
use Rattle.std.proofs.Common.{◌≡◌, ℕ, Bool, true, false, cond, ◌&&◌, List, [], ◌∷◌, ◌++◌, refl, sym, ap, ap₂, ◌∙◌, append_assoc, append-nil}
use Rattle.json.specs.Token.{Token, begin_object, end_object, begin_array, end_array, key, string, number, boolean, null, bad}
use Rattle.json.specs.Word.{ends_word, word}
use Rattle.json.specs.Lex.{token, comma, colon, string_token, lex, between, fresh, punctuate, tokens}
use Rattle.json.specs.Print.{escape, quoted, token_text, begins, ends, print_from, print, IsPrintable, ArePrintable}
use Rattle.json.proofs.Printed.Strings.{content-escape, lex-escape}
use Rattle.json.proofs.Printed.Numbers.{lex-number, in_word-ended}
use Rattle.json.proofs.Printed.Tokens.{tokens-print}

-- a text in quotes, before another
quoted_then : (s r : List ℕ) → lex between (quoted s ++ r) ≡ token (string s) ∷ lex between r
unfolding lex
quoted_then s r =
    ap (λ l. lex between (34 ∷ l)) (append_assoc (escape s) (34 ∷ []) r)
    ∙ ap₂ (λ o l. token (string_token o) ∷ l) (content-escape s r) (lex-escape s r)

-- a text in quotes, before a colon
key_then : (s r : List ℕ) → lex between ((quoted s ++ 58 ∷ []) ++ r) ≡ token (string s) ∷ colon ∷ lex between r
unfolding lex
key_then s r = ap (lex between) (append_assoc (quoted s) (58 ∷ []) r) ∙ quoted_then s (58 ∷ r)

-- a token before two texts with equal lexemes, both of which end a word
token_then : (t : Token) (r s : List ℕ) → IsPrintable t → (ends t ≡ true → (ends_word r ≡ true) × (ends_word s ≡ true))
    → lex between r ≡ lex between s → lex between (token_text t ++ r) ≡ lex between (token_text t ++ s)
unfolding lex word
token_then begin_object r s h ended e = ap (λ l. token begin_object ∷ l) e
token_then end_object r s h ended e = ap (λ l. token end_object ∷ l) e
token_then begin_array r s h ended e = ap (λ l. token begin_array ∷ l) e
token_then end_array r s h ended e = ap (λ l. token end_array ∷ l) e
token_then (key k) r s h ended e =
    key_then k r ∙ ap (λ l. token (string k) ∷ colon ∷ l) e ∙ sym (key_then k s)
token_then (string k) r s h ended e = quoted_then k r ∙ ap (λ l. token (string k) ∷ l) e ∙ sym (quoted_then k s)
token_then (number n) r s h ended e =
    let both = ended refl in
    lex-number n r h both.0 ∙ ap (λ l. token (number n) ∷ l) e ∙ sym (lex-number n s h both.1)
token_then (boolean true) r s h ended e =
    let both = ended refl in
    ap₂ (λ b l. token (cond b (boolean true) bad) ∷ l) (both.0 ∙ sym both.1)
    (in_word-ended r both.0 ∙ e ∙ sym (in_word-ended s both.1))
token_then (boolean false) r s h ended e =
    let both = ended refl in
    ap₂ (λ b l. token (cond b (boolean false) bad) ∷ l) (both.0 ∙ sym both.1)
    (in_word-ended r both.0 ∙ e ∙ sym (in_word-ended s both.1))
token_then null r s h ended e =
    let both = ended refl in
    ap₂ (λ b l. token (cond b null bad) ∷ l) (both.0 ∙ sym both.1)
    (in_word-ended r both.0 ∙ e ∙ sym (in_word-ended s both.1))
token_then bad r s h ended e = absurd h

-- a comma, if there is one, before such texts
comma_then : (b : Bool) (r s : List ℕ) → lex between r ≡ lex between s
    → lex between (cond b (44 ∷ []) [] ++ r) ≡ lex between (cond b (44 ∷ []) [] ++ s)
unfolding lex
comma_then true r s e = ap (λ l. comma ∷ l) e
comma_then false r s e = e

-- After a value comes a comma, a closing bracket, or the gap.
after_value : (gap : List ℕ) → ends_word gap ≡ true → (ts : List Token) → ends_word (print_from true ts ++ gap) ≡ true
unfolding print_from
after_value gap ended [] = ended
after_value gap ended (begin_object ∷ ts) = refl
after_value gap ended (end_object ∷ ts) = refl
after_value gap ended (begin_array ∷ ts) = refl
after_value gap ended (end_array ∷ ts) = refl
after_value gap ended (key s ∷ ts) = refl
after_value gap ended (string s ∷ ts) = refl
after_value gap ended (number s ∷ ts) = refl
after_value gap ended (boolean b ∷ ts) = refl
after_value gap ended (null ∷ ts) = refl
after_value gap ended (bad ∷ ts) = refl

module _ (gap : List ℕ) (ended : ends_word gap ≡ true) (no_lexeme : lex between gap ≡ []) where
  -- The text after a value ends a word, with and without the gap.
  both_end : (later : Bool) (ts : List Token) → later ≡ true
      → (ends_word (print_from later ts ++ gap) ≡ true) × (ends_word (print_from later ts) ≡ true)
  both_end true ts e = (after_value gap ended ts, rw append-nil at (after_value [] refl ts))
  both_end false ts e = absurd cc

  -- The printed lexemes are equal, with and without the gap.
  lexemes_same : (later : Bool) (ts : List Token) → ArePrintable ts
      → lex between (print_from later ts ++ gap) ≡ lex between (print_from later ts)
  unfolding lex print_from ArePrintable
  lexemes_same later [] h = no_lexeme
  lexemes_same later (t ∷ ts) h =
      let more = print_from (ends t) ts in
      ap (lex between) (append_assoc (cond (later && begins t) (44 ∷ []) []) (token_text t ++ more) gap)
      ∙ comma_then (later && begins t) _ _
      (ap (lex between) (append_assoc (token_text t) more gap)
      ∙ token_then t (more ++ gap) more h.0 (both_end (ends t) ts) (lexemes_same (ends t) ts h.1))

  -- Printed tokens are read again, with the gap after them.
  pub tokens_behind : (ts : List Token) → ArePrintable ts → tokens (print ts ++ gap) ≡ ts
  tokens_behind ts h = ap (punctuate fresh) (lexemes_same false ts h) ∙ tokens-print ts h
