-- Data that is read again from its text.
use Rattle.std.proofs.Common.{◌≡◌, ◌≤◌, ◌<◌, ◌^◌, ℕ, suc, Bool, true, false, List, [], ◌∷◌, ◌++◌, codes, map, Some, option_map, option_and_then, IsUtf8, decimal, refl, ap, sym, ◌∙◌, arith, append-nil}
use Rattle.std.proofs.lemmas.Str.{IsUtf8-append, IsUtf8-from_ascii, IsUtf8-nil}
use Rattle.std.proofs.lemmas.Fmt.{IsAscii-decimal}
use Rattle.std.specs.List.{AllByRecursion}
use Rattle.json.specs.Json as json
use Rattle.json.specs.Print.{quoted}
use Rattle.json.specs.Tree as tree
use Rattle.json.specs.Word.{ends_word}
use Rattle.json.specs.Lex.{lex, between, tokens}
use Rattle.json.proofs.Printed.Decimals.{IsNumber-decimal}
use Rattle.json.proofs.Printed.Trees.{value-json_tokens, ArePrintable-json_tokens}
use Rattle.json.proofs.Printed.Utf8.{IsUtf8-are_ascii, IsUtf8-boolean, IsUtf8-quoted}
use Rattle.serde_json.specs.Data.{Data, null, boolean, number, unsigned, string, array, object, Items, no_items, item, Members, no_members, member, depth, items_depth, members_depth}
use Rattle.serde_json.specs.Read.{of_json, of_items, read}
use Rattle.serde_json.specs.Written.{compact_text, number_text, outline, items_outline, members_outline, items_text, members_text, comma_if}
use Rattle.serde_json.proofs.Numbers.{number_of-decimal}
use Rattle.serde_json.proofs.Texts.{print-outline}
use Rattle.tcap_record.specs.declared.entry.End.{End as Side}
use Rattle.tcap_record.specs.declared.entry.End.TheVariants.{A, B}
use Rattle.tcap_certificate.specs.declared.certificate.Closing.{Closing}
use Rattle.tcap_certificate.specs.declared.certificate.Expiry.{Expiry}
use Rattle.tcap_certificate.specs.declared.certificate.Fate.{Fate}
use Rattle.tcap_certificate.specs.declared.certificate.Fate.TheVariants.{Gap, Lost, By}
use Rattle.tcap_certificate.specs.Certificate.{Certificate}
use Rattle.tcap_certificate_text.specs.CertificateText.{IsCertificateText, certificate_data, closing_data, expiry_data, fate_data, items_of, list_data, number_data, side_data, version}
use Rattle.tcap_certificate.specs.Certificate.{IsInLimits, ClosingFits, ExpiryFits, FateFits, number_limit}
use Rattle.tcap_certificate_text.proofs.CertificateTextLaws.{certificate_again, certificate_shallow}
use Rattle.tcap_certificate_text.proofs.BehindLaws.{tokens_behind}

-- the outline of data has its depth
mutual
  outline_depth : (d : Data) → tree.depth (outline d) ≡ depth d
  outline_depth null = refl
  outline_depth (boolean b) = refl
  outline_depth (number n) = refl
  outline_depth (string s) = refl
  outline_depth (array ds) = ap suc (items_outline_depth ds)
  outline_depth (object ms) = ap suc (members_outline_depth ms)

  items_outline_depth : (ds : Items) → tree.items_depth (items_outline ds) ≡ items_depth ds
  items_outline_depth no_items = refl
  items_outline_depth (item d ds) = rw (outline_depth d, items_outline_depth ds)

  members_outline_depth : (ms : Members) → tree.members_depth (members_outline ms) ≡ members_depth ms
  members_outline_depth no_members = refl
  members_outline_depth (member k d ms) = rw (outline_depth d, members_outline_depth ms)

-- the numbers, texts and keys of data are UTF-8
abbrev mutual
  HasUtf8 : Data → Type 0
  HasUtf8 null = Unit {0}
  HasUtf8 (boolean b) = Unit {0}
  HasUtf8 (number n) = IsUtf8 (number_text n)
  HasUtf8 (string s) = IsUtf8 s
  HasUtf8 (array ds) = ItemsHaveUtf8 ds
  HasUtf8 (object ms) = MembersHaveUtf8 ms

  ItemsHaveUtf8 : Items → Type 0
  ItemsHaveUtf8 no_items = Unit {0}
  ItemsHaveUtf8 (item d ds) = HasUtf8 d × ItemsHaveUtf8 ds

  MembersHaveUtf8 : Members → Type 0
  MembersHaveUtf8 no_members = Unit {0}
  MembersHaveUtf8 (member k d ms) = IsUtf8 k × HasUtf8 d × MembersHaveUtf8 ms

-- a comma, if there is one
comma_utf8 : (later : Bool) → IsUtf8 (comma_if later)
comma_utf8 true = IsUtf8-are_ascii (44 ∷ []) refl
comma_utf8 false = IsUtf8-nil

-- the compact text of such data is UTF-8
mutual
  text_utf8 : (d : Data) → HasUtf8 d → IsUtf8 (compact_text d)
  text_utf8 null h = IsUtf8-are_ascii _ refl
  text_utf8 (boolean b) h = IsUtf8-boolean b
  text_utf8 (number n) h = h
  text_utf8 (string s) h = IsUtf8-quoted s h
  text_utf8 (array ds) h = IsUtf8-append (91 ∷ []) _ (IsUtf8-are_ascii (91 ∷ []) refl) (items_utf8 false ds h)
  text_utf8 (object ms) h = IsUtf8-append (123 ∷ []) _ (IsUtf8-are_ascii (123 ∷ []) refl) (members_utf8 false ms h)

  items_utf8 : (later : Bool) (ds : Items) → ItemsHaveUtf8 ds → IsUtf8 (items_text later ds)
  items_utf8 later no_items h = IsUtf8-are_ascii (93 ∷ []) refl
  items_utf8 later (item d ds) h =
      IsUtf8-append (comma_if later) _ (comma_utf8 later)
      (IsUtf8-append (compact_text d) _ (text_utf8 d h.0) (items_utf8 true ds h.1))

  members_utf8 : (later : Bool) (ms : Members) → MembersHaveUtf8 ms → IsUtf8 (members_text later ms)
  members_utf8 later no_members h = IsUtf8-are_ascii (125 ∷ []) refl
  members_utf8 later (member k d ms) h =
      IsUtf8-append (comma_if later) _ (comma_utf8 later)
      (IsUtf8-append (quoted k) _ (IsUtf8-quoted k h.0)
      (IsUtf8-append (58 ∷ []) _ (IsUtf8-are_ascii (58 ∷ []) refl)
      (IsUtf8-append (compact_text d) _ (text_utf8 d h.1) (members_utf8 true ms h.2))))

-- Data is read again from its compact text: its outline represents it, its numbers are JSON numbers, and its text is
-- UTF-8.
record IsWritten (d : Data) : Type 0 where
  back : of_json (outline d) ≡ Some d
  numbers : tree.HasNumbers (outline d)
  utf8 : HasUtf8 d

-- the same for items
record AreWritten (ds : Items) : Type 0 where
  back : of_items (items_outline ds) ≡ Some ds
  numbers : tree.ItemsHaveNumbers (items_outline ds)
  utf8 : ItemsHaveUtf8 ds

-- The compact text of such data, with a gap after it, is read as this data.
written_is_read : (gap : List ℕ) (d : Data) → ends_word gap ≡ true → lex between gap ≡ [] → IsWritten d → depth d ≤ 127
    → read (compact_text d ++ gap) ≡ Some d
written_is_read gap d ended no_lexeme w shallow =
    let ts = tree.json_tokens (outline d) in
    let same : tokens (compact_text d ++ gap) ≡ ts ++ [] =
    ap (λ l. tokens (l ++ gap)) (sym (print-outline d))
    ∙ tokens_behind gap ended no_lexeme ts (ArePrintable-json_tokens (outline d) w.numbers) ∙ sym (append-nil ts) in
    ap (λ l. option_and_then of_json (option_and_then (λ p. json.if_last p.0 p.1) (json.value 127 l))) same
    ∙ ap (λ o. option_and_then of_json (option_and_then (λ p. json.if_last p.0 p.1) o))
    (value-json_tokens (outline d) 127 [] (omega (arith, outline_depth d)))
    ∙ w.back

-- a number of 64 bits
number_written : (n : ℕ) → n < 2 ^ 64 → IsWritten (number (unsigned n))
number_written n h = record {
  back = ap (option_map number) (number_of-decimal n h);
  numbers = IsNumber-decimal n h;
  utf8 = IsUtf8-from_ascii (decimal n) (IsAscii-decimal n h);
}

-- a text
string_written : (s : List ℕ) → IsUtf8 s → IsWritten (string s)
string_written s h = record { back = refl; numbers = tt; utf8 = h }

-- items, each of which is read again
items_written : {A : Type 0} (P : A → Type 0) (one : A → Data) → ((x : A) → P x → IsWritten (one x)) → (xs : List A)
    → AllByRecursion P xs → AreWritten (items_of (map one xs))
items_written P one each [] h = record { back = refl; numbers = tt; utf8 = tt }
items_written P one each (x ∷ xs) h =
    let first = each x h.0 in
    let rest = items_written P one each xs h.1 in
    record {
      back = rw (first.back, rest.back) refl;
      numbers = (first.numbers, rest.numbers);
      utf8 = (first.utf8, rest.utf8);
    }

-- a list whose items are read again
list_written : {A : Type 0} (P : A → Type 0) (one : A → Data) → ((x : A) → P x → IsWritten (one x)) → (xs : List A)
    → AllByRecursion P xs → IsWritten (list_data one xs)
list_written P one each xs h =
    let all = items_written P one each xs h in
    record { back = rw all.back refl; numbers = all.numbers; utf8 = all.utf8 }

-- ---- certificates

-- a number within the limit
limit_written : (n : ℕ) → n ≤ number_limit → IsWritten (number_data n)
limit_written n h = number_written n (omega arith)

-- an end
side_written : (side : Side) → IsWritten (side_data side)
side_written A = string_written (codes "A") (IsUtf8-are_ascii _ refl)
side_written B = string_written (codes "B") (IsUtf8-are_ascii _ refl)

-- a fate
fate_written : (fate : Fate) → FateFits fate → IsWritten (fate_data fate)
fate_written (Gap gap) h = limit_written gap h
fate_written Lost h = string_written (codes "lost") (IsUtf8-are_ascii _ refl)
fate_written (By reply) h =
    let number = limit_written reply h in
    record {
      back = rw number.back refl;
      numbers = (number.numbers, tt);
      utf8 = (IsUtf8-are_ascii _ refl, number.utf8, tt);
    }

-- a closing
closing_written : (x : Closing) → ClosingFits x → IsWritten (closing_data x)
closing_written x h =
    let gap = limit_written x.gap h.0 in
    let side = side_written x.side in
    let entry = limit_written x.entry h.1 in
    record {
      back = rw (gap.back, side.back, entry.back) refl;
      numbers = (gap.numbers, (side.numbers, (entry.numbers, tt)));
      utf8 = (
        IsUtf8-are_ascii _ refl,
        gap.utf8,
        (
          IsUtf8-are_ascii _ refl,
          side.utf8,
          (IsUtf8-are_ascii _ refl, entry.utf8, tt),
        ),
      );
    }

-- an expiry
expiry_written : (x : Expiry) → ExpiryFits x → IsWritten (expiry_data x)
expiry_written x h =
    let gap = limit_written x.gap h.0 in
    let component = limit_written x.component h.1 in
    let side = side_written x.side in
    let entry = limit_written x.entry h.2 in
    record {
      back = rw (gap.back, component.back, side.back, entry.back) refl;
      numbers = (gap.numbers, (component.numbers, (side.numbers, (entry.numbers, tt))));
      utf8 = (
        IsUtf8-are_ascii _ refl,
        gap.utf8,
        (
          IsUtf8-are_ascii _ refl,
          component.utf8,
          (IsUtf8-are_ascii _ refl, side.utf8, (IsUtf8-are_ascii _ refl, entry.utf8, tt)),
        ),
      );
    }

-- a certificate
certificate_written : (c : Certificate) → IsInLimits c → IsWritten (certificate_data c)
certificate_written c h =
    let close = list_written ClosingFits closing_data closing_written c.close h.closings in
    let expire = list_written ExpiryFits expiry_data expiry_written c.expire h.expiries in
    let fates = list_written FateFits fate_data fate_written c.fates h.fates in
    let first = limit_written version (omega arith) in
    record {
      back = rw (close.back, expire.back, fates.back, first.back) refl;
      numbers = (close.numbers, (expire.numbers, (fates.numbers, (first.numbers, tt))));
      utf8 = (
        IsUtf8-are_ascii _ refl,
        close.utf8,
        (
          IsUtf8-are_ascii _ refl,
          expire.utf8,
          (IsUtf8-are_ascii _ refl, fates.utf8, (IsUtf8-are_ascii _ refl, first.utf8, tt)),
        ),
      );
    }

-- The text of a certificate, with a gap after it, represents it.
pub certificate_said : (gap : List ℕ) (c : Certificate) → ends_word gap ≡ true → lex between gap ≡ [] → IsUtf8 gap
    → IsInLimits c → IsCertificateText (compact_text (certificate_data c) ++ gap) c
certificate_said gap c ended no_lexeme utf8 h =
    let w = certificate_written c h in (
      certificate_data c,
      (
        IsUtf8-append (compact_text (certificate_data c)) gap (text_utf8 (certificate_data c) w.utf8) utf8,
        written_is_read gap (certificate_data c) ended no_lexeme w (certificate_shallow c),
      ),
      certificate_again c h,
    )
