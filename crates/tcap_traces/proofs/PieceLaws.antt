-- Lines and frames at the front of octets, no matter which octets follow.
use Rattle.std.proofs.Common.{◌≡◌, ℕ, zero, suc, ◌+◌, ◌≤◌, ◌<◌, arith, Bool, true, false, cond, List, [], ◌∷◌, ◌++◌, drop, length, map, take, Option, Some, None, Result, Ok, Err, refl, sym, ap, ◌∙◌}
use Rattle.std.specs.Prelude.{nat_eq, slice_index}
use Rattle.std.proofs.lemmas.List.{append_assoc, append-nil, drop-append-le, length-append, length-drop, take-append-le}
use Rattle.std.proofs.lemmas.Bool.{ne_eqb}
use Rattle.std.proofs.Math.Seq.{drop-length}
use Rattle.tcap_ber.specs.declared.element.Outer.{Outer}
use Rattle.tcap_ber.specs.declared.element.Outer.TheVariants.{Whole, Need}
use Rattle.tcap_ber.specs.declared.fault.Fault.{Fault}
use Rattle.tcap_ber.specs.WalkResult.{outer_at}
use Rattle.tcap_ber.proofs.OuterLaws.{outer_fault, outer_of_element, outer_refused, outer_whole}
use Rattle.tcap_ber.proofs.StayLaws.{walk_fault_stays}
use Rattle.tcap_record.specs.declared.entry.End.{End as Side}
use Rattle.tcap_record.specs.FramingResult.{end_in}
use Rattle.tcap_record.specs.HexLines.{HasNoNewline}
use Rattle.tcap_record.specs.declared.entry.End.TheVariants as sides
use Rattle.tcap_record.specs.RecordOctets.{octet_of, quiet_octet}
use Rattle.tcap_traces.specs.declared.pieces.FormRule.TheVariants.{BadElement}
use Rattle.tcap_traces.specs.Pieces.{Line, Mark, Pieces, after, before_lines, first_content, framed, framed_by, frames_from, further, lines_in, lines_of, stopped, without_end, without_return}
use Rattle.tcap_traces.specs.PieceReader.{framed_from}

-- ---- lines

-- an octet that is no line feed
not_feed : (octet : ℕ) → (octet ≡ 10 → ⊥) → nat_eq octet 10 ≡ false
not_feed octet other = ne_eqb octet 10 other

-- The lines of octets that do not begin with a line feed.
goes_before : (octet : ℕ) (octets : List ℕ) → (octet ≡ 10 → ⊥) → lines_in (octet ∷ octets) ≡ before_lines octet (lines_in octets)
goes_before octet octets other =
    ap (λ b. cond b (record { content = []; ended = true } ∷ lines_in octets) (before_lines octet (lines_in octets))) (not_feed octet other)

-- A line without a line feed, ended by one.
ended_first : (line more : List ℕ) → HasNoNewline line
    → lines_in (line ++ 10 ∷ more) ≡ record { content = line; ended = true } ∷ lines_in more
ended_first [] more none = refl
ended_first (octet ∷ line) more none =
    goes_before octet (line ++ 10 ∷ more) none.0 ∙ ap (before_lines octet) (ended_first line more none.1)

-- The last line, which no line feed ends.
last_alone : (octet : ℕ) (line : List ℕ) → HasNoNewline (octet ∷ line)
    → lines_in (octet ∷ line) ≡ record { content = octet ∷ line; ended = false } ∷ []
last_alone octet [] none = goes_before octet [] none.0
last_alone octet (next ∷ line) none =
    goes_before octet (next ∷ line) none.0 ∙ ap (before_lines octet) (last_alone next line none.1)

-- a first line that begins with these octets
pub record Begins (octets all : List ℕ) : Type 0 where
  pub first : Line
  pub others : List Line
  pub back : List ℕ
  pub is : lines_in all ≡ first ∷ others
  pub content : first.content ≡ octets ++ back

-- The first line begins with octets that have no line feed, no matter which follow.
pub first_begins : (octet : ℕ) (line more : List ℕ) → HasNoNewline (octet ∷ line) → Begins (octet ∷ line) (octet ∷ line ++ more)
first_begins octet [] more none = by (lines_in more) refl
  where
    by : (lines : List Line) → lines_in more ≡ lines → Begins (octet ∷ []) (octet ∷ more)
    by [] is = record {
      first = record { content = octet ∷ []; ended = false };
      others = [];
      back = [];
      is = goes_before octet more none.0 ∙ ap (before_lines octet) is;
      content = refl;
    }
    by (l ∷ ls) is = record {
      first = record l { content = octet ∷ l.content };
      others = ls;
      back = l.content;
      is = goes_before octet more none.0 ∙ ap (before_lines octet) is;
      content = refl;
    }
first_begins octet (next ∷ line) more none =
    let b = first_begins next line more none.1 in
    record {
      first = record b.first { content = octet ∷ b.first.content };
      others = b.others;
      back = b.back;
      is = goes_before octet (next ∷ line ++ more) none.0 ∙ ap (before_lines octet) b.is;
      content = ap (λ l. octet ∷ l) b.content;
    }

-- A list divided at one of its places.
cut_at : (xs : List ℕ) (n : ℕ) → n < length xs → xs ≡ take n xs ++ slice_index xs n ∷ drop (suc n) xs
cut_at [] n less = absurd (omega (less, arith))
cut_at (x ∷ xs) zero less = refl
cut_at (x ∷ xs) (suc n) less = ap (λ l. x ∷ l) (cut_at xs n (omega (less, arith)))

pub front_ended : (octets more : List ℕ) (n : ℕ) → n < length octets → slice_index octets n ≡ 10 → HasNoNewline (take n octets)
    → lines_of (octets ++ more)
    ≡ record { content = without_return (take n octets); ended = true } ∷ lines_of (drop (n + 1) octets ++ more)
front_ended octets more n less is none =
    let next : suc n ≡ n + 1 = omega arith in
    ap (λ l. lines_of (l ++ more)) (cut_at octets n less ∙ ap (λ x. take n octets ++ x ∷ drop (suc n) octets) is)
    ∙ ap lines_of (append_assoc (take n octets) (10 ∷ drop (suc n) octets) more)
    ∙ ap (map without_end) (ended_first (take n octets) (drop (suc n) octets ++ more) none)
    ∙ ap (λ k. record { content = without_return (take n octets); ended = true } ∷ lines_of (drop k octets ++ more)) next

pub front_last : (octets more : List ℕ) → HasNoNewline octets → (octets ≡ [] → ⊥) → more ≡ []
    → lines_of (octets ++ more)
    ≡ record { content = octets; ended = false } ∷ lines_of (drop (length octets) octets ++ more)
front_last [] more none some is = absurd (some refl)
front_last (octet ∷ octets) more none some is =
    ap (λ m. lines_of (octet ∷ octets ++ m)) is
    ∙ ap lines_of (append-nil (octet ∷ octets))
    ∙ ap (map without_end) (last_alone octet octets none)
    ∙ ap (λ l. record { content = octet ∷ octets; ended = false } ∷ lines_of l)
    (sym (ap (λ m. drop (length (octet ∷ octets)) (octet ∷ octets) ++ m) is ∙ ap (λ l. l ++ []) (drop-length (octet ∷ octets))))

-- ---- frames

-- Frames agree if their rests do.
framed_same : (f g : ℕ → List ℕ → Pieces) (place : ℕ) (octets : List ℕ) (sender : Option Side) (found : Result Outer Fault)
    → ((p n : ℕ) → f p (drop n octets) ≡ g p (drop n octets))
    → framed_by f place octets sender found ≡ framed_by g place octets sender found
framed_same f g place octets None found same = refl
framed_same f g place octets (Some sender) (Ok (Whole len)) same = ap (after (framed sender (take len octets))) (same (further place (suc len)) len)
framed_same f g place octets (Some sender) (Ok (Need count)) same = refl
framed_same f g place octets (Some sender) (Err fault) same = refl

-- More steps than octets give no other frames.
enough : (n m place : ℕ) (octets : List ℕ) → length octets ≤ n → length octets ≤ m → frames_from n place octets ≡ frames_from m place octets
enough zero zero place octets one two = refl
enough zero (suc m) place [] one two = refl
enough zero (suc m) place (octet ∷ octets) one two = absurd (omega (one, arith))
enough (suc n) zero place [] one two = refl
enough (suc n) zero place (octet ∷ octets) one two = absurd (omega (two, arith))
enough (suc n) (suc m) place [] one two = refl
enough (suc n) (suc m) place (octet ∷ octets) one two =
    ap (λ mark. cond (nat_eq octet quiet_octet) (after (Mark 0) mark) (framed_by (frames_from n) place octets (end_in octet) (outer_at octets)))
    (enough n m (further place 1) octets (omega (one, arith)) (omega (two, arith)))
    ∙ ap (λ entry. cond (nat_eq octet quiet_octet) (after (Mark 0) (frames_from m (further place 1) octets)) entry)
    (framed_same (frames_from n) (frames_from m) place octets (end_in octet) (outer_at octets)
    (λ p k. let less = length-drop k octets in
    enough n m p (drop k octets) (omega (one, less, arith)) (omega (two, less, arith))))

-- An element at the front stays there, and so does a fault.
stays_whole : (element more : List ℕ) (len : ℕ) → outer_at element ≡ Ok (Whole len)
    → (len ≤ length element) × (outer_at (element ++ more) ≡ Ok (Whole len))
stays_whole element more len is =
    let b = outer_whole element len is in (
      omega (ap length b.joined, length-append b.element b.rest, b.len, arith),
      ap (λ l. outer_at (l ++ more)) b.joined ∙ ap outer_at (append_assoc b.element b.rest more)
          ∙ outer_of_element b.tag b.content b.element (b.rest ++ more) b.is_element ∙ ap (λ n. Ok (Whole n)) (sym b.len),
    )

stays_fault : (element more : List ℕ) (f : Fault) → outer_at element ≡ Err f → outer_at (element ++ more) ≡ Err f
stays_fault element more f is =
    outer_refused (element ++ more) f.reason f.place (walk_fault_stays element more f.reason f.place (outer_fault element f is))

pub front_entry : (letter : ℕ) (element more : List ℕ) (place len : ℕ) (sender : Side)
    → nat_eq letter quiet_octet ≡ false → end_in letter ≡ Some sender → outer_at element ≡ Ok (Whole len)
    → framed_from place (letter ∷ element ++ more)
    ≡ after (framed sender (take len element)) (framed_from (further place (suc len)) (drop len element ++ more))
front_entry letter element more place len sender no_mark is_sender is =
    let (within, whole) = stays_whole element more len is in
    let all = element ++ more in
    let dropped = drop-append-le len element more within in
    ap (λ b. cond b (after (Mark 0) (frames_from (length all) (further place 1) all))
    (framed_by (frames_from (length all)) place all (end_in letter) (outer_at all))) no_mark
    ∙ ap (λ s. framed_by (frames_from (length all)) place all s (outer_at all)) is_sender
    ∙ ap (framed_by (frames_from (length all)) place all (Some sender)) whole
    ∙ ap (λ o. after (framed sender o) (frames_from (length all) (further place (suc len)) (drop len all))) (take-append-le len element more within)
    ∙ ap (λ o. after (framed sender (take len element)) (frames_from (length all) (further place (suc len)) o)) dropped
    ∙ ap (after (framed sender (take len element)))
    (enough (length all) (length (drop len element ++ more)) (further place (suc len)) (drop len element ++ more)
    (omega (ap length (sym dropped), length-drop len all, arith)) (omega arith))

pub front_fault : (letter : ℕ) (element more : List ℕ) (place : ℕ) (sender : Side) (f : Fault)
    → nat_eq letter quiet_octet ≡ false → end_in letter ≡ Some sender → outer_at element ≡ Err f
    → framed_from place (letter ∷ element ++ more) ≡ stopped (BadElement f.reason (further place (1 + f.place)))
front_fault letter element more place sender f no_mark is_sender is =
    let all = element ++ more in
    ap (λ b. cond b (after (Mark 0) (frames_from (length all) (further place 1) all))
    (framed_by (frames_from (length all)) place all (end_in letter) (outer_at all))) no_mark
    ∙ ap (λ s. framed_by (frames_from (length all)) place all s (outer_at all)) is_sender
    ∙ ap (framed_by (frames_from (length all)) place all (Some sender)) (stays_fault element more f is)

-- A whole element has no more octets than there are.
pub whole_within : (element : List ℕ) (len : ℕ) → outer_at element ≡ Ok (Whole len) → len ≤ length element
whole_within element len is = (stays_whole element [] len is).0

-- octets that are not empty
pub some_octet : (octets : List ℕ) (is_empty : Bool) → is_empty ≡ nat_eq (length octets) 0 → is_empty ≡ false
    → (0 < length octets) × (octets ≡ [] → ⊥)
some_octet [] is_empty is no_octet = absurd (cc)
some_octet (octet ∷ octets) is_empty is some = (omega arith, λ same. cc)

-- the octet of a sender
pub no_mark : (sender : Side) → nat_eq (octet_of sender) quiet_octet ≡ false
no_mark sides.A = refl
no_mark sides.B = refl

pub letter_of : (sender : Side) → end_in (octet_of sender) ≡ Some sender
letter_of sides.A = refl
letter_of sides.B = refl

-- Octets without a line feed are one line.
pub unended : (octets : List ℕ) → HasNoNewline octets → first_content (lines_of octets) ≡ octets
unended [] none = refl
unended (octet ∷ octets) none = ap (λ l. first_content (map without_end l)) (last_alone octet octets none)

-- The content of the first line.
pub first_is : (octets : List ℕ) (line : Line) (lines : List Line) → lines_of (octets ++ []) ≡ line ∷ lines
    → first_content (lines_of octets) ≡ line.content
first_is octets line lines is = ap (λ l. first_content (lines_of l)) (sym (append-nil octets)) ∙ ap first_content is
