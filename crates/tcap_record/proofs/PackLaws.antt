-- The effect of each step of packing lines of hexadecimal digits.
use Rattle.std.proofs.Common.{◌≡◌, ◌≢◌, ℕ, ◌+◌, ◌-◌, ◌*◌, ◌<◌, ◌≤◌, ◌⊎◌, List, [], ◌∷◌, ◌++◌, length, take, drop, Option, Some, None, Result, Ok, Err, IfOk, refl, sym, ap, subst, ◌∙◌, inl, inr, arith, append_assoc, append-nil}
use Rattle.std.specs.Prelude.{slice_index}
use Rattle.std.proofs.lemmas.List.{drop_more, length-append, take-append-drop, take_all}
use Rattle.std.proofs.lemmas.List.Folds.{concat-append}
use Rattle.std.proofs.KnownBytes.{Appends-nil, Appends-trans, Consumes-trans}
use Rattle.std.specs.List.{concat}
use Rattle.std.specs.Io.KnownBytes.{Appends, Consumes, IsAtEnd, Keeps}
use Rattle.tcap_record.specs.declared.fault.FeedFault.{FeedFault}
use Rattle.tcap_record.specs.declared.fault.FeedReason.{FeedReason}
use Rattle.tcap_record.specs.declared.fault.FeedReason.TheVariants as feed
use Rattle.tcap_record.specs.declared.packing.LineFault.{LineFault}
use Rattle.tcap_record.specs.declared.packing.LineFault.TheVariants.{Bad, Memory}
use Rattle.tcap_record.specs.declared.packing.PackFault.{PackFault}
use Rattle.tcap_record.specs.declared.packing.PackState.{PackState}
use Rattle.tcap_record.specs.FramingResult.{feed_fault}
use Rattle.tcap_record.specs.HexLines.{AreLines, EndsInReturn, HasNoNewline, IsEndedLine, IsNoLine, IsPacked, IsPackedUpTo, IsRefusedLine, StandsFor, StopsAs, carriage_return, entries_in, line_limit, lines_limit, newline}
use Rattle.tcap_record.specs.PackState.{Finishes, IsBehind, IsContentOf, IsFresh, IsLineRefused, IsOpen, Packs, PacksUpTo, line_fault}

-- ---- results

err_is : {A : Type 0} (x y : PackFault) → (let r : Result A PackFault = Err x in r) ≡ Err y → x ≡ y
err_is x y e = cc

-- a fault that `?` passes on
pub handed_on : {A B : Type 0} (result : Result A PackFault) (made fault given : PackFault) → result ≡ Err made → made ≡ given
    → result ≡ Err fault → (let r : Result B PackFault = Err given in r) ≡ Err fault
handed_on result made fault given a b e = ap Err (sym b ∙ err_is made fault (sym a ∙ e))

-- ---- lines after lines

entries_more : (lines others : List (Option (List ℕ))) → entries_in (lines ++ others) ≡ entries_in lines ++ entries_in others
entries_more [] others = refl
entries_more (None ∷ lines) others = entries_more lines others
entries_more (Some entry ∷ lines) others = ap (λ (l : List (List ℕ)). entry ∷ l) (entries_more lines others)

count_more : (lines others : List (Option (List ℕ)))
    → length (entries_in (lines ++ others)) ≡ length (entries_in lines) + length (entries_in others)
count_more lines others = ap length (entries_more lines others) ∙ length-append (entries_in lines) (entries_in others)

written_more : (a b c : Option (List ℕ)) (lines others : List (Option (List ℕ))) → Appends a b (concat (entries_in lines))
    → Appends b c (concat (entries_in others))
    → Appends a c (concat (entries_in (lines ++ others)))
written_more a b c lines others before more =
    subst (Appends a c) (sym (ap concat (entries_more lines others) ∙ concat-append (entries_in lines) (entries_in others)))
    (Appends-trans a b c _ _ before more)

lines_more : (lines others : List (Option (List ℕ))) (front more : List ℕ) → AreLines lines front → AreLines others more
    → AreLines (lines ++ others) (front ++ more)
lines_more [] others front more none are = subst (AreLines others) (ap (λ (x : List ℕ). x ++ more) (sym none)) are
lines_more (line ∷ lines) others front more (content, octets, rest, ended, stands, joined, are_lines) are = (
  content,
  octets,
  rest ++ more,
  ended,
  stands,
  ap (λ (x : List ℕ). x ++ more) joined ∙ append_assoc octets rest more,
  lines_more lines others rest more are_lines are,
)

one_line : (line : Option (List ℕ)) (content octets : List ℕ) → IsEndedLine content octets → StandsFor content line
    → AreLines (line ∷ []) octets
one_line line content octets ended stands = (content, octets, [], ended, stands, sym (append-nil octets), refl)

-- ---- the line that has no end yet

plain_more : (front more : List ℕ) → HasNoNewline front → HasNoNewline more → HasNoNewline (front ++ more)
plain_more [] more a b = b
plain_more (octet ∷ front) more (first, a) b = (first, plain_more front more a b)

-- the line held has no newline after appending octets without one
pub plain_held : (line front held piece : List ℕ) (n : ℕ) → held ≡ line ++ front → front ≡ take n piece → HasNoNewline line
    → HasNoNewline (take n piece) → HasNoNewline held
plain_held line front held piece n grown is plain more =
    subst HasNoNewline (sym grown) (plain_more line front plain (subst HasNoNewline (sym is) more))

plain_front : (front more : List ℕ) → HasNoNewline (front ++ more) → HasNoNewline front
plain_front [] more plain = tt
plain_front (octet ∷ front) more (first, plain) = (first, plain_front front more plain)

ended_line : (line content : List ℕ) → HasNoNewline line → IsContentOf line content → IsEndedLine content (line ++ newline ∷ [])
ended_line line content plain (inl is) = (
  plain_front content (carriage_return ∷ []) (subst HasNoNewline is plain),
  inl (ap (λ (x : List ℕ). x ++ newline ∷ []) is ∙ append_assoc content (carriage_return ∷ []) (newline ∷ [])),
)
ended_line line content plain (inr (no_return, is)) = (
  subst HasNoNewline (sym is) plain,
  inr (λ ends. no_return (subst EndsInReturn is ends), ap (λ (x : List ℕ). x ++ newline ∷ []) (sym is)),
)

-- ---- steps

-- octets held and two pieces, as lines and a rest
joined_then : (held octets more front mid front' rest : List ℕ) → held ++ octets ≡ front ++ mid → mid ++ more ≡ front' ++ rest
    → held ++ (octets ++ more) ≡ (front ++ front') ++ rest
joined_then held octets more front mid front' rest before then =
    sym (append_assoc held octets more) ∙ ap (λ (x : List ℕ). x ++ more) before ∙ append_assoc front mid more
    ∙ ap (λ (x : List ℕ). front ++ x) then ∙ sym (append_assoc front front' rest)

pub packs_then : (old mid new : PackState) (octets more : List ℕ) (a b c : Option (List ℕ)) → Packs old mid octets a b
    → Packs mid new more b c → Packs old new (octets ++ more) a c
packs_then old mid new octets more a b c before then = record {
  lines = before.lines ++ then.lines;
  front = before.front ++ then.front;
  are_lines = lines_more before.lines then.lines before.front then.front before.are_lines then.are_lines;
  joined = joined_then old.line.items octets more before.front mid.line.items then.front new.line.items before.joined then.joined;
  lines_are = omega (arith, before.lines_are, then.lines_are, length-append before.lines then.lines);
  entries_are = omega (arith, before.entries_are, then.entries_are, count_more before.lines then.lines);
  written = written_more a b c before.lines then.lines before.written then.written;
}

pub stops_then : (old mid : PackState) (octets more : List ℕ) (fault : FeedFault) (remaining a b c : Option (List ℕ))
    → Packs old mid octets a b → PacksUpTo mid more fault remaining b c
    → PacksUpTo old (octets ++ more) fault remaining a c
stops_then old mid octets more fault remaining a b c before then =
    let count : mid.lines + length then.lines ≡ old.lines + length (before.lines ++ then.lines) =
    omega (arith, before.lines_are, length-append before.lines then.lines) in
    record {
      lines = before.lines ++ then.lines;
      front = before.front ++ then.front;
      rest = then.rest;
      are_lines = lines_more before.lines then.lines before.front then.front before.are_lines then.are_lines;
      joined = joined_then old.line.items octets more before.front mid.line.items then.front then.rest before.joined then.joined;
      within = omega (arith, then.within, count);
      stops = λ total. subst (λ (n : ℕ). StopsAs n total then.rest remaining fault.reason fault.place) count (then.stops total);
      written = written_more a b c before.lines then.lines before.written then.written;
    }

-- packing stops at once
pub stops_here : (p : PackState) (octets : List ℕ) (fault : FeedFault) (remaining a b : Option (List ℕ)) → p.lines ≤ lines_limit → b ≡ a
    → ((total : ℕ) → StopsAs p.lines total (p.line.items ++ octets) remaining fault.reason fault.place)
    → PacksUpTo p octets fault remaining a b
stops_here p octets fault remaining a b within same stops =
    let count : p.lines ≡ p.lines + 0 = omega arith in
    record {
      lines = [];
      front = [];
      rest = p.line.items ++ octets;
      are_lines = refl;
      joined = refl;
      within = omega (arith, within);
      stops = λ total. subst (λ (n : ℕ). StopsAs n total (p.line.items ++ octets) remaining fault.reason fault.place) count
          (stops total);
      written = subst (λ (x : Option (List ℕ)). Appends a x []) (sym same) (Appends-nil a);
    }

refused_stops : (count : ℕ) (content rest : List ℕ) (remaining : Option (List ℕ)) (fault : FeedFault)
    → IsLineRefused content (count + 1) fault → (IsNoLine content → IsRefusedLine count rest remaining)
    → (total : ℕ) → StopsAs count total rest remaining fault.reason fault.place
refused_stops count content rest remaining fault (inl (is, none)) line total =
    subst (λ (f : FeedFault). StopsAs count total rest remaining f.reason f.place) (sym is) (refl, line none)
refused_stops count content rest remaining fault (inr is) line total =
    subst (λ (f : FeedFault). StopsAs count total rest remaining f.reason f.place) (sym is) refl

-- The line is too long, or memory ran out.
pub stops_long : (p : PackState) (front behind : List ℕ) (number : ℕ) (fault : LineFault) (remaining a : Option (List ℕ))
    → p.lines ≤ lines_limit → number ≡ p.lines + 1
    → HasNoNewline p.line.items → HasNoNewline front → (fault ≡ Bad → line_limit + 1 < length (p.line.items ++ front))
    → PacksUpTo p (front ++ behind) (line_fault number fault) remaining a a
stops_long p front behind number Memory remaining a within is plain more long =
    stops_here p (front ++ behind) (feed_fault feed.Memory 0) remaining a a within refl (λ total. refl)
stops_long p front behind number Bad remaining a within is plain more long =
    stops_here p (front ++ behind) (feed_fault feed.BadHexLine number) remaining a a within refl
    (λ total. (
      is,
      inr (inr (inl (
        p.line.items ++ front,
        behind,
        plain_more p.line.items front plain more,
        sym (append_assoc p.line.items front behind),
        long refl,
      ))),
    ))

-- The line is bad, or memory ran out.
pub stops_line : (p : PackState) (front behind line content : List ℕ) (fault : FeedFault) (remaining a b : Option (List ℕ))
    → p.lines ≤ lines_limit → b ≡ a
    → line ≡ p.line.items ++ front → HasNoNewline line → IsContentOf line content → IsLineRefused content (p.lines + 1) fault
    → PacksUpTo p (front ++ newline ∷ behind) fault remaining a b
stops_line p front behind line content fault remaining a b within same held plain is refused =
    stops_here p (front ++ newline ∷ behind) fault remaining a b within same
    (refused_stops p.lines content (p.line.items ++ (front ++ newline ∷ behind)) remaining fault refused
    (λ none. inr (inl (content, line ++ newline ∷ [], behind, ended_line line content plain is, joined, none))))
  where
    joined : p.line.items ++ (front ++ newline ∷ behind) ≡ (line ++ newline ∷ []) ++ behind
    joined =
        sym (append_assoc p.line.items front (newline ∷ behind)) ∙ ap (λ (x : List ℕ). x ++ newline ∷ behind) (sym held)
        ∙ sym (append_assoc line (newline ∷ []) behind)

-- The last line is bad, or memory ran out.
pub stops_last : (p : PackState) (fault : FeedFault) (remaining a b : Option (List ℕ)) → p.lines ≤ lines_limit → b ≡ a
    → HasNoNewline p.line.items → p.line.items ≢ []
    → IsAtEnd remaining → IsLineRefused p.line.items (p.lines + 1) fault → PacksUpTo p [] fault remaining a b
stops_last p fault remaining a b within same plain some at_end refused =
    let all : p.line.items ≡ p.line.items ++ [] = sym (append-nil p.line.items) in
    stops_here p [] fault remaining a b within same
    (refused_stops p.lines p.line.items (p.line.items ++ []) remaining fault refused
    (λ none. subst (λ (x : List ℕ). IsRefusedLine p.lines x remaining) all (inr (inr (inr (at_end, plain, some, none))))))

-- A line was packed.
pub packs_line : (old held new : PackState) (front content : List ℕ) (line : Option (List ℕ)) (a b : Option (List ℕ))
    → held.line.items ≡ old.line.items ++ front → held.lines ≡ old.lines
    → held.entries ≡ old.entries → HasNoNewline held.line.items → IsContentOf held.line.items content → StandsFor content line
    → IsBehind line held new
    → Appends a b (concat (entries_in (line ∷ []))) → Packs old new (front ++ newline ∷ []) a b
packs_line old held new front content line a b joined lines_are entries_are plain is stands behind written = record {
  lines = line ∷ [];
  front = held.line.items ++ newline ∷ [];
  are_lines = one_line line content (held.line.items ++ newline ∷ []) (ended_line held.line.items content plain is) stands;
  joined = sym (append_assoc old.line.items front (newline ∷ [])) ∙ ap (λ (x : List ℕ). x ++ newline ∷ []) (sym joined)
      ∙ sym (append-nil (held.line.items ++ newline ∷ []))
      ∙ ap (λ (x : List ℕ). (held.line.items ++ newline ∷ []) ++ x) (sym behind.nothing);
  lines_are = omega (arith, behind.lines_are, lines_are);
  entries_are = omega (arith, behind.entries_are, entries_are);
  written = written;
}

-- ---- pieces

tail_is : (behind more : List ℕ) (octet : ℕ) → behind ≡ octet ∷ more → take (length behind - 1) (drop 1 behind) ≡ more
tail_is behind more octet e =
    ap (λ (x : List ℕ). take (length x - 1) (drop 1 x)) e ∙ take_all (length (octet ∷ more) - 1) more (omega arith)

-- a piece with a newline is the octets before it, the newline, and the octets after it
pub cut_there : (piece front behind : List ℕ) (n : ℕ) → n < length piece → front ≡ take n piece → behind ≡ drop n piece
    → slice_index piece n ≡ newline
    → piece ≡ front ++ newline ∷ take (length behind - 1) (drop 1 behind)
cut_there piece front behind n within front_is behind_is there =
    let first : drop n piece ≡ newline ∷ drop (n + 1) piece =
    drop_more piece n 0 within ∙ ap (λ (x : ℕ). x ∷ drop (n + 1) piece) there in
    sym (take-append-drop n piece) ∙ ap (λ (x : List ℕ). take n piece ++ x) first
    ∙ ap (λ (x : List ℕ). x ++ newline ∷ drop (n + 1) piece) (sym front_is)
    ∙ ap (λ (x : List ℕ). front ++ newline ∷ x) (sym (tail_is behind (drop (n + 1) piece) newline (behind_is ∙ first)))

-- ---- the whole text

-- lines within the limits have a limited number of octets
lines_within : (lines : List (Option (List ℕ))) (text : List ℕ) → AreLines lines text → length text ≤ length lines * 131094
lines_within [] text none = omega (arith, ap length none)
lines_within (line ∷ lines) text (content, octets, more, ended, stands, joined, are_lines) =
    omega (
      arith,
      lines_within lines more are_lines,
      ended_within ended.1,
      content_within line stands,
      ap length joined,
      length-append octets more,
    )
  where
    content_within : (l : Option (List ℕ)) → StandsFor content l → length content ≤ line_limit
    content_within None s = s.0
    content_within (Some entry) s = s.0

    ended_within : (octets ≡ content ++ carriage_return ∷ newline ∷ [])
        ⊎ ((EndsInReturn content → ⊥) × (octets ≡ content ++ newline ∷ [])) → length octets ≤ length content + 2
    ended_within (inl is) = omega (arith, ap length is, length-append content (carriage_return ∷ newline ∷ []))
    ended_within (inr is) = omega (arith, ap length is.1, length-append content (newline ∷ []))

all_told : (start p : PackState) (returned : List ℕ) (a b : Option (List ℕ)) → IsFresh start → (packs : Packs start p returned a b)
    → returned ≡ packs.front ++ p.line.items
all_told start p returned a b fresh packs = ap (λ (x : List ℕ). x ++ returned) (sym fresh.0) ∙ packs.joined

pub told_within : (start p : PackState) (returned : List ℕ) (a b : Option (List ℕ)) → IsFresh start → Packs start p returned a b → IsOpen p
    → length returned ≤ 131094131093
told_within start p returned a b fresh packs is_open =
    omega (
      arith,
      fresh.1,
      packs.lines_are,
      is_open.within,
      is_open.short,
      lines_within packs.lines packs.front packs.are_lines,
      ap length (all_told start p returned a b fresh packs),
      length-append packs.front p.line.items,
    )

packed_all : (start p : PackState) (returned : List ℕ) (count : ℕ) (a b c : Option (List ℕ)) → IsFresh start → Packs start p returned a b
    → IsOpen p
    → Finishes p count b c → IsPacked returned count a c
packed_all start p returned count a b c fresh packs is_open (inl (none, count_is, nothing)) = record {
  lines = packs.lines;
  is_text = inl (subst (AreLines packs.lines)
      (sym (all_told start p returned a b fresh packs ∙ ap (λ (x : List ℕ). packs.front ++ x) none ∙ append-nil packs.front))
      packs.are_lines);
  within = omega (arith, fresh.1, packs.lines_are, is_open.within);
  count_is = omega (arith, fresh.2, packs.entries_are, count_is);
  written = subst (Appends a c) (append-nil (concat (entries_in packs.lines))) (Appends-trans a b c _ _ packs.written nothing);
}
packed_all start p returned count a b c fresh packs is_open (inr (some, (line, stands, count_is, written))) = record {
  lines = packs.lines ++ line ∷ [];
  is_text = inr (
    packs.lines,
    line,
    packs.front,
    p.line.items,
    refl,
    all_told start p returned a b fresh packs,
    packs.are_lines,
    some,
    is_open.plain,
    stands,
  );
  within = omega (arith, fresh.1, packs.lines_are, is_open.room some, length-append packs.lines (line ∷ []));
  count_is = omega (arith, fresh.2, packs.entries_are, count_is, count_more packs.lines (line ∷ []));
  written = written_more a b c packs.lines (line ∷ []) packs.written written;
}

pub packed_up_to : (start : PackState) (returned : List ℕ) (fault : FeedFault) (remaining a b : Option (List ℕ)) → IsFresh start
    → PacksUpTo start returned fault remaining a b → IsPackedUpTo returned fault remaining a b
packed_up_to start returned fault remaining a b fresh packs =
    let count : start.lines + length packs.lines ≡ length packs.lines = omega (arith, fresh.1) in
    record {
      lines = packs.lines;
      front = packs.front;
      rest = packs.rest;
      are_lines = packs.are_lines;
      joined = ap (λ (x : List ℕ). x ++ returned) (sym fresh.0) ∙ packs.joined;
      within = omega (arith, packs.within, count);
      stops = subst (λ (n : ℕ). StopsAs n (length returned) packs.rest remaining fault.reason fault.place) count
          (packs.stops (length returned));
      written = packs.written;
    }

pub packed_then : (start p : PackState) (returned more : List ℕ) (fault : FeedFault) (remaining a b c : Option (List ℕ)) → IsFresh start
    → Packs start p returned a b → PacksUpTo p more fault remaining b c
    → IsPackedUpTo (returned ++ more) fault remaining a c
packed_then start p returned more fault remaining a b c fresh packs then =
    packed_up_to start (returned ++ more) fault remaining a c fresh (stops_then start p returned more fault remaining a b c packs then)

-- The reader failed after these octets.
pub packed_unread : (start p : PackState) (returned : List ℕ) (remaining a b : Option (List ℕ)) → IsFresh start → Packs start p returned a b
    → IsOpen p
    → IsPackedUpTo returned (feed_fault feed.Read (length returned)) remaining a b
packed_unread start p returned remaining a b fresh packs is_open = record {
  lines = packs.lines;
  front = packs.front;
  rest = p.line.items;
  are_lines = packs.are_lines;
  joined = all_told start p returned a b fresh packs;
  within = omega (arith, fresh.1, packs.lines_are, is_open.within);
  stops = (refl, is_open.plain, (λ some. omega (arith, fresh.1, packs.lines_are, is_open.room some)), is_open.short);
  written = packs.written;
}

-- This fault is not a failure of the reader.
pub stops_unread : (p : PackState) (octets : List ℕ) (fault : FeedFault) (remaining a b : Option (List ℕ))
    → PacksUpTo p octets fault remaining a b → fault.reason ≢ feed.Read
stops_unread p octets fault remaining a b packs read =
    let at : (total : ℕ) → fault.place ≡ total = λ total.
    (subst (λ (r : FeedReason). StopsAs (p.lines + length packs.lines) total packs.rest remaining r fault.place) read
    (packs.stops total)).0 in
    absurd (omega (arith, at 0, at 1))

-- A read returned no octets.
pub told_no_more : (a b c : Option (List ℕ)) (returned buffer : List ℕ) (n : ℕ) → n ≡ 0 → Consumes a b returned
    → Consumes b c (take n buffer) → Consumes a c returned
told_no_more a b c returned buffer n none before more =
    subst (Consumes a c) (append-nil returned)
    (Consumes-trans a b c returned [] before (subst (λ (k : ℕ). Consumes b c (take k buffer)) none more))

-- A failed read consumed nothing.
pub told_nothing : (a b c : Option (List ℕ)) (returned : List ℕ) → Consumes a b returned → Keeps b c → Consumes a c returned
told_nothing None b c returned before keeps = tt
told_nothing (Some xs) None c returned before keeps = absurd before
told_nothing (Some xs) (Some ys) None returned before keeps = absurd keeps
told_nothing (Some xs) (Some ys) (Some zs) returned before keeps = before ∙ ap (λ (x : List ℕ). returned ++ x) (sym keeps)

-- the result at the reader's end
pub packed_ok : (result : Result ℕ PackFault) (start p : PackState) (returned : List ℕ) (old new a b c : Option (List ℕ)) → IsFresh start
    → Packs start p returned a b → IsOpen p
    → IsAtEnd new → Consumes old new returned → IfOk result (λ count. Finishes p count b c)
    → IfOk result (λ count. IsAtEnd new × ((all : List ℕ) × Consumes old new all × IsPacked all count a c))
packed_ok (Ok count) start p returned old new a b c fresh packs is_open at_end consumed finishes =
    (at_end, (returned, consumed, packed_all start p returned count a b c fresh packs is_open finishes))
packed_ok (Err fault) start p returned old new a b c fresh packs is_open at_end consumed finishes = tt
