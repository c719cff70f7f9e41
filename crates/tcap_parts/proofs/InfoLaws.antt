-- Reading EXTERNALs one after the other: the laws of `EachLoopLaws` for EXTERNALs, and the reader of user information.
use Rattle.std.proofs.Common.{◌≡◌, ℕ, ◌+◌, ◌<◌, ◌≤◌, Bool, true, List, [], ◌∷◌, ◌++◌, length, Result, Ok, Err, refl, sym, ap, ◌∙◌, arith, append-nil, subst, inl, inr, is_ok, ◌↔◌, IsTrue, IfOk, IfErr}
use Rattle.std.proofs.lemmas.List.{length-append}
use Rattle.tcap_ber.specs.declared.fault.Fault.{Fault}
use Rattle.tcap_ber.specs.Span.{Span}
use Rattle.tcap_ber.specs.Grammar.{each}
use Rattle.tcap_ber.specs.Reading.{is_read, read_or_none}
use Rattle.tcap_ber.specs.ExactReader.{ReadsField, ReadsBody, ReadsContent}
use Rattle.tcap_ber.proofs.Steps.{bind_ok, bind_err, ok_is}
use Rattle.tcap_ber.proofs.EachLaws.{each_of-empty, reads_each}
use Rattle.tcap_ber.proofs.EachLoopLaws as items
use Rattle.tcap_ber.proofs.EachLoopLaws.{with_front, with_front-err, with_front-with_front, not_read}
use Rattle.tcap_ber.proofs.VerbatimLaws.{reads_verbatim, verbatim_has_octets}
use Rattle.tcap_parts.specs.Info.{external, AreExternals, info}
use Rattle.tcap_parts.specs.InfoReading.{external_at, externals_at, info_of, are_externals, externals_of}

reads_external : ReadsField external external_at
unfolding external_at
reads_external = reads_verbatim 0x28

pub reads_externals : ReadsContent (each external) (λ es. es) externals_at
unfolding externals_at
reads_externals = reads_each external external_at reads_external (verbatim_has_octets 0x28)

-- ---- a loop

-- `count` EXTERNALs of a content were read, and those of `rest` are left
pub record Counted (content rest : Span) (count : ℕ) : Type 0 where
  pub front : List (List ℕ)
  pub goes_on : externals_at content ≡ with_front front (externals_at rest)
  pub counts : count ≡ length front
  pub within : count + length rest.octets ≤ length content.octets

externals_end : (s : Span) → length s.octets ≡ 0 → externals_at s ≡ Ok []
unfolding externals_at
externals_end s e = each_of-empty external_at s e

externals_step : (s : Span) (c : List ℕ) (rest : Span) → 0 < length s.octets → external_at s ≡ Ok (c, rest) → externals_at s ≡ with_front (c ∷ []) (externals_at rest)
unfolding externals_at
externals_step s c rest some e = items.each_step external external_at reads_external (verbatim_has_octets 0x28) s c rest some e

externals_fault : (s : Span) (f : Fault) → 0 < length s.octets → external_at s ≡ Err f → externals_at s ≡ Err f
unfolding externals_at
externals_fault s f some e = items.each_fault external external_at reads_external (verbatim_has_octets 0x28) s f some e

pub rest_is_shorter : (s : Span) (c : List ℕ) (rest : Span) → external_at s ≡ Ok (c, rest) → length rest.octets < length s.octets
rest_is_shorter s c rest e = items.rest_is_shorter external external_at reads_external (verbatim_has_octets 0x28) s c rest e

pub counted_more : (content s : Span) (count : ℕ) (c : List ℕ) (rest : Span) → Counted content s count → 0 < length s.octets → external_at s ≡ Ok (c, rest) → Counted content rest (count + 1)
counted_more content s count c rest so_far some e = record {
  front = so_far.front ++ c ∷ [];
  goes_on = so_far.goes_on ∙ ap (with_front so_far.front) (externals_step s c rest some e) ∙ with_front-with_front so_far.front c (externals_at rest);
  counts = omega (arith, so_far.counts, length-append so_far.front (c ∷ []));
  within = omega (arith, so_far.within, rest_is_shorter s c rest e);
}

pub counted_fault : (content s : Span) (count : ℕ) (f : Fault) → Counted content s count → 0 < length s.octets → external_at s ≡ Err f → externals_at content ≡ Err f
counted_fault content s count f so_far some e = so_far.goes_on ∙ with_front-err so_far.front (externals_at s) f (externals_fault s f some e)

pub counted_all : (content s : Span) (count : ℕ) → Counted content s count → length s.octets ≡ 0 → (externals : List (List ℕ)) × (externals_at content ≡ Ok externals) × (count ≡ length externals)
counted_all content s count so_far none =
    (so_far.front, so_far.goes_on ∙ ap (with_front so_far.front) (externals_end s none) ∙ ap (λ (es : List (List ℕ)). Ok es) (append-nil so_far.front), so_far.counts)

-- ---- octets at any offset

-- octets that are read at any offset are EXTERNALs
pub is_read_sound : (s : Span) → is_read (externals_at s) ≡ true → AreExternals s.octets
is_read_sound s e = of_it (externals_at s) refl
  where
    of_it : (r : Result (List (List ℕ)) Fault) → externals_at s ≡ r → AreExternals s.octets
    of_it (Ok es) h = let a = reads_externals.sound s es h in (a.0, a.2)
    of_it (Err f) h = absurd (not_read (externals_at s) f e h)

pub is_read_complete : (s : Span) → AreExternals s.octets → is_read (externals_at s) ≡ true
is_read_complete s h = ap is_read (reads_externals.complete s h.0 h.1)

pub are_sound : (octets : List ℕ) → are_externals octets ≡ true → AreExternals octets
unfolding are_externals
are_sound octets e = is_read_sound (record { octets = octets; place = 0 }) e

pub are_complete : (octets : List ℕ) → AreExternals octets → are_externals octets ≡ true
unfolding are_externals
are_complete octets h = is_read_complete (record { octets = octets; place = 0 }) h

pub read_are : (s : Span) (externals : List (List ℕ)) → externals_at s ≡ Ok externals → are_externals s.octets ≡ true
read_are s externals e = are_complete s.octets (is_read_sound s (ap is_read e))

-- counting succeeds exactly if the octets are EXTERNALs
pub is_ok_are : (octets : List ℕ) (s : Span) (r : Result ℕ Fault) → s ≡ record { octets = octets; place = 0 }
    → IfOk r (λ n. (externals : List (List ℕ)) × (externals_at s ≡ Ok externals) × (n ≡ length externals)) → IfErr r (λ fault. externals_at s ≡ Err fault)
    → is_ok r ≡ are_externals octets
unfolding are_externals
is_ok_are octets s (Ok n) same h e = sym (ap is_read (ap externals_at (sym same) ∙ h.1))
is_ok_are octets s (Err f) same h e = sym (ap is_read (ap externals_at (sym same) ∙ e))

pub count_is : (octets : List ℕ) (s : Span) (n : ℕ) → s ≡ record { octets = octets; place = 0 }
    → ((externals : List (List ℕ)) × (externals_at s ≡ Ok externals) × (n ≡ length externals)) → n ≡ length (externals_of octets)
unfolding externals_of
count_is octets s n same h = h.2 ∙ ap length (sym (ap read_or_none (ap externals_at (sym same) ∙ h.1)))

-- the octets spell as many EXTERNALs as were counted
pub count_spelled : (octets : List ℕ) (s : Span) (n : ℕ) → s ≡ record { octets = octets; place = 0 }
    → ((externals : List (List ℕ)) × (externals_at s ≡ Ok externals) × (n ≡ length externals))
    → (externals : List (List ℕ)) × (each external).spells externals octets × (n ≡ length externals)
count_spelled octets s n same h =
    let a = reads_externals.sound s h.0 h.1 in
    (a.0, subst (λ (x : Span). (each external).spells a.0 x.octets) same a.2, h.2 ∙ ap length a.1)

pub none_refused : (octets : List ℕ) (s : Span) (f : Fault) → s ≡ record { octets = octets; place = 0 } → are_externals octets ≡ true → externals_at s ≡ Err f → ⊥
none_refused octets s f same whole e =
    not_read (externals_at s) f (is_read_complete s (subst (λ (x : Span). AreExternals x.octets) (sym same) (are_sound octets whole))) e

pub are_iff : (octets : List ℕ) (b : Bool) → b ≡ are_externals octets → IsTrue b ↔ AreExternals octets
are_iff octets b e = (λ t. are_sound octets (sym e ∙ t), λ h. e ∙ are_complete octets h)

-- ---- the reader

pub reads_info : ReadsBody info info_of
unfolding info_of
reads_info = record {
  sound = λ e v h.
      let a = bind_ok (externals_at e.content) (λ _. Ok e.content.octets) v h in
      (is_read_sound e.content (ap is_read a.1), sym (ok_is e.content.octets v a.2));
  complete = λ e v h. rw (reads_externals.complete e.content h.0.0 h.0.1) (ap (λ (x : List ℕ). Ok x) (sym h.1));
  refuses = λ e f h.
      elim (bind_err (externals_at e.content) (λ _. Ok e.content.octets) f h) [
        | inl k ↦ reads_externals.refuses e.content f k
        | inr a ↦ absurd cc
      ];
  stops = λ e f h. rw (reads_externals.stops e.content f h) refl;
}
