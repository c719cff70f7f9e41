-- The place of a fault is in the window or at its end: one law for each combinator of the grammar.
use Rattle.std.proofs.Common.{◌≡◌, ℕ, ◌+◌, ◌≤◌, List, [], ◌∷◌, ◌++◌, length, inl, inr, ap, arith}
use Rattle.std.proofs.lemmas.List.{length-append}
use Rattle.tcap_ber.specs.declared.fault.Reason.{Reason}
use Rattle.tcap_ber.specs.Span.{Span}
use Rattle.tcap_ber.specs.Element.{content_start}
use Rattle.tcap_ber.specs.Grammar.{Body, Field, Content, IsElementFault, IsFaultyInside, IsFaultyAfter, required, optional, parameter, verbatim, absent, ended, after, ◌⨾▹◌, ◌⨾◌, each, single, integer}
use Rattle.tcap_ber.specs.Choice.{Choice, ◌▹◌, ◌∣◌, others_are, one_of}
use Rattle.tcap_ber.specs.ObjectId.{object_id}
use Rattle.tcap_ber.specs.SmallInteger.{small, null}
use Rattle.tcap_ber.proofs.ElementLaws.{content_within}
use Rattle.tcap_ber.proofs.OuterLaws.{walk_fault_within, innermost_unique, innermost_within}

-- the place is within the window
abbrev pub IsWithin : Span → ℕ → Type 0
IsWithin s place = place ≤ s.place + length s.octets

abbrev pub BodyWithin : {V : Type 0} → Body V → Type 0
BodyWithin body = (at : ℕ) (s : Span) (reason : Reason) (place : ℕ) → at ≤ s.place → body.faulty at s reason place → IsWithin s place

abbrev pub FieldWithin : {V : Type 0} → Field V → Type 0
FieldWithin field = (s : Span) (reason : Reason) (place : ℕ) → field.faulty s reason place → IsWithin s place

abbrev pub ContentWithin : {V : Type 0} → Content V → Type 0
ContentWithin content = (s : Span) (reason : Reason) (place : ℕ) → content.faulty s reason place → IsWithin s place

-- ---- headers and elements

pub element_fault_within : (s : Span) (reason : Reason) (place : ℕ) → IsElementFault s reason place → IsWithin s place
element_fault_within s reason place (offset, place_is, inl wrong) = omega (arith, place_is, walk_fault_within s.octets reason offset wrong)
element_fault_within s reason place (offset, place_is, inr (_, some, unfinished, inside)) =
    omega (arith, place_is, innermost_unique s.octets offset inside, innermost_within s.octets)

pub inside_within : {V : Type 0} (tag : ℕ) (body : Body V) → BodyWithin body → (s : Span) (reason : Reason) (place : ℕ) → IsFaultyInside tag body.faulty s reason place → IsWithin s place
inside_within tag body within s reason place h =
    let inner = within s.place (record { octets = h.content; place = s.place + content_start (tag ∷ []) h.content h.octets }) reason place (omega arith) h.inside in
    omega (arith, inner, content_within (tag ∷ []) h.content h.octets h.is_element, ap length h.joined, length-append h.octets h.rest)

-- ---- parts

pub required_within : {V : Type 0} (tag : ℕ) (body : Body V) → BodyWithin body → FieldWithin (required tag body)
required_within tag body within s reason place (inl h) = omega (arith, h.place_is)
required_within tag body within s reason place (inr (inl h)) = element_fault_within s reason place h
required_within tag body within s reason place (inr (inr (inl h))) = omega (arith, h.place_is)
required_within tag body within s reason place (inr (inr (inr h))) = inside_within tag body within s reason place h

pub optional_within : {V : Type 0} (tag : ℕ) (body : Body V) → BodyWithin body → FieldWithin (optional tag body)
optional_within tag body within s reason place h = required_within tag body within s reason place h.1

pub verbatim_within : (tag : ℕ) → FieldWithin (verbatim tag)
verbatim_within tag s reason place (inl h) = omega (arith, h.place_is)
verbatim_within tag s reason place (inr (inl h)) = element_fault_within s reason place h
verbatim_within tag s reason place (inr (inr h)) = omega (arith, h.place_is)

pub absent_within : (V : Type 0) → FieldWithin (absent {V = V})
absent_within V s reason place h = absurd h

pub parameter_within : FieldWithin parameter
parameter_within s reason place h = element_fault_within s reason place h

-- ---- contents

pub ended_within : ContentWithin ended
ended_within s reason place h = omega (arith, h.2)

behind_within : (s : Span) (front rest : List ℕ) (place : ℕ) → s.octets ≡ front ++ rest → IsWithin (after s.place front rest) place → IsWithin s place
behind_within s front rest place joined within = omega (arith, ap length joined, length-append front rest, within)

pub then_by_within : {V W : Type 0} (first : Field V) (others : V → Content W) → FieldWithin first → ((v : V) → ContentWithin (others v)) → ContentWithin (first ⨾▹ others)
then_by_within first others here there s reason place (inl h) = here s reason place h
then_by_within first others here there s reason place (inr h) =
    behind_within s h.front h.rest place h.joined (there h.value (after s.place h.front h.rest) reason place h.behind)

pub then_within : {V W : Type 0} (first : Field V) (others : Content W) → FieldWithin first → ContentWithin others → ContentWithin (first ⨾ others)
then_within first others here there = then_by_within first (λ _. others) here (λ _. there)

after_within : {V : Type 0} (item : Field V) → FieldWithin item → (vs : List V) (s : Span) (reason : Reason) (place : ℕ) → IsFaultyAfter item vs s reason place → IsWithin s place
after_within item within [] s reason place h = within s reason place h.1
after_within item within (v ∷ vs) s reason place h =
    behind_within s h.0 h.1 place h.2 (after_within item within vs (after s.place h.0 h.1) reason place h.4)

pub each_within : {V : Type 0} (item : Field V) → FieldWithin item → ContentWithin (each item)
each_within item within s reason place h = after_within item within h.0 s reason place h.1

-- ---- bodies

pub single_within : {V : Type 0} (part : Field V) → FieldWithin part → BodyWithin (single part)
single_within part within at s reason place before h = then_within part ended within ended_within s reason place h

pub integer_within : (limit : ℕ) (too_wide : Reason) → BodyWithin (integer limit too_wide)
integer_within limit too_wide at s reason place before h = omega (arith, h.0, before)

pub object_id_within : BodyWithin object_id
object_id_within at s reason place before h = omega (arith, h.1, before)

pub small_within : BodyWithin small
small_within at s reason place before h = omega (arith, h.0, before)

pub null_within : BodyWithin null
null_within at s reason place before h = omega (arith, h.2, before)

-- ---- choices

pub record ChoiceWithin {V : Type 0} (choice : Choice V) : Type 0 where
  pub within : (tag : List ℕ) (at : ℕ) (s : Span) (reason : Reason) (place : ℕ) → at ≤ s.place → choice.faulty tag at s reason place → IsWithin s place

pub others_within : (V : Type 0) (refusal : Reason) → ChoiceWithin (others_are {V = V} refusal)
others_within V refusal = record { within = λ tag at s reason place before h. omega (arith, h.1, before) }

pub tagged_within : {V : Type 0} (one : ℕ) (body : Body V) (others : Choice V) → BodyWithin body → ChoiceWithin others → ChoiceWithin (one ▹ body ∣ others)
tagged_within one body others here there = record { within = within }
  where
    within : (tag : List ℕ) (at : ℕ) (s : Span) (reason : Reason) (place : ℕ) → at ≤ s.place → (one ▹ body ∣ others).faulty tag at s reason place → IsWithin s place
    within tag at s reason place before (inl h) = here at s reason place before h.1
    within tag at s reason place before (inr h) = there.within tag at s reason place before h.1

pub one_of_within : {V : Type 0} (choice : Choice V) → ChoiceWithin choice → FieldWithin (one_of choice)
one_of_within choice all s reason place (inl h) = omega (arith, h.place_is)
one_of_within choice all s reason place (inr (inl h)) = element_fault_within s reason place h
one_of_within choice all s reason place (inr (inr h)) =
    let inner = all.within h.tag s.place (record { octets = h.content; place = s.place + content_start h.tag h.content h.octets }) reason place (omega arith) h.inside in
    omega (arith, inner, content_within h.tag h.content h.octets h.is_element, ap length h.joined, length-append h.octets h.rest)
