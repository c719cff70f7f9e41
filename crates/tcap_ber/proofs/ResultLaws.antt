-- What `Gives` means for the readers of elements.
use Rattle.std.proofs.Common.{◌≡◌, ℕ, ◌+◌, ◌<◌, ◌⊎◌, List, [], ◌∷◌, ◌++◌, length, Bool, true, false, Result, Ok, Err, sym, ap, subst, ◌∙◌, inl, inr}
use Rattle.std.specs.Prelude.{IfOk, IfErr, IsOkAnd, ◌↔◌, IsTrue}
use Rattle.tcap_ber.specs.declared.fault.Fault.{Fault}
use Rattle.tcap_ber.specs.declared.fault.Reason.TheVariants.{BadInteger}
use Rattle.tcap_ber.specs.declared.element.Outer.{Outer}
use Rattle.tcap_ber.specs.declared.element.Outer.TheVariants.{Whole, Need}
use Rattle.tcap_ber.specs.declared.element.Tlv.{Tlv}
use Rattle.tcap_ber.specs.declared.element.Window.{Window}
use Rattle.tcap_ber.specs.declared.raw.RawView.{RawView}
use Rattle.tcap_ber.specs.Element.{IsElement, IsRaw}
use Rattle.tcap_ber.specs.Integer.{IsInteger}
use Rattle.tcap_ber.specs.WalkPlaces.{IsWalkFault, BeginsElement, NeedsMore}
use Rattle.tcap_ber.specs.Grammar.{Body, Field, BeginsWith, IsMissing, IsElementFault, IsUnexpected, after}
use Rattle.tcap_ber.specs.FrontElement.{FindsElement, Taken}
use Rattle.tcap_ber.specs.ExactReader.{ReadsField, ReadsBody}
use Rattle.tcap_ber.specs.Span.{Span}
use Rattle.tcap_ber.specs.Reading.{fault, Gives, Element, element, span, next_at, some_at, required_at, is_tag, is_next, raw_at, outer_at, is_raw, is_integer, integer_at}
use Rattle.tcap_ber.proofs.Steps.{chosen, ok_is, err_is, ok_not_err}
use Rattle.tcap_ber.proofs.ElementLaws.{next_sound, next_complete, next_fault, next_refused}
use Rattle.tcap_ber.proofs.FaultLaws.{raw_refused, required_refused}
use Rattle.tcap_ber.proofs.OuterLaws.{outer_whole, outer_of_element, outer_needs, outer_fault, outer_refused, is_raw_sound, is_raw_complete}
use Rattle.tcap_ber.proofs.RawLaws.{raw_sound, raw_complete}
use Rattle.tcap_ber.proofs.ChoiceLaws.{some_sound, some_complete, some_fault, some_refused}
use Rattle.tcap_ber.proofs.GrammarLaws.{required_sound, required_complete, required_fault, is_tag-true, is_tag-itself, is_next-true, is_next-begins, raw_fault}
use Rattle.tcap_ber.proofs.BodyLaws.{is_integer_sound, is_integer_complete}

-- a result is a fault exactly if reading gives that fault
pub gives_err : {X Y : Type 0} (view : X → Y) (r : Result X Fault) (read : Result Y Fault) → Gives view r read → (f : Fault) → (r ≡ Err f) ↔ (read ≡ Err f)
gives_err view (Ok x) read e f = (λ k. absurd cc, λ k. absurd (ok_not_err (view x) f (sym e ∙ k)))
gives_err {X} view (Err g) read e f = (λ k. e ∙ ap (λ h. Err h) (err_is {A = X} g f k), λ k. ap (λ h. Err h) (err_is g f (sym e ∙ k)))

gives_same : {A : Type 0} (r read : Result A Fault) → Gives (λ x. x) r read → read ≡ r
gives_same (Ok x) read e = e
gives_same (Err f) read e = e

pub whole_iff : (octets : List ℕ) (r : Result Outer Fault) → Gives (λ x. x) r (outer_at octets) → (n : ℕ) → (r ≡ Ok (Whole n)) ↔ BeginsElement octets n
whole_iff octets r e n = (
  λ k. outer_whole octets n (gives_same r (outer_at octets) e ∙ k),
  λ b. sym (gives_same r (outer_at octets) e) ∙ ap outer_at b.joined ∙ outer_of_element b.tag b.content b.element b.rest b.is_element ∙ ap (λ (m : ℕ). Ok (Whole m)) (sym b.len),
)

pub needs_more : (octets : List ℕ) (r : Result Outer Fault) → Gives (λ x. x) r (outer_at octets) → (n : ℕ) → r ≡ Ok (Need n) → NeedsMore octets n
needs_more octets r e n k = outer_needs octets n (gives_same r (outer_at octets) e ∙ k)

pub fault_iff : (octets : List ℕ) (r : Result Outer Fault) → Gives (λ x. x) r (outer_at octets) → (f : Fault) → (r ≡ Err f) ↔ IsWalkFault octets f.reason f.place
fault_iff octets r e f = (
  λ k. outer_fault octets f (gives_same r (outer_at octets) e ∙ k),
  λ h. sym (gives_same r (outer_at octets) e) ∙ outer_refused octets f.reason f.place h,
)

abbrev pub Next : Type 0
Next = Result (Tlv × Window) Fault

abbrev pub seen : Tlv × Window → Element × Span
seen x = (element x.0, span x.1)

pub next_found : (s : Span) (r : Next) → Gives seen r (next_at s) → IfOk r (λ x. FindsElement s (element x.0) (span x.1))
next_found s (Ok x) e = next_sound s (seen x) e
next_found s (Err f) e = tt

pub next_faulty : (s : Span) (r : Next) → 0 < length s.octets → Gives seen r (next_at s) → (f : Fault) → (r ≡ Err f) ↔ IsElementFault s f.reason f.place
next_faulty s r some e f = let k = gives_err seen r (next_at s) e f in (λ h. next_fault s f some (k.0 h), λ w. k.1 (next_refused s f w))

pub next_only : (s : Span) (r : Next) → Gives seen r (next_at s) → (tag content octets rest : List ℕ) → IsElement tag content octets → s.octets ≡ octets ++ rest
    → IsOkAnd r (λ x. (x.0.tag.octets.now ≡ tag) × (x.0.content.octets.now ≡ content) × (x.1.octets.now ≡ rest))
next_only s (Ok x) e tag content octets rest h joined =
    let there = ap (λ (o : List ℕ). next_at (record { octets = o; place = s.place })) joined ∙ next_complete s.place tag content octets rest h in
    let same = ok_is (seen x) _ (sym e ∙ there) in
    (ap (λ (y : Element × Span). y.0.tag) same, ap (λ (y : Element × Span). y.0.content.octets) same, ap (λ (y : Element × Span). y.1.octets) same)
next_only s (Err f) e tag content octets rest h joined =
    let there = ap (λ (o : List ℕ). next_at (record { octets = o; place = s.place })) joined ∙ next_complete s.place tag content octets rest h in
    ok_not_err {A = Element × Span} _ f (sym there ∙ e)

pub raw_iff : (octets : List ℕ) (b : Bool) → b ≡ is_raw octets → IsTrue b ↔ IsRaw octets
raw_iff octets b e = (λ t. is_raw_sound octets (sym e ∙ t), λ r. e ∙ is_raw_complete octets r)

pub integer_valid : {X : Type 0} (octets_of : X → List ℕ) (e : Element) (r : Result X Fault) → Gives octets_of r (integer_at e)
    → IfOk r (λ x. (octets_of x ≡ e.content.octets) × IsInteger (octets_of x))
unfolding integer_at
integer_valid octets_of e (Ok x) h =
    elim (chosen (is_integer e.content.octets) _ _ (Ok (octets_of x)) h) [
      | inl k ↦ let same = ok_is e.content.octets (octets_of x) k.1 in (sym same, subst IsInteger same (is_integer_sound e.content.octets k.0))
      | inr k ↦ absurd cc
    ]
integer_valid octets_of e (Err f) h = tt

pub integer_invalid : {X : Type 0} (octets_of : X → List ℕ) (e : Element) (r : Result X Fault) → Gives octets_of r (integer_at e)
    → IfErr r (λ f. (f.reason ≡ BadInteger) × (f.place ≡ e.place) × (IsInteger e.content.octets → ⊥))
unfolding integer_at
integer_invalid octets_of e (Ok x) h = tt
integer_invalid octets_of e (Err f) h =
    elim (chosen (is_integer e.content.octets) _ _ (Err f) h) [
      | inl k ↦ absurd cc
      | inr k ↦ let same = err_is {A = List ℕ} (fault BadInteger e.place) f k.1 in
          (sym (ap (λ (x : Fault). x.reason) same), sym (ap (λ (x : Fault). x.place) same), λ i. let t : true ≡ false = sym (is_integer_complete e.content.octets i) ∙ k.0 in cc)
    ]

-- ---- a required element of any tag

pub any_found : (s : Span) (r : Next) → Gives seen r (some_at s) → IfOk r (λ x. FindsElement s (element x.0) (span x.1))
any_found s (Ok x) e = some_sound s (seen x) e
any_found s (Err f) e = tt

pub any_only : (s : Span) (r : Next) → Gives seen r (some_at s) → (tag content octets rest : List ℕ) → IsElement tag content octets → s.octets ≡ octets ++ rest
    → IsOkAnd r (λ x. (x.0.tag.octets.now ≡ tag) × (x.0.content.octets.now ≡ content) × (x.1.octets.now ≡ rest))
any_only s (Ok x) e tag content octets rest h joined =
    let there = ap (λ (o : List ℕ). some_at (record { octets = o; place = s.place })) joined ∙ some_complete s.place tag content octets rest h in
    let same = ok_is (seen x) _ (sym e ∙ there) in
    (ap (λ (y : Element × Span). y.0.tag) same, ap (λ (y : Element × Span). y.0.content.octets) same, ap (λ (y : Element × Span). y.1.octets) same)
any_only s (Err f) e tag content octets rest h joined =
    let there = ap (λ (o : List ℕ). some_at (record { octets = o; place = s.place })) joined ∙ some_complete s.place tag content octets rest h in
    ok_not_err {A = Element × Span} _ f (sym there ∙ e)

pub any_faulty : (s : Span) (r : Next) → Gives seen r (some_at s) → (f : Fault) → (r ≡ Err f) ↔ (IsMissing s f.reason f.place ⊎ IsElementFault s f.reason f.place)
any_faulty s r e f = let k = gives_err seen r (some_at s) e f in (λ h. some_fault s f (k.0 h), λ w. k.1 (some_refused s f w))

-- ---- a required element of this tag

pub required_found : (tag : ℕ) (s : Span) (r : Next) → Gives seen r (required_at tag s) → IfOk r (λ x. FindsElement s (element x.0) (span x.1) × (x.0.tag.octets.now ≡ tag ∷ []))
required_found tag s (Ok x) e = required_sound tag s (seen x) e
required_found tag s (Err f) e = tt

pub required_only : (tag : ℕ) (s : Span) (r : Next) → Gives seen r (required_at tag s) → (content octets rest : List ℕ) → IsElement (tag ∷ []) content octets → s.octets ≡ octets ++ rest
    → IsOkAnd r (λ x. (x.0.content.octets.now ≡ content) × (x.1.octets.now ≡ rest))
required_only tag s (Ok x) e content octets rest h joined =
    let there = ap (λ (o : List ℕ). required_at tag (record { octets = o; place = s.place })) joined ∙ required_complete s.place tag content octets rest h in
    let same = ok_is (seen x) _ (sym e ∙ there) in
    (ap (λ (y : Element × Span). y.0.content.octets) same, ap (λ (y : Element × Span). y.1.octets) same)
required_only tag s (Err f) e content octets rest h joined =
    let there = ap (λ (o : List ℕ). required_at tag (record { octets = o; place = s.place })) joined ∙ required_complete s.place tag content octets rest h in
    ok_not_err {A = Element × Span} _ f (sym there ∙ e)

pub required_faulty : (tag : ℕ) (s : Span) (r : Next) → Gives seen r (required_at tag s)
    → (f : Fault) → (r ≡ Err f) ↔ (IsMissing s f.reason f.place ⊎ IsElementFault s f.reason f.place ⊎ IsUnexpected tag s f.reason f.place)
required_faulty tag s r e f = let k = gives_err seen r (required_at tag s) e f in (λ h. required_fault tag s f (k.0 h), λ w. k.1 (required_refused tag s f w))

pub tag_iff : (tag : ℕ) (octets : List ℕ) (b : Bool) → b ≡ is_tag tag octets → IsTrue b ↔ (octets ≡ tag ∷ [])
tag_iff tag octets b e = (λ t. is_tag-true tag octets (sym e ∙ t), λ h. e ∙ ap (is_tag tag) h ∙ is_tag-itself tag)

pub begins_iff : (tag : ℕ) (octets : List ℕ) (b : Bool) → b ≡ is_next tag octets → IsTrue b ↔ BeginsWith tag octets
begins_iff tag octets b e = (λ t. is_next-true tag octets (sym e ∙ t), λ h. e ∙ is_next-begins tag octets h)

-- ---- any element

abbrev pub NextRaw : Type 0
NextRaw = Result (RawView × Window) Fault

abbrev pub seen_raw : RawView × Window → List ℕ × Span
seen_raw x = (x.0.octets.now, span x.1)

pub raw_found : (s : Span) (r : NextRaw) → Gives seen_raw r (raw_at s)
    → IfOk r (λ x. IsRaw x.0.octets.now × (s.octets ≡ x.0.octets.now ++ x.1.octets.now) × (x.1.place ≡ s.place + length x.0.octets.now))
raw_found s (Ok x) e = raw_sound s (seen_raw x) e
raw_found s (Err f) e = tt

pub raw_only : (s : Span) (r : NextRaw) → Gives seen_raw r (raw_at s) → (octets rest : List ℕ) → IsRaw octets → s.octets ≡ octets ++ rest
    → IsOkAnd r (λ x. (x.0.octets.now ≡ octets) × (x.1.octets.now ≡ rest))
raw_only s (Ok x) e octets rest h joined =
    let there = ap (λ (o : List ℕ). raw_at (record { octets = o; place = s.place })) joined ∙ raw_complete s.place octets rest h in
    let same = ok_is (seen_raw x) _ (sym e ∙ there) in
    (ap (λ (y : List ℕ × Span). y.0) same, ap (λ (y : List ℕ × Span). y.1.octets) same)
raw_only s (Err f) e octets rest h joined =
    let there = ap (λ (o : List ℕ). raw_at (record { octets = o; place = s.place })) joined ∙ raw_complete s.place octets rest h in
    ok_not_err {A = List ℕ × Span} _ f (sym there ∙ e)

pub raw_faulty : (s : Span) (r : NextRaw) → 0 < length s.octets → Gives seen_raw r (raw_at s) → (f : Fault) → (r ≡ Err f) ↔ IsElementFault s f.reason f.place
raw_faulty s r some e f = let k = gives_err seen_raw r (raw_at s) e f in (λ h. raw_fault s f some (k.0 h), λ w. k.1 (raw_refused s f w))

-- ---- a reader of a part, and a reader of a body

pub field_found : {V X : Type 0} (part : Field V) (read : Span → Result (V × Span) Fault) → ReadsField part read → (meaning : X → V) (s : Span) (r : Result (X × Window) Fault)
    → Gives (λ x. (meaning x.0, span x.1)) r (read s) → IfOk r (λ x. Taken part s (meaning x.0) (span x.1))
field_found part read reads meaning s (Ok x) e = reads.sound s (meaning x.0) (span x.1) e
field_found part read reads meaning s (Err f) e = tt

pub field_only : {V X : Type 0} (part : Field V) (read : Span → Result (V × Span) Fault) → ReadsField part read → (meaning : X → V) (s : Span) (r : Result (X × Window) Fault)
    → Gives (λ x. (meaning x.0, span x.1)) r (read s) → (v : V) (front rest : List ℕ) → part.spells v front rest → s.octets ≡ front ++ rest
    → IsOkAnd r (λ x. (meaning x.0 ≡ v) × (x.1.octets.now ≡ rest))
field_only {V} part read reads meaning s (Ok x) e v front rest spelled joined =
    let there = ap (λ (o : List ℕ). read (record { octets = o; place = s.place })) joined ∙ reads.complete s.place v front rest spelled in
    let same = ok_is (meaning x.0, span x.1) (v, after s.place front rest) (sym e ∙ there) in
    (ap (λ (y : V × Span). y.0) same, ap (λ (y : V × Span). y.1.octets) same)
field_only {V} part read reads meaning s (Err f) e v front rest spelled joined =
    let there = ap (λ (o : List ℕ). read (record { octets = o; place = s.place })) joined ∙ reads.complete s.place v front rest spelled in
    ok_not_err {A = V × Span} _ f (sym there ∙ e)

pub field_faulty : {V X : Type 0} (part : Field V) (read : Span → Result (V × Span) Fault) → ReadsField part read → (meaning : X → V) (s : Span) (r : Result (X × Window) Fault)
    → Gives (λ x. (meaning x.0, span x.1)) r (read s) → (f : Fault) → (r ≡ Err f) ↔ part.faulty s f.reason f.place
field_faulty part read reads meaning s r e f =
    let k = gives_err (λ x. (meaning x.0, span x.1)) r (read s) e f in (λ h. reads.refuses s f (k.0 h), λ w. k.1 (reads.stops s f w))

pub body_found : {V X : Type 0} (body : Body V) (read : Element → Result V Fault) → ReadsBody body read → (meaning : X → V) (e : Element) (r : Result X Fault)
    → Gives meaning r (read e) → IfOk r (λ x. body.spells (meaning x) e.content.octets)
body_found body read reads meaning e (Ok x) h = reads.sound e (meaning x) h
body_found body read reads meaning e (Err f) h = tt

pub body_only : {V X : Type 0} (body : Body V) (read : Element → Result V Fault) → ReadsBody body read → (meaning : X → V) (e : Element) (r : Result X Fault)
    → Gives meaning r (read e) → (v : V) → body.spells v e.content.octets → IsOkAnd r (λ x. meaning x ≡ v)
body_only body read reads meaning e (Ok x) h v spelled = ok_is (meaning x) v (sym h ∙ reads.complete e v spelled)
body_only {V} body read reads meaning e (Err f) h v spelled = ok_not_err {A = V} v f (sym (reads.complete e v spelled) ∙ h)

pub body_faulty : {V X : Type 0} (body : Body V) (read : Element → Result V Fault) → ReadsBody body read → (meaning : X → V) (e : Element) (r : Result X Fault)
    → Gives meaning r (read e) → (f : Fault) → (r ≡ Err f) ↔ body.faulty e.place e.content f.reason f.place
body_faulty body read reads meaning e r h f = let k = gives_err meaning r (read e) h f in (λ x. reads.refuses e f (k.0 x), λ w. k.1 (reads.stops e f w))
