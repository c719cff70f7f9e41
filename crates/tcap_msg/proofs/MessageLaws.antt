-- Messages are read exactly: a fault is returned if and only if it is there. Refused octets stay refused, unless they
-- were cut.
use Rattle.std.proofs.Common.{◌≡◌, ◌≢◌, ℕ, List, ◌++◌, length, take, Result, Ok, Err, refl, sym, ap, subst, ◌∙◌, inl, inr, arith, append_assoc}
use Rattle.std.proofs.lemmas.List.{take_at, length-append}
use Rattle.tcap_ber.specs.declared.fault.Fault.{Fault}
use Rattle.tcap_ber.specs.declared.fault.Reason.TheVariants as reasons
use Rattle.tcap_ber.specs.declared.element.Outer.{Outer}
use Rattle.tcap_ber.specs.declared.element.Outer.TheVariants.{Whole, Need}
use Rattle.tcap_ber.specs.Element.{IsElement}
use Rattle.tcap_ber.specs.WalkPlaces.{IsWalkFault, IsUnfinished}
use Rattle.tcap_ber.specs.Grammar.{after}
use Rattle.tcap_ber.specs.Span.{Span}
use Rattle.tcap_ber.specs.Reading.{◌>>=◌, fault, outer_at}
use Rattle.tcap_ber.proofs.Steps.{bind_ok, bind_err, ok_is, err_is, ok_not_err}
use Rattle.tcap_ber.proofs.ElementLaws.{element_len_at_least}
use Rattle.tcap_ber.proofs.FaultLaws.{refused_by}
use Rattle.tcap_ber.proofs.StayLaws.{walk_fault_stays}
use Rattle.tcap_ber.proofs.OuterLaws.{outer_whole, outer_of_element, outer_needs, outer_fault, outer_refused, whole_is}
use Rattle.tcap_msg.specs.declared.message.Message.{Message}
use Rattle.tcap_msg.specs.Message.{Spells, message, whole, IsFaulty, BeginsNoMessage, IsNeverMessage}
use Rattle.tcap_msg.specs.Reading.{message_in, with_len, in_outer, message_at}
use Rattle.tcap_msg.proofs.KindLaws.{reads_message}

-- the next step of a chain, after the value of the first
chained : {A B : Type 0} (r : Result A Fault) (x : A) (f : A → Result B Fault) (y : Result B Fault) → r ≡ Ok x → f x ≡ y → (r >>= f) ≡ y
chained r x f y e h = ap (λ q. q >>= f) e ∙ h

chained_err : {A B : Type 0} (r : Result A Fault) (f : A → Result B Fault) (g : Fault) → r ≡ Err g → (r >>= f) ≡ Err g
chained_err r f g e = ap (λ q. q >>= f) e

counted : (r : Result (Message × Span) Fault) (n : ℕ) (x : Message × ℕ) → (r >>= with_len n) ≡ Ok x
    → (rest : Span) × (r ≡ Ok (x.0, rest)) × (x.1 ≡ n)
counted r n x e =
    let a = bind_ok r (with_len n) x e in
    let same : (a.0.0, n) ≡ x = ok_is (a.0.0, n) x a.2 in
    (a.0.1, a.1 ∙ ap (λ (y : Message × ℕ). Ok (y.0, a.0.1)) same, sym (ap (λ (y : Message × ℕ). y.1) same))

counted_err : (r : Result (Message × Span) Fault) (n : ℕ) (f : Fault) → (r >>= with_len n) ≡ Err f → r ≡ Err f
counted_err r n f e =
    elim (bind_err r (with_len n) f e) [
      | inl h ↦ h
      | inr a ↦ absurd cc
    ]

outer_ok : (x y : Outer) → (let a : Result Outer Fault = Ok x in a) ≡ Ok y → x ≡ y
outer_ok x y e = cc

pub message_sound : (octets : List ℕ) (x : Message × ℕ) → message_at octets ≡ Ok x → (front rest : List ℕ) × (octets ≡ front ++ rest) × (x.1 ≡ length front) × Spells x.0 front
unfolding message_at
message_sound octets x e =
    let a = bind_ok (outer_at octets) (in_outer octets) x e in
    of_outer a.0 a.1 a.2
  where
    of_outer : (o : Outer) → outer_at octets ≡ Ok o → in_outer octets o ≡ Ok x → (front rest : List ℕ) × (octets ≡ front ++ rest) × (x.1 ≡ length front) × Spells x.0 front
    of_outer (Need n) a b = absurd cc
    of_outer (Whole n) a b =
        let c = counted (message_in (whole octets)) n x b in
        let t = reads_message.sound (whole octets) x.0 c.0 c.1 in
        let len = outer_of_element t.is_part.tag t.is_part.content t.front c.0.octets t.is_part.is_element in
        let same : n ≡ length t.front = whole_is n (length t.front) (outer_ok (Whole n) (Whole (length t.front)) (sym a ∙ ap outer_at t.joined ∙ len)) in
        (t.front, c.0.octets, t.joined, c.2 ∙ same, t.is_part)

pub message_complete : (m : Message) (front rest : List ℕ) → Spells m front → message_at (front ++ rest) ≡ Ok (m, length front)
unfolding message_at
message_complete m front rest spelled =
    rw (outer_of_element spelled.tag spelled.content front rest spelled.is_element)
    (chained (message_in (whole (front ++ rest))) (m, after 0 front rest) (with_len (length front)) (Ok (m, length front)) (reads_message.complete 0 m front rest spelled) refl)

pub message_refused : (octets : List ℕ) (f : Fault) → message_at octets ≡ Err f → IsFaulty octets f.reason f.place
unfolding message_at
message_refused octets f e =
    elim (bind_err (outer_at octets) (in_outer octets) f e) [
      | inl h ↦ inr (inl (outer_fault octets f h))
      | inr a ↦ of_outer a.0 a.1 a.2
    ]
  where
    of_outer : (o : Outer) → outer_at octets ≡ Ok o → in_outer octets o ≡ Err f → IsFaulty octets f.reason f.place
    of_outer (Need n) a b =
        subst (λ (g : Fault). IsFaulty octets g.reason g.place) (err_is {A = Message × ℕ} (fault reasons.Cut (length octets)) f b)
        (inl (refl, refl, (outer_needs octets n a).unfinished))
    of_outer (Whole n) a b =
        let here = outer_whole octets n a in
        elim (reads_message.refuses (whole octets) f (counted_err (message_in (whole octets)) n f b)) [
          | inl missing ↦ let some = element_len_at_least here.tag here.content here.element here.is_element in
              absurd (omega (arith, some, ap length missing.ends, ap length here.joined, length-append here.element here.rest))
          | inr h ↦ elim h [
            | inl wrong ↦ elim wrong.2 [
              | inl k ↦ let at : wrong.0 ≡ f.place = omega (arith, wrong.1) in inr (inl (subst (IsWalkFault octets f.reason) at k))
              | inr k ↦ absurd (k.2.no_element here.tag here.content here.element here.rest here.is_element here.joined)
            ]
            | inr k ↦ inr (inr k)
          ]
        ]

-- octets that end before their outer element does are Cut
cut_stops : (octets : List ℕ) → IsUnfinished octets → message_at octets ≡ Err (fault reasons.Cut (length octets))
unfolding message_at
cut_stops octets u = of_outer (outer_at octets) refl
  where
    of_outer : (r : Result Outer Fault) → outer_at octets ≡ r → (r >>= in_outer octets) ≡ Err (fault reasons.Cut (length octets))
    of_outer (Err g) e = absurd (u.no_fault g.reason g.place (outer_fault octets g e))
    of_outer (Ok (Need n)) e = refl
    of_outer (Ok (Whole n)) e =
        let here = outer_whole octets n e in
        absurd (u.no_element here.tag here.content here.element here.rest here.is_element here.joined)

-- if a whole element begins the octets, a fault of the message is returned
element_stops : (octets : List ℕ) (f : Fault) (tag content element rest : List ℕ) → IsElement tag content element → octets ≡ element ++ rest
    → message.faulty (whole octets) f.reason f.place → message_at octets ≡ Err f
unfolding message_at
element_stops octets f tag content element rest e joined wrong =
    chained (outer_at octets) (Whole (length element)) (in_outer octets) (Err f) (ap outer_at joined ∙ outer_of_element tag content element rest e)
    (chained_err (message_in (whole octets)) (with_len (length element)) f (reads_message.stops (whole octets) f wrong))

-- a fault of the octets is returned
pub message_stops : (octets : List ℕ) (f : Fault) → IsFaulty octets f.reason f.place → message_at octets ≡ Err f
unfolding message_at
message_stops octets f (inl h) = cut_stops octets h.2 ∙ refused_by f reasons.Cut (length octets) h.0 h.1
message_stops octets f (inr (inl h)) = chained_err (outer_at octets) (in_outer octets) f (outer_refused octets f.reason f.place h)
message_stops octets f (inr (inr h)) = element_stops octets f h.tag h.content h.octets h.rest h.is_element h.joined (inr (inr h))

-- octets have at most one fault
pub one_fault : (octets : List ℕ) (f g : Fault) → IsFaulty octets f.reason f.place → IsFaulty octets g.reason g.place → f ≡ g
one_fault octets f g a b = err_is {A = Message × ℕ} f g (sym (message_stops octets f a) ∙ message_stops octets g b)

-- ---- refused octets stay refused

-- two elements that begin the same octets are equal
pub one_element : (tag content element rest tag' content' element' rest' : List ℕ) → IsElement tag content element → IsElement tag' content' element'
    → element ++ rest ≡ element' ++ rest' → element ≡ element'
one_element tag content element rest tag' content' element' rest' e e' same =
    let len : length element ≡ length element' = whole_is _ _ (outer_ok (Whole (length element)) (Whole (length element'))
    (sym (outer_of_element tag content element rest e) ∙ ap outer_at same ∙ outer_of_element tag' content' element' rest' e')) in
    sym (take_at element rest (length element) refl) ∙ ap (take (length element)) same ∙ take_at element' rest' (length element) (sym len)

-- no element begins octets with a walk fault
no_element_there : (octets front rest : List ℕ) (m : Message) (f : Fault) → IsWalkFault octets f.reason f.place → Spells m front → octets ≡ front ++ rest → ⊥
no_element_there octets front rest m f wrong spelled joined =
    let refused = outer_refused octets f.reason f.place wrong in
    let whole_one = ap outer_at joined ∙ outer_of_element spelled.tag spelled.content front rest spelled.is_element in
    ok_not_err (Whole (length front)) (fault f.reason f.place) (sym whole_one ∙ refused)

-- refused octets begin with no message
pub begins_no_message : (octets : List ℕ) (f : Fault) → message_at octets ≡ Err f → BeginsNoMessage octets
begins_no_message octets f e m front rest spelled joined =
    ok_not_err (m, length front) f (sym (ap message_at joined ∙ message_complete m front rest spelled) ∙ e)

-- no front of refused octets begins with a message
cut_off : (octets : List ℕ) (f : Fault) → message_at octets ≡ Err f → (front rest : List ℕ) → octets ≡ front ++ rest → BeginsNoMessage front
cut_off octets f e front rest joined m first others spelled here =
    begins_no_message octets f e m first (others ++ rest) spelled (joined ∙ ap (λ (x : List ℕ). x ++ rest) here ∙ append_assoc first others rest)

-- unless they were cut, refused octets stay refused, no matter what follows
pub never_message : (octets : List ℕ) (f : Fault) → message_at octets ≡ Err f → f.reason ≢ reasons.Cut → IsNeverMessage octets
unfolding message_at
never_message octets f e other = record {
  going_on = λ more. elim (bind_err (outer_at octets) (in_outer octets) f e) [
    | inl h ↦ λ m front rest spelled joined. no_element_there (octets ++ more) front rest m f (walk_fault_stays octets more f.reason f.place (outer_fault octets f h)) spelled joined
    | inr a ↦ of_outer more a.0 a.1 a.2
  ];
  cut_off = cut_off octets f e;
}
  where
    of_outer : (more : List ℕ) (o : Outer) → outer_at octets ≡ Ok o → in_outer octets o ≡ Err f → BeginsNoMessage (octets ++ more)
    of_outer more (Need n) a b = absurd (other (sym (ap (λ (x : Fault). x.reason) (err_is {A = Message × ℕ} (fault reasons.Cut (length octets)) f b))))
    of_outer more (Whole n) a b = λ m front rest spelled joined.
        let here = outer_whole octets n a in
        let all : here.element ++ (here.rest ++ more) ≡ front ++ rest = sym (append_assoc here.element here.rest more) ∙ ap (λ (x : List ℕ). x ++ more) (sym here.joined) ∙ joined in
        let same = one_element here.tag here.content here.element (here.rest ++ more) spelled.tag spelled.content front rest here.is_element spelled.is_element all in
        begins_no_message octets f e m front here.rest spelled (here.joined ∙ ap (λ (x : List ℕ). x ++ here.rest) same)
