-- The heading read of octets that spell a message is that of the message.
use Rattle.std.proofs.Common.{◌≡◌, ◌≤◌, ◌<◌, ℕ, zero, suc, Bool, true, false, cond, List, [], ◌∷◌, ◌++◌, length, Option, None, Some, Result, Ok, Err, refl, sym, ap, ◌∙◌, inl, inr, arith, append_assoc}
use Rattle.std.specs.Prelude.{◌==◌, ◌&&◌}
use Rattle.std.specs.List.{flat_map, list_all}
use Rattle.std.specs.Option.{option_to_list}
use Rattle.std.specs.Str.{bytes_eq}
use Rattle.std.proofs.lemmas.Bool.{eqb-true, eqb-false}
use Rattle.std.proofs.lemmas.List.{append-nil, length-append}
use Rattle.std.proofs.lemmas.List.Folds.{list_all-append}
use Rattle.tcap_ber.specs.declared.fault.Fault.{Fault}
use Rattle.tcap_ber.specs.Grammar.{after}
use Rattle.tcap_ber.specs.Span.{Span}
use Rattle.tcap_ber.specs.Reading.{◌>>=◌, Element, end_at, is_next, is_tag, next_at, optional_at, required_at, some_at, wanted, with_body, with_some}
use Rattle.tcap_ber.proofs.ElementLaws.{element_form, element_len_at_least, next_sound}
use Rattle.tcap_ber.proofs.Steps.{bind_ok, chosen, ok_is}
use Rattle.tcap_parts.specs.declared.component.Component.{Component}
use Rattle.tcap_parts.specs.declared.dialogue.Dialogue.{Dialogue}
use Rattle.tcap_msg.specs.declared.kind.Kind.{Kind}
use Rattle.tcap_msg.specs.declared.kind.Kind.TheVariants as kinds
use Rattle.tcap_msg.specs.declared.message.Message.{Message}
use Rattle.tcap_msg.specs.declared.message.Message.TheVariants.{Unidirectional, Begin, Continue, End, Abort}
use Rattle.tcap_msg.specs.Message.{Spells, make_reason, whole}
use Rattle.tcap_msg.specs.Parts.{dtid_in, kind_in, otid_in}
use Rattle.tcap_msg.specs.Reading.{abort_at, begin_at, cause_at, component_portion_at, continue_at, dialogue_portion_at, dtid_at, end_message_at, message_in, message_of_element, otid_at, required_portion_at, unidirectional_at, unless_cause_at}
use Rattle.tcap_msg.specs.TransactionId.{is_transaction_id, transaction_id_of}
use Rattle.tcap_msg.proofs.KindLaws.{reads_message}
use Rattle.tcap_record.specs.declared.entry.End.{End as Side}
use Rattle.tcap_dialogues.specs.Course.{Heading, heading_of}
use Rattle.tcap_dialogues.specs.HeadingReading.{agreed, elements_at, elements_in, heading_at, id_under, ids_among, ids_of, kind_at, kind_of_tag, outer_content, whole_next}

-- ---- the whole elements of a window

-- The window after an element is shorter.
pub shorter : (s : Span) (x : Element × Span) → some_at s ≡ Ok x → length x.1.octets < length s.octets
unfolding some_at
shorter s x is =
    elim (chosen (length s.octets == 0) _ _ (Ok x) is) [
      | inl h ↦ absurd cc
      | inr h ↦
          let f = next_sound s x h.1 in
          omega (arith, ap length f.joined, length-append f.octets x.1.octets, element_len_at_least x.0.tag x.0.content.octets f.octets f.is_element)
    ]

-- An empty window has no element.
no_next : (s : Span) → length s.octets ≡ 0 → whole_next s ≡ None
unfolding some_at
no_next s none = rw none refl

pub next_shorter : (s : Span) (x : Element × Span) → whole_next s ≡ Some x → length x.1.octets < length s.octets
next_shorter s x is = by (some_at s) refl is
  where
    by : (r : Result (Element × Span) Fault) → some_at s ≡ r → whole_next s ≡ Some x → length x.1.octets < length s.octets
    by (Err f) read found = absurd (let e : whole_next s ≡ None = rw read refl in let wrong : None ≡ Some x = sym e ∙ found in cc)
    by (Ok y) read found =
        let e : whole_next s ≡ cond (is_tag 0 y.0.tag) None (Some y) = rw read refl in
        elim (chosen (is_tag 0 y.0.tag) None (Some y) (Some x) (sym e ∙ found)) [
          | inl h ↦ absurd (let wrong : None ≡ Some x = h.1 in cc)
          | inr h ↦ let same : y ≡ x = cc in shorter s x (read ∙ ap (λ (z : Element × Span). Ok z) same)
        ]

-- As many steps as there are octets are enough.
pub enough : (n m : ℕ) (s : Span) → length s.octets ≤ n → length s.octets ≤ m → elements_at n s ≡ elements_at m s
enough zero zero s a b = refl
enough zero (suc m) s a b = rw (no_next s (omega (arith, a))) refl
enough (suc n) zero s a b = rw (no_next s (omega (arith, b))) refl
enough (suc n) (suc m) s a b = by (λ x is. let less = next_shorter s x is in enough n m x.1 (omega (arith, a, less)) (omega (arith, b, less))) (whole_next s) refl
  where
    by : ((x : Element × Span) → whole_next s ≡ Some x → elements_at n x.1 ≡ elements_at m x.1)
        → (o : Option (Element × Span)) → whole_next s ≡ o → elements_at (suc n) s ≡ elements_at (suc m) s
    by more None is = rw is refl
    by more (Some x) is = rw is (ap (λ es. x.0 ∷ es) (more x is))

-- An element, and then those of the window after it.
pub elements_step : (s : Span) (x : Element × Span) → whole_next s ≡ Some x → elements_in s ≡ x.0 ∷ elements_in x.1
elements_step s x is = by (length s.octets) refl
  where
    less : length x.1.octets < length s.octets
    less = next_shorter s x is

    by : (n : ℕ) → length s.octets ≡ n → elements_at n s ≡ x.0 ∷ elements_in x.1
    by zero none = absurd (omega (arith, none, less))
    by (suc n) some = rw is (ap (λ es. x.0 ∷ es) (enough n (length x.1.octets) x.1 (omega (arith, some, less)) (omega arith)))

pub elements_end : (s : Span) → whole_next s ≡ None → elements_in s ≡ []
elements_end s is = by (length s.octets)
  where
    by : (n : ℕ) → elements_at n s ≡ []
    by zero = refl
    by (suc n) = rw is refl

-- ---- IDs that agree

-- If these IDs agree, they count as the first of them.
pub goes_on : (zs ys : List (List ℕ)) (o : Option (List ℕ)) → agreed zs ≡ Some o → agreed (zs ++ ys) ≡ agreed (option_to_list o ++ ys)
goes_on [] ys o is = let none : None ≡ o = cc in ap (λ o. agreed (option_to_list o ++ ys)) none
goes_on (id ∷ ids) ys o is =
    elim (chosen (list_all (bytes_eq id) ids) _ _ (Some o) is) [
      | inl h ↦
          let first : Some id ≡ o = cc in
          rw (list_all-append (bytes_eq id) ids ys, h.0) (ap (λ o. agreed (option_to_list o ++ ys)) first)
      | inr h ↦ absurd cc
    ]

-- If they don't, neither do they with others.
pub differ_on : (zs ys : List (List ℕ)) → agreed zs ≡ None → agreed (zs ++ ys) ≡ None
differ_on [] ys is = absurd cc
differ_on (id ∷ ids) ys is =
    elim (chosen (list_all (bytes_eq id) ids) _ _ None is) [
      | inl h ↦ absurd cc
      | inr h ↦ rw (list_all-append (bytes_eq id) ids ys, h.0) refl
    ]

-- One ID agrees.
pub known_only : (o : Option (List ℕ)) → agreed (option_to_list o ++ []) ≡ Some o
known_only None = refl
known_only (Some id) = refl

-- ---- elements of a message

-- A tag is only one octet.
other_tag : (a b : ℕ) (tag : List ℕ) → is_tag a tag ≡ true → (a == b) ≡ false → is_tag b tag ≡ false
other_tag a b [] is differs = absurd cc
other_tag a b (first ∷ []) is differs = let same : first ≡ a = eqb-true first a is in rw same differs
other_tag a b (first ∷ second ∷ more) is differs = refl

-- An element that must be present is the first.
required_is : (tag : ℕ) (s : Span) (x : Element × Span) → required_at tag s ≡ Ok x → (some_at s ≡ Ok x) × (is_tag tag x.0.tag ≡ true)
unfolding required_at some_at
required_is tag s x is =
    elim (chosen (length s.octets == 0) _ _ (Ok x) is) [
      | inl h ↦ absurd cc
      | inr h ↦
          let (found, first, test) = bind_ok (next_at s) (wanted tag s) x h.1 in
          elim (chosen (is_tag tag found.0.tag) _ _ (Ok x) test) [
            | inl t ↦ let same : found ≡ x = ok_is found x t.1 in
                (rw h.0 (first ∙ ap (λ (z : Element × Span). Ok z) same), ap (λ (z : Element × Span). is_tag tag z.0.tag) (sym same) ∙ t.0)
            | inr t ↦ absurd cc
          ]
    ]

-- the IDs of a sort in a window
abbrev pub ids_in : ℕ → Span → List (List ℕ)
ids_in tag s = flat_map (id_under tag) (elements_in s)

-- An element with a tag other than 00 and its neighbours.
required_step : (tag : ℕ) (s : Span) (x : Element × Span) → required_at tag s ≡ Ok x → (tag == 0) ≡ false → elements_in s ≡ x.0 ∷ elements_in x.1
required_step tag s x is some =
    let (read, has) = required_is tag s x is in
    elements_step s x (rw (read, other_tag tag 0 x.0.tag has some) refl)

-- An element with another tag has no ID of this sort.
passes : (tag t : ℕ) (s : Span) (x : Element × Span) → required_at tag s ≡ Ok x → (tag == 0) ≡ false → (tag == t) ≡ false → ids_in t s ≡ ids_in t x.1
passes tag t s x is some differs =
    rw (required_step tag s x is some, other_tag tag t x.0.tag (required_is tag s x is).1 differs) refl

-- A transaction ID is read, and the other sort is not.
record TakesId (tag : ℕ) (s : Span) (id : List ℕ) (rest : Span) : Type 0 where
  own : ids_in tag s ≡ id ∷ ids_in tag rest
  others : (t : ℕ) → (tag == t) ≡ false → ids_in t s ≡ ids_in t rest

takes_id : (tag : ℕ) (s : Span) (id : List ℕ) (rest : Span) → (required_at tag s >>= with_body transaction_id_of) ≡ Ok (id, rest)
    → (tag == 0) ≡ false → TakesId tag s id rest
unfolding transaction_id_of
takes_id tag s id rest is some =
    let (x, front, body) = bind_ok (required_at tag s) (with_body transaction_id_of) (id, rest) is in
    let (v, value, made) = bind_ok (transaction_id_of x.0) (λ v. Ok (v, x.1)) (id, rest) body in
    let same : (v, x.1) ≡ (id, rest) = ok_is {A = List ℕ × Span} (v, x.1) (id, rest) made in
    let at : x.1 ≡ rest = ap (λ (z : List ℕ × Span). z.1) same in
    let is_id : v ≡ id = ap (λ (z : List ℕ × Span). z.0) same in
    elim (chosen (is_transaction_id x.0.content.octets) _ _ (Ok v) value) [
      | inl h ↦
          let octets : x.0.content.octets ≡ id = ok_is x.0.content.octets v h.1 ∙ is_id in
          record {
            own = rw (required_step tag s x front some, (required_is tag s x front).1, h.0, octets, at) refl;
            others = λ t differs. passes tag t s x front some differs ∙ ap (ids_in t) at;
          }
      | inr h ↦ absurd cc
    ]

-- An optional part with another tag has no ID of this sort.
skips : {V : Type 0} (tag t : ℕ) (read : Element → Result V Fault) (s : Span) (x : Option V × Span) → optional_at tag read s ≡ Ok x
    → (tag == 0) ≡ false → (tag == t) ≡ false → ids_in t s ≡ ids_in t x.1
skips {V} tag t read s x is some differs =
    elim (chosen (is_next tag s.octets) _ _ (Ok x) is) [
      | inl h ↦
          let (w, whole, made) = bind_ok (required_at tag s >>= with_body read) with_some x h.1 in
          let (y, front, body) = bind_ok (required_at tag s) (with_body read) w whole in
          let (v, value, pair) = bind_ok (read y.0) (λ v. Ok (v, y.1)) w body in
          let first : (v, y.1) ≡ w = ok_is (v, y.1) w pair in
          let last : (Some w.0, w.1) ≡ x = ok_is {A = Option V × Span} (Some w.0, w.1) x made in
          passes tag t s y front some differs ∙ ap (λ (z : V × Span). ids_in t z.1) first ∙ ap (λ (z : Option V × Span). ids_in t z.1) last
      | inr h ↦ let same : (None, s) ≡ x = ok_is {A = Option V × Span} (None, s) x h.1 in ap (λ (z : Option V × Span). ids_in t z.1) same
    ]

-- Nothing is left.
ends : {W : Type 0} (t : ℕ) (w : W) (s : Span) (x : W) → end_at w s ≡ Ok x → (w ≡ x) × (ids_in t s ≡ [])
ends t w s x is =
    elim (chosen (length s.octets == 0) _ _ (Ok x) is) [
      | inl h ↦ (ok_is w x h.1, rw (elements_end s (no_next s (eqb-true (length s.octets) 0 h.0))) refl)
      | inr h ↦ absurd cc
    ]

-- After its IDs, a message has portions, and no more IDs.
record HasPortions (make : Option Dialogue → Option (List Component) → Message) (s : Span) (m : Message) : Type 0 where
  dialogue : Option Dialogue
  components : Option (List Component)
  made : make dialogue components ≡ m
  none : (t : ℕ) → (0x6B == t) ≡ false → (0x6C == t) ≡ false → ids_in t s ≡ []

portions : (make : Option Dialogue → Option (List Component) → Message) (s : Span) (m : Message)
    → (dialogue_portion_at s >>= λ d. component_portion_at d.1 >>= λ c. end_at (make d.0 c.0) c.1) ≡ Ok m
    → HasPortions make s m
unfolding dialogue_portion_at component_portion_at
portions make s m is =
    let d = bind_ok (dialogue_portion_at s) _ m is in
    let c = bind_ok (component_portion_at d.0.1) _ m d.2 in
    record {
      dialogue = d.0.0;
      components = c.0.0;
      made = (ends 0 (make d.0.0 c.0.0) c.0.1 m c.2).0;
      none = λ t dialogue component. skips 0x6B t _ s d.0 d.1 refl dialogue ∙ skips 0x6C t _ d.0.1 c.0 c.1 refl component ∙ (ends t (make d.0.0 c.0.0) c.0.1 m c.2).1;
    }

-- After its ID, an Abort has a cause or a dialogue portion, and no more IDs.
record HasReason (s : Span) (id : List ℕ) (m : Message) : Type 0 where
  cause : Option ℕ
  dialogue : Option Dialogue
  made : Abort id (make_reason cause dialogue) ≡ m
  none : (t : ℕ) → (0x4A == t) ≡ false → (0x6B == t) ≡ false → (0x6C == t) ≡ false → ids_in t s ≡ []

reason : (s : Span) (m : Message) (id : List ℕ)
    → (cause_at s >>= λ cause. unless_cause_at cause.0 cause.1 >>= λ d. end_at (Abort id (make_reason cause.0 d.0)) d.1) ≡ Ok m
    → HasReason s id m
unfolding cause_at unless_cause_at dialogue_portion_at
reason s m id is =
    let cause = bind_ok (cause_at s) _ m is in
    let d = bind_ok (unless_cause_at cause.0.0 cause.0.1) _ m cause.2 in
    record {
      cause = cause.0.0;
      dialogue = d.0.0;
      made = (ends 0 (Abort id (make_reason cause.0.0 d.0.0)) d.0.1 m d.2).0;
      none = λ t c p more. skips 0x4A t _ s cause.0 cause.1 refl c ∙ unless t cause.0.0 cause.0.1 d.0 d.1 p ∙ (ends t (Abort id (make_reason cause.0.0 d.0.0)) d.0.1 m d.2).1;
    }
  where
    unless : (t : ℕ) (cause : Option ℕ) (s : Span) (x : Option Dialogue × Span) → unless_cause_at cause s ≡ Ok x → (0x6B == t) ≡ false → ids_in t s ≡ ids_in t x.1
    unless t None s x is p = skips 0x6B t _ s x is refl p
    unless t (Some n) s x is p = let same : (None, s) ≡ x = ok_is {A = Option Dialogue × Span} (None, s) x is in ap (λ (z : Option Dialogue × Span). ids_in t z.1) same

-- Nothing is read of an entry if IDs of one sort differ.
pub own_differ : (s : Span) → agreed (ids_in 0x48 s) ≡ None → (None, None) ≡ ids_among (elements_in s)
own_differ s is = rw is refl

pub peer_differ : (s : Span) → agreed (ids_in 0x49 s) ≡ None → (None, None) ≡ ids_among (elements_in s)
peer_differ s is = by (agreed (ids_in 0x48 s)) refl
  where
    by : (o : Option (Option (List ℕ))) → agreed (ids_in 0x48 s) ≡ o → (None, None) ≡ ids_among (elements_in s)
    by None own = own_differ s own
    by (Some o) own = rw (own, is) refl

-- Else each sort has its ID.
pub both_agree : (s : Span) (o d : Option (List ℕ)) → agreed (ids_in 0x48 s) ≡ Some o → agreed (ids_in 0x49 s) ≡ Some d → (o, d) ≡ ids_among (elements_in s)
both_agree s o d own peer = rw (own, peer) refl

-- The IDs of a sort at the front and after it.
pub ids_step : (t : ℕ) (s : Span) (x : Element × Span) → whole_next s ≡ Some x → ids_in t s ≡ id_under t x.0 ++ ids_in t x.1
ids_step t s x is = rw (elements_step s x is) refl

pub ids_end : (t : ℕ) (s : Span) → whole_next s ≡ None → ids_in t s ≡ []
ids_end t s is = rw (elements_end s is) refl

-- The IDs are those of the message if no more are there.
among : (s : Span) (otid dtid : Option (List ℕ)) → ids_in 0x48 s ≡ option_to_list otid ++ [] → ids_in 0x49 s ≡ option_to_list dtid ++ []
    → (otid, dtid) ≡ ids_among (elements_in s)
among s otid dtid own peer = both_agree s otid dtid (ap agreed own ∙ known_only otid) (ap agreed peer ∙ known_only dtid)

-- The IDs of a content are those that are known, and then those of the rest.
pub known_step : (t : ℕ) (all s : Span) (x : Element × Span) (k : Option (List ℕ)) → agreed (ids_in t all) ≡ agreed (option_to_list k ++ ids_in t s)
    → whole_next s ≡ Some x → agreed (ids_in t all) ≡ agreed ((option_to_list k ++ id_under t x.0) ++ ids_in t x.1)
known_step t all s x k so is =
    so ∙ ap (λ ids. agreed (option_to_list k ++ ids)) (ids_step t s x is) ∙ ap agreed (sym (append_assoc (option_to_list k) (id_under t x.0) (ids_in t x.1)))

pub known_end : (t : ℕ) (all s : Span) (k : Option (List ℕ)) → agreed (ids_in t all) ≡ agreed (option_to_list k ++ ids_in t s) → whole_next s ≡ None
    → agreed (ids_in t all) ≡ Some k
known_end t all s k so is = so ∙ ap (λ ids. agreed (option_to_list k ++ ids)) (ids_end t s is) ∙ known_only k

-- ---- the IDs of each kind

-- the IDs of a message
abbrev ids_are : Message → Option (List ℕ) × Option (List ℕ)
ids_are m = (otid_in m, dtid_in m)

-- The content of a Begin has its originating ID.
of_begin : (s : Span) (m : Message) → begin_at s ≡ Ok m → ids_among (elements_in s) ≡ ids_are m
unfolding begin_at otid_at
of_begin s m is =
    let otid = bind_ok (otid_at s) _ m is in
    let takes = takes_id 0x48 s otid.0.0 otid.0.1 otid.1 refl in
    let parts = portions (Begin otid.0.0) otid.0.1 m otid.2 in
    sym (among s (Some otid.0.0) None (takes.own ∙ ap (λ ids. otid.0.0 ∷ ids) (parts.none 0x48 refl refl)) (takes.others 0x49 refl ∙ parts.none 0x49 refl refl))
    ∙ ap ids_are parts.made

-- The content of an End has its destination ID.
of_end : (s : Span) (m : Message) → end_message_at s ≡ Ok m → ids_among (elements_in s) ≡ ids_are m
unfolding end_message_at dtid_at
of_end s m is =
    let dtid = bind_ok (dtid_at s) _ m is in
    let takes = takes_id 0x49 s dtid.0.0 dtid.0.1 dtid.1 refl in
    let parts = portions (End dtid.0.0) dtid.0.1 m dtid.2 in
    sym (among s None (Some dtid.0.0) (takes.others 0x48 refl ∙ parts.none 0x48 refl refl) (takes.own ∙ ap (λ ids. dtid.0.0 ∷ ids) (parts.none 0x49 refl refl)))
    ∙ ap ids_are parts.made

-- The content of a Continue has both.
of_continue : (s : Span) (m : Message) → continue_at s ≡ Ok m → ids_among (elements_in s) ≡ ids_are m
unfolding continue_at otid_at dtid_at
of_continue s m is =
    let otid = bind_ok (otid_at s) _ m is in
    let dtid = bind_ok (dtid_at otid.0.1) _ m otid.2 in
    let first = takes_id 0x48 s otid.0.0 otid.0.1 otid.1 refl in
    let second = takes_id 0x49 otid.0.1 dtid.0.0 dtid.0.1 dtid.1 refl in
    let parts = portions (Continue otid.0.0 dtid.0.0) dtid.0.1 m dtid.2 in
    sym (among s (Some otid.0.0) (Some dtid.0.0)
    (first.own ∙ ap (λ ids. otid.0.0 ∷ ids) (second.others 0x48 refl ∙ parts.none 0x48 refl refl))
    (first.others 0x49 refl ∙ second.own ∙ ap (λ ids. dtid.0.0 ∷ ids) (parts.none 0x49 refl refl)))
    ∙ ap ids_are parts.made

-- The content of an Abort has its destination ID, and after it a cause or a dialogue portion.
of_abort : (s : Span) (m : Message) → abort_at s ≡ Ok m → ids_among (elements_in s) ≡ ids_are m
unfolding abort_at dtid_at
of_abort s m is =
    let dtid = bind_ok (dtid_at s) _ m is in
    let takes = takes_id 0x49 s dtid.0.0 dtid.0.1 dtid.1 refl in
    let rest = reason dtid.0.1 m dtid.0.0 dtid.2 in
    sym (among s None (Some dtid.0.0) (takes.others 0x48 refl ∙ rest.none 0x48 refl refl refl) (takes.own ∙ ap (λ ids. dtid.0.0 ∷ ids) (rest.none 0x49 refl refl refl)))
    ∙ ap ids_are rest.made

-- ---- the heading of a message

-- whether the IDs read of an element are those of the message
abbrev ReadsIds : Element → Message → Type 0
ReadsIds e m = ids_of (Some (kind_in m)) (Some e.content) ≡ ids_are m

-- the first octet gives the kind, and the content gives the IDs
record IsRead (e : Element) (m : Message) : Type 0 where
  tag : ℕ
  is : is_tag tag e.tag ≡ true
  kind : kind_of_tag tag ≡ Some (kind_in m)
  ids : ReadsIds e m

-- A Unidirectional has none.
of_unidirectional : (s : Span) (m : Message) → unidirectional_at s ≡ Ok m → (d : Option Dialogue) × (cs : List Component) × (Unidirectional d cs ≡ m)
unfolding unidirectional_at
of_unidirectional s m is =
    let dialogue = bind_ok (dialogue_portion_at s) _ m is in
    let components = bind_ok (required_portion_at dialogue.0.1) _ m dialogue.2 in
    (dialogue.0.0, components.0.0, (ends 0 (Unidirectional dialogue.0.0 components.0.0) components.0.1 m components.2).0)

-- the form of each kind of message
begin_form : (s : Span) (m : Message) → begin_at s ≡ Ok m → kind_in m ≡ kinds.Begin
unfolding begin_at
begin_form s m is = let otid = bind_ok (otid_at s) _ m is in ap kind_in (sym (portions (Begin otid.0.0) otid.0.1 m otid.2).made)

end_form : (s : Span) (m : Message) → end_message_at s ≡ Ok m → kind_in m ≡ kinds.End
unfolding end_message_at
end_form s m is = let dtid = bind_ok (dtid_at s) _ m is in ap kind_in (sym (portions (End dtid.0.0) dtid.0.1 m dtid.2).made)

continue_form : (s : Span) (m : Message) → continue_at s ≡ Ok m → kind_in m ≡ kinds.Continue
unfolding continue_at
continue_form s m is =
    let otid = bind_ok (otid_at s) _ m is in
    let dtid = bind_ok (dtid_at otid.0.1) _ m otid.2 in
    ap kind_in (sym (portions (Continue otid.0.0 dtid.0.0) dtid.0.1 m dtid.2).made)

abort_form : (s : Span) (m : Message) → abort_at s ≡ Ok m → kind_in m ≡ kinds.Abort
unfolding abort_at
abort_form s m is = let dtid = bind_ok (dtid_at s) _ m is in ap kind_in (sym (reason dtid.0.1 m dtid.0.0 dtid.2).made)

-- An element that is a message is read by its tag.
of_element : (e : Element) (m : Message) → message_of_element e ≡ Ok m → IsRead e m
of_element e m is =
    elim (chosen (is_tag 0x61 e.tag) _ _ (Ok m) is) [
      | inl h ↦ let (d, cs, made) = of_unidirectional e.content m h.1 in record { tag = 0x61; is = h.0; kind = ap (λ x. Some (kind_in x)) made; ids = rw (sym made) refl }
      | inr h ↦ elim (chosen (is_tag 0x62 e.tag) _ _ (Ok m) h.1) [
        | inl g ↦ record { tag = 0x62; is = g.0; kind = ap (λ (k : Kind). Some k) (sym (begin_form e.content m g.1)); ids = rw (begin_form e.content m g.1) (of_begin e.content m g.1) }
        | inr g ↦ elim (chosen (is_tag 0x64 e.tag) _ _ (Ok m) g.1) [
          | inl f ↦ record { tag = 0x64; is = f.0; kind = ap (λ (k : Kind). Some k) (sym (end_form e.content m f.1)); ids = rw (end_form e.content m f.1) (of_end e.content m f.1) }
          | inr f ↦ elim (chosen (is_tag 0x65 e.tag) _ _ (Ok m) f.1) [
            | inl d ↦ record { tag = 0x65; is = d.0; kind = ap (λ (k : Kind). Some k) (sym (continue_form e.content m d.1)); ids = rw (continue_form e.content m d.1) (of_continue e.content m d.1) }
            | inr d ↦ elim (chosen (is_tag 0x67 e.tag) _ _ (Ok m) d.1) [
              | inl c ↦ record { tag = 0x67; is = c.0; kind = ap (λ (k : Kind). Some k) (sym (abort_form e.content m c.1)); ids = rw (abort_form e.content m c.1) (of_abort e.content m c.1) }
              | inr c ↦ absurd cc
            ]
          ]
        ]
      ]
    ]

-- An element of one tag octet begins with it.
first_octet : (tag : ℕ) (s : Span) (x : Element × Span) → some_at s ≡ Ok x → is_tag tag x.0.tag ≡ true → kind_at s.octets ≡ kind_of_tag tag
unfolding some_at
first_octet tag s x is has =
    elim (chosen (length s.octets == 0) _ _ (Ok x) is) [
      | inl h ↦ absurd cc
      | inr h ↦
          let f = next_sound s x h.1 in
          let only = one_octet x.0.tag has in
          elim (element_form x.0.tag x.0.content.octets f.octets f.is_element) [
            | inl d ↦ ap kind_at (f.joined ∙ ap (λ o. o ++ x.1.octets) (d.joined ∙ ap (λ t. t ++ d.length_octets ++ x.0.content.octets) only))
            | inr d ↦ ap kind_at (f.joined ∙ ap (λ o. o ++ x.1.octets) (d.1.joined ∙ ap (λ t. t ++ 0x80 ∷ x.0.content.octets ++ 0 ∷ 0 ∷ []) only))
          ]
    ]
  where
    one_octet : (octets : List ℕ) → is_tag tag octets ≡ true → octets ≡ tag ∷ []
    one_octet [] is = absurd cc
    one_octet (first ∷ []) is = let same : first ≡ tag = eqb-true first tag is in rw same refl
    one_octet (first ∷ second ∷ more) is = absurd cc

content_is : (octets : List ℕ) (x : Element × Span) → some_at (whole octets) ≡ Ok x → outer_content octets ≡ Some x.0.content
content_is octets x is = rw is refl

-- a heading of which nothing is known of the trace
abbrev pub with_ids : Side → Option Kind → Option (List ℕ) × Option (List ℕ) → Heading
with_ids sender kind ids = record { sender = sender; kind = kind; otid = ids.0; dtid = ids.1; under_way = false; known = false }

-- The heading of octets that spell a message is that of the message.
pub heading_is : (sender : Side) (octets : List ℕ) (m : Message) → Spells m octets → heading_at sender octets ≡ heading_of sender m
unfolding message_in
heading_is sender octets m spelled =
    let read = ap (λ (o : List ℕ). message_in (whole o)) (sym (append-nil octets)) ∙ reads_message.complete 0 m octets [] spelled in
    let found = bind_ok (some_at (whole octets)) (with_body message_of_element) (m, after 0 octets []) read in
    let value = bind_ok (message_of_element found.0.0) (λ v. Ok (v, found.0.1)) (m, after 0 octets []) found.2 in
    let same : (value.0, found.0.1) ≡ (m, after 0 octets []) = ok_is (value.0, found.0.1) (m, after 0 octets []) value.2 in
    let is : value.0 ≡ m = ap (λ (x : Message × Span). x.0) same in
    let e = of_element found.0.0 m (value.1 ∙ ap (λ (x : Message). Ok x) is) in
    let kind : kind_at octets ≡ Some (kind_in m) = first_octet e.tag (whole octets) found.0 found.1 e.is ∙ e.kind in
    ap (λ k. with_ids sender k (ids_of k (outer_content octets))) kind
    ∙ ap (λ content. with_ids sender (Some (kind_in m)) (ids_of (Some (kind_in m)) content)) (content_is octets found.0 found.1)
    ∙ ap (with_ids sender (Some (kind_in m))) e.ids
