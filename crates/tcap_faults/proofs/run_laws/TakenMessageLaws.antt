-- What a message that is taken from the channel adds to what a half may have heard.
use Rattle.std.proofs.Common.{◌≡◌, ◌≤◌, ◌+◌, arith, ℕ, Bool, true, false, cond, List, [], ◌∷◌, ◌++◌, Option, Some, refl, sym, ap, subst, ◌∙◌}
use Rattle.std.specs.Prelude.{filter, ◌||◌}
use Rattle.std.specs.List.{list_any}
use Rattle.std.proofs.lemmas.List.{append-nil}
use Rattle.std.proofs.lemmas.List.Elements.{filter-append}
use Rattle.tcap_parts.specs.declared.component.Component.{Component}
use Rattle.tcap_parts.specs.declared.dialogue.Dialogue.{Dialogue}
use Rattle.tcap_msg.specs.declared.kind.Kind.TheVariants as forms
use Rattle.tcap_msg.specs.declared.message.Message.{Message}
use Rattle.tcap_msg.specs.declared.message.Message.TheVariants.{Begin, Continue}
use Rattle.tcap_msg.specs.Parts.{components_in, otid_in}
use Rattle.tcap_record.specs.declared.entry.End.{End as Side}
use Rattle.tcap_end.specs.declared.half.Slot.TheVariants.{Begun, Accepted}
use Rattle.tcap_end.specs.End.{is_id}
use Rattle.tcap_model.specs.World.{Item}
use Rattle.tcap_refute.specs.EarlierMessages.{is_a}
use Rattle.tcap_model.specs.SinceMark.{is_begin_with_request}
use Rattle.tcap_end.proofs.FoundLaws.{is_that_id}
use Rattle.tcap_faults.specs.Counts.{count}
use Rattle.tcap_faults.specs.HalfByPeerId.{from_first, responds}
use Rattle.tcap_faults.specs.SentToId.{begin_from, is_continue_to}
use Rattle.tcap_faults.proofs.story_laws.Stories.{continues_to, from, incoming_behind, may_have_incoming}
use Rattle.tcap_faults.proofs.run_laws.MayHearLaws.{count_in, count_in_append, count_in_one}

-- ---- one more message

-- The second messages have the components of the first and of this message.
abbrev pub HaveThatToo : Message → List Message → List Message → Type 0
HaveThatToo m xs ys = (p : Component → Bool) → count_in p xs + count p (components_in m) ≤ count_in p ys

too_behind : (m : Message) (xs : List Message) → HaveThatToo m xs (xs ++ m ∷ [])
too_behind m xs p =
    let all = count_in_append p xs (m ∷ []) in
    let one = count_in_one p m in omega arith

too_among : (m : Message) (front xs ys : List Message) → HaveThatToo m xs ys → HaveThatToo m (front ++ xs) (front ++ ys)
too_among m front xs ys has p =
    let here = has p in
    let left = count_in_append p front xs in
    let right = count_in_append p front ys in omega arith

-- One more message that passes both tests.
both_more : (p q : Message → Bool) (xs : List Message) (m : Message) → p m ≡ true → q m ≡ true
    → filter q (filter p (xs ++ m ∷ [])) ≡ filter q (filter p xs) ++ m ∷ []
both_more p q xs m first second =
    ap (filter q) (filter-append p xs (m ∷ []) ∙ ap (λ more. filter p xs ++ more) (one p first))
    ∙ filter-append q (filter p xs) (m ∷ [])
    ∙ ap (λ more. filter q (filter p xs) ++ more) (one q second)
  where
    one : (t : Message → Bool) → t m ≡ true → filter t (m ∷ []) ≡ m ∷ []
    one t passes = rw passes refl

none_more : (p q : Message → Bool) (xs : List Message) (m : Message) → (p m ≡ true → q m ≡ false)
    → filter q (filter p (xs ++ m ∷ [])) ≡ filter q (filter p xs)
none_more p q xs m fails =
    ap (filter q) (filter-append p xs (m ∷ [])) ∙ filter-append q (filter p xs) (filter p (m ∷ []))
    ∙ ap (λ more. filter q (filter p xs) ++ more) (none (p m) refl)
    ∙ append-nil (filter q (filter p xs))
  where
    none : (b : Bool) → p m ≡ b → filter q (cond b (m ∷ []) []) ≡ []
    none true is = rw (fails is) refl
    none false is = refl

-- If a message passes, those from the first that passes on end with the new message.
first_more : (p : Message → Bool) (xs : List Message) (m : Message) → list_any p (xs ++ m ∷ []) ≡ true
    → from_first p (xs ++ m ∷ []) ≡ from_first p xs ++ m ∷ []
first_more p [] m is = grind (arith, is)
first_more p (x ∷ xs) m is = grind (arith, is, first_more p xs m)

pub itself : (id : List ℕ) → is_id id (Some id) ≡ true
itself id = is_that_id id (Some id) refl

module _ (side : Side) (items : List Item) (gone : List Message) where
  -- A Begin that is taken may have been heard by a half with its peer.
  pub incoming_begin_too : (otid : List ℕ) (dialogue : Option Dialogue) (components : Option (List Component))
      (own : Option (List ℕ)) (p : Component → Bool)
      → count p (components_in (Begin otid dialogue components))
      ≤ count_in p (may_have_incoming side items (gone ++ Begin otid dialogue components ∷ []) Accepted own (Some otid))
  incoming_begin_too otid dialogue components own p =
      let begins = both_more (λ n. is_id otid (otid_in n)) (is_a forms.Begin) gone m (itself otid) refl in
      let front = filter (is_a forms.Begin) (from otid gone) in
      let all = count_in_append p (filter (is_a forms.Begin) (from otid (gone ++ m ∷ [])))
      (continues_to otid (gone ++ m ∷ []) own) in
      let same = ap (count_in p) begins in
      let here = too_behind m front p in omega arith
    where
      m : Message
      m = Begin otid dialogue components

  module _ (otid own : List ℕ) (dialogue : Option Dialogue) (components : Option (List Component)) where
    abbrev pub goes : Message
    goes = Continue otid own dialogue components

    -- A Continue that is taken may have been heard by an accepted half.
    pub incoming_goes_too : HaveThatToo goes (may_have_incoming side items gone Accepted (Some own) (Some otid))
        (may_have_incoming side items (gone ++ goes ∷ []) Accepted (Some own) (Some otid))
    incoming_goes_too =
        rw (
          none_more (λ n. is_id otid (otid_in n)) (is_a forms.Begin) gone goes (λ is. refl),
          both_more (λ n. is_id otid (otid_in n)) (is_continue_to own) gone goes (itself otid) (itself own),
        )
        (too_among goes (filter (is_a forms.Begin) (from otid gone)) (continues_to otid gone (Some own)) _
        (too_behind goes (continues_to otid gone (Some own))))

    -- The Continues before it.
    abbrev pub before : List Message
    before = continues_to otid gone (Some own)

    pub more_before : continues_to otid (gone ++ goes ∷ []) (Some own) ≡ before ++ goes ∷ []
    more_before = both_more (λ n. is_id otid (otid_in n)) (is_continue_to own) gone goes (itself otid) (itself own)

    -- A Continue that is taken may have been heard by a begun half, if its dialogue request was answered.
    pub incoming_back_too : (begin : Message) → begin_from side own items ≡ Some begin
        → (is_begin_with_request begin ≡ true → list_any responds (before ++ goes ∷ []) ≡ true)
        → HaveThatToo goes (may_have_incoming side items gone Begun (Some own) (Some otid))
        (may_have_incoming side items (gone ++ goes ∷ []) Begun (Some own) (Some otid))
    incoming_back_too begin found answered =
        rw found
        (subst (λ (ms : List Message). HaveThatToo goes (incoming_behind (Some begin) before) (incoming_behind (Some begin) ms))
        (sym more_before) (by (is_begin_with_request begin) answered))
      where
        by : (b : Bool) → (b ≡ true → list_any responds (before ++ goes ∷ []) ≡ true)
            → HaveThatToo goes (cond b (from_first responds before) before)
            (cond b (from_first responds (before ++ goes ∷ [])) (before ++ goes ∷ []))
        by true is = rw (first_more responds before goes (is refl)) (too_behind goes (from_first responds before))
        by false is = too_behind goes before
