-- What do tests of a message show about its parts?
use Rattle.tcap_evidence_laws.proofs.Common.{◌≡◌, ◌≢◌, inl, inr, ℕ, Bool, true, false, not, List, Option, Some, None, is_none, refl, sym, ap, ◌∙◌, and_from, and_parts, eq-eqb, eqb-true, false_from_ne_true, not-true, Message, Unidirectional, Begin, Continue, EndMessage, Abort, dtid_in, kind_in, otid_in, is_id, none_is, ended_by, id_is, is_a, is_that_id, goes_elsewhere, is_cause, is_same_id, AreSame, AreDifferent}
use Rattle.tcap_msg.specs.declared.kind.Kind.{Kind as Form}
use Rattle.tcap_msg.specs.declared.kind.Kind.TheVariants as forms
use Rattle.tcap_msg.specs.Parts.{reason_cause}
use Rattle.tcap_refute.specs.EarlierMessages.{is_form}
use Rattle.tcap_evidence_laws.specs.ListedEntries.{IsEndTo}

-- The message has this form.
pub form_is : (a b : Form) → is_form a b ≡ true → b ≡ a
form_is forms.Unidirectional forms.Unidirectional is = refl
form_is forms.Begin forms.Begin is = refl
form_is forms.Continue forms.Continue is = refl
form_is forms.End forms.End is = refl
form_is forms.Abort forms.Abort is = refl
form_is a b is = cc

-- No message is a Begin and a Continue.
pub not_both : (m : Message) → is_a forms.Begin m ≡ true → is_a forms.Continue m ≡ true → ⊥
not_both m begins goes_on =
    let bad : forms.Begin ≡ forms.Continue =
    sym (form_is forms.Begin (kind_in m) begins) ∙ form_is forms.Continue (kind_in m) goes_on in cc

-- The IDs are the same.
pub one_is : (a b : Option (List ℕ)) → is_same_id a b ≡ true → AreSame a b
one_is None b is = cc
one_is (Some id) b is = (id, refl, id_is id b is)

-- The cause has this number.
pub cause_is : (n : ℕ) (o : Option ℕ) → is_cause n o ≡ true → o ≡ Some n
cause_is n None is = cc
cause_is n (Some cause) is = ap Some (eqb-true cause n is)

none_ended : (to : Option (List ℕ)) → is_same_id to None ≡ true → ⊥
none_ended None is = cc
none_ended (Some id) is = cc

apart : (id other : List ℕ) → is_id id (Some other) ≡ false → id ≢ other
apart id other isnt same = let it = is_that_id id (Some other) (ap Some (sym same)) in cc

-- The message ends the dialogue of this ID.
pub end_is : (to : Option (List ℕ)) (m : Message) → is_same_id to (ended_by m) ≡ true → IsEndTo to m
end_is to (EndMessage dtid dialogue components) is = (one_is to (Some dtid) is, inl refl)
end_is to (Abort dtid reason) is = by (is_none (reason_cause reason)) refl
  where
    by : (b : Bool) → is_none (reason_cause reason) ≡ b → IsEndTo to (Abort dtid reason)
    by true none =
        let that : is_same_id to (Some dtid) ≡ true = rw none at is in
        (one_is to (Some dtid) that, inr (refl, none_is (reason_cause reason) none))
    by false some = let bad : is_same_id to None ≡ true = rw some at is in absurd (none_ended to bad)
end_is to m is = absurd (none_ended to is)

-- The message is a Continue from the first ID to an ID other than the second.
pub elsewhere_is : (otid dtid : List ℕ) (m : Message) → goes_elsewhere otid dtid m ≡ true
    → (kind_in m ≡ forms.Continue) × (otid_in m ≡ Some otid) × AreDifferent (Some dtid) (dtid_in m)
elsewhere_is otid dtid (Continue from to dialogue components) is =
    let (same, others) = and_parts (is_id otid (Some from)) (not (is_id dtid (Some to))) is in
    (refl, id_is otid (Some from) same, (dtid, to, refl, refl, apart dtid to (not-true (is_id dtid (Some to)) others)))
elsewhere_is otid dtid m is = cc

-- ---- the converses

pub form_so : (a : Form) (m : Message) → kind_in m ≡ a → is_a a m ≡ true
form_so a m is = rw is (itself a)
  where
    itself : (f : Form) → is_form f f ≡ true
    itself forms.Unidirectional = refl
    itself f = refl

pub one_so : (a b : Option (List ℕ)) → AreSame a b → is_same_id a b ≡ true
one_so a b (id, first, second) = rw first (is_that_id id b second)

pub cause_so : (n : ℕ) (o : Option ℕ) → o ≡ Some n → is_cause n o ≡ true
cause_so n o is = rw is (eq-eqb n n refl)

pub end_so : (to : Option (List ℕ)) (m : Message) → IsEndTo to m → is_same_id to (ended_by m) ≡ true
end_so to (EndMessage dtid dialogue components) (one, end) = one_so to (Some dtid) one
end_so to (Abort dtid reason) (one, inr (abort, none)) = rw none (one_so to (Some dtid) one)
end_so to (Abort dtid reason) (one, inl end) = cc
end_so to (Unidirectional dialogue components) ((id, there, bad), end) = cc
end_so to (Begin otid dialogue components) ((id, there, bad), end) = cc
end_so to (Continue otid dtid dialogue components) (one, inl end) = cc
end_so to (Continue otid dtid dialogue components) (one, inr (abort, none)) = cc

pub elsewhere_so : (otid dtid : List ℕ) (m : Message) → kind_in m ≡ forms.Continue → otid_in m ≡ Some otid
    → AreDifferent (Some dtid) (dtid_in m) → goes_elsewhere otid dtid m ≡ true
elsewhere_so otid dtid (Continue from to dialogue components) goes of (one, other, first, second, two) =
    and_from (is_id otid (Some from)) (not (is_id dtid (Some to))) (is_that_id otid (Some from) of)
    (ap not (false_from_ne_true (is_id dtid (Some to)) same))
  where
    same : is_id dtid (Some to) ≡ true → ⊥
    same that =
        let it : Some to ≡ Some dtid = id_is dtid (Some to) that in two (cc)
elsewhere_so otid dtid m goes of two = cc
