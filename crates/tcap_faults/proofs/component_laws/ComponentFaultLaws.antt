-- The loops over the components of a message find the first component with each kind.
use Rattle.std.proofs.Common.{◌≡◌, ℕ, suc, ℤ, ◌+◌, ◌≤◌, arith, Bool, true, false, cond, List, [], ◌∷◌, ◌++◌, length, filter, Option, Some, None, is_some, length-append, int_cmp, refl, sym, ap, ap₂, ◌∙◌}
use Rattle.std.specs.Option.{option_or}
use Rattle.std.specs.Prelude.{◌||◌, map, option_to_list}
use Rattle.std.specs.BTreeSet.{BTreeSet, contains}
use Rattle.std.specs.List.{list_any}
use Rattle.std.proofs.lemmas.List.Folds.{list_any-append}
use Rattle.std.proofs.lemmas.List.{append-nil, append_assoc}
use Rattle.tcap_parts.specs.declared.component.Component.{Component}
use Rattle.tcap_parts.specs.declared.component.Component.TheVariants.{Invoke, Reject}
use Rattle.tcap_end.specs.Table.{Table}
use Rattle.tcap_refute.specs.declared.kind.Kind.{Kind}
use Rattle.tcap_refute.specs.declared.kind.Kind.TheVariants as kinds
use Rattle.tcap_refute.specs.EarlierMessages.{invokes, is_reject}
use Rattle.tcap_faults.specs.Components.{has_component, invokes_again, is_linked}
use Rattle.tcap_faults.specs.Counts.{count}
use Rattle.tcap_refute.specs.FirstComponent.{first_where}
use Rattle.tcap_faults.proofs.list_laws.CountLaws.{count_both}
use Rattle.tcap_refute.proofs.TestLaws.{or_none}
use Rattle.tcap_faults.specs.ComponentKinds.{answers_again, invokes_busy, links_badly, may_reject_answer, rejects_wrongly}
use Rattle.tcap_faults.specs.HalfByPeerId.{HalfMessages}
use Rattle.tcap_faults.specs.declared.component.component_faults.ComponentFaults.{ComponentFaults}
use Rattle.tcap_faults.specs.declared.dialogue.half.Half.{Half}
use Rattle.tcap_faults.specs.declared.component.tally.Tally.{Tally}
use Rattle.tcap_faults.specs.InvokeCounts.{AreFew, both_tallied, tallied}
use Rattle.tcap_faults.specs.TallyMeaning.{IsTally, tallies_of, tally_of}
use Rattle.tcap_faults.specs.KeyedHalf.{IsHalf}
use Rattle.tcap_faults.specs.KindsByCounts.{answers_again_by, counted_by, invokes_busy_by, links_badly_by, rejects_wrongly_by}
use Rattle.tcap_faults.specs.ComponentFaults.{IsFaultless, IsFirstNoted, IsWith, component_at, first_or, invokes_one_of}
use Rattle.tcap_faults.specs.FaultSubject.{alone_component, first_component_where, half_component}
use Rattle.tcap_faults.proofs.component_laws.FewSums.{count_within, few_behind, few_front, tallied_both}
use Rattle.tcap_faults.proofs.component_laws.InvokeSums.{counted_of, invokes_busy_same, links_badly_same}
use Rattle.tcap_faults.proofs.component_laws.AnswerSums.{answers_again_same}
use Rattle.tcap_faults.proofs.component_laws.RejectSums.{rejects_wrongly_same}

-- ---- a part of few components is few

few_split : (outgoing own left all : List Component) → own ++ left ≡ all → AreFew (outgoing ++ all)
    → AreFew ((outgoing ++ own) ++ left)
few_split outgoing own left all whole few = rw (append_assoc outgoing own left, whole) few

-- ---- the first component

or_nothing : {A : Type 0} (o : Option A) → option_or o None ≡ o
or_nothing o = grind arith

-- A component that is found now comes before those that are left.
first_else : (old : Option ℕ) (now : Bool) (number : ℕ) (left : Option ℕ)
    → option_or (first_or old now number) left ≡ option_or old (cond now (Some number) left)
first_else old now number left = grind arith

-- There is a first component exactly if one passes.
pub some_component : (is_so : List Component → List Component → Component → Bool) (number : ℕ) (own before cs : List Component)
    → is_some (first_component_where is_so number own before cs) ≡ has_component is_so own before cs
some_component is_so number own before [] = refl
some_component is_so number own before (c ∷ more) =
    grind (arith, some_component is_so (number + 1) (own ++ c ∷ []) (before ++ c ∷ []) more)

-- ---- the Rejects of a message

-- As many pass a test among those that pass a weaker test as among all.
count_among : (p q : Component → Bool) → ((c : Component) → p c ≡ true → q c ≡ true) → (cs : List Component)
    → count p (filter q cs) ≡ count p cs
count_among p q weaker [] = refl
count_among p q weaker (c ∷ cs) = grind (arith, weaker c, count_among p q weaker cs)

a_reject : (id : ℤ) (c : Component) → may_reject_answer id c ≡ true → is_reject c ≡ true
a_reject id c is = grind (arith, is)

-- The Rejects of the message decide whether an ID is in use.
module _ (table : Table) (h : HalfMessages) (outgoing cs own before : List Component) where
  as_many : (id : ℤ) → count (may_reject_answer id) (outgoing ++ filter is_reject cs) ≡ count (may_reject_answer id) (outgoing ++ cs)
  as_many id =
      count_both (may_reject_answer id) outgoing (filter is_reject cs)
      ∙ ap (λ n. count (may_reject_answer id) outgoing + n) (count_among (may_reject_answer id) is_reject (a_reject id) cs)
      ∙ sym (count_both (may_reject_answer id) outgoing cs)

  busy_by_rejects : (c : Component)
      → invokes_busy table h (outgoing ++ filter is_reject cs) own before c ≡ invokes_busy table h (outgoing ++ cs) own before c
  busy_by_rejects (Invoke id linked code parameter) = rw (as_many id) refl
  busy_by_rejects c = refl

few_rejects : (outgoing cs : List Component) → AreFew (outgoing ++ cs) → AreFew (outgoing ++ filter is_reject cs)
few_rejects outgoing cs few =
    let a = length-append outgoing cs in
    let b = length-append outgoing (filter is_reject cs) in
    let c : length (filter is_reject cs) ≤ length cs = count_within is_reject cs in
    omega (arith, few, a, b, c)

-- The loop that counts Rejects: those so far are counted.
pub record AreRejects (table : Table) (all left : List Component) (kept : Tally) : Type 0 where
  pub done : List Component
  pub noted : IsTally table done kept
  pub whole : done ++ filter is_reject left ≡ filter is_reject all

module _ (table : Table) (all : List Component) where
  pub no_rejects : (kept : Tally) → IsTally table [] kept → AreRejects table all all kept
  no_rejects kept is = record { done = []; noted = is; whole = refl }

  module _ (here left : List Component) (c : Component) (old : Tally) (are : AreRejects table all here old)
      (next : here ≡ c ∷ left) where
    pub one_reject : (new : Tally) → is_reject c ≡ true → IsTally table (are.done ++ c ∷ []) new → AreRejects table all left new
    one_reject new is noted = record {
      done = are.done ++ c ∷ [];
      noted = noted;
      whole =
          append_assoc are.done (c ∷ []) (filter is_reject left)
          ∙ ap (λ cs. are.done ++ cs)
          (sym (ap (filter is_reject) next ∙ ap (λ b. cond b (c ∷ filter is_reject left) (filter is_reject left)) is))
          ∙ are.whole;
    }

-- ---- what is counted

-- The counts from a half, a tally of the components before one, and a tally of all Rejects.
module _ (table : Table) (h : HalfMessages) (half : Half) (tally rejects : Tally) (own cs : List Component)
    (is : IsHalf table h half) (is_own : IsTally table own tally)
    (are_rejects : IsTally table (filter is_reject cs) rejects) where
  outgoing_with : (more : List Component) (kept : Tally) → IsTally table more kept → AreFew (h.outgoing ++ more)
      → both_tallied (tallies_of (map (λ b. b.now) half.outgoing.items)) (tally_of kept) ≡ tallied table (h.outgoing ++ more)
  outgoing_with more kept are few =
      ap₂ both_tallied (is.outgoing (few_front h.outgoing more few)) (are (few_behind h.outgoing more few))
      ∙ tallied_both table h.outgoing more few

  counted_same : AreFew h.incoming → AreFew h.invoked → AreFew (h.outgoing ++ own) → AreFew (h.outgoing ++ cs)
      → counted_by half tally rejects ≡ counted_of table h (h.outgoing ++ filter is_reject cs) (h.outgoing ++ own) own
  counted_same few_incoming few_invoked few few_all = λ i. record {
    incoming = is.incoming few_incoming i;
    invoked = is.invoked few_invoked i;
    outgoing = outgoing_with own tally is_own few i;
    own = is_own (few_behind h.outgoing own few) i;
    all_outgoing = outgoing_with (filter is_reject cs) rejects are_rejects (few_rejects h.outgoing cs few_all) i;
  }

-- ---- over a half

-- The component that was found so far, or else the first among those left, is the first of all.
abbrev IsFoundSo : (List Component → List Component → Component → Bool) → List Component → List Component → List Component
    → List Component → ℕ → Option ℕ → Type 0
IsFoundSo is_so outgoing all own left number found =
    option_or found (first_component_where is_so number own (outgoing ++ own) left) ≡ first_component_where is_so 0 [] outgoing all

pub record IsSoFar (table : Table) (h : HalfMessages) (all own left : List Component) (number : ℕ) (found : ComponentFaults) : Type 0 where
  pub busy : IsFoundSo (invokes_busy table h (h.outgoing ++ all)) h.outgoing all own left number found.busy
  pub badly_linked : IsFoundSo (links_badly table h) h.outgoing all own left number found.badly_linked
  pub answered_already : IsFoundSo (answers_again table h) h.outgoing all own left number found.answered_already
  pub wrongly_rejected : IsFoundSo (rejects_wrongly table h) h.outgoing all own left number found.wrongly_rejected

-- The loop over the components: those before the last are counted.
pub record IsReached (table : Table) (half : Half) (all left : List Component) (last : Option Component) (own : Tally)
    (number : ℕ) (found : ComponentFaults) : Type 0 where
  pub done : List Component
  pub noted : IsTally table done own
  pub whole : (done ++ option_to_list last) ++ left ≡ all
  pub counted : number + length left ≡ length all
  pub so_far : (h : HalfMessages) → IsHalf table h half → AreFew h.incoming → AreFew h.invoked → AreFew (h.outgoing ++ all)
      → IsSoFar table h all (done ++ option_to_list last) left number found

-- Before the loop, nothing is found.
pub none_found : (table : Table) (half : Half) (all : List Component) (own : Tally) (found : ComponentFaults)
    → IsTally table [] own → IsFaultless found → IsReached table half all all None own 0 found
none_found table half all own found is none = record {
  done = [];
  noted = is;
  whole = refl;
  counted = omega arith;
  so_far = λ h is few_incoming few_invoked few. record {
    busy = rw (none.busy, append-nil h.outgoing) refl;
    badly_linked = rw (none.badly_linked, append-nil h.outgoing) refl;
    answered_already = rw (none.answered_already, append-nil h.outgoing) refl;
    wrongly_rejected = rw (none.wrongly_rejected, append-nil h.outgoing) refl;
  };
}

-- One more component, for one kind.
one_found : (is_so : List Component → List Component → Component → Bool) (outgoing all own left : List Component) (c : Component)
    (number : ℕ) (old new : Option ℕ) (now : Bool) → new ≡ first_or old now number → now ≡ is_so own (outgoing ++ own) c
    → IsFoundSo is_so outgoing all own (c ∷ left) number old
    → IsFoundSo is_so outgoing all (own ++ c ∷ []) left (number + 1) new
one_found is_so outgoing all own left c number old new now is_new is_now is =
    rw (is_new, is_now, ← append_assoc outgoing own (c ∷ []))
    (first_else old (is_so own (outgoing ++ own) c) number _ ∙ is)

module _ (table : Table) (h : HalfMessages) (half : Half) (tally rejects : Tally) (kept : IsHalf table h half)
    (few_incoming : AreFew h.incoming) (few_invoked : AreFew h.invoked) (all own left : List Component) (c : Component)
    (noted : IsTally table own tally) (are_rejects : IsTally table (filter is_reject all) rejects)
    (few_all : AreFew (h.outgoing ++ all)) (few : AreFew ((h.outgoing ++ own) ++ c ∷ left)) where
  few_own : AreFew (h.outgoing ++ own)
  few_own = few_front (h.outgoing ++ own) (c ∷ left) few

  abbrev counted : List Component
  counted = h.outgoing ++ filter is_reject all

  same : counted_by half tally rejects ≡ counted_of table h counted (h.outgoing ++ own) own
  same = counted_same table h half tally rejects own all kept noted are_rejects few_incoming few_invoked few_own few_all

  one_more_found : (number : ℕ) (old new : ComponentFaults) → IsWith table (counted_by half tally rejects) number c old new
      → IsSoFar table h all own (c ∷ left) number old → IsSoFar table h all (own ++ c ∷ []) left (number + 1) new
  one_more_found number old new is so_far = record {
    busy = one_found (invokes_busy table h (h.outgoing ++ all)) h.outgoing all own left c number _ _ _ is.busy
        (ap (λ by. invokes_busy_by by c) same
        ∙ invokes_busy_same table h few_invoked counted (h.outgoing ++ own) own c
        ∙ busy_by_rejects table h h.outgoing all own (h.outgoing ++ own) c)
        so_far.busy;
    badly_linked = one_found (links_badly table h) h.outgoing all own left c number _ _ _ is.badly_linked
        (ap (λ by. links_badly_by table by c) same
        ∙ links_badly_same table h counted (h.outgoing ++ own) own few_own c)
        so_far.badly_linked;
    answered_already = one_found (answers_again table h) h.outgoing all own left c number _ _ _ is.answered_already
        (ap (λ by. answers_again_by by c) same
        ∙ answers_again_same table h counted (h.outgoing ++ own) own few_incoming few_own c)
        so_far.answered_already;
    wrongly_rejected = one_found (rejects_wrongly table h) h.outgoing all own left c number _ _ _ is.wrongly_rejected
        (ap (λ by. rejects_wrongly_by table by c) same
        ∙ rejects_wrongly_same table h counted (h.outgoing ++ own) own few_incoming few_invoked few_own c)
        so_far.wrongly_rejected;
  }

-- One more component is judged.
pub one_reached : (table : Table) (half : Half) (tally rejects : Tally) (all here left : List Component)
    (last : Option Component) (c : Component) (was : Tally) (number : ℕ) (old new : ComponentFaults)
    (reached : IsReached table half all here last was number old) → here ≡ c ∷ left
    → IsTally table (reached.done ++ option_to_list last) tally → IsTally table (filter is_reject all) rejects
    → IsWith table (counted_by half tally rejects) number c old new
    → IsReached table half all left (Some c) tally (number + 1) new
one_reached table half tally rejects all here left last c was number old new reached next noted are_rejects is = record {
  done = own;
  noted = noted;
  whole = append_assoc own (c ∷ []) left ∙ parts;
  counted = let a = reached.counted in let b : length here ≡ 1 + length left = rw next (omega arith) in omega (arith, a, b);
  so_far = λ h kept few_incoming few_invoked few.
      one_more_found table h half tally rejects kept few_incoming few_invoked all own left c noted are_rejects few
      (few_split h.outgoing own (c ∷ left) all parts few) number old new is
      (rw next at reached.so_far h kept few_incoming few_invoked few);
}
  where
    own : List Component
    own = reached.done ++ option_to_list last

    parts : own ++ c ∷ left ≡ all
    parts = ap (λ list. own ++ list) (sym next) ∙ reached.whole

-- After the loop, all are judged.
pub all_found : (table : Table) (half : Half) (all : List Component) (last : Option Component) (own : Tally) (number : ℕ)
    (found : ComponentFaults) → IsReached table half all [] last own number found
    → (h : HalfMessages) → IsHalf table h half → AreFew h.incoming → AreFew h.invoked → AreFew (h.outgoing ++ all)
    → (kind : Kind) → component_at kind found ≡ half_component table h all kind
all_found table half all last own number found reached h kept few_incoming few_invoked few =
    grind (arith, reached.so_far h kept few_incoming few_invoked few)

-- ---- a message without destination ID

-- The faults of the components so far, and the IDs of their Invokes.
pub record IsFirstSoFar (all left : List Component) (seen : BTreeSet ℤ) (number : ℕ) (found : ComponentFaults) : Type 0 where
  pub done : List Component
  pub ids : (id : ℤ) → contains int_cmp seen id ≡ list_any (invokes id) done
  pub counted : number + length left ≡ length all
  pub busy : IsFoundSo invokes_again [] all done left number found.busy
  pub badly_linked : option_or found.badly_linked (first_where is_linked number left) ≡ first_where is_linked 0 all
  pub answered_already : found.answered_already ≡ None
  pub wrongly_rejected : found.wrongly_rejected ≡ None

pub first_none : (all : List Component) (ids : BTreeSet ℤ) (found : ComponentFaults) → ids.keys ≡ [] → IsFaultless found
    → IsFirstSoFar all all ids 0 found
first_none all ids found none is = record {
  done = [];
  ids = λ id. rw none refl;
  counted = omega arith;
  busy = rw is.busy refl;
  badly_linked = rw is.badly_linked refl;
  answered_already = is.answered_already;
  wrongly_rejected = is.wrongly_rejected;
}

invokes_seen : (ids : BTreeSet ℤ) (done : List Component)
    → ((id : ℤ) → contains int_cmp ids id ≡ list_any (invokes id) done) → (c : Component)
    → invokes_one_of ids c ≡ invokes_again done done c
invokes_seen ids done are (Invoke id linked code parameter) = are id
invokes_seen ids done are c = refl

pub first_one : (all here left : List Component) (c : Component) (ids behind : BTreeSet ℤ) (number : ℕ) (old new : ComponentFaults)
    → IsFirstNoted ids behind number c old new → here ≡ c ∷ left → IsFirstSoFar all here ids number old
    → IsFirstSoFar all left behind (number + 1) new
first_one all here left c ids behind number old new is next so_far = record {
  done = so_far.done ++ c ∷ [];
  ids = λ id. is.ids id ∙ ap (λ b. b || invokes id c) (so_far.ids id) ∙ one_behind id;
  counted = let a = so_far.counted in let b : length here ≡ 1 + length left = rw next (omega arith) in omega (arith, a, b);
  busy = one_found invokes_again [] all so_far.done left c number old.busy new.busy _ is.busy
      (invokes_seen ids so_far.done so_far.ids c) (rw next at so_far.busy);
  badly_linked = rw is.badly_linked
      (first_else old.badly_linked (is_linked c) number _ ∙ (rw next at so_far.badly_linked));
  answered_already = is.answered_already ∙ so_far.answered_already;
  wrongly_rejected = is.wrongly_rejected ∙ so_far.wrongly_rejected;
}
  where
    one_behind : (id : ℤ) → (list_any (invokes id) so_far.done || invokes id c)
        ≡ list_any (invokes id) (so_far.done ++ c ∷ [])
    one_behind id = ap (λ b. list_any (invokes id) so_far.done || b) (or_none (invokes id c))
        ∙ sym (list_any-append (invokes id) so_far.done (c ∷ []))

pub first_all : (all : List Component) (ids : BTreeSet ℤ) (number : ℕ) (found : ComponentFaults)
    → IsFirstSoFar all [] ids number found → (kind : Kind) → component_at kind found ≡ alone_component all kind
first_all all ids number found far kinds.InvokeIdBusy = sym (or_nothing found.busy) ∙ far.busy
first_all all ids number found far kinds.BadLink = sym (or_nothing found.badly_linked) ∙ far.badly_linked
first_all all ids number found far kinds.AnsweredAlready = far.answered_already
first_all all ids number found far kinds.RejectNotAllowed = far.wrongly_rejected
first_all all ids number found far kind = refl
