-- The summary of what was sent from an ID, after one more message.
use Rattle.std.proofs.Common.{◌≡◌, ◌⊎◌, inl, inr, ◌+◌, ℕ, Bool, true, false, cond, ◌||◌, List, [], ◌∷◌, ◌++◌, length, Option, Some, None, refl, sym, ap, ◌∙◌, arith}
use Rattle.std.specs.Prelude.{filter, is_some, nat_le}
use Rattle.std.specs.List.{find, list_any}
use Rattle.std.specs.Map.{lookup}
use Rattle.std.specs.BTreeMap.{BTreeMap, is_at}
use Rattle.std.specs.Option.{option_or}
use Rattle.std.proofs.lemmas.Bool.Decides.{nat_tests}
use Rattle.std.proofs.lemmas.List.{append-nil}
use Rattle.std.proofs.lemmas.List.Folds.{find-append, list_any-append}
use Rattle.tcap_msg.specs.declared.kind.Kind.{Kind as Form}
use Rattle.tcap_msg.specs.declared.kind.Kind.TheVariants as forms
use Rattle.tcap_msg.specs.declared.message.Message.{Message}
use Rattle.tcap_msg.specs.declared.message.Message.TheVariants.{Begin, Continue}
use Rattle.tcap_msg.specs.Parts.{components_in, dialogue_in, dtid_in, kind_in}
use Rattle.tcap_end.specs.Dialogue.{is_request}
use Rattle.tcap_end.specs.Table.{Table, octets_cmp}
use Rattle.tcap_refute.specs.EarlierMessages.{components_of, is_a}
use Rattle.tcap_refute.specs.Facts.{FromFact, shows_from}
use Rattle.tcap_refute.specs.KeptFacts.{from_fact_noted}
use Rattle.tcap_model.specs.SinceMark.{is_begin_with_request}
use Rattle.tcap_refute.specs.declared.sent_from_id.FromId.{FromId}
use Rattle.tcap_refute.proofs.TestLaws.{or_none}
use Rattle.tcap_faults.specs.Counts.{count}
use Rattle.tcap_faults.specs.SentToId.{is_continue_to}
use Rattle.tcap_faults.specs.declared.transaction.id_list.Ids.{Ids}
use Rattle.tcap_faults.specs.declared.transaction.sent_from_id.ContinueTallies.{ContinueTallies}
use Rattle.tcap_faults.specs.declared.transaction.sent_from_id.FirstBegin.{FirstBegin}
use Rattle.tcap_faults.specs.declared.transaction.sent_from_id.SentFrom.{SentFrom}
use Rattle.tcap_faults.specs.HalfByPeerId.{from_first, responds}
use Rattle.tcap_faults.specs.IdList.{AreIds}
use Rattle.tcap_faults.specs.History.{IsContinueTallies, IsContinueTalliesAt, IsFirstBegin, IsFrom, before_response, dtids_of}
use Rattle.tcap_faults.specs.HistoryUpdate.{AreContinueTallies, with_more}
use Rattle.tcap_faults.specs.InvokeCounts.{more_if, sum}
use Rattle.tcap_faults.specs.TallyMeaning.{IsTally}
use Rattle.tcap_faults.proofs.list_laws.OneMoreLaws.{any_more, components_more, count_kept, filter_more, ids_more, ids_same}
use Rattle.tcap_faults.proofs.transaction_laws.HistoryLookupLaws.{begin_there}
use Rattle.tcap_faults.proofs.list_laws.CountLaws.{count_last}

-- ---- one more Continue to an ID

-- Whether one of these messages, or this message, answers a request.
abbrev answered : List Message → Message → Bool
answered ms m = list_any responds ms || responds m

before_more : (ms : List Message) (m : Message)
    → before_response (ms ++ m ∷ []) ≡ before_response ms ++ cond (answered ms m) [] (m ∷ [])
before_more [] m = refl
before_more (x ∷ ms) m = grind (arith, before_more ms m)

first_more : (ms : List Message) (m : Message)
    → from_first responds (ms ++ m ∷ []) ≡ from_first responds ms ++ cond (answered ms m) (m ∷ []) []
first_more [] m = refl
first_more (x ∷ ms) m = grind (arith, first_more ms m)

module _ (table : Table) (ms : List Message) (m : Message) (old new : ContinueTallies) (was : IsContinueTallies table ms old)
    (is : new.answered ≡ (old.answered || responds m)) where
  answers : answered ms m ≡ new.answered
  answers = rw (is, was.answered) refl

  -- The request was answered, now or before.
  pub came_since : new.answered ≡ true → new.sooner ≡ old.sooner
      → IsTally table (components_of (from_first responds ms) ++ components_in m) new.since
      → IsContinueTallies table (ms ++ m ∷ []) new
  came_since so same since =
      let now : answered ms m ≡ true = answers ∙ so in
      record {
        answered = sym answers ∙ sym (any_more responds ms m);
        sooner = rw (before_more ms m, now, append-nil (before_response ms), same) was.sooner;
        since = rw (first_more ms m, now, components_more (from_first responds ms) m) since;
      }

  -- The request was not answered.
  pub came_sooner : new.answered ≡ false → new.since ≡ old.since
      → IsTally table (components_of (before_response ms) ++ components_in m) new.sooner
      → IsContinueTallies table (ms ++ m ∷ []) new
  came_sooner so same sooner =
      let now : answered ms m ≡ false = answers ∙ so in
      record {
        answered = sym answers ∙ sym (any_more responds ms m);
        sooner = rw (before_more ms m, now, components_more (before_response ms) m) sooner;
        since = rw (first_more ms m, now, append-nil (from_first responds ms), same) was.since;
      }

-- ---- kinds of messages

pub begin_only : (m : Message) → is_a forms.Begin m ≡ true
    → (is_a forms.Continue m ≡ false) × (is_begin_with_request m ≡ is_request (dialogue_in m))
begin_only (Begin otid dialogue components) is = (refl, refl)
begin_only m is = cc

pub continue_only : (m : Message) → is_a forms.Continue m ≡ true → is_a forms.Begin m ≡ false
continue_only m is = grind (arith, is)

-- The message is neither a Begin nor a Continue.
abbrev pub IsNeither : Message → Type 0
IsNeither m = (is_a forms.Begin m ≡ false) × (is_a forms.Continue m ≡ false)

-- A message of another form is neither.
pub neither : (kind : Form) (m : Message) → kind ≡ kind_in m → (kind ≡ forms.Begin → ⊥) → (kind ≡ forms.Continue → ⊥)
    → IsNeither m
neither kind (Begin otid dialogue components) is no_begin no_continue = absurd (no_begin is)
neither kind (Continue otid dtid dialogue components) is no_begin no_continue = absurd (no_continue is)
neither kind m is no_begin no_continue = (refl, refl)

-- ---- Begins

module _ {A : Type 0} (p : A → Bool) where
  find_more : (xs : List A) (x : A) → find p (xs ++ x ∷ []) ≡ option_or (find p xs) (cond (p x) (Some x) None)
  find_more xs x = find-append p xs (x ∷ []) ∙ by (find p xs)
    where
      by : (o : Option A) → option_or o (cond (p x) (Some x) None) ≡ option_or o (cond (p x) (Some x) None)
      by o = grind arith

  -- With one more Begin, there are two exactly if there was one.
  two_with_one : (xs : List A) → nat_le 2 (count p xs + 1) ≡ is_some (find p xs)
  two_with_one [] = refl
  two_with_one (x ∷ xs) = grind (arith, nat_tests, two_with_one xs)

  -- If there was none, there are no two.
  no_two : (xs : List A) → is_some (find p xs) ≡ false → nat_le 2 (count p xs) ≡ false
  no_two [] none = refl
  no_two (x ∷ xs) none = grind (arith, nat_tests, none, no_two xs)

-- ---- the notes for F2 to F7

-- The rest of the summary does not depend on them.
pub from_same : (table : Table) (ms : List Message) (old : SentFrom) → IsFrom table ms old → (first : FromId)
    → IsFrom table ms (record old { first = first })
from_same table ms old was first =
    record { begin = was.begin; twice = was.twice; continues = was.continues; to = was.to; came = was.came }

pub first_noted : (table : Table) (ms : List Message) (m : Message) (old new : FromId)
    → ((fact : FromFact) → from_fact_noted fact old ≡ list_any (shows_from table fact) ms)
    → ((fact : FromFact) → from_fact_noted fact new ≡ (from_fact_noted fact old || shows_from table fact m))
    → (fact : FromFact) → from_fact_noted fact new ≡ list_any (shows_from table fact) (ms ++ m ∷ [])
first_noted table ms m old new was outgoing fact =
    outgoing fact
    ∙ ap (λ b. b || shows_from table fact m) (was fact)
    ∙ ap (λ b. list_any (shows_from table fact) ms || b) (or_none (shows_from table fact m))
    ∙ sym (list_any-append (shows_from table fact) ms (m ∷ []))

-- ---- one more message

module _ (table : Table) (ms : List Message) (m : Message) (old : SentFrom) (was : IsFrom table ms old) where
  is_begun : is_some (find (is_a forms.Begin) ms) ≡ is_some old.begin
  is_begun = sym (begin_there table (find (is_a forms.Begin) ms) old.begin was.begin)

  -- A message that is no Begin, or that comes after one, does not change the first Begin.
  begin_stays : (is_a forms.Begin m ≡ false) ⊎ (is_some old.begin ≡ true)
      → IsFirstBegin table (find (is_a forms.Begin) (ms ++ m ∷ [])) old.begin
  begin_stays why =
      rw (find_more (is_a forms.Begin) ms m) (by (find (is_a forms.Begin) ms) old.begin was.begin why)
    where
      by : (found : Option Message) (kept : Option FirstBegin) → IsFirstBegin table found kept
          → (is_a forms.Begin m ≡ false) ⊎ (is_some kept ≡ true)
          → IsFirstBegin table (option_or found (cond (is_a forms.Begin m) (Some m) None)) kept
      by None None is (inl none) = rw none tt
      by None None is (inr some) = cc
      by (Some begin) (Some kept) is _ = is
      by None (Some kept) is _ = absurd is
      by (Some begin) None is _ = absurd is

  -- The first Begin is kept.
  begin_first : (kept : FirstBegin) → is_a forms.Begin m ≡ true → is_some old.begin ≡ false
      → IsFirstBegin table (Some m) (Some kept) → IsFirstBegin table (find (is_a forms.Begin) (ms ++ m ∷ [])) (Some kept)
  begin_first kept it none is =
      rw (find_more (is_a forms.Begin) ms m, it) (by (find (is_a forms.Begin) ms) (is_begun ∙ none))
    where
      by : (found : Option Message) → is_some found ≡ false → IsFirstBegin table (option_or found (Some m)) (Some kept)
      by None first = is
      by (Some begin) bad = cc

  -- ---- a Begin

  module _ (it : is_a forms.Begin m ≡ true) where
    no_continue : is_a forms.Continue m ≡ false
    no_continue = (begin_only m it).0

    -- A Begin changes nothing of the Continues.
    from_begin_as : (new : SentFrom) → IsFirstBegin table (find (is_a forms.Begin) (ms ++ m ∷ [])) new.begin
        → new.begun_twice ≡ is_some old.begin → new.continues ≡ old.continues → new.to ≡ old.to → new.came ≡ old.came
        → IsFrom table (ms ++ m ∷ []) new
    from_begin_as new begin twice continues to came = record {
      begin = begin;
      twice = rw (twice, count_last (is_a forms.Begin) ms m, it)
          (sym is_begun ∙ sym (two_with_one (is_a forms.Begin) ms));
      continues = count_kept (is_a forms.Continue) ms m old.continues new.continues was.continues
          (rw no_continue continues);
      to = rw (to, ids_same (is_a forms.Continue) dtid_in ms m (inl no_continue)) was.to;
      came = λ own. rw (came, filter_more (is_continue_to own) ms m, no_continue, append-nil (filter (is_continue_to own) ms))
          (was.came own);
    }

    -- A Begin after another.
    pub from_begun : is_some old.begin ≡ true → IsFrom table (ms ++ m ∷ []) (record old { begun_twice = true })
    from_begun some = from_begin_as _ (begin_stays (inr some)) (sym some) refl refl refl

    -- The first Begin.
    pub from_begin : is_some old.begin ≡ false → (kept : FirstBegin) → IsFirstBegin table (Some m) (Some kept)
        → IsFrom table (ms ++ m ∷ []) (record old { begin = Some kept })
    from_begin none kept is =
        from_begin_as _ (begin_first kept it none is)
        (was.twice ∙ no_two (is_a forms.Begin) ms (is_begun ∙ none) ∙ sym none) refl refl refl

  -- ---- a message that is no Begin

  from_other : (new : SentFrom) → is_a forms.Begin m ≡ false → new.begin ≡ old.begin
      → new.begun_twice ≡ old.begun_twice
      → new.continues ≡ more_if (is_a forms.Continue m) old.continues
      → AreIds (dtids_of (ms ++ m ∷ [])) new.to
      → ((own : List ℕ) → IsContinueTalliesAt table (filter (is_continue_to own) (ms ++ m ∷ []))
      (lookup (is_at (octets_cmp own)) new.came.entries)) → IsFrom table (ms ++ m ∷ []) new
  from_other new it begin twice continues to came = record {
    begin = rw begin (begin_stays (inl it));
    twice = rw (twice, count_last (is_a forms.Begin) ms m, it) (was.twice ∙ ap (nat_le 2) (omega arith));
    continues = count_kept (is_a forms.Continue) ms m old.continues new.continues was.continues continues;
    to = to;
    came = came;
  }

  -- Other messages are not kept.
  pub from_neither : IsNeither m → IsFrom table (ms ++ m ∷ []) old
  from_neither (no_begin, no_continue) =
      from_other old no_begin refl refl (rw no_continue refl)
      (rw (ids_same (is_a forms.Continue) dtid_in ms m (inl no_continue)) was.to)
      (λ own. rw (filter_more (is_continue_to own) ms m, no_continue, append-nil (filter (is_continue_to own) ms)) (was.came own))

  -- ---- a Continue

  module _ (it : is_a forms.Continue m ≡ true) where
    -- A Continue is counted, and its destination ID is noted.
    pub record IsContinued (new : SentFrom) : Type 0 where
      pub begin : new.begin ≡ old.begin
      pub twice : new.begun_twice ≡ old.begun_twice
      pub continues : new.continues ≡ sum old.continues 1
      pub to : AreIds (dtids_of (ms ++ m ∷ [])) new.to
      pub came : new.came ≡ old.came

    pub continued_to : (n : ℕ) (id : List ℕ) (to : Ids) → n ≡ sum old.continues 1 → dtid_in m ≡ Some id
        → AreIds (dtids_of ms ++ id ∷ []) to → IsContinued (record old { continues = n; to = to })
    continued_to n id to counted goes are = record {
      begin = refl;
      twice = refl;
      continues = counted;
      to = rw (ids_more (is_a forms.Continue) dtid_in ms m id it goes) are;
      came = refl;
    }

    pub continued_nowhere : (n : ℕ) → n ≡ sum old.continues 1 → dtid_in m ≡ None
        → IsContinued (record old { continues = n })
    continued_nowhere n counted goes = record {
      begin = refl;
      twice = refl;
      continues = counted;
      to = rw (ids_same (is_a forms.Continue) dtid_in ms m (inr goes)) was.to;
      came = refl;
    }

    -- The Continue is kept at its destination ID.
    pub from_continue : (new : SentFrom) (came : BTreeMap (List ℕ) ContinueTallies) → IsContinued new
        → AreContinueTallies table (with_more dtid_in m (λ own. filter (is_continue_to own) ms)) came
        → IsFrom table (ms ++ m ∷ []) (record new { came = came })
    from_continue new came is are =
        from_other (record new { came = came }) (continue_only m it) is.begin is.twice (rw it is.continues) is.to
        (λ own. rw (filter_more (is_continue_to own) ms m, it) (are own))
