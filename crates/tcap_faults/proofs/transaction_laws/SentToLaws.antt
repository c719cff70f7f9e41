-- The summary of what was sent to an ID, after one more message.
use Rattle.std.proofs.Common.{◌≡◌, ◌⊎◌, inl, ℕ, true, false, ◌||◌, List, [], ◌∷◌, ◌++◌, Some, None, refl, ◌∙◌, arith}
use Rattle.std.specs.Prelude.{is_none}
use Rattle.std.proofs.lemmas.List.{append-nil}
use Rattle.tcap_msg.specs.declared.kind.Kind.TheVariants as forms
use Rattle.tcap_msg.specs.declared.message.Message.{Message}
use Rattle.tcap_msg.specs.declared.message.Message.TheVariants.{Continue}
use Rattle.tcap_msg.specs.Parts.{cause_in, components_in, otid_in}
use Rattle.tcap_end.specs.Table.{Table}
use Rattle.tcap_refute.specs.EarlierMessages.{components_of, is_a}
use Rattle.tcap_refute.proofs.TestLaws.{or_none}
use Rattle.tcap_faults.specs.SentToId.{is_cause}
use Rattle.tcap_faults.specs.declared.transaction.id_list.Ids.{Ids}
use Rattle.tcap_faults.specs.declared.transaction.sent_to_id.SentTo.{SentTo}
use Rattle.tcap_faults.specs.declared.component.tally.Tally.{Tally}
use Rattle.tcap_faults.specs.IdList.{AreIds}
use Rattle.tcap_faults.specs.History.{IsTo, ends, of_user, otids_of, is_end_or_abort}
use Rattle.tcap_faults.specs.HistoryUpdate.{IsCaused, IsOutgoingAdded}
use Rattle.tcap_faults.specs.TallyMeaning.{IsTally}
use Rattle.tcap_faults.proofs.list_laws.OneMoreLaws.{any_more, components_more, count_kept, filter_more, ids_more, ids_same, something}

-- ---- kinds of messages

no_continue : (m : Message) (cause : ℕ) → cause_in m ≡ Some cause → is_a forms.Continue m ≡ false
no_continue m cause is = grind (arith, is)

-- ---- one more message

module _ (table : Table) (ms : List Message) (m : Message) where
  -- A message that is no Abort of the provider is kept as the user's.
  user_more : cause_in m ≡ None → of_user (ms ++ m ∷ []) ≡ of_user ms ++ m ∷ []
  user_more none = filter_more (λ m. is_none (cause_in m)) ms m ∙ rw none refl

  user_same : (cause : ℕ) → cause_in m ≡ Some cause → of_user (ms ++ m ∷ []) ≡ of_user ms
  user_same cause it = filter_more (λ m. is_none (cause_in m)) ms m ∙ rw it (append-nil (of_user ms))

  -- The summary, with whether the message ends something.
  abbrev pub ended_more : SentTo → SentTo
  ended_more old = record old { ended = old.ended || ends m; silenced = old.silenced || is_end_or_abort m }

  -- ---- a message of the user

  module _ (old : SentTo) where
    -- The message is noted, and its originating ID if it is a Continue.
    pub record HasSpoken (new : SentTo) : Type 0 where
      pub spoke : new.spoke ≡ true
      pub from : AreIds (otids_of (ms ++ m ∷ [])) new.from
      pub refused : new.refused ≡ old.refused
      pub unknown : new.unknown ≡ old.unknown
      pub ended : new.ended ≡ old.ended
      pub silenced : new.silenced ≡ old.silenced
      pub components : new.components ≡ old.components

    pub spoke_from : (id : List ℕ) (from : Ids) → is_a forms.Continue m ≡ true → otid_in m ≡ Some id
        → AreIds (otids_of ms ++ id ∷ []) from → HasSpoken (record old { spoke = true; from = from })
    spoke_from id from it has are = record {
      spoke = refl;
      from = rw (ids_more (is_a forms.Continue) otid_in ms m id it has) are;
      refused = refl;
      unknown = refl;
      ended = refl;
      silenced = refl;
      components = refl;
    }

    pub spoke_only : (is_a forms.Continue m ≡ false) ⊎ (otid_in m ≡ None) → AreIds (otids_of ms) old.from
        → HasSpoken (record old { spoke = true })
    spoke_only why are = record {
      spoke = refl;
      from = rw (ids_same (is_a forms.Continue) otid_in ms m why) are;
      refused = refl;
      unknown = refl;
      ended = refl;
      silenced = refl;
      components = refl;
    }

    -- The components of the message are counted.
    pub outgoing : (new : SentTo) (parts : Tally) → cause_in m ≡ None → HasSpoken new
        → IsTally table (components_of (of_user ms) ++ components_in m) parts
        → IsOutgoingAdded table ms m old (record new { components = parts })
    outgoing new parts none is components = record {
      spoke = is.spoke;
      from = is.from;
      components = rw (user_more none, components_more (of_user ms) m) components;
      refused = is.refused;
      unknown = is.unknown;
      ended = is.ended;
      silenced = is.silenced;
    }

  -- ---- the whole summary

  module _ (old : SentTo) (was : IsTo table ms old) where
    -- An Abort of the provider changes its cause's fields alone.
    pub to_cause : (new : SentTo) (cause : ℕ) → cause_in m ≡ Some cause → IsCaused cause (ended_more old) new
        → IsTo table (ms ++ m ∷ []) new
    to_cause new cause it is = record {
      spoke = rw (is.spoke, user_same cause it) was.spoke;
      from = rw (is.from, ids_same (is_a forms.Continue) otid_in ms m (inl (no_continue m cause it))) was.from;
      refused = rw (is.refused, any_more (λ m. is_cause 4 (cause_in m)) ms m, it, was.refused) refl;
      unknown = count_kept (λ m. is_cause 1 (cause_in m)) ms m old.unknown new.unknown was.unknown (rw it is.unknown);
      ended = rw (is.ended, any_more ends ms m, was.ended) refl;
      silenced = rw (is.silenced, any_more is_end_or_abort ms m, was.silenced) refl;
      components = rw (is.components, user_same cause it) was.components;
    }

    -- Another message is the user's.
    pub to_user : (new : SentTo) → cause_in m ≡ None → IsOutgoingAdded table ms m (ended_more old) new
        → IsTo table (ms ++ m ∷ []) new
    to_user new none is = record {
      spoke = rw (is.spoke, user_more none, something (of_user ms) m) refl;
      from = is.from;
      refused = rw (is.refused, any_more (λ m. is_cause 4 (cause_in m)) ms m, none, was.refused) (or_none _);
      unknown = count_kept (λ m. is_cause 1 (cause_in m)) ms m old.unknown new.unknown was.unknown (rw none is.unknown);
      ended = rw (is.ended, any_more ends ms m, was.ended) refl;
      silenced = rw (is.silenced, any_more is_end_or_abort ms m, was.silenced) refl;
      components = is.components;
    }
