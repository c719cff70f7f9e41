-- The half with an ID of the peer is read correctly from what is kept.
use Rattle.std.proofs.Common.{◌≡◌, Bor, ℕ, Bool, true, false, cond, not, ◌&&◌, ◌||◌, List, [], ◌∷◌, ◌++◌, Option, Some, None, is_some, map, option_copied, refl, sym, ap, subst, ◌∙◌, arith}
use Rattle.std.specs.Prelude.{is_none}
use Rattle.std.specs.Map.{lookup}
use Rattle.std.specs.BTreeMap.{is_at}
use Rattle.std.specs.List.{find, list_any}
use Rattle.std.specs.Option.{option_to_list}
use Rattle.std.proofs.lemmas.Grind.{flat_map-append}
use Rattle.tcap_parts.specs.declared.component.Component.{Component}
use Rattle.tcap_msg.specs.declared.kind.Kind.TheVariants as forms
use Rattle.tcap_msg.specs.declared.message.Message.{Message}
use Rattle.tcap_msg.specs.declared.message.Message.TheVariants.{Continue, Abort}
use Rattle.tcap_msg.specs.Parts.{cause_in, components_in, dialogue_in, dtid_in, kind_in, otid_in, reason_cause}
use Rattle.tcap_record.specs.declared.entry.End.{End as Side}
use Rattle.tcap_record.specs.Ends.{other}
use Rattle.tcap_end.specs.End.{is_id}
use Rattle.tcap_end.specs.Table.{Table, octets_cmp}
use Rattle.tcap_model.specs.World.{Item}
use Rattle.tcap_model.specs.Run.{option_then}
use Rattle.tcap_refute.specs.EarlierMessages.{peer_sent_from, components_of, has_a, is_a, sent_by}
use Rattle.tcap_faults.specs.Counts.{is_nothing}
use Rattle.tcap_faults.specs.SentToId.{begin_from, is_cause, is_request_of, outgoing, was_refused}
use Rattle.tcap_faults.specs.declared.dialogue.half.Half.{Half}
use Rattle.tcap_faults.specs.declared.dialogue.half_origin.HalfOrigin.TheVariants.{Accepted, Begun, Refused, Unanswered}
use Rattle.tcap_faults.specs.declared.transaction.sent_from_id.ContinueTallies.{ContinueTallies}
use Rattle.tcap_faults.specs.declared.transaction.sent_from_id.FirstBegin.{FirstBegin}
use Rattle.tcap_faults.specs.declared.transaction.sent_from_id.SentFrom.{SentFrom}
use Rattle.tcap_faults.specs.declared.transaction.sent_to_id.SentTo.{SentTo}
use Rattle.tcap_faults.specs.declared.component.tally.Tally.{Tally}
use Rattle.tcap_faults.specs.KeyedHalf.{AreTallies, IsHalf}
use Rattle.tcap_faults.specs.HalfByPeerId.{HalfMessages, accepted_half, answered_from, begun_half, continued_to, from_first, incoming_continues, responds}
use Rattle.tcap_faults.specs.IdList.{ids_first}
use Rattle.tcap_faults.specs.History.{IsContinueTallies, IsContinueTalliesAt, IsFirstBegin, IsFrom, IsTo, IsToAt, before_response, of_user, otids_of, sent_from, sent_to}
use Rattle.tcap_faults.specs.HalfTallies.{IsBegunBy, IsContinueTalliesBack, continue_tallies, incoming_counted, outgoing_counted}
use Rattle.tcap_faults.specs.HalfKinds.{is_first_answer, is_wrong_in_abort, is_wrong_dialogue, is_wrong_in_continue}
use Rattle.tcap_faults.proofs.component_laws.TallySumLaws.{are_more, are_none, are_one}
use Rattle.tcap_faults.proofs.list_laws.TwoTests.{any_both}
use Rattle.tcap_faults.proofs.transaction_laws.HistoryLookupLaws.{outgoing_is}

-- ---- two tests

-- ---- what was sent to the ID

-- The Begin was refused exactly if an Abort with cause 4 was sent to its ID.
pub refused_is : (side : Side) (id : List ℕ) (items : List Item)
    → list_any (λ m. is_cause 4 (cause_in m)) (sent_to side items id) ≡ was_refused side id items
refused_is side id items =
    any_both (λ m. is_id id (dtid_in m)) (λ m. is_cause 4 (cause_in m)) (sent_by side items)

-- The first own ID is the originating ID of the first Continue.
first_outgoing : (ms : List Message) → ids_first (otids_of ms) ≡ option_then (find (is_a forms.Continue) (of_user ms)) otid_in
first_outgoing [] = refl
first_outgoing (Continue otid dtid dialogue components ∷ ms) = refl
first_outgoing (Abort dtid reason ∷ ms) = grind (arith, first_outgoing ms)
first_outgoing (m ∷ ms) = first_outgoing ms

pub first_answer : (side : Side) (id : List ℕ) (items : List Item)
    → ids_first (otids_of (sent_to side items id)) ≡ answered_from side items id
first_answer side id items =
    first_outgoing (sent_to side items id)
    ∙ ap (λ ms. option_then (find (is_a forms.Continue) ms) otid_in) (outgoing_is side items id)

-- There is a first own ID exactly if there is a Continue.
first_there : (ms : List Message)
    → is_none (option_then (find (is_a forms.Continue) ms) otid_in) ≡ not (has_a forms.Continue ms)
first_there [] = refl
first_there (Continue otid dtid dialogue components ∷ ms) = refl
first_there (m ∷ ms) = first_there ms

pub went_on : (side : Side) (id : List ℕ) (items : List Item)
    → is_none (ids_first (otids_of (sent_to side items id))) ≡ not (has_a forms.Continue (outgoing side id items))
went_on side id items = ap is_none (first_answer side id items) ∙ first_there (outgoing side id items)

-- ---- what is kept of what was sent to the ID

module _ (table : Table) (ms : List Message) (o : Option (Bor SentTo)) (at : IsToAt table ms (option_copied o)) where
  pub outgoing_there : (to : Bor SentTo) → o ≡ Some to → IsTo table ms to.now
  outgoing_there to is = (rw is at at).1

  pub outgoing_nowhere : o ≡ None → ms ≡ []
  outgoing_nowhere is = rw is at at

-- ---- Continues, divided at the first that answers

apart : (ms : List Message) → before_response ms ++ from_first responds ms ≡ ms
apart [] = refl
apart (m ∷ ms) = grind (arith, apart ms)

none_from : (ms : List Message) → is_nothing (from_first responds ms) ≡ not (list_any responds ms)
none_from [] = refl
none_from (m ∷ ms) = grind (arith, none_from ms)

-- ---- counted components

-- The tallies of the Continues to an own ID, if that is known.
abbrev pub later_of : SentFrom → Option (List ℕ) → List Tally
later_of asks None = []
later_of asks (Some own) = continue_tallies (lookup (is_at (octets_cmp own)) asks.came.entries)

module _ (table : Table) where
  both_are : (ms : List Message) (came : ContinueTallies) → IsContinueTallies table ms came
      → AreTallies table (components_of ms) (came.sooner ∷ came.since ∷ [])
  both_are ms came is =
      subst (λ (cs : List Component). AreTallies table cs (came.sooner ∷ came.since ∷ [])) all
      (are_more table _ _ came.sooner (came.since ∷ []) is.sooner (are_one table _ came.since is.since))
    where
      all : components_of (before_response ms) ++ components_of (from_first responds ms) ≡ components_of ms
      all =
          sym (flat_map-append components_in (before_response ms) (from_first responds ms))
          ∙ ap components_of (apart ms)

  came_are : (ms : List Message) (came : Option ContinueTallies) → IsContinueTalliesAt table ms came
      → AreTallies table (components_of ms) (continue_tallies came)
  came_are ms None none = rw none (are_none table)
  came_are ms (Some came) (some, is) = both_are ms came is

  -- These tallies count the Continues to the half's own ID, if that is known.
  later_are : (side : Side) (items : List Item) (id : List ℕ) (asks : SentFrom)
      → IsFrom table (sent_from (other side) items id) asks → (own : Option (List ℕ))
      → AreTallies table (components_of (continued_to side items id own)) (later_of asks own)
  later_are side items id asks is None = are_none table
  later_are side items id asks is (Some own) = came_are _ _ (is.came own)

  outgoing_are : (side : Side) (id : List ℕ) (items : List Item) (kept : Option SentTo)
      → IsToAt table (sent_to side items id) kept
      → AreTallies table (components_of (outgoing side id items)) (outgoing_counted kept)
  outgoing_are side id items None none =
      subst (λ (ms : List Message). AreTallies table (components_of ms) [])
      (ap of_user (sym none) ∙ outgoing_is side items id) (are_none table)
  outgoing_are side id items (Some kept) (some, is) =
      subst (λ (ms : List Message). AreTallies table (components_of ms) (kept.components ∷ []))
      (outgoing_is side items id) (are_one table _ kept.components is.components)

  behind : (begin : Option Message) (kept : FirstBegin) (ms : List Message) (tallies : List Tally)
      → IsFirstBegin table begin (Some kept) → AreTallies table (components_of ms) tallies
      → AreTallies table (components_of (option_to_list begin ++ ms)) (kept.components ∷ tallies)
  behind None kept ms tallies begins are = absurd begins
  behind (Some begin) kept ms tallies (asks, components) are =
      are_more table (components_in begin) (components_of ms) kept.components tallies components are

  asks_so : (begin : Option Message) (kept : FirstBegin) → IsFirstBegin table begin (Some kept)
      → kept.requests ≡ is_request_of begin
  asks_so None kept begins = absurd begins
  asks_so (Some begin) kept (asks, components) = asks

  pub there_so : (begin : Option Message) (kept : FirstBegin) → IsFirstBegin table begin (Some kept)
      → is_some begin ≡ true
  there_so begin kept begins = grind (arith, begins)

  pub none_so : (begin : Option Message) → IsFirstBegin table begin None → begin ≡ None
  none_so begin none = grind (arith, none)

-- ---- a half that the peer's Begin began

module _ (table : Table) (side : Side) (id : List ℕ) (items : List Item) (kept : Half) where
  abbrev incoming : List Tally
  incoming = map (λ b. b.now) kept.incoming.items

  abbrev tells : List Tally
  tells = map (λ b. b.now) kept.outgoing.items

  abbrev invokes : List Tally
  invokes = map (λ b. b.now) kept.invoked.items

  read : (cs : List Component) (these those : List Tally) → these ≡ those → AreTallies table cs those
      → AreTallies table cs these
  read cs these those same are = rw same are

  pub is_accepted : (asks : SentFrom) (begin : FirstBegin) (to : Option SentTo)
      → IsFrom table (sent_from (other side) items id) asks → asks.begin ≡ Some begin
      → IsToAt table (sent_to side items id) to
      → kept.origin ≡ cond (was_refused side id items) Refused Accepted → kept.own ≡ answered_from side items id
      → kept.requests ≡ begin.requests → incoming ≡ begin.components ∷ later_of asks kept.own → tells ≡ outgoing_counted to
      → invokes ≡ outgoing_counted to
      → IsHalf table (accepted_half side items id) kept
  is_accepted asks begin to is begun at origin own requests hears outgoing_so invoked_so = record {
    origin = origin;
    own = own;
    requests = requests ∙ asks_so table _ begin begins;
    incoming =
        read _ _ _ (hears ∙ ap (λ o. begin.components ∷ later_of asks o) own)
        (behind table _ begin _ (later_of asks (answered_from side items id)) begins
        (later_are table side items id asks is (answered_from side items id)));
    outgoing = read _ _ _ outgoing_so (outgoing_are table side id items to at);
    invoked = read _ _ _ invoked_so (outgoing_are table side id items to at);
  }
    where
      begins : IsFirstBegin table (find (is_a forms.Begin) (peer_sent_from side id items)) (Some begin)
      begins =
          subst (λ (o : Option FirstBegin). IsFirstBegin table (find (is_a forms.Begin) (peer_sent_from side id items)) o)
          begun is.begin

  -- ---- a half that the end's Begin began

  pub is_begun : (own : List ℕ) (begin : FirstBegin) (came : ContinueTallies) (to : Option SentTo)
      → IsBegunBy table side items own begin → IsContinueTalliesBack table side items id own came
      → IsToAt table (sent_to side items id) to
      → kept.origin ≡ cond (begin.requests && not came.answered) Unanswered Begun → kept.own ≡ Some own
      → kept.requests ≡ begin.requests → incoming ≡ incoming_counted begin came → tells ≡ outgoing_counted to
      → invokes ≡ begin.components ∷ outgoing_counted to
      → IsHalf table (begun_half side items id own) kept
  is_begun own begin came to begins (some, is) at origin its requests hears outgoing_so invoked_so = record {
    origin = origin ∙ ap (λ b. cond b Unanswered Begun) (hears_none begin.requests asks);
    own = its;
    requests = requests ∙ asks;
    incoming = read _ _ _ hears (hears_it begin.requests asks);
    outgoing = read _ _ _ outgoing_so (outgoing_are table side id items to at);
    invoked = read _ _ _ invoked_so (behind table _ begin _ (outgoing_counted to) begins (outgoing_are table side id items to at));
  }
    where
      asks : begin.requests ≡ is_request_of (begin_from side own items)
      asks = asks_so table (begin_from side own items) begin begins

      hears_none : (b : Bool) → b ≡ is_request_of (begin_from side own items)
          → (b && not came.answered)
          ≡ is_nothing (incoming_continues (begin_from side own items) (continued_to side items id (Some own)))
      hears_none true so = rw (← so) (ap not is.answered ∙ sym (none_from (continued_to side items id (Some own))))
      hears_none false so = rw (← so) (sym some)

      hears_it : (b : Bool) → b ≡ is_request_of (begin_from side own items)
          → AreTallies table
          (components_of (incoming_continues (begin_from side own items) (continued_to side items id (Some own))))
          (cond b [] (came.sooner ∷ []) ++ came.since ∷ [])
      hears_it true so = rw (← so) (are_one table _ came.since is.since)
      hears_it false so = rw (← so) (both_are table _ came is)

-- ---- the dialogue

pub aborting_so : (side : Side) (items : List Item) (id : List ℕ) (m : Message) (h : HalfMessages)
    → kind_in m ≡ forms.Abort
    → is_wrong_in_abort (is_first_answer side items id h) (is_request_of h.begin) (dialogue_in m)
    ≡ is_wrong_dialogue side items id m h
aborting_so side items id m h so = grind (arith, so)

pub going_on_else : (side : Side) (items : List Item) (id : List ℕ) (m : Message) (h : HalfMessages)
    → (kind_in m ≡ forms.Abort → ⊥)
    → is_wrong_in_continue (is_first_answer side items id h) (is_request_of h.begin) (dialogue_in m)
    ≡ is_wrong_dialogue side items id m h
going_on_else side items id m h not_so = grind (arith, not_so)
