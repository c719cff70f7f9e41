-- Which half has an ID of the peer: the half that accepted its Begin, the half whose Begin it answered, or none.
use Rattle.std.proofs.Common.{◌≡◌, ℕ, Bool, true, false, cond, List, [], ◌∷◌, Option, Some, None, is_some, filter, refl, sym, ap, subst, ◌∙◌, arith}
use Rattle.std.specs.Prelude.{Contains}
use Rattle.std.specs.List.{find}
use Rattle.std.proofs.lemmas.Bool.{and_from, and_parts, both_ways}
use Rattle.tcap_msg.specs.declared.kind.Kind.TheVariants as forms
use Rattle.tcap_msg.specs.declared.message.Message.{Message}
use Rattle.tcap_msg.specs.declared.message.Message.TheVariants.{Continue}
use Rattle.tcap_msg.specs.Parts.{dtid_in, otid_in}
use Rattle.tcap_record.specs.declared.entry.End.{End as Side}
use Rattle.tcap_record.specs.Ends.{other}
use Rattle.tcap_end.specs.End.{is_id}
use Rattle.tcap_end.specs.Table.{Table}
use Rattle.tcap_model.specs.World.{Item}
use Rattle.tcap_model.specs.Run.{option_then}
use Rattle.tcap_model.proofs.TurnLaws.{id_is}
use Rattle.tcap_refute.specs.EarlierMessages.{peer_sent_from, has_a, is_a, sent_by}
use Rattle.tcap_faults.specs.SentToId.{began, begin_from, is_continue_to}
use Rattle.tcap_faults.specs.Counts.{is_nothing}
use Rattle.tcap_end.proofs.FoundLaws.{is_that_id}
use Rattle.tcap_faults.proofs.list_laws.FindLaws.{filter_is, find_has, find_none}
use Rattle.tcap_refute.proofs.Members.{filter_has, has_first, has_not}
use Rattle.tcap_faults.specs.declared.transaction.sent_from_id.ContinueTallies.{ContinueTallies}
use Rattle.tcap_faults.specs.declared.transaction.sent_from_id.FirstBegin.{FirstBegin}
use Rattle.tcap_faults.specs.declared.transaction.sent_from_id.SentFrom.{SentFrom}
use Rattle.tcap_faults.specs.HalfByPeerId.{accepted_half, begun_from, begun_half, half_of, no_half}
use Rattle.tcap_faults.specs.IdList.{IsOneOf}
use Rattle.tcap_faults.specs.History.{IsContinueTalliesAt, IsFirstBegin, IsFrom, IsFromAt, dtids_of, sent_from}
use Rattle.tcap_faults.specs.HalfTallies.{IsBegunBy, IsBegunOwn, IsContinueTalliesBack}
use Rattle.tcap_faults.specs.TangledIds.{goes_to_begun, owns_of, two_differ}
use Rattle.tcap_faults.proofs.kind_laws.OwnHalfLaws.{begun_there, to_begun}
use Rattle.tcap_faults.proofs.dialogue_laws.HalfLookupLaws.{none_so, there_so}
use Rattle.tcap_faults.proofs.list_laws.TwoTests.{any_found, found_both}
use Rattle.tcap_faults.proofs.transaction_laws.TangledLaws.{all_same, began_used, joins}

-- ---- which half it is

module _ (side : Side) (items : List Item) (id : List ℕ) where
  -- If the peer began the ID, the half is the accepted one.
  half_accepted : (table : Table) (begin : FirstBegin)
      → IsFirstBegin table (find (is_a forms.Begin) (peer_sent_from side id items)) (Some begin)
      → half_of side items id ≡ accepted_half side items id
  half_accepted table begin begins = rw (any_found (is_a forms.Begin) (peer_sent_from side id items), there_so table _ begin begins) refl

  none_began : (table : Table) → IsFirstBegin table (find (is_a forms.Begin) (peer_sent_from side id items)) None
      → has_a forms.Begin (peer_sent_from side id items) ≡ false
  none_began table none =
      any_found (is_a forms.Begin) (peer_sent_from side id items) ∙ ap is_some (none_so table _ none)

  -- The peer sent a Continue from the ID to an own ID that the end began.
  record GoesTo (own : List ℕ) : Type 0 where
    begun : began side own items ≡ true
    message : Message
    has : Contains (peer_sent_from side id items) message
    goes_on : is_a forms.Continue message ≡ true
    to : dtid_in message ≡ Some own

  goes_there : (n : Message) → find (goes_to_begun side items) (peer_sent_from side id items) ≡ Some n
      → (own : List ℕ) × (begun_from side items id ≡ Some own) × GoesTo own
  goes_there n found =
      let (has, goes) = find_has (goes_to_begun side items) (peer_sent_from side id items) n found in
      let (own, to, goes_on, begun) = begun_there side items n goes in (
        own,
        ap (λ (o : Option Message). option_then o dtid_in) found ∙ to,
        record {
          begun = begun;
          message = n;
          has = has;
          goes_on = goes_on;
          to = to;
        },
      )

  -- If there is no such own ID, there is no begun half.
  begun_nowhere : ((own : List ℕ) → begun_from side items id ≡ Some own → GoesTo own → ⊥) → begun_from side items id ≡ None
  begun_nowhere none = by (find (goes_to_begun side items) (peer_sent_from side id items)) refl
    where
      by : (o : Option Message) → find (goes_to_begun side items) (peer_sent_from side id items) ≡ o
          → begun_from side items id ≡ None
      by None nothing = ap (λ (o : Option Message). option_then o dtid_in) nothing
      by (Some n) found = let (own, is, goes) = goes_there n found in absurd (none own is goes)

  -- If there is a begun half, such a Continue went to its own ID.
  goes_it : (own : List ℕ) → begun_from side items id ≡ Some own → GoesTo own
  goes_it own is = by (find (goes_to_begun side items) (peer_sent_from side id items)) refl is
    where
      by : (o : Option Message) → find (goes_to_begun side items) (peer_sent_from side id items) ≡ o
          → option_then o dtid_in ≡ Some own → GoesTo own
      by None nothing so = cc
      by (Some n) found so =
          let (one, first, goes) = goes_there n found in
          let same : one ≡ own = cc in subst (λ (i : List ℕ). GoesTo i) same goes

  -- Such an own ID is joined with the ID.
  joined : (own : List ℕ) → GoesTo own → Contains (owns_of side items id) own
  joined own goes =
      joins side items id own goes.message goes.has goes.goes_on goes.to (began_used side items own goes.begun)

  -- If at most one own ID is joined with the ID, it is the begun half's.
  pub joined_own_is : two_differ (owns_of side items id) ≡ false → (o : Option (List ℕ)) → IsOneOf (owns_of side items id) o
      → IsBegunOwn side items id o
  joined_own_is one None none = λ own is.
      has_not own (subst (λ (ids : List (List ℕ)). Contains ids own) none (joined own (goes_it own is)))
  joined_own_is one (Some x) has = λ own is. ap Some (all_same (owns_of side items id) x own one has (joined own (goes_it own is)))

  -- Otherwise it is the first of the destination IDs that the end began.
  pub first_own_is : (o : Option (List ℕ)) → o ≡ find (λ own. began side own items) (dtids_of (peer_sent_from side id items))
      → IsBegunOwn side items id o
  first_own_is o is it so = is ∙ by (peer_sent_from side id items) ∙ so
    where
      by : (ms : List Message)
          → find (λ own. began side own items) (dtids_of ms) ≡ option_then (find (goes_to_begun side items) ms) dtid_in
      by [] = refl
      by (Continue otid dtid dialogue components ∷ ms) = grind (arith, by ms)
      by (m ∷ ms) = by ms

  -- If there is no such ID, no half began so.
  none_own : IsBegunOwn side items id None → begun_from side items id ≡ None
  none_own none = begun_nowhere (λ own is goes. let bad = none own is in cc)

  module _ (own : List ℕ) (its : IsBegunOwn side items id (Some own)) where
    same : (one : List ℕ) → begun_from side items id ≡ Some one → one ≡ own
    same one is = let e = its one is in cc

    -- If no Continue came to the own ID, no half began so.
    none_came : filter (is_continue_to own) (peer_sent_from side id items) ≡ [] → begun_from side items id ≡ None
    none_came none = begun_nowhere bad
      where
        bad : (one : List ℕ) → begun_from side items id ≡ Some one → GoesTo one → ⊥
        bad one is goes =
            has_not goes.message
            (subst (λ (ms : List Message). Contains ms goes.message) none
            (filter_has (is_continue_to own) (peer_sent_from side id items) goes.message goes.has
            (and_from (is_a forms.Continue goes.message) _ goes.goes_on
            (is_that_id own (dtid_in goes.message) (goes.to ∙ ap Some (same one is))))))

    -- If the end did not begin the own ID, no half began so.
    none_begun : begin_from side own items ≡ None → begun_from side items id ≡ None
    none_begun none = begun_nowhere bad
      where
        bad : (one : List ℕ) → begun_from side items id ≡ Some one → GoesTo one → ⊥
        bad one is goes =
            let begun : began side own items ≡ true = ap (λ (i : List ℕ). began side i items) (sym (same one is)) ∙ goes.begun in
            both_ways _ (ap is_some none) begun

    -- Otherwise the half began from the own ID.
    goes_from : (table : Table) (begin : FirstBegin) (came : ContinueTallies) → IsBegunBy table side items own begin
        → IsContinueTalliesBack table side items id own came → begun_from side items id ≡ Some own
    goes_from table begin came begins (some, is) =
        by (filter (is_continue_to own) (peer_sent_from side id items)) refl some
      where
        of : (m : Message) → Contains (filter (is_continue_to own) (peer_sent_from side id items)) m
            → begun_from side items id ≡ Some own
        of m has = found (find (goes_to_begun side items) (peer_sent_from side id items)) refl
          where
            found : (o : Option Message) → find (goes_to_begun side items) (peer_sent_from side id items) ≡ o
                → begun_from side items id ≡ Some own
            found None none =
                let (there, goes) = filter_is (is_continue_to own) (peer_sent_from side id items) m has in
                let (goes_on, to) = and_parts (is_a forms.Continue m) _ goes in
                find_none (goes_to_begun side items) (peer_sent_from side id items) m none there
                (to_begun side items m own (id_is own (dtid_in m) to) goes_on (there_so table _ begin begins))
            found (Some n) is_first =
                let (one, is_it, goes) = goes_there n is_first in is_it ∙ ap Some (same one is_it)

        by : (ms : List Message) → filter (is_continue_to own) (peer_sent_from side id items) ≡ ms → is_nothing ms ≡ false
            → begun_from side items id ≡ Some own
        by [] is_it something = cc
        by (m ∷ more) is_it something = of m (rw is_it (has_first m more))

  -- The half, if the peer did not begin the ID.
  module _ (table : Table) (not_begun : IsFirstBegin table (find (is_a forms.Begin) (peer_sent_from side id items)) None) where
    half_nowhere : begun_from side items id ≡ None → half_of side items id ≡ no_half
    half_nowhere none = rw (none_began table not_begun, none) refl

    half_begun : (own : List ℕ) → begun_from side items id ≡ Some own
        → half_of side items id ≡ begun_half side items id own
    half_begun own is = rw (none_began table not_begun, is) refl

-- What is kept of the Begin from an own ID.
abbrev pub begin_kept : Option SentFrom → Option FirstBegin
begin_kept None = None
begin_kept (Some kept) = kept.begin

pub begin_is : (table : Table) (side : Side) (items : List Item) (own : List ℕ) (o : Option SentFrom)
    → IsFromAt table (sent_from side items own) o
    → IsFirstBegin table (begin_from side own items) (begin_kept o)
begin_is table side items own o at =
    subst (λ (begin : Option Message). IsFirstBegin table begin (begin_kept o))
    (found_both (λ m. is_id own (otid_in m)) (is_a forms.Begin) (sent_by side items)) (by o at)
  where
    by : (o : Option SentFrom) → IsFromAt table (sent_from side items own) o
        → IsFirstBegin table (find (is_a forms.Begin) (sent_from side items own)) (begin_kept o)
    by None none = rw none tt
    by (Some kept) (some, is) = is.from.begin

-- ---- which half the code returns

module _ (table : Table) (side : Side) (items : List Item) (id : List ℕ) where
  -- If the peer sent nothing from the ID, there is no half.
  pub half_unasked : peer_sent_from side id items ≡ [] → half_of side items id ≡ no_half
  half_unasked none = rw none refl

  module _ (asks : SentFrom) (is : IsFrom table (sent_from (other side) items id) asks) where
    pub begun_it : (begin : FirstBegin) → asks.begin ≡ Some begin
        → half_of side items id ≡ accepted_half side items id
    begun_it begin begun = half_accepted side items id table begin (rw begun at is.begin)

    module _ (none : asks.begin ≡ None) where
      not_begun : IsFirstBegin table (find (is_a forms.Begin) (peer_sent_from side id items)) None
      not_begun = rw none at is.begin

      -- If there is no own ID, there is no half.
      pub half_unowned : IsBegunOwn side items id None → half_of side items id ≡ no_half
      half_unowned no_own = half_nowhere side items id table not_begun (none_own side items id no_own)

      module _ (own : List ℕ) (its : IsBegunOwn side items id (Some own)) where
        -- If nothing came to the own ID, there is no half.
        pub half_not_come : IsContinueTalliesAt table (filter (is_continue_to own) (sent_from (other side) items id)) None
            → half_of side items id ≡ no_half
        half_not_come no_came =
            half_nowhere side items id table not_begun
            (none_came side items id own its no_came)

        -- If the end did not begin the own ID, there is no half.
        pub half_not_begun : IsFirstBegin table (begin_from side own items) None → half_of side items id ≡ no_half
        half_not_begun no_begin =
            half_nowhere side items id table not_begun
            (none_begun side items id own its (none_so table _ no_begin))

        pub half_goes : (begin : FirstBegin) (came : ContinueTallies) → IsBegunBy table side items own begin
            → IsContinueTalliesBack table side items id own came → half_of side items id ≡ begun_half side items id own
        half_goes begin came begins back =
            half_begun side items id table not_begun own
            (goes_from side items id own its table begin came begins back)
