-- The lists have as many entries as the kinds count components and messages.
use Rattle.tcap_evidence_laws.proofs.Common.{◌≡◌, ◌≢◌, ℕ, ℤ, arith, Bool, true, ◌&&◌, List, [], ◌∷◌, ◌++◌, length, Option, Some, refl, ap, ◌∙◌, filter, length-append, length-map, Component, Message, cause_in, components_in, dtid_in, Side, Entry, other, Table, Item, Kind, peer_sent_from, components_of, is_a, sent_by, is_abort_with, is_cause, outgoing, count, is_begin_with_request, count_takes_all, count_both, Nowhere, Sort, Subject, half_of, subject, is_sort, count_invokes, scene_of, Numbered, entries_where, in_order, Scene, incoming_by, invoked_by, is_same_id, peer_from_dtid, sent_to_dtid, with_sort, with_sort_in, AreListsComplete, AreCounted, items_before, scene_at}
use Rattle.tcap_msg.specs.declared.kind.Kind.TheVariants as forms
use Rattle.tcap_faults.proofs.story_laws.AnsweredLaws.{count_takes}
use Rattle.tcap_evidence_laws.specs.ListedEntries.{SortsAre}
use Rattle.tcap_evidence_laws.proofs.NumberedLists.{where_counted, with_counted}
use Rattle.tcap_evidence_laws.proofs.OrderLaws.{in_order_counted}
use Rattle.tcap_evidence_laws.proofs.SceneLists.{IsOver, IsTo, incoming_are, invoked_are, there_are, outgoing_are, outgoing_of}
use Rattle.tcap_evidence_laws.proofs.SentBefore.{messages, sent_are}

-- ---- components

module _ (s : Scene) (invoke : ℤ) (is : s.id ≡ Some invoke) (sort : Sort) where
  abbrev is_so : Component → Bool
  is_so = is_sort s.table invoke sort

  counted_in : (sent : List Numbered) → length (with_sort s sort sent) ≡ count is_so (components_of (messages sent))
  counted_in sent = rw is (with_counted is_so sent)

  counted_itself : (cs : List Component) → length (with_sort_in s sort cs) ≡ count is_so cs
  counted_itself cs = rw is (length-map (filter is_so cs) (λ (c : Component). s.number))

  module _ (side : Side) (items : List Item) (id : List ℕ) (of : IsTo side items id s) where
    -- in the end's messages to the destination ID, and among these components of the message
    outgoing_and_itself : (cs : List Component) → length (with_sort s sort (sent_to_dtid s) ++ with_sort_in s sort cs)
        ≡ count is_so (components_of (outgoing side id items) ++ cs)
    outgoing_and_itself cs =
        let both = length-append (with_sort s sort (sent_to_dtid s)) (with_sort_in s sort cs) in
        let first : length (with_sort s sort (sent_to_dtid s)) ≡ count is_so (components_of (outgoing side id items)) =
        counted_in (sent_to_dtid s)
        ∙ ap (λ (ms : List Message). count is_so (components_of ms)) (outgoing_are side items id s of) in
        let last = counted_itself cs in
        let all = count_both is_so (components_of (outgoing side id items)) cs in omega (arith, both, first, last, all)

    half_and_itself : (half_of side items id).origin ≢ Nowhere → (cs : List Component)
        → length (with_sort s sort (sent_to_dtid s) ++ with_sort_in s sort cs)
        ≡ count is_so ((half_of side items id).outgoing ++ cs)
    half_and_itself some cs =
        outgoing_and_itself cs ∙ ap (λ (ts : List Component). count is_so (ts ++ cs)) (outgoing_of side items id s of some)

    pub counted : (m : Message) → s.all ≡ components_in m → IsOver side items id s
        → AreCounted side items id m s sort is_so
    counted m all over = record {
      there = counted_in (peer_from_dtid s)
          ∙ ap (λ (ms : List Message). count is_so (components_of ms)) (there_are side items id s of);
      incoming = counted_in (in_order (incoming_by s s.origin)) ∙ in_order_counted is_so (incoming_by s s.origin)
          ∙ ap (count is_so) (incoming_are side items id s of over);
      before = outgoing_and_itself s.earlier;
      half_before = λ some. half_and_itself some s.earlier;
      whole = rw all (outgoing_and_itself (components_in m));
      half_whole = λ some. rw all (half_and_itself some (components_in m));
      invoked = λ some.
          counted_in (in_order (invoked_by s s.origin)) ∙ in_order_counted is_so (invoked_by s s.origin)
          ∙ ap (count is_so) (invoked_are side items id s of over some);
    }

-- ---- the sorts

pub sorts_are : (table : Table) (id : ℤ) (cs : List Component) → SortsAre table id cs
sorts_are table id cs = record {
  any = count_invokes table id cs;
  one = refl;
  two = refl;
  three = refl;
  lasting = refl;
  lasting_one = refl;
  lasting_three = refl;
  taken = omega (arith, count_takes id cs, count_takes_all id cs);
}

-- ---- messages

all_kept : (ms : List Message) → filter (λ m. true) ms ≡ ms
all_kept [] = refl
all_kept (m ∷ ms) = ap (λ (others : List Message). m ∷ others) (all_kept ms)

module _ (side : Side) (items : List Item) (id : List ℕ) (s : Scene) (of : IsTo side items id s) where
  asked_so : (p : Message → Bool) → length (entries_where p (peer_from_dtid s)) ≡ count p (peer_sent_from side id items)
  asked_so p = where_counted p (peer_from_dtid s) ∙ ap (count p) (there_are side items id s of)

  outgoing_so : (p : Message → Bool) → length (entries_where p (sent_to_dtid s)) ≡ count p (outgoing side id items)
  outgoing_so p = where_counted p (sent_to_dtid s) ∙ ap (count p) (outgoing_are side items id s of)

  aborts : (cause : ℕ)
      → length (entries_where (λ m. is_same_id s.to (dtid_in m) && is_cause cause (cause_in m)) s.own)
      ≡ count (is_abort_with cause id) (sent_by side items)
  aborts cause =
      where_counted (λ m. is_same_id s.to (dtid_in m) && is_cause cause (cause_in m)) s.own
      ∙ ap (count (λ (m : Message). is_same_id s.to (dtid_in m) && is_cause cause (cause_in m))) of.own
      ∙ ap (λ (o : Option (List ℕ)). count (λ (m : Message). is_same_id o (dtid_in m) && is_cause cause (cause_in m))
      (sent_by side items)) of.to

  pub all_there : AreListsComplete side items id s
  all_there = record {
    begins = asked_so (is_a forms.Begin);
    requests = asked_so is_begin_with_request;
    continues = asked_so (is_a forms.Continue);
    all_outgoing = outgoing_so (λ m. true) ∙ ap length (all_kept (outgoing side id items));
    continues_outgoing = outgoing_so (is_a forms.Continue);
    unknown = aborts 1;
    refused = aborts 4;
  }

-- ---- a message at fault

pub scene_to : (table : Table) (side : Side) (entries : List Entry) (number : ℕ) (m : Message) (kind : Kind)
    (about : Subject) (id : List ℕ) → dtid_in m ≡ Some id
    → IsTo side (items_before entries number) id (scene_of table side entries number m kind about)
scene_to table side entries number m kind about id is =
    record { own = sent_are side entries number; peer = sent_are (other side) entries number; to = is }

pub scene_over : (of_one : Bool) (table : Table) (side : Side) (entries : List Entry) (number : ℕ) (m : Message) (kind : Kind)
    (id : List ℕ) → dtid_in m ≡ Some id
    → IsOver side (items_before entries number) id (scene_at of_one table side entries number m kind)
scene_over of_one table side entries number m kind id is = record { origin = rw is refl; half = rw is refl }

pub components_counted : (of_one : Bool) (table : Table) (side : Side) (entries : List Entry) (number : ℕ) (m : Message)
    (kind : Kind) (to : List ℕ) (id : ℤ) (sort : Sort) → dtid_in m ≡ Some to
    → (scene_at of_one table side entries number m kind).id ≡ Some id
    → AreCounted side (items_before entries number) to m (scene_at of_one table side entries number m kind) sort
    (is_sort table id sort)
components_counted of_one table side entries number m kind to id sort goes is =
    counted (scene_at of_one table side entries number m kind) id is sort side (items_before entries number) to
    (scene_to table side entries number m kind
    (subject of_one table side (items_before entries number) m kind) to goes) m refl
    (scene_over of_one table side entries number m kind to goes)

pub messages_counted : (table : Table) (side : Side) (entries : List Entry) (number : ℕ) (m : Message) (kind : Kind)
    (about : Subject) (to : List ℕ) → dtid_in m ≡ Some to
    → AreListsComplete side (items_before entries number) to (scene_of table side entries number m kind about)
messages_counted table side entries number m kind about to goes =
    all_there side (items_before entries number) to (scene_of table side entries number m kind about)
    (scene_to table side entries number m kind about to goes)
