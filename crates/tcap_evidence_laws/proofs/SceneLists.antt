-- The lists of a scene are those of the kinds: the messages from an ID and to it, those that the half heard, and those
-- that carry its invocations.
use Rattle.tcap_evidence_laws.proofs.Common.{◌≡◌, ◌≢◌, ℕ, Bool, true, false, cond, ◌&&◌, List, [], ◌∷◌, ◌++◌, Option, Some, None, is_none, option_map, refl, ap, ◌∙◌, filter, find, option_to_list, map-append, Message, cause_in, dialogue_in, dtid_in, otid_in, Side, other, is_response, Item, peer_sent_from, components_of, has_a, is_a, sent_by, begin_from, is_continue_to, is_request_of, outgoing, was_refused, is_nothing, HalfOrigin, Accepted, Begun, Nowhere, Refused, Unanswered, answered_from, begun_from, continued_to, from_first, half_by, half_of, incoming_continues, responds, Numbered, Scene, has_request, incoming_by, invoked_by, is_same_id, own_begin, since_first, peer_from_dtid, to_half, sent_to_dtid}
use Rattle.tcap_msg.specs.declared.kind.Kind.TheVariants as forms
use Rattle.tcap_evidence_laws.proofs.SentBefore.{messages}
use Rattle.tcap_evidence_laws.proofs.NumberedLists.{first_is, kept_are, one_is, requests, since_are}

-- The scene is that of a message to this ID after these items, with the half of this ID.
pub record IsTo (side : Side) (items : List Item) (id : List ℕ) (s : Scene) : Type 0 where
  pub own : messages s.own ≡ sent_by side items
  pub peer : messages s.peer ≡ sent_by (other side) items
  pub to : s.to ≡ Some id

pub record IsOver (side : Side) (items : List Item) (id : List ℕ) (s : Scene) : Type 0 where
  pub origin : s.origin ≡ (half_of side items id).origin
  pub half : s.half ≡ (half_of side items id).own

module _ (side : Side) (items : List Item) (id : List ℕ) (s : Scene) (of : IsTo side items id s) where
  -- ---- messages from the ID and to it

  pub there_are : messages (peer_from_dtid s) ≡ peer_sent_from side id items
  there_are =
      kept_are (λ m. is_same_id s.to (otid_in m)) s.peer
      ∙ ap (filter (λ (m : Message). is_same_id s.to (otid_in m))) of.peer
      ∙ ap (λ (o : Option (List ℕ)). filter (λ (m : Message). is_same_id o (otid_in m)) (sent_by (other side) items)) of.to

  pub outgoing_are : messages (sent_to_dtid s) ≡ outgoing side id items
  outgoing_are =
      kept_are (λ m. is_same_id s.to (dtid_in m) && is_none (cause_in m)) s.own
      ∙ ap (filter (λ (m : Message). is_same_id s.to (dtid_in m) && is_none (cause_in m))) of.own
      ∙ ap (λ (o : Option (List ℕ)). filter (λ (m : Message). is_same_id o (dtid_in m) && is_none (cause_in m))
      (sent_by side items)) of.to

  pub half_are : (o : Option (List ℕ)) → s.half ≡ o → messages (to_half s) ≡ continued_to side items id o
  half_are None is = rw is refl
  half_are (Some own) is =
      rw is (kept_are (is_continue_to own) (peer_from_dtid s) ∙ ap (filter (is_continue_to own)) there_are)

  begin_is : (own : List ℕ) → s.half ≡ Some own
      → option_map (λ (n : Numbered). n.1) (own_begin s) ≡ begin_from side own items
  begin_is own is =
      first_is (λ m. is_a forms.Begin m && is_same_id s.half (otid_in m)) s.own
      ∙ ap (find (λ (m : Message). is_a forms.Begin m && is_same_id s.half (otid_in m))) of.own
      ∙ ap (λ (o : Option (List ℕ)). find (λ (m : Message). is_a forms.Begin m && is_same_id o (otid_in m))
      (sent_by side items)) is

  -- ---- messages that the half heard

  -- a half whose Begin the peer sent
  accepted_incoming : (refused : Bool) (own : Option (List ℕ)) → s.half ≡ own
      → messages (incoming_by s (cond refused Refused Accepted))
      ≡ option_to_list (find (is_a forms.Begin) (peer_sent_from side id items)) ++ continued_to side items id own
  accepted_incoming refused own is = by refused
    where
      first : messages (option_to_list (find (λ n. is_a forms.Begin n.1) (peer_from_dtid s)))
          ≡ option_to_list (find (is_a forms.Begin) (peer_sent_from side id items))
      first =
          one_is (find (λ n. is_a forms.Begin n.1) (peer_from_dtid s))
          ∙ ap option_to_list
          (first_is (is_a forms.Begin) (peer_from_dtid s) ∙ ap (find (is_a forms.Begin)) there_are)

      both : messages (option_to_list (find (λ n. is_a forms.Begin n.1) (peer_from_dtid s)) ++ to_half s)
          ≡ option_to_list (find (is_a forms.Begin) (peer_sent_from side id items)) ++ continued_to side items id own
      both =
          map-append (λ (n : Numbered). n.1) (option_to_list (find (λ n. is_a forms.Begin n.1) (peer_from_dtid s))) (to_half s)
          ∙ ap (λ (ms : List Message). ms ++ messages (to_half s)) first
          ∙ ap (λ (ms : List Message). option_to_list (find (is_a forms.Begin) (peer_sent_from side id items)) ++ ms)
          (half_are own is)

      by : (b : Bool) → messages (incoming_by s (cond b Refused Accepted))
          ≡ option_to_list (find (is_a forms.Begin) (peer_sent_from side id items)) ++ continued_to side items id own
      by true = both
      by false = both

  -- a half whose Begin the end sent
  begun_incoming : (own : List ℕ) → s.half ≡ Some own
      → messages (incoming_by s Begun)
      ≡ incoming_continues (begin_from side own items) (continued_to side items id (Some own))
  begun_incoming own is =
      by (has_request (own_begin s))
      ∙ ap (λ (b : Bool). cond b (from_first responds later) later)
      (requests (own_begin s) ∙ ap is_request_of (begin_is own is))
    where
      later : List Message
      later = continued_to side items id (Some own)

      by : (b : Bool)
          → messages (cond b (since_first (λ n. is_response (dialogue_in n.1)) (to_half s)) (to_half s))
          ≡ cond b (from_first responds later) later
      by true = since_are responds (to_half s) ∙ ap (from_first responds) (half_are (Some own) is)
      by false = half_are (Some own) is

  answered : (ms : List Message) → messages (incoming_by s Begun) ≡ ms
      → messages (incoming_by s (cond (is_nothing ms) Unanswered Begun)) ≡ ms
  answered [] is = refl
  answered (m ∷ ms) is = is

  pub incoming_are : IsOver side items id s → components_of (messages (incoming_by s s.origin)) ≡ (half_of side items id).incoming
  incoming_are over = by (has_a forms.Begin (peer_sent_from side id items)) (begun_from side items id) over.origin over.half
    where
      by : (b : Bool) (o : Option (List ℕ)) → s.origin ≡ (half_by side items id b o).origin
          → s.half ≡ (half_by side items id b o).own
          → components_of (messages (incoming_by s s.origin)) ≡ (half_by side items id b o).incoming
      by true o origin half =
          ap (λ (h : HalfOrigin). components_of (messages (incoming_by s h))) origin
          ∙ ap components_of (accepted_incoming (was_refused side id items) (answered_from side items id) half)
      by false None origin half = ap (λ (h : HalfOrigin). components_of (messages (incoming_by s h))) origin
      by false (Some own) origin half =
          ap (λ (h : HalfOrigin). components_of (messages (incoming_by s h))) origin
          ∙ ap components_of
          (answered (incoming_continues (begin_from side own items) (continued_to side items id (Some own))) (begun_incoming own half))

  -- ---- messages that the half sent, and those that carry its invocations

  pub outgoing_of : (half_of side items id).origin ≢ Nowhere
      → components_of (outgoing side id items) ≡ (half_of side items id).outgoing
  outgoing_of = by (has_a forms.Begin (peer_sent_from side id items)) (begun_from side items id)
    where
      by : (b : Bool) (o : Option (List ℕ)) → (half_by side items id b o).origin ≢ Nowhere
          → components_of (outgoing side id items) ≡ (half_by side items id b o).outgoing
      by true o some = refl
      by false None some = absurd (some refl)
      by false (Some own) some = refl

  accepted_invoked : (refused : Bool) → messages (invoked_by s (cond refused Refused Accepted)) ≡ outgoing side id items
  accepted_invoked true = outgoing_are
  accepted_invoked false = outgoing_are

  begun_invoked : (own : List ℕ) → s.half ≡ Some own → (nothing : Bool)
      → messages (invoked_by s (cond nothing Unanswered Begun))
      ≡ option_to_list (begin_from side own items) ++ outgoing side id items
  begun_invoked own is nothing = by nothing
    where
      both : messages (option_to_list (own_begin s) ++ sent_to_dtid s)
          ≡ option_to_list (begin_from side own items) ++ outgoing side id items
      both =
          map-append (λ (n : Numbered). n.1) (option_to_list (own_begin s)) (sent_to_dtid s)
          ∙ ap (λ (ms : List Message). ms ++ messages (sent_to_dtid s))
          (one_is (own_begin s) ∙ ap option_to_list (begin_is own is))
          ∙ ap (λ (ms : List Message). option_to_list (begin_from side own items) ++ ms) outgoing_are

      by : (b : Bool) → messages (invoked_by s (cond b Unanswered Begun))
          ≡ option_to_list (begin_from side own items) ++ outgoing side id items
      by true = both
      by false = both

  pub invoked_are : IsOver side items id s → (half_of side items id).origin ≢ Nowhere
      → components_of (messages (invoked_by s s.origin)) ≡ (half_of side items id).invoked
  invoked_are over = by (has_a forms.Begin (peer_sent_from side id items)) (begun_from side items id) over.origin over.half
    where
      by : (b : Bool) (o : Option (List ℕ)) → s.origin ≡ (half_by side items id b o).origin
          → s.half ≡ (half_by side items id b o).own → (half_by side items id b o).origin ≢ Nowhere
          → components_of (messages (invoked_by s s.origin)) ≡ (half_by side items id b o).invoked
      by true o origin half some =
          ap (λ (h : HalfOrigin). components_of (messages (invoked_by s h))) origin
          ∙ ap components_of (accepted_invoked (was_refused side id items))
      by false None origin half some = absurd (some refl)
      by false (Some own) origin half some =
          ap (λ (h : HalfOrigin). components_of (messages (invoked_by s h))) origin
          ∙ ap components_of
          (begun_invoked own half
          (is_nothing (incoming_continues (begin_from side own items) (continued_to side items id (Some own)))))
