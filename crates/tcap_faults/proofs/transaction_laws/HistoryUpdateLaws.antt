-- The histories of both ends after one more message of one of them.
use Rattle.std.proofs.Common.{◌≡◌, ℕ, Bool, true, false, not, ◌&&◌, ◌||◌, List, [], ◌∷◌, ◌++◌, Option, Some, None, bytes_eq, refl, sym, ap, ◌∙◌, arith}
use Rattle.std.specs.Prelude.{filter}
use Rattle.std.specs.List.{list_any}
use Rattle.std.specs.Map.{lookup}
use Rattle.std.specs.BTreeMap.{BTreeMap, is_at}
use Rattle.std.specs.BTreeSet as set
use Rattle.std.specs.BTreeSet.{BTreeSet}
use Rattle.std.proofs.lemmas.List.Elements.{filter_agree}
use Rattle.std.proofs.lemmas.Slice.Eq.{bytes_eq-Decides}
use Rattle.tcap_msg.specs.declared.kind.Kind.TheVariants as forms
use Rattle.tcap_msg.specs.declared.message.Message.{Message}
use Rattle.tcap_msg.specs.Parts.{dtid_in, otid_in}
use Rattle.tcap_record.specs.declared.entry.End.{End as Side}
use Rattle.tcap_record.specs.declared.entry.End.TheVariants as sides
use Rattle.tcap_record.specs.Ends.{other}
use Rattle.tcap_end.specs.End.{is_id}
use Rattle.tcap_end.specs.Table.{Table, octets_cmp}
use Rattle.tcap_model.specs.World.{Item, Sent, is_side}
use Rattle.tcap_model.specs.SinceMark.{ended_by}
use Rattle.tcap_refute.specs.EarlierMessages.{is_a}
use Rattle.tcap_model.proofs.WorldLaws.{itself}
use Rattle.tcap_refute.proofs.TestLaws.{and_false, or_none}
use Rattle.tcap_faults.specs.declared.transaction.id_list.Ids.{Ids}
use Rattle.tcap_faults.specs.declared.transaction.history.SideFacts.{SideFacts}
use Rattle.tcap_faults.specs.declared.transaction.sent_from_id.SentFrom.{SentFrom}
use Rattle.tcap_faults.specs.declared.transaction.sent_to_id.SentTo.{SentTo}
use Rattle.tcap_faults.specs.IdList.{AreAmong}
use Rattle.tcap_faults.specs.JoinedIds.{GetsMore, HasMore, IsJoined}
use Rattle.tcap_faults.specs.History.{IsSide, dtids_of, ends, otids_of, sent_from, sent_to}
use Rattle.tcap_faults.specs.HistoryUpdate.{AreFrom, AreTo, with_more}
use Rattle.tcap_faults.specs.TangledIds.{guesses, owns_of}
use Rattle.tcap_faults.specs.UsedAgain.{has_used_again, is_used_again, uses_again}
use Rattle.tcap_faults.specs.ClosedHalves.{shows_closed}
use Rattle.tcap_faults.specs.SentToId.{has_ended, has_used, one_passes}
use Rattle.tcap_faults.proofs.transaction_laws.JoinTestLaws.{otids_are, is_it}
use Rattle.tcap_faults.proofs.transaction_laws.JoinedIdsLaws.{has_none}
use Rattle.tcap_faults.proofs.list_laws.FindLaws.{one_more}
use Rattle.tcap_faults.proofs.transaction_laws.MessageMoreLaws.{backs, begin_only, end_only, ends_it, ends_none, from_own, from_theirs, goes_both, passes_of, to_own, to_theirs, used_theirs}
use Rattle.tcap_faults.proofs.transaction_laws.HistoryLookupLaws.{other_twice}
use Rattle.tcap_faults.proofs.transaction_laws.JoinUpdateLaws.{own_joined_more, own_joined_same, own_over_ended, own_over_more, peer_joined_more, peer_joined_same, peer_over_more}
use Rattle.tcap_faults.proofs.view_laws.GrowthLaws.{not_other}

thrice_not : (side : Side) → is_side (other (other (other side))) side ≡ false
thrice_not side = grind arith

module _ (table : Table) (side : Side) (items : List Item) (m : Message) (own peer : SideFacts)
    (was : IsSide table side items own) (their : IsSide table (other side) items peer) where
  their_joined : (id : List ℕ)
      → AreAmong (filter (has_used side items) (dtids_of (sent_from (other side) items id)))
      (lookup (is_at (octets_cmp id)) peer.joined.entries)
  their_joined id = rw (other_twice side) at (their.joined id)

  -- ---- joined IDs

  -- The message joins and ends nothing.
  pub joined_nothing : otid_in m ≡ None → ended_by m ≡ None → IsJoined side items m own own peer peer
  joined_nothing otid ends_not = record {
    own_joined = λ id. rw (own_joined_same side items m (end_only m otid) id) (was.joined id);
    peer_joined = λ id.
        rw (peer_joined_same side items m otid (dtids_of (sent_from (other side) items id))) (their_joined id);
    own_over =
        own_over_more side items m ends_not (λ x. false) (λ x. false) false (λ id. rw otid refl) (λ id bad. cc)
        (λ id off. refl) (λ id. rw (end_only m otid) refl) own.over own.over own.over was.over
        (has_none (λ x. false) own.over (λ x. refl)) (has_none (λ x. false) own.over (λ x. refl));
    peer_over =
        peer_over_more side items m (λ x. false) false (λ id. rw (end_only m otid) refl) (λ id bad. cc) peer.over
        peer.over their.over (has_none (λ x. false) peer.over (λ x. refl));
    own_rest = refl;
    peer_rest = refl;
  }

  -- The message ends an ID.
  pub joined_end : (to : List ℕ) → otid_in m ≡ None → dtid_in m ≡ Some to → ends m ≡ true → (now : SideFacts)
      → HasMore (λ id. not (has_ended side items to) && list_any (bytes_eq id) (owns_of side items to)) own.over now.over
      → now ≡ record own { over = now.over } → IsJoined side items m own now peer peer
  joined_end to otid dtid is_end now more rest = record {
    own_joined = λ id.
        rw (own_joined_same side items m (end_only m otid) id, ap (λ (s : SideFacts). s.joined) rest) (was.joined id);
    peer_joined = λ id.
        rw (peer_joined_same side items m otid (dtids_of (sent_from (other side) items id))) (their_joined id);
    own_over =
        own_over_ended side items m to (ends_it m to dtid is_end) otid (end_only m otid) own.over now.over was.over more;
    peer_over =
        peer_over_more side items m (λ x. false) false (λ id. rw (end_only m otid) refl) (λ id bad. cc) peer.over
        peer.over their.over (has_none (λ x. false) peer.over (λ x. refl));
    own_rest = rest
        ∙ ap (λ (j : BTreeMap (List ℕ) Ids). record own { over = now.over; joined = j })
        (sym (ap (λ (s : SideFacts). s.joined) rest));
    peer_rest = refl;
  }

  -- The message uses an own ID.
  module _ (from : List ℕ) (otid : otid_in m ≡ Some from) where
    abbrev first : List ℕ → Bool
    first id =
        bytes_eq id from && not (has_used side items from)
        && list_any (has_ended side items) (otids_of (sent_to (other side) items from))

    first_on : (id : List ℕ) → bytes_eq id from ≡ true
        → first id ≡ (not (has_used side items id) && list_any (has_ended side items) (backs side items id))
    first_on id same =
        let one : id ≡ from = (bytes_eq-Decides id from).0 same in
        rw (one, is_it from, otids_are (other side) items from) refl

    first_off : (id : List ℕ) → bytes_eq id from ≡ false → first id ≡ false
    first_off id apart = rw apart refl

    module _ (one there : SideFacts)
        (gets : GetsMore (λ key. not (has_used side items from)
        && list_any (bytes_eq key) (otids_of (sent_to (other side) items from))) from peer.joined there.joined)
        (has : HasMore first own.over one.over) (rest : one ≡ record own { over = one.over })
        (their_rest : there ≡ record peer { joined = there.joined }) where
      pub joined_begin : dtid_in m ≡ None → IsJoined side items m own one peer there
      joined_begin dtid = record {
        own_joined = λ id.
            rw (own_joined_same side items m (begin_only m dtid) id, ap (λ (s : SideFacts). s.joined) rest)
            (was.joined id);
        peer_joined = λ id.
            peer_joined_more side items m from otid id peer.joined there.joined gets (their_joined id);
        own_over =
            own_over_more side items m (ends_none m from otid) (λ id. bytes_eq id from) first false
            (λ id. rw otid refl) first_on first_off
            (λ id. rw (begin_only m dtid) (sym (and_false (bytes_eq id from)))) own.over one.over one.over was.over has
            (has_none (λ id. bytes_eq id from && false) one.over (λ id. and_false (bytes_eq id from)));
        peer_over =
            rw (ap (λ (s : SideFacts). s.over) their_rest)
            (peer_over_more side items m (λ x. false) false (λ id. rw (begin_only m dtid) refl) (λ id bad. cc)
            peer.over peer.over their.over (has_none (λ x. false) peer.over (λ x. refl)));
        own_rest = rest
            ∙ ap (λ (j : BTreeMap (List ℕ) Ids). record own { over = one.over; joined = j })
            (sym (ap (λ (s : SideFacts). s.joined) rest));
        peer_rest = their_rest
            ∙ ap (λ (o : BTreeSet (List ℕ)). record peer { over = o; joined = there.joined })
            (sym (ap (λ (s : SideFacts). s.over) their_rest));
      }

      -- The message is a Continue from the own ID.
      pub joined_continue : (to : List ℕ) → dtid_in m ≡ Some to → (over used peer_over : Bool)
          → over ≡ has_ended side items to → used ≡ has_used (other side) items to
          → peer_over ≡ (has_used (other side) items to && has_ended (other side) items from)
          → (two then : SideFacts)
          → GetsMore (λ key. bytes_eq key from && used) to one.joined two.joined
          → HasMore (λ id. bytes_eq id from && over) one.over two.over
          → HasMore (λ id. bytes_eq id to && peer_over) there.over then.over
          → two ≡ record one { over = two.over; joined = two.joined } → then ≡ record there { over = then.over }
          → IsJoined side items m own two peer then
      joined_continue to dtid over used peer_over over_is used_is peer_is two then gets_now has_now their_has rest_now
          their_rest_now = record {
            own_joined =
                own_joined_more side items m from to used goes otid dtid used_is own.joined two.joined
                (rw (ap (λ (s : SideFacts). s.joined) rest) at gets_now) was.joined;
            peer_joined = λ id.
                rw (ap (λ (s : SideFacts). s.joined) their_rest_now)
                (peer_joined_more side items m from otid id peer.joined there.joined gets (their_joined id));
            own_over =
                own_over_more side items m (ends_none m from otid) (λ id. bytes_eq id from) first over
                (λ id. rw otid refl) first_on first_off (λ id. rw (goes, otid, dtid, over_is) refl) own.over one.over
                two.over was.over has has_now;
            peer_over =
                peer_over_more side items m (λ id. bytes_eq id to) peer_over (λ id. rw (goes, dtid) refl) their_on peer.over
                then.over their.over (rw (ap (λ (s : SideFacts). s.over) their_rest) at their_has);
            own_rest = rest_now ∙ ap (λ (s : SideFacts). record s { over = two.over; joined = two.joined }) rest;
            peer_rest = their_rest_now
                ∙ ap (λ (s : SideFacts). record s { over = then.over }) their_rest
                ∙ ap (λ (j : BTreeMap (List ℕ) Ids). record peer { over = then.over; joined = j })
                (sym (ap (λ (s : SideFacts). s.joined) their_rest_now));
          }
        where
          goes : is_a forms.Continue m ≡ true
          goes = goes_both m from to otid dtid

          their_on : (id : List ℕ) → bytes_eq id to ≡ true
              → peer_over ≡ (has_used (other side) items id && passes_of (has_ended (other side) items) (otid_in m))
          their_on id same =
              let it : id ≡ to = (bytes_eq-Decides id to).0 same in
              rw (otid, it) peer_is

  -- ---- the whole histories

  module _ (one there : SideFacts) (j : IsJoined side items m own one peer there) where
    pub from_was : AreFrom table (sent_from side items) one.from
    from_was id = rw (ap (λ (s : SideFacts). s.from) j.own_rest) (was.from id)

    pub to_was : AreTo table (sent_to side items) one.to
    to_was id = rw (ap (λ (s : SideFacts). s.to) j.own_rest) (was.to id)

    -- The history of the end that sent the message.
    pub own_sent : (froms : BTreeMap (List ℕ) SentFrom) (tos : BTreeMap (List ℕ) SentTo)
        (guessed_now closed_now : BTreeSet (List ℕ)) (again : Bool) (closed : Option (List ℕ))
        → AreFrom table (with_more otid_in m (sent_from side items)) froms
        → AreTo table (with_more dtid_in m (sent_to side items)) tos
        → again ≡ uses_again table side items m
        → ((id : List ℕ) → is_id id closed ≡ shows_closed side id items (Sent side m))
        → HasMore (λ other. is_id other closed) one.closed closed_now
        → HasMore (λ id. guesses (other side) id items (Sent side m)) one.guessed guessed_now
        → IsSide table side (items ++ Sent side m ∷ []) (record {
          from = froms;
          to = tos;
          joined = one.joined;
          guessed = guessed_now;
          closed = closed_now;
          over = one.over;
          again = one.again || again;
        })
    own_sent froms tos guessed_now closed_now again closed are_from are_to again_is closed_is closes guess_more = record {
      from = λ id. rw (from_own side items m id) (are_from id);
      to = λ id. rw (to_own side items m id) (are_to id);
      joined = λ id.
          rw (filter_agree (has_used (other side) (items ++ Sent side m ∷ [])) (has_used (other side) items)
          (used_theirs side items m) (dtids_of (sent_from side (items ++ Sent side m ∷ []) id))) (j.own_joined id);
      guessed = λ id.
          guess_more id
          ∙ ap (λ b. b || guesses (other side) id items (Sent side m))
          (ap (λ (s : SideFacts). set.contains octets_cmp s.guessed id) j.own_rest ∙ was.guessed id)
          ∙ sym (one_more (guesses (other side) id) [] items (Sent side m));
      closed = λ id.
          closes id
          ∙ ap (λ b. b || is_id id closed)
          (ap (λ (s : SideFacts). set.contains octets_cmp s.closed id) j.own_rest ∙ was.closed id)
          ∙ ap (λ b. one_passes (shows_closed side id) [] items || b) (closed_is id)
          ∙ sym (one_more (shows_closed side id) [] items (Sent side m));
      over = j.own_over;
      again =
          ap (λ b. b || again) (ap (λ (s : SideFacts). s.again) j.own_rest ∙ was.again)
          ∙ ap (λ b. has_used_again table side items || b) (again_is ∙ here)
          ∙ sym (one_more (is_used_again table side) [] items (Sent side m));
    }
      where
        here : uses_again table side items m ≡ is_used_again table side items (Sent side m)
        here = rw (itself side) refl

    -- The history of its peer.
    pub peer_sent : IsSide table (other side) (items ++ Sent side m ∷ []) there
    peer_sent = record {
      from = λ id. rw (from_theirs side items m id, ap (λ (s : SideFacts). s.from) j.peer_rest) (their.from id);
      to = λ id. rw (to_theirs side items m id, ap (λ (s : SideFacts). s.to) j.peer_rest) (their.to id);
      joined = λ id. rw (other_twice side, from_theirs side items m id) (j.peer_joined id);
      guessed = λ id.
          ap (λ (s : SideFacts). set.contains octets_cmp s.guessed id) j.peer_rest ∙ their.guessed id
          ∙ or_none (one_passes (guesses (other (other side)) id) [] items)
          ∙ ap (λ b. one_passes (guesses (other (other side)) id) [] items || b) (no_guess id)
          ∙ sym (one_more (guesses (other (other side)) id) [] items (Sent side m));
      closed = λ id.
          ap (λ (s : SideFacts). set.contains octets_cmp s.closed id) j.peer_rest ∙ their.closed id
          ∙ or_none (one_passes (shows_closed (other side) id) [] items)
          ∙ ap (λ b. one_passes (shows_closed (other side) id) [] items || b) (no_close id)
          ∙ sym (one_more (shows_closed (other side) id) [] items (Sent side m));
      over = j.peer_over;
      again =
          ap (λ (s : SideFacts). s.again) j.peer_rest ∙ their.again
          ∙ or_none (has_used_again table (other side) items)
          ∙ ap (λ b. has_used_again table (other side) items || b) no_use
          ∙ sym (one_more (is_used_again table (other side)) [] items (Sent side m));
    }
      where
        no_guess : (id : List ℕ) → false ≡ guesses (other (other side)) id items (Sent side m)
        no_guess id = rw (thrice_not side) refl

        no_close : (id : List ℕ) → false ≡ shows_closed (other side) id items (Sent side m)
        no_close id = rw (not_other side) refl

        no_use : false ≡ is_used_again table (other side) items (Sent side m)
        no_use = rw (not_other side) refl
