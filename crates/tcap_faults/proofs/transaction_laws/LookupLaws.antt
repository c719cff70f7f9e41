-- What is found of the IDs of a message.
use Rattle.std.proofs.Common.{◌≡◌, Bor, ℕ, Bool, true, false, not, ◌&&◌, List, [], ◌∷◌, Option, Some, None, is_some, bytes_eq, refl, sym, ap, arith}
use Rattle.std.specs.Prelude.{option_copied}
use Rattle.std.specs.List.{list_any}
use Rattle.std.specs.Option.{option_to_list}
use Rattle.tcap_msg.specs.declared.kind.Kind.TheVariants as forms
use Rattle.tcap_msg.specs.declared.message.Message.{Message}
use Rattle.tcap_msg.specs.declared.message.Message.TheVariants.{Begin, Continue, End as EndMessage, Abort}
use Rattle.tcap_msg.specs.Parts.{dtid_in, otid_in}
use Rattle.tcap_record.specs.declared.entry.End.{End as Side}
use Rattle.tcap_end.specs.Table.{Table}
use Rattle.tcap_model.specs.World.{Item}
use Rattle.tcap_refute.specs.EarlierMessages.{peer_sent_from, has_a}
use Rattle.tcap_faults.specs.Counts.{is_nothing}
use Rattle.tcap_faults.specs.SentToId.{has_used, outgoing}
use Rattle.tcap_faults.specs.TangledIds.{owns_of, tangled_id, tangled_in}
use Rattle.tcap_faults.specs.UsedAgain.{may_be_over, uses_again}
use Rattle.tcap_faults.specs.declared.transaction.lookup.OwnId.{OwnId}
use Rattle.tcap_faults.specs.declared.transaction.lookup.PeerId.{PeerId}
use Rattle.tcap_faults.specs.KeptForMessage.{IsOwnId, IsOwnIdAt, IsPeerId, IsPeerIdAt}

-- A reference is there exactly if its value is.
pub some_lent : {X : Type 0} (o : Option (Bor X)) → is_some o ≡ is_some (option_copied o)
some_lent o = grind arith

module _ (table : Table) (side : Side) (items : List Item) where
  -- If an own ID is found, the message has one.
  pub own_is : (o : Option (List ℕ)) (own : OwnId) → IsOwnIdAt table side items o (Some own)
      → (id : List ℕ) × (o ≡ Some id) × IsOwnId table side items id own
  own_is None own is = absurd is
  own_is (Some id) own is = (id, refl, is)

  pub there_is : (o : Option (List ℕ)) (there : PeerId) → IsPeerIdAt table side items o (Some there)
      → (id : List ℕ) × (o ≡ Some id) × IsPeerId table side items id there
  there_is None there is = absurd is
  there_is (Some id) there is = (id, refl, is)

  -- If none is found, the message has none.
  pub own_none : (o : Option (List ℕ)) → IsOwnIdAt table side items o None → o ≡ None
  own_none o is = grind (arith, is)

  pub there_none : (o : Option (List ℕ)) → IsPeerIdAt table side items o None → o ≡ None
  there_none o is = grind (arith, is)

-- ---- a message that goes over tangled IDs

module _ (side : Side) (items : List Item) where
  pub over_those : (m : Message) (id : List ℕ) → dtid_in m ≡ Some id
      → tangled_id side items (option_to_list (otid_in m)) id ≡ tangled_in side items m
  over_those (Continue otid dtid dialogue components) id there =
      let same : id ≡ dtid = cc in
      ap (λ x. tangled_id side items (otid ∷ []) x) same
  over_those (EndMessage dtid dialogue components) id there =
      let same : id ≡ dtid = cc in
      ap (λ x. tangled_id side items [] x) same
  over_those (Abort dtid reason) id there =
      let same : id ≡ dtid = cc in
      ap (λ x. tangled_id side items [] x) same
  over_those m id there = cc

  pub over_nothing : (m : Message) → dtid_in m ≡ None → None ≡ tangled_in side items m
  over_nothing m none = rw none refl

-- ---- a message that uses an own ID again

module _ (table : Table) (side : Side) (items : List Item) where
  -- The ID was not used before, or its transaction is not over: the message does not use it again.
  pub again_not : (m : Message) (own : List ℕ) → otid_in m ≡ Some own
      → (has_used side items own && may_be_over table side items own) ≡ false → false ≡ uses_again table side items m
  again_not (Begin otid dialogue components) own it not_over =
      let same : otid ≡ own = cc in rw same (sym not_over)
  again_not (Continue otid dtid dialogue components) own it not_over =
      let same : otid ≡ own = cc in
      rw (same, not_over) refl
  again_not m own it not_over = cc

  -- Otherwise a Begin uses it again.
  pub again_begin : (m : Message) (own : List ℕ) → otid_in m ≡ Some own → dtid_in m ≡ None
      → has_used side items own ≡ true → may_be_over table side items own ≡ true → true ≡ uses_again table side items m
  again_begin (Begin otid dialogue components) own it none used over =
      let same : otid ≡ own = cc in rw (same, over, used) refl
  again_begin m own it none used over = cc

  -- Otherwise a Continue uses it again exactly if it is the first message to an ID that the peer began.
  pub again_continue : (m : Message) (own id : List ℕ) → otid_in m ≡ Some own → dtid_in m ≡ Some id
      → has_used side items own ≡ true → may_be_over table side items own ≡ true → (anew : Bool)
      → anew
      ≡ (has_a forms.Begin (peer_sent_from side id items) && is_nothing (outgoing side id items)
      && not (list_any (bytes_eq own) (owns_of side items id)))
      → anew ≡ uses_again table side items m
  again_continue (Continue otid dtid dialogue components) own id it there used over anew is =
      let same : otid ≡ own = cc in
      let same_there : dtid ≡ id = cc in
      rw (same, same_there, over, used) is
  again_continue m own id it there used over anew is = cc
