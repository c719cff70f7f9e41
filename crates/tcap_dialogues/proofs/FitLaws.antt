-- A part that shares no ID with the rest: the IDs of a message are all in it, or none.
use Rattle.std.proofs.Common.{◌≡◌, ℕ, Bool, true, false, List, Option, Some, refl, sym, ap, ◌∙◌}
use Rattle.std.specs.Prelude.{slice_get}
use Rattle.tcap_msg.specs.declared.message.Message.{Message}
use Rattle.tcap_msg.specs.Parts.{dtid_in, otid_in}
use Rattle.tcap_record.specs.declared.entry.End.{End as Side}
use Rattle.tcap_record.specs.declared.entry.End.TheVariants as sides
use Rattle.tcap_end.proofs.FoundLaws.{is_that_id}
use Rattle.tcap_record.specs.Ends.{other}
use Rattle.tcap_model.specs.World.{Item, Sent}
use Rattle.tcap_dialogues.specs.Part.{IsClosed, carries}
use Rattle.tcap_dialogues.proofs.PartLists.{carried_by, carried_in, from_zero, is_carried}
use Rattle.tcap_dialogues.proofs.SendLaws.{Fits}

module _ (keeps : ℕ → Bool) (items : List Item) (closed : IsClosed keeps items) where
  -- whether an ID of an end is in the part
  abbrev pub in_part : Side → List ℕ → Bool
  in_part end id = is_carried end id keeps 0 items

  -- An ID of a message is in the part if the message is.
  carried_is : (end : Side) (id : List ℕ) (i : ℕ) (side : Side) (m : Message) → slice_get items i ≡ Some (Sent side m)
      → carries end id side m ≡ true → in_part end id ≡ keeps i
  carried_is end id i side m listed has = by (keeps i) refl (in_part end id) refl
    where
      by : (b : Bool) → keeps i ≡ b → (c : Bool) → in_part end id ≡ c → in_part end id ≡ b
      by true so c is = carried_in end id keeps 0 items i side m listed (ap keeps (from_zero i) ∙ so) has
      by false so false is = is
      by false so true is =
          let c = carried_by end id keeps 0 items is in
          let same = closed.same c.i i c.side side c.message m c.listed listed (end, id, c.has, has) in
          let bad : true ≡ false = sym c.kept ∙ ap keeps (from_zero c.i) ∙ same ∙ so in cc

  -- So it is with all IDs of a sent message.
  pub all_fit : (side : Side) (i : ℕ) (m : Message) → slice_get items i ≡ Some (Sent side m)
      → Fits (in_part side) (in_part (other side)) (keeps i) m
  all_fit sides.A i m listed = record {
    origin = λ id is. carried_is sides.A id i sides.A m listed (is_that_id id (otid_in m) is);
    destination = λ id is. carried_is sides.B id i sides.A m listed (is_that_id id (dtid_in m) is);
  }
  all_fit sides.B i m listed = record {
    origin = λ id is. carried_is sides.B id i sides.B m listed (is_that_id id (otid_in m) is);
    destination = λ id is. carried_is sides.A id i sides.B m listed (is_that_id id (dtid_in m) is);
  }

  -- So it is with all IDs of a received message.
  pub all_came : (side : Side) (i : ℕ) (m : Message) → slice_get items i ≡ Some (Sent (other side) m)
      → Fits (in_part (other side)) (in_part side) (keeps i) m
  all_came sides.A i m listed = all_fit sides.B i m listed
  all_came sides.B i m listed = all_fit sides.A i m listed
