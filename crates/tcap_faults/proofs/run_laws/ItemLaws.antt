-- One more item: what an end sent and began with it.
use Rattle.std.proofs.Common.{◌≡◌, ℕ, true, false, List, [], ◌∷◌, ◌++◌, Option, Some, None, refl, ap, ◌∙◌, arith}
use Rattle.std.specs.Prelude.{filter, ◌&&◌, is_none}
use Rattle.std.specs.List.{find}
use Rattle.std.proofs.lemmas.List.{append-nil}
use Rattle.std.proofs.lemmas.List.Elements.{filter-append, filter_map-append}
use Rattle.std.proofs.lemmas.List.Folds.{find-append}
use Rattle.tcap_msg.specs.declared.kind.Kind.TheVariants as forms
use Rattle.tcap_msg.specs.declared.message.Message.{Message}
use Rattle.tcap_msg.specs.Parts.{cause_in, dtid_in, otid_in}
use Rattle.tcap_record.specs.declared.entry.End.{End as Side}
use Rattle.tcap_end.specs.End.{is_id}
use Rattle.tcap_model.specs.World.{Item, Sent, is_side}
use Rattle.tcap_refute.specs.EarlierMessages.{is_a, sent_by}
use Rattle.tcap_model.proofs.WorldLaws.{itself}
use Rattle.tcap_faults.specs.SentToId.{begin_from, is_begin_from, is_outgoing_to, outgoing}
use Rattle.tcap_faults.proofs.run_laws.MayHearLaws.{KeepsBegins}
use Rattle.tcap_faults.proofs.story_laws.Stories.{outgoing_to}

-- ---- what an end sent

-- The end's message is the last that it sent.
pub sent_own : (side : Side) (m : Message) (items : List Item)
    → sent_by side (items ++ Sent side m ∷ []) ≡ sent_by side items ++ m ∷ []
sent_own side m items = filter_map-append _ items (Sent side m ∷ []) ∙ ap (λ more. sent_by side items ++ more) one
  where
    one : sent_by side (Sent side m ∷ []) ≡ m ∷ []
    one = rw (itself side) refl

-- A message of the other end is not the end's.
pub sent_other : (side sender : Side) (m : Message) (items : List Item) → is_side side sender ≡ false
    → sent_by side (items ++ Sent sender m ∷ []) ≡ sent_by side items
sent_other side sender m items apart =
    filter_map-append _ items (Sent sender m ∷ []) ∙ ap (λ more. sent_by side items ++ more) none
    ∙ append-nil (sent_by side items)
  where
    none : sent_by side (Sent sender m ∷ []) ≡ []
    none = rw apart refl

-- ---- what the end began and sent to an ID

-- The end keeps its Begins if it only sends more.
pub begins_kept : (side : Side) (items later : List Item) (more : List Message)
    → sent_by side later ≡ sent_by side items ++ more → KeepsBegins side items later
begins_kept side items later more is own begin found =
    ap (find (is_begin_from own)) is ∙ find-append (is_begin_from own) (sent_by side items) more ∙ rw found refl

-- A Begin from an ID without a Begin is that ID's Begin.
pub begins_now : (side : Side) (items : List Item) (m : Message) (own : List ℕ) → begin_from side own items ≡ None
    → is_a forms.Begin m ≡ true → is_id own (otid_in m) ≡ true
    → begin_from side own (items ++ Sent side m ∷ []) ≡ Some m
begins_now side items m own none begins from =
    ap (find (is_begin_from own)) (sent_own side m items) ∙ find-append (is_begin_from own) (sent_by side items) (m ∷ [])
    ∙ rw (none, begins, from) refl

-- A message to an ID is the last to it.
pub outgoing_now : (side : Side) (items : List Item) (m : Message) (id : List ℕ) → is_id id (dtid_in m) ≡ true
    → cause_in m ≡ None → outgoing side id (items ++ Sent side m ∷ []) ≡ outgoing side id items ++ m ∷ []
outgoing_now side items m id to no_cause =
    ap (filter (is_outgoing_to id)) (sent_own side m items) ∙ filter-append (is_outgoing_to id) (sent_by side items) (m ∷ [])
    ∙ ap (λ more. outgoing side id items ++ more) one
  where
    one : filter (is_outgoing_to id) (m ∷ []) ≡ m ∷ []
    one = rw (to, no_cause) refl

-- A message to another ID changes nothing.
pub outgoing_not : (side : Side) (items : List Item) (m : Message) (id : List ℕ)
    → (is_id id (dtid_in m) && is_none (cause_in m)) ≡ false
    → outgoing side id (items ++ Sent side m ∷ []) ≡ outgoing side id items
outgoing_not side items m id apart =
    ap (filter (is_outgoing_to id)) (sent_own side m items) ∙ filter-append (is_outgoing_to id) (sent_by side items) (m ∷ [])
    ∙ ap (λ more. outgoing side id items ++ more) none ∙ append-nil (outgoing side id items)
  where
    none : filter (is_outgoing_to id) (m ∷ []) ≡ []
    none = rw apart refl

-- If the end sent nothing more, it sent nothing more to the peer.
pub outgoing_same : (side : Side) (items later : List Item) (peer : Option (List ℕ))
    → sent_by side later ≡ sent_by side items
    → outgoing_to side later peer ≡ outgoing_to side items peer
outgoing_same side items later peer is = grind (arith, is)
