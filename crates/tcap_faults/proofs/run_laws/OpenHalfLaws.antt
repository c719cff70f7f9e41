-- Each open half of an end that keeps the rules has its story: what led to it, and what the list has of that.
use Rattle.std.proofs.Common.{◌≡◌, inl, inr, ℕ, Bool, true, false, List, [], ◌∷◌, ◌++◌, Option, Some, None, is_none, refl, sym, ap, subst, ◌∙◌, append_assoc, arith}
use Rattle.std.specs.Prelude.{Contains, ◌&&◌}
use Rattle.std.proofs.lemmas.List.{append-nil}
use Rattle.tcap_msg.specs.declared.message.Message.{Message}
use Rattle.tcap_msg.specs.declared.message.Message.TheVariants.{Begin, Continue}
use Rattle.tcap_msg.specs.Parts.{cause_in, dtid_in}
use Rattle.tcap_record.specs.declared.entry.End.{End as Side}
use Rattle.tcap_end.specs.Table.{Table}
use Rattle.tcap_end.specs.Half.{is_closed}
use Rattle.tcap_end.specs.End.{End, KeyedHalf, is_id}
use Rattle.tcap_end.specs.ReachableEnd.{HasHalf, IsEnd}
use Rattle.tcap_end.proofs.EndLaws.{no_half}
use Rattle.tcap_end.proofs.FoundLaws.{none_peer}
use Rattle.tcap_end.proofs.StepLaws.{sends}
use Rattle.tcap_record.specs.Ends.{other}
use Rattle.tcap_model.specs.World.{Item, Sent}
use Rattle.tcap_refute.specs.EarlierMessages.{sent_by}
use Rattle.tcap_refute.proofs.Members.{has_first}
use Rattle.tcap_faults.specs.SentToId.{begin_from, is_begin_from, outgoing}
use Rattle.tcap_faults.proofs.view_laws.AdvanceLaws.{Refuses, refuses}
use Rattle.tcap_faults.proofs.list_laws.FindLaws.{find_has}
use Rattle.tcap_faults.proofs.view_laws.BegunHalfLaws.{all_use, begin_used, outgoing_half}
use Rattle.tcap_faults.proofs.view_laws.InvariantLaws.{views_keep}
use Rattle.tcap_faults.proofs.view_laws.GrowthLaws.{own_same, their_same}
use Rattle.tcap_faults.proofs.view_laws.ViewLaws.{IsUnseen, View, view_sound}
use Rattle.tcap_faults.proofs.run_laws.HalfGoesOnLaws.{Story, story_later, story_still}
use Rattle.tcap_faults.proofs.run_laws.ItemLaws.{begins_kept, sent_own, outgoing_not, outgoing_same}
use Rattle.tcap_faults.proofs.run_laws.EndReceivesLaws.{ToldNone, closed_stories, expired_stories, received_stories, stories_still}
use Rattle.tcap_faults.proofs.run_laws.EndSendsLaws.{BeganNone, HaveStories, sent_stories}
use Rattle.tcap_faults.proofs.story_laws.Stories.{outgoing_to}

-- ---- what is known about an end

-- The open halves have their stories. What the peer sent is no longer on its way, or is still coming.
pub record HasLives (table : Table) (side : Side) (e : End) (coming : List Message) (items : List Item) : Type 0 where
  pub gone : List Message
  pub split : sent_by (other side) items ≡ gone ++ coming
  pub stories : HaveStories table side items gone e

-- The end sent no Begin from an ID that no half has, and nothing to an ID that no half has as its peer's.
module _ {table : Table} {side : Side} {e : End} {coming : List Message} {items : List Item}
    (view : View table side e coming items) where
  began_none : BeganNone side items e
  began_none id none = by (begin_from side id items) refl
    where
      by : (o : Option Message) → begin_from side id items ≡ o → begin_from side id items ≡ None
      by None is = is
      by (Some b) is =
          let (has, begins) = find_has (is_begin_from id) (sent_by side items) b is in
          begin_used e id b (view_sound view) none begins (all_use view b has)

  outgoing_none : ToldNone side items e
  outgoing_none id none = by (outgoing side id items) refl
    where
      by : (ms : List Message) → outgoing side id items ≡ ms → outgoing side id items ≡ []
      by [] is = is
      by (m ∷ ms) is =
          let has : Contains (outgoing side id items) m = rw is (has_first m ms) in
          let (f, had, peer) = outgoing_half view m id has in none_peer e id f none had peer

-- ---- each step

module _ (table : Table) (side : Side) where
  -- A message is taken from the channel.
  loses_lives : (e : End) (coming : List Message) (items : List Item) (m : Message)
      → HasLives table side e (m ∷ coming) items → HasLives table side e coming items
  loses_lives e coming items m it = record {
    gone = it.gone ++ m ∷ [];
    split = it.split ∙ sym (append_assoc it.gone (m ∷ []) coming);
    stories = stories_still table side items it.gone m e it.stories;
  }

  -- The end's provider replies with an Abort, which has a cause and goes over no half.
  has_cause : (e : End) (m abort : Message) → Refuses e m abort → is_none (cause_in abort) ≡ false
  has_cause e (Begin otid dialogue components) abort is = rw (is.0) refl
  has_cause e (Continue otid dtid dialogue components) abort is = rw (is.0) refl
  has_cause e m abort is = absurd is

  replies_lives : (e : End) (coming : List Message) (items : List Item) (abort : Message)
      → is_none (cause_in abort) ≡ false → HasLives table side e coming items
      → HasLives table side e coming (items ++ Sent side abort ∷ [])
  replies_lives e coming items abort caused it = record {
    gone = it.gone;
    split = their_same side abort items ∙ it.split;
    stories = λ g in_g is_open.
        story_later table side items (items ++ Sent side abort ∷ []) it.gone g.slot g.key g.half
        (begins_kept side items (items ++ Sent side abort ∷ []) (abort ∷ []) (sent_own side abort items))
        (untold g.half.peer) (it.stories g in_g is_open);
  }
    where
      never : (b : Bool) → (b && false) ≡ false
      never b = grind arith

      untold : (peer : Option (List ℕ)) → outgoing_to side (items ++ Sent side abort ∷ []) peer ≡ outgoing_to side items peer
      untold None = refl
      untold (Some id) = outgoing_not side items abort id (rw caused (never (is_id id (dtid_in abort))))

  -- The peer sends something, which is still coming.
  asks_lives : (e : End) (coming : List Message) (items : List Item) (m : Message) → HasLives table side e coming items
      → HasLives table side e (coming ++ m ∷ []) (items ++ Sent (other side) m ∷ [])
  asks_lives e coming items m it = record {
    gone = it.gone;
    split =
        sent_own (other side) m items ∙ ap (λ all. all ++ m ∷ []) it.split
        ∙ append_assoc it.gone coming (m ∷ []);
    stories = λ g in_g is_open.
        story_later table side items (items ++ Sent (other side) m ∷ []) it.gone g.slot g.key g.half
        (begins_kept side items (items ++ Sent (other side) m ∷ []) []
        (own_same side m items ∙ sym (append-nil (sent_by side items))))
        (outgoing_same side items (items ++ Sent (other side) m ∷ []) g.half.peer (own_same side m items))
        (it.stories g in_g is_open);
  }

  -- A hidden step.
  internal_lives : (e next : End) (coming : List Message) (items : List Item) → IsEnd e → IsUnseen table e next
      → HasLives table side e coming items → HasLives table side next coming items
  internal_lives e next coming items sound internal it =
      record { gone = it.gone; split = it.split; stories = by internal }
    where
      by : IsUnseen table e next → HaveStories table side items it.gone next
      by (inl (name, id, step)) = expired_stories table side items it.gone e next sound it.stories name id step
      by (inr (name, step)) = closed_stories table side items it.gone e next sound it.stories name step

-- ---- runs

have_lives : {table : Table} {side : Side} {e : End} {coming : List Message} {items : List Item}
    → View table side e coming items → HasLives table side e coming items
have_lives {table} {side} {e} {coming} {items} view = views_keep table side (HasLives table side) (record {
  blank = record { gone = []; split = refl; stories = λ f had. no_half f.slot f.key f.half had };
  says = λ e next coming items m view is held. record {
    gone = held.gone;
    split = their_same side m items ∙ held.split;
    stories = sent_stories table side items held.gone e next (view_sound view)
        (sends table e next m (view_sound view) is).sound held.stories (began_none view) m is;
  };
  hears = λ e next coming items m view is held. record {
    gone = held.gone ++ m ∷ [];
    split = held.split ∙ sym (append_assoc held.gone (m ∷ []) coming);
    stories = received_stories table side items held.gone e next (view_sound view) held.stories (outgoing_none view) m is;
  };
  refuses = λ e coming items m abort view is held.
      replies_lives table side e coming items abort (has_cause table side e m abort (refuses e m abort is))
      (loses_lives table side e coming items m held);
  internal = λ e next coming items view is_next acts internal held.
      internal_lives table side e next coming items (view_sound view) internal held;
  loses = λ e coming items m view held. loses_lives table side e coming items m held;
  asks = λ e coming items m view held. asks_lives table side e coming items m held;
}) e coming items view

-- In each run in which an end keeps the rules, its open halves have their stories, by what was sent since the last
-- quiet mark.
pub lives : {table : Table} {side : Side} {e : End} {coming : List Message} {items : List Item}
    → View table side e coming items → (f : KeyedHalf) → HasHalf e f → is_closed f.half.phase ≡ false
    → Story table side items (sent_by (other side) items) f.slot f.key f.half
lives {table} {side} {e} {coming} {items} view f had is_open =
    subst (λ (gone : List Message). Story table side items gone f.slot f.key f.half) (sym it.split)
    (story_still table side items it.gone coming f.slot f.key f.half (it.stories f had is_open))
  where
    it : HasLives table side e coming items
    it = have_lives view
