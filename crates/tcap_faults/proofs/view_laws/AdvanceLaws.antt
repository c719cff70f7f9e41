-- One step of an end that keeps the rules, in its halves and in the list.
use Rattle.std.proofs.Common.{◌≡◌, ◌⊎◌, inl, inr, Bool, true, false, List, [], ◌∷◌, ◌++◌, Some, None, Ok, is_ok, is_none, not, refl, sym, ap, subst, arith}
use Rattle.std.specs.Prelude.{Contains, ◌||◌}
use Rattle.std.proofs.lemmas.Bool.{not-true}
use Rattle.std.proofs.lemmas.Option.{cond_some}
use Rattle.tcap_msg.specs.declared.message.Message.{Message}
use Rattle.tcap_msg.specs.declared.message.Message.TheVariants.{Begin, Continue}
use Rattle.tcap_record.specs.declared.entry.End.{End as Side}
use Rattle.tcap_end.specs.declared.fault.EndFault.{EndFault}
use Rattle.tcap_end.specs.declared.fault.EndFault.TheVariants as faults
use Rattle.tcap_end.specs.Step.{needs, ◌>>◌}
use Rattle.tcap_end.specs.Table.{Table}
use Rattle.tcap_end.specs.End.{End, nothing, with_own, with_peer}
use Rattle.tcap_end.specs.Message.{receive, send}
use Rattle.tcap_end.specs.Reply.{aborts, is_open}
use Rattle.tcap_end.specs.ReachableEnd.{IsEnd}
use Rattle.tcap_end.proofs.StepLaws.{none_is, receives, sends}
use Rattle.tcap_record.specs.Ends.{other}
use Rattle.tcap_model.specs.World.{Item, Sent}
use Rattle.tcap_model.specs.Run.{provider_abort, reply_to}
use Rattle.tcap_model.proofs.ListLaws.{contains_first}
use Rattle.tcap_refute.specs.EarlierMessages.{sent_by}
use Rattle.tcap_refute.proofs.Members.{has_not}
use Rattle.tcap_refute.proofs.HalfLawsTurns.{Acts, Deed, Heard, Said, Internal, acts_nowhere}
use Rattle.tcap_faults.proofs.view_laws.ActLaws.{IsActiveFor, Uses, incoming_acts, said_acts, said_uses}
use Rattle.tcap_faults.proofs.view_laws.InvariantLaws.{views_keep}
use Rattle.tcap_faults.proofs.view_laws.GrowthLaws.{Grows, grows_not, grows_own, grows_theirs}
use Rattle.tcap_faults.proofs.view_laws.ViewLaws.{View, view_comes, view_sound}

-- ---- replies

-- What an Abort of the provider refuses: a Begin, if no half has its peer; or a Continue, if no open half has its
-- destination ID as its own.
abbrev pub Refuses : End → Message → Message → Type 0
Refuses e (Begin otid dialogue components) abort = (abort ≡ provider_abort otid 4) × (with_peer e otid ≡ None)
Refuses e (Continue otid dtid dialogue components) abort =
    (abort ≡ provider_abort otid 1) × (is_open (with_own e dtid) ≡ false)
Refuses e m abort = ⊥

both_needed : (a b : Bool) (reason : EndFault) → is_ok (needs a reason >> needs b reason) ≡ true → b ≡ true
both_needed a b reason is = grind (arith, is)

first_only : (b : Bool) → (b || false) ≡ true → b ≡ true
first_only b is = grind (arith, is)

pub refuses : (e : End) (m abort : Message) → reply_to e m ≡ Some abort → Refuses e m abort
refuses e (Begin otid dialogue components) abort is =
    let (may, same) = cond_some _ (provider_abort otid 4) abort is in
    let none = both_needed (aborts 4 otid (provider_abort otid 4)) (is_none (with_peer e otid)) faults.NoTransaction
    (first_only _ may) in
    (sym same, none_is (with_peer e otid) none)
refuses e (Continue otid dtid dialogue components) abort is =
    let (may, same) = cond_some _ (provider_abort otid 1) abort is in
    let shut = both_needed (aborts 1 otid (provider_abort otid 1)) (not (is_open (with_own e dtid)))
    faults.NoTransaction may in
    (sym same, not-true _ shut)
refuses e m abort is = cc

-- Such an Abort has a cause, and needs no half.
refused_uses : (e : End) (m abort : Message) → Refuses e m abort → Uses e abort × IsActiveFor e abort
refused_uses e (Begin otid dialogue components) abort is = rw (is.0) ((λ none. cc), tt)
refused_uses e (Continue otid dtid dialogue components) abort is = rw (is.0) ((λ none. cc), tt)
refused_uses e m abort is = absurd is

-- ---- steps

-- What the end did, and what changed in its halves and in the list. A sent message was added, a received one was in
-- the list, and each new message has its half.
pub record Advance (table : Table) (side : Side) (e next : End) (items after : List Item) : Type 0 where
  pub deed : Deed
  pub acts : Acts table deed e next
  pub grows : Grows side items after
  pub is_end : IsEnd e
  pub is_next : IsEnd next
  pub incoming : (m : Message) → deed ≡ Heard m → Contains (sent_by (other side) items) m
  pub said : (m : Message) → deed ≡ Said m → grows.mine ≡ m ∷ []
  pub uses : (m : Message) → Contains grows.mine m → Uses next m × IsActiveFor next m

only_has : (m n : Message) → Contains (m ∷ []) n → m ≡ n
only_has m n has = grind (arith, contains_first m [] n has)

module _ {table : Table} {side : Side} where
  said_advance : (e next : End) (coming : List Message) (items : List Item) (m : Message)
      → View table side e coming items → send table e m ≡ Ok next
      → Advance table side e next items (items ++ Sent side m ∷ [])
  said_advance e next coming items m view is =
      let is_end = view_sound view in
      record {
        deed = Said m;
        acts = said_acts table e next is_end m is;
        grows = grows_own side m items;
        is_end = is_end;
        is_next = (sends table e next m is_end is).sound;
        incoming = λ n same. cc;
        said = λ n same. let one : m ≡ n = cc in ap (λ (x : Message). x ∷ []) one;
        uses = λ n has.
            subst (λ (x : Message). Uses next x × IsActiveFor next x) (only_has m n has)
            (said_uses table e next is_end m is);
      }

  incoming_advance : (e next : End) (coming : List Message) (items : List Item) (m : Message)
      → View table side e (m ∷ coming) items → receive table e m ≡ Ok next → Advance table side e next items items
  incoming_advance e next coming items m view is =
      let is_end = view_sound view in
      record {
        deed = Heard m;
        acts = incoming_acts table e next is_end m is;
        grows = grows_not side items;
        is_end = is_end;
        is_next = (receives table e next m is_end is).sound;
        incoming = λ n same.
            let one : m ≡ n = cc in
            subst (λ (x : Message). Contains (sent_by (other side) items) x) one (view_comes m view);
        said = λ n same. cc;
        uses = λ n has. has_not n has;
      }

  refused_advance : (e : End) (coming : List Message) (items : List Item) (m abort : Message)
      → View table side e (m ∷ coming) items → reply_to e m ≡ Some abort
      → Advance table side e e items (items ++ Sent side abort ∷ [])
  refused_advance e coming items m abort view is =
      let is_end = view_sound view in
      record {
        deed = Internal;
        acts = acts_nowhere table Internal e;
        grows = grows_own side abort items;
        is_end = is_end;
        is_next = is_end;
        incoming = λ n same. cc;
        said = λ n same. cc;
        uses = λ n has.
            subst (λ (x : Message). Uses e x × IsActiveFor e x) (only_has abort n has)
            (refused_uses e m abort (refuses e m abort is));
      }

  internal_advance : (e next : End) (items : List Item) → IsEnd e → IsEnd next → Acts table Internal e next
      → Advance table side e next items items
  internal_advance e next items is_end is_next acts = record {
    deed = Internal;
    acts = acts;
    grows = grows_not side items;
    is_end = is_end;
    is_next = is_next;
    incoming = λ n same. cc;
    said = λ n same. cc;
    uses = λ n has. has_not n has;
  }

  asked_advance : (e : End) (m : Message) (items : List Item) → IsEnd e
      → Advance table side e e items (items ++ Sent (other side) m ∷ [])
  asked_advance e m items is_end = record {
    deed = Internal;
    acts = acts_nowhere table Internal e;
    grows = grows_theirs side m items;
    is_end = is_end;
    is_next = is_end;
    incoming = λ n same. cc;
    said = λ n same. cc;
    uses = λ n has. has_not n has;
  }

-- What each step keeps holds in each run.
pub advances_keep : (table : Table) (side : Side) (Holds : End → List Item → Type 0) → Holds nothing []
    → ((e next : End) (coming : List Message) (items after : List Item) → View table side e coming items
    → Advance table side e next items after → Holds e items → Holds next after)
    → (e : End) (coming : List Message) (items : List Item) → View table side e coming items → Holds e items
advances_keep table side Holds blank step = views_keep table side (λ e coming items. Holds e items) (record {
  blank = blank;
  says = λ e next coming items m view is held.
      step e next coming items _ view (said_advance e next coming items m view is) held;
  hears = λ e next coming items m view is held.
      step e next (m ∷ coming) items _ view (incoming_advance e next coming items m view is) held;
  refuses = λ e coming items m abort view is held.
      step e e (m ∷ coming) items _ view (refused_advance e coming items m abort view is) held;
  internal = λ e next coming items view is_next acts internal held.
      step e next coming items _ view (internal_advance e next items (view_sound view) is_next acts) held;
  loses = λ e coming items m view held. held;
  asks = λ e coming items m view held.
      step e e coming items _ view (asked_advance e m items (view_sound view)) held;
})
