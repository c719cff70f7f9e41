-- Changes that were noted can be undone.
use Rattle.std.proofs.Common.{◌≡◌, List, [], ◌∷◌, ap, ◌∙◌}
use Rattle.tcap_end.specs.declared.half_state.HalfState.{HalfState}
use Rattle.tcap_end.specs.declared.half_state.Change.{Change}
use Rattle.tcap_end.specs.declared.half_state.Change.TheVariants.{Out, Waits, InnTaken, GrantTaken, InnJoined, GrantJoined}
use Rattle.tcap_end.specs.declared.half.InvocationState.TheVariants as states
use Rattle.tcap_lists.specs.declared.lists.Lists.{Lists}
use Rattle.tcap_end.specs.Half.{Half}
use Rattle.tcap_end.specs.HalfState.{CanUndo, GoesBack, KeepsParts, StoredHalf, Undoes, half_in, kept_of, undone}
use Rattle.tcap_lists.specs.Lists.{KeepsRows, kind_of, one_less, rows_of, with_place}
use Rattle.tcap_end.specs.OwnInvocations.{with_out, with_state}
use Rattle.std.proofs.Common.{ℕ, ℤ}

rows_then : {K : Type 0} (a b c : Lists K) → KeepsRows a b → KeepsRows b c → KeepsRows a c
rows_then a b c k l = record {
  rows = λ id has. l.rows id (k.rows id has);
  kinds = λ id number some. l.kinds id number (rw (k.kinds id number some) some) ∙ k.kinds id number some;
}

pub keeps_then : (a b c : HalfState) → KeepsParts a b → KeepsParts b c → KeepsParts a c
keeps_then a b c k l = record {
  slot = l.slot ∙ k.slot;
  out = λ id has. l.out id (k.out id has);
  inn = rows_then a.inn b.inn c.inn k.inn l.inn;
  grants = rows_then a.grants b.grants c.grants k.grants l.grants;
}

back_too : {K : Type 0} (id : ℤ) (at kind : ℕ) (l next : Lists K) → rows_of next ≡ rows_of l → KeepsRows l next → GoesBack id at kind l
    → GoesBack id at kind next
back_too id at kind l next same keeps back = record {
  within = rw same back.within;
  empty = rw same back.empty;
  there = rw (keeps.kinds id kind back.there) back.there;
}

-- a change can also be undone in a state with the same stored parts
pub can_too : (change : Change) (h next : HalfState) → kept_of next ≡ kept_of h → KeepsParts h next → CanUndo change h → CanUndo change next
can_too (Out id was) h next same keeps can = keeps.out id can
can_too (Waits id) h next same keeps can = keeps.out id can
can_too (InnTaken id at kind) h next same keeps can = back_too id at kind h.inn next.inn (ap (λ (k : StoredHalf). k.inn) same) keeps.inn can
can_too (GrantTaken id at kind) h next same keeps can = back_too id at kind h.grants next.grants (ap (λ (k : StoredHalf). k.grants) same) keeps.grants can
can_too (InnJoined id) h next same keeps can = keeps.inn.rows id can
can_too (GrantJoined id) h next same keeps can = keeps.grants.rows id can

-- undoing it there gives the same parts
undone_same : (change : Change) (h next : HalfState) → kept_of next ≡ kept_of h → KeepsParts h next → CanUndo change h
    → undone change next ≡ undone change h
undone_same (Out id was) h next same keeps can = ap (λ (k : StoredHalf). record k { out = with_out id was k.out }) same
undone_same (Waits id) h next same keeps can = ap (λ (k : StoredHalf). record k { out = with_state id states.OperationSent k.out }) same
undone_same (InnTaken id at kind) h next same keeps can =
    ap (λ (k : StoredHalf). record k { inn = with_place id at (kind_of id kind next.inn) k.inn }) same
    ∙ ap (λ item. record (kept_of h) { inn = with_place id at item (rows_of h.inn) }) (keeps.inn.kinds id kind can.there)
undone_same (GrantTaken id at kind) h next same keeps can =
    ap (λ (k : StoredHalf). record k { grants = with_place id at (kind_of id kind next.grants) k.grants }) same
    ∙ ap (λ item. record (kept_of h) { grants = with_place id at item (rows_of h.grants) }) (keeps.grants.kinds id kind can.there)
undone_same (InnJoined id) h next same keeps can = ap (λ (k : StoredHalf). record k { inn = one_less id k.inn }) same
undone_same (GrantJoined id) h next same keeps can = ap (λ (k : StoredHalf). record k { grants = one_less id k.grants }) same

-- all changes can be undone there
pub undoes_too : (changes : List Change) (h next : HalfState) (start : Half) → kept_of next ≡ kept_of h → KeepsParts h next
    → Undoes changes h start → Undoes changes next start
undoes_too [] h next start same keeps e = ap half_in same ∙ e
undoes_too (change ∷ changes) h next start same keeps u = (
  can_too change h next same keeps u.0,
  λ last is. u.1 last (is.0 ∙ undone_same change h next same keeps u.0, keeps_then h next last keeps is.1),
)

-- one more change
pub undoes_more : (change : Change) (changes : List Change) (h next : HalfState) (start : Half)
    → undone change next ≡ kept_of h → KeepsParts h next
    → CanUndo change next → Undoes changes h start → Undoes (change ∷ changes) next start
undoes_more change changes h next start back keeps can u =
    (can, λ last is. undoes_too changes h last start (is.0 ∙ back) (keeps_then h next last keeps is.1) u)
