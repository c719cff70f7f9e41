-- What is looked up in a history agrees with the messages.
use Rattle.std.proofs.Common.{◌≡◌, ℕ, Bool, true, false, not, ◌&&◌, List, [], Option, Some, None, is_some, filter, refl, sym, ap, ◌∙◌, arith}
use Rattle.std.specs.Prelude.{is_none}
use Rattle.std.specs.List.{find, list_any}
use Rattle.std.specs.Map.{lookup}
use Rattle.std.specs.BTreeMap.{is_at}
use Rattle.tcap_msg.specs.declared.kind.Kind.TheVariants as forms
use Rattle.tcap_msg.specs.declared.message.Message.{Message}
use Rattle.tcap_msg.specs.declared.message.Message.TheVariants.{Continue, End as EndMessage, Abort}
use Rattle.tcap_msg.specs.Parts.{cause_in, dtid_in, otid_in, reason_cause}
use Rattle.tcap_record.specs.declared.entry.End.{End as Side}
use Rattle.tcap_record.specs.declared.entry.End.TheVariants as sides
use Rattle.tcap_record.specs.Ends.{other}
use Rattle.tcap_end.specs.End.{is_id}
use Rattle.tcap_end.specs.Table.{Table, octets_cmp}
use Rattle.tcap_model.specs.World.{Item}
use Rattle.tcap_model.specs.SinceMark.{ended_by}
use Rattle.tcap_refute.specs.EarlierMessages.{peer_sent_from, ends_to, has_a, is_a, sent_by}
use Rattle.tcap_refute.specs.Facts.{FromFact, From, shows_from, fact_in_items}
use Rattle.tcap_refute.specs.KeptFacts.{from_fact_noted}
use Rattle.tcap_refute.proofs.TestLaws.{and_false, and_true}
use Rattle.tcap_faults.specs.Counts.{is_nothing}
use Rattle.tcap_faults.specs.SentToId.{began, begin_from, is_continue_to, has_ended, has_used, outgoing}
use Rattle.tcap_faults.specs.declared.transaction.history.SideFacts.{SideFacts}
use Rattle.tcap_faults.specs.declared.transaction.sent_from_id.ContinueTallies.{ContinueTallies}
use Rattle.tcap_faults.specs.declared.transaction.sent_from_id.FirstBegin.{FirstBegin}
use Rattle.tcap_faults.specs.declared.transaction.sent_from_id.SentFrom.{SentFrom}
use Rattle.tcap_faults.specs.declared.transaction.sent_to_id.SentTo.{SentTo}
use Rattle.tcap_faults.specs.History.{IsContinueTalliesAt, IsFirstBegin, IsFrom, IsFromAt, IsFromWhole, IsSide, IsTo, ends, of_user, sent_from, sent_to, is_end_or_abort}
use Rattle.tcap_faults.proofs.list_laws.TwoTests.{any_agree, any_both, any_found, any_kept, any_turned, filter_both, found_both}

-- The peer's peer is the end.
pub other_twice : (side : Side) → other (other side) ≡ side
other_twice side = grind arith

-- ---- what is kept at an ID

module _ {table : Table} {side : Side} {items : List Item} {facts : SideFacts} (is : IsSide table side items facts)
    (id : List ℕ) where
  abbrev from_at : Option SentFrom
  from_at = lookup (is_at (octets_cmp id)) facts.from.entries

  abbrev to_at : Option SentTo
  to_at = lookup (is_at (octets_cmp id)) facts.to.entries

  pub from_there : (kept : SentFrom) → Some kept ≡ from_at → IsFrom table (sent_from side items id) kept
  from_there kept some = (rw (← some) at (is.from id)).1.from

  pub from_nowhere : None ≡ from_at → sent_from side items id ≡ []
  from_nowhere none = rw (← none) at (is.from id)

  pub to_there : (kept : SentTo) → Some kept ≡ to_at → IsTo table (sent_to side items id) kept
  to_there kept some = (rw (← some) at (is.to id)).1

  pub to_nowhere : None ≡ to_at → sent_to side items id ≡ []
  to_nowhere none = rw (← none) at (is.to id)

-- ---- what was sent from an ID

module _ (table : Table) (side : Side) (items : List Item) (id : List ℕ) where
  -- What F2 to F7 need of it.
  pub first_there : (kept : SentFrom) → IsFromWhole table (sent_from side items id) kept → (fact : FromFact)
      → from_fact_noted fact kept.first ≡ fact_in_items table side items (From id fact)
  first_there kept is fact =
      is.first fact ∙ any_both (λ m. is_id id (otid_in m)) (shows_from table fact) (sent_by side items)

  pub first_nowhere : sent_from side items id ≡ [] → (fact : FromFact)
      → false ≡ fact_in_items table side items (From id fact)
  first_nowhere none fact =
      ap (list_any (shows_from table fact)) (sym none)
      ∙ any_both (λ m. is_id id (otid_in m)) (shows_from table fact) (sent_by side items)

-- Something is kept exactly if something was sent.
kept_where : (table : Table) (p : Message → Bool) (ms : List Message) (o : Option SentFrom)
    → IsFromAt table (filter p ms) o → is_some o ≡ list_any p ms
kept_where table p ms None is = sym (any_kept p ms ∙ ap (λ kept. not (is_nothing kept)) is)
kept_where table p ms (Some kept) is = sym (any_kept p ms ∙ ap not is.0)

pub used_at : (table : Table) (side : Side) (items : List Item) (id : List ℕ) (o : Option SentFrom)
    → IsFromAt table (sent_from side items id) o → is_some o ≡ has_used side items id
used_at table side items id o is = kept_where table (λ m. is_id id (otid_in m)) (sent_by side items) o is

pub used_is : {table : Table} {side : Side} {items : List Item} {facts : SideFacts} → IsSide table side items facts
    → (id : List ℕ) → is_some (lookup (is_at (octets_cmp id)) facts.from.entries) ≡ has_used side items id
used_is {table} {side} {items} {facts} is id = used_at table side items id _ (is.from id)

-- Something is kept of the Begin exactly if there is one.
pub begin_there : (table : Table) (o : Option Message) (kept : Option FirstBegin) → IsFirstBegin table o kept
    → is_some kept ≡ is_some o
begin_there table o kept is = grind (arith, is)

-- The first Begin from an ID.
pub begin_is : (side : Side) (items : List Item) (id : List ℕ)
    → find (is_a forms.Begin) (sent_from side items id) ≡ begin_from side id items
begin_is side items id = found_both (λ m. is_id id (otid_in m)) (is_a forms.Begin) (sent_by side items)

-- The peer began an ID exactly if it sent a Begin from it.
pub began_asked : (side : Side) (items : List Item) (id : List ℕ)
    → began (other side) id items ≡ has_a forms.Begin (peer_sent_from side id items)
began_asked side items id =
    ap is_some (sym (begin_is (other side) items id)) ∙ sym (any_found (is_a forms.Begin) (peer_sent_from side id items))

module _ (table : Table) (side : Side) (items : List Item) (id : List ℕ) where
  pub began_there : (kept : SentFrom) → IsFrom table (sent_from side items id) kept
      → is_some kept.begin ≡ began side id items
  began_there kept is = begin_there table _ kept.begin is.begin ∙ ap is_some (begin_is side items id)

  pub began_nowhere : sent_from side items id ≡ [] → false ≡ began side id items
  began_nowhere none =
      ap (λ ms. is_some (find (is_a forms.Begin) ms)) (sym none) ∙ ap is_some (begin_is side items id)

-- A Continue to an ID is kept exactly if one was sent.
came_where : (table : Table) (p : Message → Bool) (ms : List Message) (o : Option ContinueTallies)
    → IsContinueTalliesAt table (filter p ms) o → is_some o ≡ list_any p ms
came_where table p ms None is = sym (any_kept p ms ∙ ap (λ kept. not (is_nothing kept)) is)
came_where table p ms (Some kept) is = sym (any_kept p ms ∙ ap not is.0)

pub goes_there : (table : Table) (ms : List Message) (kept : SentFrom) → IsFrom table ms kept → (id : List ℕ)
    → is_some (lookup (is_at (octets_cmp id)) kept.came.entries) ≡ list_any (is_continue_to id) ms
goes_there table ms kept is id = came_where table (is_continue_to id) ms _ (is.came id)

-- ---- what was sent to an ID

-- What was sent to an ID, without the Aborts of the provider.
pub outgoing_is : (side : Side) (items : List Item) (id : List ℕ) → of_user (sent_to side items id) ≡ outgoing side id items
outgoing_is side items id = filter_both (λ m. is_id id (dtid_in m)) (λ m. is_none (cause_in m)) (sent_by side items)

pub silenced_is : (side : Side) (items : List Item) (id : List ℕ)
    → list_any is_end_or_abort (sent_to side items id) ≡ list_any (ends_to id) (sent_by side items)
silenced_is side items id = any_turned (λ m. is_id id (dtid_in m)) is_end_or_abort (sent_by side items)

-- A message that ends an ID goes to it.
ends_it : (id : List ℕ) (m : Message) → (is_id id (dtid_in m) && ends m) ≡ is_id id (ended_by m)
ends_it id (Continue otid dtid dialogue components) = and_false (is_id id (Some dtid))
ends_it id (EndMessage dtid dialogue components) = and_true (is_id id (Some dtid))
ends_it id (Abort dtid reason) = grind arith
ends_it id m = refl

pub ended_is : (side : Side) (items : List Item) (id : List ℕ)
    → list_any ends (sent_to side items id) ≡ has_ended side items id
ended_is side items id =
    any_both (λ m. is_id id (dtid_in m)) ends (sent_by side items) ∙ any_agree _ _ (sent_by side items) (ends_it id)

module _ (table : Table) (side : Side) (items : List Item) (id : List ℕ) where
  pub spoken_there : (kept : SentTo) → IsTo table (sent_to side items id) kept
      → kept.spoke ≡ not (is_nothing (outgoing side id items))
  spoken_there kept is = is.spoke ∙ ap (λ ms. not (is_nothing ms)) (outgoing_is side items id)

  pub spoken_nowhere : sent_to side items id ≡ [] → false ≡ not (is_nothing (outgoing side id items))
  spoken_nowhere none =
      ap (λ ms. not (is_nothing (of_user ms))) (sym none) ∙ ap (λ ms. not (is_nothing ms)) (outgoing_is side items id)

  pub silenced_there : (kept : SentTo) → IsTo table (sent_to side items id) kept
      → kept.silenced ≡ list_any (ends_to id) (sent_by side items)
  silenced_there kept is = is.silenced ∙ silenced_is side items id

  pub silenced_nowhere : sent_to side items id ≡ [] → false ≡ list_any (ends_to id) (sent_by side items)
  silenced_nowhere none = ap (list_any is_end_or_abort) (sym none) ∙ silenced_is side items id

  pub ended_there : (kept : SentTo) → IsTo table (sent_to side items id) kept → kept.ended ≡ has_ended side items id
  ended_there kept is = is.ended ∙ ended_is side items id

  pub ended_nowhere : sent_to side items id ≡ [] → false ≡ has_ended side items id
  ended_nowhere none = ap (list_any ends) (sym none) ∙ ended_is side items id
