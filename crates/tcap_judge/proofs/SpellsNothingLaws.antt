-- An entry of kind F1 spells no message.
use Rattle.std.proofs.Common.{◌≡◌, false, true, ℕ, zero, suc, ◌-◌, ◌+◌, List, [], ◌∷◌, map, length, slice_get, Some, None, Option, Err, refl, sym, ap, ◌∙◌, inl, inr}
use Rattle.std.proofs.lemmas.Bool.{and_parts}
use Rattle.tcap_ber.specs.declared.fault.Fault.{Fault}
use Rattle.tcap_msg.specs.declared.message.Message.{Message}
use Rattle.tcap_msg.specs.Parts.{cause_in, dtid_in}
use Rattle.tcap_record.specs.declared.entry.Body.{Body}
use Rattle.tcap_record.specs.declared.entry.Body.TheVariants.{Good, Bad, Quiet}
use Rattle.tcap_record.specs.declared.entry.End.{End as Side}
use Rattle.tcap_record.specs.declared.entry.Entry.{Entry}
use Rattle.tcap_record.specs.RecordOctets.{Framed, FramedFrom}
use Rattle.tcap_end.specs.Table.{Table}
use Rattle.tcap_model.specs.declared.reason.Reason.TheVariants.{BadMessage}
use Rattle.tcap_model.specs.Entries.{item_by, item_of}
use Rattle.tcap_model.specs.World.{Item}
use Rattle.tcap_refute.specs.declared.kind.Kind.{Kind}
use Rattle.tcap_refute.specs.declared.kind.Kind.TheVariants as kinds
use Rattle.tcap_refute.specs.declared.kind.Refutation.{Refutation}
use Rattle.tcap_refute.specs.EarlierMessages.{since_quiet}
use Rattle.tcap_refute.proofs.RefutedLaws.{bad_by_kind}
use Rattle.tcap_faults.specs.BlameMeaning.{IsBadEntryOf}
use Rattle.tcap_faults.specs.Fault.{is_fault, is_of_further_kind, is_of_kind_to}
use Rattle.tcap_faults.proofs.kind_laws.BlamedLaws.{bad_has_none}
use Rattle.tcap_judge.specs.Verdict.{IsAtFaultBy, SpellsNothing}

-- ---- both ends: its sender

bad_body : (side : Option Side) (body : Body) (fault : Fault) → item_by side body ≡ Err (BadMessage fault) → body ≡ Bad fault
bad_body side (Bad f) fault is = let same : f ≡ fault = cc in ap Bad same
bad_body None (Good m) fault is = cc
bad_body (Some s) (Good m) fault is = cc
bad_body None Quiet fault is = cc
bad_body (Some s) Quiet fault is = cc

entry_at : (entries : List Entry) (number : ℕ) (fault : Fault) → slice_get (map item_of entries) number ≡ Some (Err (BadMessage fault))
    → (entry : Entry) × (slice_get entries number ≡ Some entry) × (entry.body ≡ Bad fault)
entry_at [] number fault is = cc
entry_at (e ∷ entries) zero fault is = (e, refl, bad_body e.side e.body fault cc)
entry_at (e ∷ entries) (suc n) fault is = entry_at entries n fault is

sender_at : (fault : Fault) (entry : Entry) (entries : List Entry) (place : ℕ) (octets rest : List ℕ) (number : ℕ)
    → FramedFrom place entries octets rest → slice_get entries number ≡ Some entry → entry.body ≡ Bad fault
    → (side : Side) × (entry.side ≡ Some side)
sender_at fault entry [] place octets rest number framed there body_is = cc
sender_at fault entry (e ∷ entries) place octets rest zero (others, inl sent, more) there body_is =
    let same : e ≡ entry = cc in (sent.side, sym (ap (λ (x : Entry). x.side) same) ∙ sent.side_is)
sender_at fault entry (e ∷ entries) place octets rest zero (others, inr mark, more) there body_is =
    let same : e ≡ entry = cc in
    let bad : Quiet ≡ Bad fault = sym mark.body_is ∙ ap (λ (x : Entry). x.body) same ∙ body_is in cc
sender_at fault entry (e ∷ entries) place octets rest (suc n) (others, is_entry, more) there body_is =
    sender_at fault entry entries (place + (length octets - length others)) others rest n more there body_is

-- ---- one end: no message has kind F1

none_further : (table : Table) (side : Side) (items : List Item) (m : Message) (id : Option (List ℕ))
    → is_of_further_kind table side items m id kinds.BadMessage ≡ false
none_further table side items m None = refl
none_further table side items m (Some id) = by (cause_in m)
  where
    by : (cause : Option ℕ) → is_of_kind_to table side id items m cause kinds.BadMessage ≡ false
    by None = refl
    by (Some cause) = refl

no_message : (table : Table) (side : Side) (items : List Item) (m : Message) (kind : Kind) → kind ≡ kinds.BadMessage
    → is_fault table side items m kind ≡ true → ⊥
no_message table side items m kind is fault =
    let so : is_fault table side items m kinds.BadMessage ≡ true = rw is at fault in
    let no : is_of_further_kind table side items m (dtid_in m) kinds.BadMessage ≡ true = (and_parts _ _ so).1 in
    let bad : false ≡ true = sym (none_further table side items m (dtid_in m)) ∙ no in cc

-- ---- both cases

of_end : (side : Side) (entries : List Entry) (octets rest : List ℕ) (number : ℕ) → Framed entries octets rest
    → IsBadEntryOf side entries number → SpellsNothing entries number octets
of_end side entries octets rest number framed bad = record {
  entry = bad.entry;
  side = side;
  there = bad.there;
  side_is = bad.side_is;
  none = bad_has_none side entries octets rest number framed bad;
}

pub spells_nothing : (judged : Option Side) (table : Table) (entries : List Entry) (octets rest : List ℕ) (r : Refutation)
    → Framed entries octets rest → IsAtFaultBy judged table entries r → r.kind ≡ kinds.BadMessage
    → SpellsNothing entries r.entry octets
spells_nothing None table entries octets rest r framed at_fault is =
    let bad = (bad_by_kind table (map item_of entries) r at_fault).0 is in
    let (entry, there, body_is) = entry_at entries r.entry bad.fault bad.there in
    let (side, side_is) = sender_at bad.fault entry entries 0 octets rest r.entry framed there body_is in
    of_end side entries octets rest r.entry framed (record {
      entry = entry;
      fault = bad.fault;
      there = there;
      side_is = side_is;
      body_is = body_is;
      no_limit = bad.no_limit;
    })
spells_nothing (Some side) table entries octets rest r framed (inl (kind, bad)) is = of_end side entries octets rest r.entry framed bad
spells_nothing (Some side) table entries octets rest r framed (inr (inl it)) is =
    absurd (no_message table side (since_quiet it.before) it.message r.kind is it.has_kind)
spells_nothing (Some side) table entries octets rest r framed (inr (inr mark)) is =
    let bad : kinds.OpenAtMark ≡ kinds.BadMessage = sym mark.has_kind.0 ∙ is in cc
