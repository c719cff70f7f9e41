-- The facts about an originating ID after one more message.
use Rattle.std.proofs.Common.{◌≡◌, ℕ, ℤ, Bool, true, false, cond, not, ◌&&◌, ◌||◌, List, Option, Some, None, bytes_eq, refl, sym, ap, ◌∙◌, arith}
use Rattle.std.specs.List.{list_any}
use Rattle.std.proofs.lemmas.Map.Lookups.{exact_signed}
use Rattle.std.proofs.lemmas.Slice.Eq.{bytes_eq-Decides}
use Rattle.tcap_msg.specs.declared.kind.Kind.TheVariants as forms
use Rattle.tcap_msg.specs.declared.message.Message.{Message}
use Rattle.tcap_msg.specs.Parts.{components_in, dtid_in}
use Rattle.tcap_end.specs.Table.{Table}
use Rattle.tcap_refute.specs.declared.sent_from_id.FromId.{FromId}
use Rattle.tcap_refute.specs.declared.sent_from_id.Destinations.{Destinations}
use Rattle.tcap_refute.specs.declared.sent_from_id.Destinations.TheVariants.{One, Several}
use Rattle.tcap_refute.specs.EarlierMessages.{is_a}
use Rattle.tcap_refute.specs.Facts.{IdFact, FromFact, Spoke, Begun, Asked, WentOn, WentElsewhere, OfId, is_other, shows, shows_from}
use Rattle.tcap_refute.specs.KeptFacts.{is_elsewhere, id_fact_noted, from_fact_noted}
use Rattle.tcap_refute.specs.NotesUpdate.{IsHeaded, IsSameHead, destinations_after, with_destination}
use Rattle.tcap_refute.proofs.TestLaws.{or_none}
use Rattle.tcap_refute.proofs.SetLaws.{told_at}

-- ---- destination IDs

or_itself : (a : Bool) → a ≡ (a || a)
or_itself a = grind arith

same_octets : (a b : List ℕ) → bytes_eq a b ≡ true → a ≡ b
same_octets a b e = (bytes_eq-Decides a b).0 e

-- If two IDs differ, one of them differs from `id`.
one_of_two : (id a b : List ℕ) → bytes_eq b a ≡ false → true ≡ (not (bytes_eq id a) || not (bytes_eq id b))
one_of_two id a b apart = by (bytes_eq id a) (bytes_eq id b) refl refl
  where
    by : (p q : Bool) → bytes_eq id a ≡ p → bytes_eq id b ≡ q → true ≡ (not p || not q)
    by false q e f = refl
    by true false e f = refl
    by true true e f =
        let same : b ≡ a = sym (same_octets id b f) ∙ same_octets id a e in
        let bad = sym ((bytes_eq-Decides b a).1 same) ∙ apart in cc

pub elsewhere_with : (id to : List ℕ) (destinations : Destinations)
    → is_elsewhere id (with_destination to destinations) ≡ (is_elsewhere id destinations || is_other id (Some to))
elsewhere_with id to (One other) = by (bytes_eq to other) refl
  where
    by : (b : Bool) → bytes_eq to other ≡ b
        → is_elsewhere id (cond b (One other) Several) ≡ (not (bytes_eq id other) || not (bytes_eq id to))
    by true same = rw (same_octets to other same) (or_itself _)
    by false apart = one_of_two id other to apart
elsewhere_with id to how = refl

elsewhere_behind : (id : List ℕ) (goes_on : Bool) (dtid : Option (List ℕ)) (destinations : Destinations)
    → is_elsewhere id (destinations_after goes_on dtid destinations) ≡ (is_elsewhere id destinations || (goes_on && is_other id dtid))
elsewhere_behind id true (Some to) destinations = elsewhere_with id to destinations
elsewhere_behind id true None destinations = or_none _
elsewhere_behind id false (Some to) destinations = or_none _
elsewhere_behind id false None destinations = or_none _

-- ---- a message

or_pairs : (a b p q : Bool) → ((a || p) || (b || q)) ≡ ((a || b) || (p || q))
or_pairs a b p q = grind arith

pub message_noted : (table : Table) (m : Message) (old headed new : FromId)
    → IsHeaded m old headed → IsSameHead headed new
    → ((id : ℤ) (fact : IdFact) → told_at exact_signed id_fact_noted new.ids.entries id fact
    ≡ (told_at exact_signed id_fact_noted headed.ids.entries id fact || list_any (shows table id fact) (components_in m)))
    → (fact : FromFact) → from_fact_noted fact new ≡ (from_fact_noted fact old || shows_from table fact m)
message_noted table m old headed new head same ids Spoke =
    rw (same.begun, same.continued, head.begun, head.continued)
    (or_pairs old.begun old.continued (is_a forms.Begin m) (is_a forms.Continue m))
message_noted table m old headed new head same ids Begun = same.begun ∙ head.begun
message_noted table m old headed new head same ids Asked = same.asked ∙ head.asked
message_noted table m old headed new head same ids WentOn = same.continued ∙ head.continued
message_noted table m old headed new head same ids (WentElsewhere dtid) =
    ap (is_elsewhere dtid) (same.destinations ∙ head.destinations)
    ∙ elsewhere_behind dtid (is_a forms.Continue m) (dtid_in m) old.destinations
message_noted table m old headed new head same ids (OfId id fact) =
    ids id fact
    ∙ ap (λ kept. told_at exact_signed id_fact_noted kept.entries id fact || list_any (shows table id fact) (components_in m))
    head.ids
