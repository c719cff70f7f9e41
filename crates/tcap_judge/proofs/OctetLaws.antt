-- Octets that items spell are read as exactly these items, and prompt certificates carry over to them.
use Rattle.std.proofs.Common.{◌≡◌, ◌≢◌, ℕ, ◌+◌, ◌-◌, ◌<◌, ◌≤◌, ◌⊎◌, List, [], ◌∷◌, ◌++◌, length, Some, Result, Ok, Err, refl, sym, ap, subst, ◌∙◌, inl, inr, arith, None}
use Rattle.std.proofs.lemmas.List.{length-append, append-nil}
use Rattle.std.specs.List.{AllByRecursion}
use Rattle.tcap_ber.specs.declared.fault.Fault.{Fault}
use Rattle.tcap_ber.specs.declared.fault.Reason.{Reason}
use Rattle.tcap_ber.specs.declared.element.Outer.{Outer}
use Rattle.tcap_ber.specs.declared.element.Outer.TheVariants.{Whole}
use Rattle.tcap_ber.specs.Element.{IsRaw}
use Rattle.tcap_ber.specs.Reading.{fault}
use Rattle.tcap_ber.specs.WalkPlaces.{IsWalkFault}
use Rattle.tcap_ber.specs.WalkResult.{outer_at}
use Rattle.tcap_ber.proofs.OuterLaws.{outer_of_element, outer_refused}
use Rattle.tcap_ber.proofs.Steps.{ok_not_err}
use Rattle.tcap_msg.specs.declared.message.Message.{Message}
use Rattle.tcap_msg.specs.Message.{Spells}
use Rattle.tcap_msg.proofs.SpellingLaws.{one_message}
use Rattle.tcap_record.specs.declared.entry.Body.{Body}
use Rattle.tcap_record.specs.declared.entry.Body.TheVariants.{Good, Bad, Quiet as QuietMark}
use Rattle.tcap_record.specs.declared.entry.End.{End as Side}
use Rattle.tcap_record.specs.declared.entry.End.TheVariants as sides
use Rattle.tcap_record.specs.declared.entry.Entry.{Entry}
use Rattle.tcap_record.specs.declared.fault.FeedFault.{FeedFault}
use Rattle.tcap_record.specs.declared.fault.FeedReason.{FeedReason}
use Rattle.tcap_record.specs.declared.fault.FeedReason.TheVariants as feed
use Rattle.tcap_record.specs.RecordOctets.{FramedFrom, IsBody, IsEndOctet, IsRestFault, entry_limit, octet_of, quiet_octet}
use Rattle.tcap_record.specs.Reading.{EndsAs, IsReadAs}
use Rattle.tcap_model.specs.World.{Item, Sent}
use Rattle.tcap_model.specs.Entries.{AreItems}
use Rattle.tcap_model.specs.Run.{Event, IsRunOf}
use Rattle.tcap_end.specs.Table.{Table}
use Rattle.tcap_certificate.specs.Certificate.{Certificate, IsPrompt, prompt}
use Rattle.tcap_certificate.specs.DescribedRun.{IsPlain}
use Rattle.tcap_check.specs.GivenRun.{DeliversAtOnce, IsVisible}
use Rattle.tcap_certificate.specs.Replay.{replayed_by}
use Rattle.tcap_check.proofs.prompt_laws.AtOnceLaws.{at_once_follows, followed_at_once}
use Rattle.tcap_check.proofs.described_run_laws.DescribedRuns.{followed_is_given}
use Rattle.tcap_check.proofs.given_run_lemmas.GivenRuns.{gives}
use Rattle.tcap_check.proofs.prompt_laws.PromptLaws.{prompt_plain}
use Rattle.tcap_check.proofs.refusal_laws.ReasonGaps.{as_many}
use Rattle.tcap_judge.specs.LawfulRecord.{SpellsRecord}
use Rattle.tcap_judge.specs.RecordReading.{IsOfOctets}
use Rattle.tcap_judge.proofs.LawfulLaws.{spells_items}

-- ---- the front of a record

-- each end has its own octet
same_side : (side other : Side) → octet_of side ≡ octet_of other → side ≡ other
same_side sides.A sides.A is = refl
same_side sides.A sides.B is = absurd (omega (arith, is))
same_side sides.B sides.A is = absurd (omega (arith, is))
same_side sides.B sides.B is = refl

-- an end's octet is not a quiet mark's
side_is_loud : (side : Side) → octet_of side ≡ quiet_octet → ⊥
side_is_loud sides.A is = omega (arith, is)
side_is_loud sides.B is = omega (arith, is)

octet_is_end : (side : Side) → IsEndOctet (octet_of side)
octet_is_end sides.A = inl refl
octet_is_end sides.B = inr refl

-- a message is one element
message_is_raw : (message : Message) (element : List ℕ) → Spells message element → IsRaw element
message_is_raw message element spells = (spells.tag, spells.content, spells.is_element)

whole_is : (n m : ℕ) → (let a : Result Outer Fault = Ok (Whole n) in a) ≡ Ok (Whole m) → n ≡ m
whole_is n m e = cc

-- the first element of octets is unique
same_element : (element others more behind : List ℕ) → IsRaw element → IsRaw more → element ++ others ≡ more ++ behind
    → (element ≡ more) × (others ≡ behind)
same_element element others more behind raw is_raw joined =
    let len : length element ≡ length more = whole_is (length element) (length more)
    (sym (outer_of_element raw.0 raw.1 element others raw.2) ∙ ap outer_at joined
    ∙ outer_of_element is_raw.0 is_raw.1 more behind is_raw.2) in
    parted element more others behind len joined
  where
    parted : (front first : List ℕ) (rest last : List ℕ) → length front ≡ length first → front ++ rest ≡ first ++ last
        → (front ≡ first) × (rest ≡ last)
    parted [] [] rest last len joined = (refl, joined)
    parted [] (y ∷ first) rest last len joined = absurd (omega (arith, len))
    parted (x ∷ front) [] rest last len joined = absurd (omega (arith, len))
    parted (x ∷ front) (y ∷ first) rest last len joined =
        let same : x ≡ y = cc in
        let others = parted front first rest last (omega (arith, len)) cc in
        (ap (λ (z : ℕ). z ∷ front) same ∙ ap (λ (z : List ℕ). y ∷ z) others.0, others.1)

-- Two messages at the front of the same octets are equal, with the octets after them.
pub record IsSameFront (side other : Side) (element others more behind : List ℕ) : Type 0 where
  pub side_is : side ≡ other
  pub element_is : element ≡ more
  pub others_are : others ≡ behind

same_front : (side other : Side) (element others more behind : List ℕ) → IsRaw element → IsRaw more
    → octet_of side ∷ element ++ others ≡ octet_of other ∷ more ++ behind → IsSameFront side other element others more behind
same_front side other element others more behind raw is_raw joined =
    let first : octet_of side ≡ octet_of other = cc in
    let rest : element ++ others ≡ more ++ behind = cc in
    let same = same_element element others more behind raw is_raw rest in
    record { side_is = same_side side other first; element_is = same.0; others_are = same.1 }

-- ---- octets spell one list

pub one_list : (items others : List Item) (octets : List ℕ) → SpellsRecord items octets → SpellsRecord others octets
    → items ≡ others
one_list [] [] octets spells spelled = refl
one_list [] (Sent side message ∷ others) octets spells spelled = let joined = spelled.2 in cc
one_list [] (Item.Quiet ∷ others) octets spells spelled = let joined = spelled.1 in cc
one_list (Sent side message ∷ items) [] octets spells spelled = let joined = spells.2 in cc
one_list (Item.Quiet ∷ items) [] octets spells spelled = let joined = spells.1 in cc
one_list (Sent side message ∷ items) (Item.Quiet ∷ others) octets (element, more, joined, is, rest) (behind, quiet, left) =
    let same : octet_of side ≡ quiet_octet = cc in absurd (side_is_loud side same)
one_list (Item.Quiet ∷ items) (Sent side message ∷ others) octets (behind, quiet, left) (element, more, joined, is, rest) =
    let same : octet_of side ≡ quiet_octet = cc in absurd (side_is_loud side same)
one_list (Item.Quiet ∷ items) (Item.Quiet ∷ others) octets (more, joined, rest) (behind, quiet, left) =
    let same : more ≡ behind = cc in
    ap (λ (x : List Item). Item.Quiet ∷ x) (one_list items others more rest (subst (SpellsRecord others) (sym same) left))
one_list (Sent side message ∷ items) (Sent other heard ∷ others) octets (element, more, joined, is, rest) (part, behind, split, heard_is, left) =
    let same = same_front side other element more part behind (message_is_raw message element is) (message_is_raw heard part heard_is)
    (sym joined ∙ split) in
    let sent : message ≡ heard = one_message element message heard is (subst (Spells heard) (sym same.element_is) heard_is) in
    let more_items : items ≡ others =
    one_list items others more rest (subst (SpellsRecord others) (sym same.others_are) left) in
    let first : Sent side message ≡ Sent other heard =
    ap (λ (s : Side). Sent s message) same.side_is ∙ ap (Sent other) sent in
    ap (λ (x : Item). x ∷ items) first ∙ ap (λ (x : List Item). Sent other heard ∷ x) more_items

-- ---- entries in octets that items spell

-- an element that spells a message is read as this message
body_is : (body : Body) (place : ℕ) (element : List ℕ) (message : Message) → IsBody body place element
    → Spells message element → body ≡ Good message
body_is (Good heard) place element message is spells = ap Good (one_message element heard message is spells)
body_is (Bad wrong) place element message is spells = absurd (is.0 message spells)
body_is QuietMark place element message is spells = absurd is

-- The entries are the first items, and the rest of the octets spell the other items.
pub record AreFirst (entries : List Entry) (items : List Item) (rest : List ℕ) : Type 0 where
  pub done : List Item
  pub others : List Item
  pub joined : items ≡ done ++ others
  pub are : AreItems entries done
  pub spells : SpellsRecord others rest

one_more : (entry : Entry) (entries : List Entry) (item : Item) (items : List Item) (rest : List ℕ)
    → ((done : List Item) → AreItems entries done → AreItems (entry ∷ entries) (item ∷ done))
    → AreFirst entries items rest → AreFirst (entry ∷ entries) (item ∷ items) rest
one_more entry entries item items rest is first = record {
  done = item ∷ first.done;
  others = first.others;
  joined = ap (λ (x : List Item). item ∷ x) first.joined;
  are = is first.done first.are;
  spells = first.spells;
}

pub are_first : (place : ℕ) (entries : List Entry) (items : List Item) (octets rest : List ℕ)
    → FramedFrom place entries octets rest → SpellsRecord items octets → AreFirst entries items rest
are_first place [] items octets rest framed spells =
    record { done = []; others = items; joined = refl; are = tt; spells = subst (SpellsRecord items) framed spells }
are_first place (entry ∷ entries) [] octets rest (behind, inl sent, more) spells = let joined = sent.joined in cc
are_first place (entry ∷ entries) [] octets rest (behind, inr mark, more) spells = let joined = mark.joined in cc
are_first place (entry ∷ entries) (Sent side message ∷ items) octets rest (behind, inl sent, more) (element, others, joined, is, left) =
    let same = same_front sent.side side sent.element behind element others sent.raw (message_is_raw message element is)
    (sym sent.joined ∙ joined) in
    let body : entry.body ≡ Good message = body_is entry.body entry.place sent.element message sent.body
    (subst (Spells message) (sym same.element_is) is) in
    one_more entry entries (Sent side message) items rest
    (λ done are. ((sent.side_is ∙ ap (λ (s : Side). Some s) same.side_is, body), are))
    (are_first (place + (length octets - length behind)) entries items behind rest more
    (subst (SpellsRecord items) (sym same.others_are) left))
are_first place (entry ∷ entries) (Sent side message ∷ items) octets rest (behind, inr mark, more) (element, others, joined, is, left) =
    let marked = mark.joined in
    let same : octet_of side ≡ quiet_octet = cc in absurd (side_is_loud side same)
are_first place (entry ∷ entries) (Item.Quiet ∷ items) octets rest (behind, inl sent, more) (others, joined, left) =
    let marked = sent.joined in
    let same : octet_of sent.side ≡ quiet_octet = cc in absurd (side_is_loud sent.side same)
are_first place (entry ∷ entries) (Item.Quiet ∷ items) octets rest (behind, inr mark, more) (others, joined, left) =
    let marked = mark.joined in
    let same : behind ≡ others = cc in
    one_more entry entries Item.Quiet items rest (λ done are. ((mark.side_is, mark.body_is), are))
    (are_first (place + (length octets - length behind)) entries items behind rest more
    (subst (SpellsRecord items) (sym same) left))

-- ---- octets that items spell have no fault

-- Octets that items spell begin with a quiet mark, or with an end's octet and an element.
pub record BeginsItem (items : List Item) (first : ℕ) (more : List ℕ) : Type 0 where
  pub some : 0 < length items
  pub begins : (first ≡ quiet_octet)
      ⊎ (IsEndOctet first × ((element others : List ℕ) × IsRaw element × (more ≡ element ++ others)))

begins_item : (items : List Item) (first : ℕ) (more : List ℕ) → SpellsRecord items (first ∷ more) → BeginsItem items first more
begins_item [] first more spells = cc
begins_item (Sent side message ∷ items) first more (element, others, joined, is, left) =
    let same : first ≡ octet_of side = cc in
    let rest : more ≡ element ++ others = cc in record {
      some = omega arith;
      begins = inr (subst IsEndOctet (sym same) (octet_is_end side), (element, others, message_is_raw message element is, rest));
    }
begins_item (Item.Quiet ∷ items) first more (others, joined, left) =
    let same : first ≡ quiet_octet = cc in record { some = omega arith; begins = inl same }

end_is_loud : (octet : ℕ) → IsEndOctet octet → octet ≡ quiet_octet → ⊥
end_is_loud octet (inl is) quiet = omega (arith, is, quiet)
end_is_loud octet (inr is) quiet = omega (arith, is, quiet)

-- an element has no fault in a walk
no_walk_fault : (element others more : List ℕ) (reason : Reason) (place : ℕ) → IsRaw element → more ≡ element ++ others
    → IsWalkFault more reason place → ⊥
no_walk_fault element others more reason place raw joined wrong =
    ok_not_err (Whole (length element)) (fault reason place)
    (sym (outer_of_element raw.0 raw.1 element others raw.2) ∙ ap outer_at (sym joined) ∙ outer_refused more reason place wrong)

no_rest_fault : (count : ℕ) (items : List Item) (rest : List ℕ) (reason : FeedReason) (offset : ℕ)
    → SpellsRecord items rest → count + length items ≤ entry_limit → IsRestFault count rest reason offset → ⊥
no_rest_fault count items [] reason offset spells few wrong = wrong
no_rest_fault count items (first ∷ more) reason offset spells few wrong =
    let begins = begins_item items first more spells in
    by reason begins.some begins.begins wrong
  where
    by : (reason : FeedReason) → 0 < length items
        → ((first ≡ quiet_octet)
        ⊎ (IsEndOctet first × ((element others : List ℕ) × IsRaw element × (more ≡ element ++ others))))
        → IsRestFault count (first ∷ more) reason offset → ⊥
    by feed.TooManyEntries some begins wrong = omega (arith, wrong.0, some, few)
    by feed.BadEnd some (inl quiet) wrong = wrong.2 quiet
    by feed.BadEnd some (inr (is_end, front)) wrong = wrong.1 is_end
    by (feed.Element inner) some (inl quiet) wrong = end_is_loud first wrong.1 quiet
    by (feed.Element inner) some (inr (is_end, (element, others, raw, joined))) wrong =
        let there = wrong.2 in no_walk_fault element others more inner there.0 raw joined there.2
    by feed.CutRecord some (inl quiet) wrong = end_is_loud first wrong.1 quiet
    by feed.CutRecord some (inr (is_end, (element, others, raw, joined))) wrong =
        wrong.2.no_element raw.0 raw.1 element others raw.2 joined
    by feed.BadHexLine some begins wrong = wrong
    by feed.Read some begins wrong = wrong
    by feed.Memory some begins wrong = wrong

no_end : (count total : ℕ) (items : List Item) (rest : List ℕ) (reason : FeedReason) (place : ℕ) → reason ≢ feed.Memory
    → reason ≢ feed.Read → SpellsRecord items rest → count + length items ≤ entry_limit
    → EndsAs count total rest reason place → ⊥
no_end count total items rest feed.Memory place memory reader spells few ends = memory refl
no_end count total items rest feed.Read place memory reader spells few ends = reader refl
no_end count total items rest feed.TooManyEntries place memory reader spells few ends =
    no_rest_fault count items rest feed.TooManyEntries ends.0 spells few ends.2
no_end count total items rest feed.BadEnd place memory reader spells few ends =
    no_rest_fault count items rest feed.BadEnd ends.0 spells few ends.2
no_end count total items rest (feed.Element inner) place memory reader spells few ends =
    no_rest_fault count items rest (feed.Element inner) ends.0 spells few ends.2
no_end count total items rest feed.CutRecord place memory reader spells few ends =
    no_rest_fault count items rest feed.CutRecord ends.0 spells few ends.2
no_end count total items rest feed.BadHexLine place memory reader spells few ends =
    no_rest_fault count items rest feed.BadHexLine ends.0 spells few ends.2

-- ---- reading

-- no octets spell no items
none_left : (items : List Item) (octets : List ℕ) → octets ≡ [] → SpellsRecord items octets → items ≡ []
none_left items octets nothing spells = one_list items [] octets spells nothing

pub read_as_items : (items : List Item) (octets : List ℕ) (entries : List Entry) (end : Result (Unit {0}) FeedFault)
    → SpellsRecord items octets → length items ≤ entry_limit → IsReadAs entries end octets → IsOfOctets end
    → (end ≡ Ok tt) × AreItems entries items
read_as_items items octets entries (Ok end) spells few reads of =
    let first = are_first 0 entries items octets reads.rest reads.framed spells in
    let none : first.others ≡ [] = none_left first.others reads.rest reads.ends first.spells in
    let all : items ≡ first.done =
    first.joined ∙ ap (λ (x : List Item). first.done ++ x) none ∙ append-nil first.done in
    (refl, subst (AreItems entries) (sym all) first.are)
read_as_items items octets entries (Err wrong) spells few reads of =
    let first = are_first 0 entries items octets reads.rest reads.framed spells in
    absurd (no_end (length entries) (length octets) first.others reads.rest wrong.reason wrong.place of.0 of.1 first.spells
    (omega (arith, few, as_many entries first.done first.are, ap length first.joined, length-append first.done first.others))
    reads.ends)

pub read_spells : (items : List Item) (octets : List ℕ) (entries : List Entry) → IsReadAs entries (Ok tt) octets
    → AreItems entries items → SpellsRecord items octets
read_spells items octets entries reads are =
    spells_items 0 entries items octets (subst (FramedFrom 0 entries octets) reads.ends reads.framed) are

-- ---- prompt certificates

pub prompt_given : (table : Table) (items : List Item) (octets : List ℕ) (entries : List Entry) (events : List Event)
    → SpellsRecord items octets → length items ≤ entry_limit → IsReadAs entries (Ok tt) octets → IsRunOf items table events
    → AllByRecursion IsVisible events → DeliversAtOnce table events
    → (given : List Event) × (replayed_by None table (prompt (length items)) entries ≡ Ok given)
prompt_given table items octets entries events spells few reads run seen at_once =
    let are = (read_as_items items octets entries (Ok tt) spells few reads tt).1 in
    let given = followed_is_given table (prompt (length items)) entries items events are run
    (at_once_follows table items events run seen at_once) in
    (given.0, given.1)

pub prompt_says : (table : Table) (c : Certificate) (octets : List ℕ) (entries : List Entry) (events : List Event)
    → IsReadAs entries (Ok tt) octets → IsPrompt c → replayed_by None table c entries ≡ Ok events
    → (items : List Item) × SpellsRecord items octets × IsRunOf items table events
    × DeliversAtOnce table events × AllByRecursion IsPlain events
prompt_says table c octets entries events reads is_prompt is =
    let given = gives table c entries events is in (
      given.items,
      read_spells given.items octets entries reads given.are,
      given.run,
      followed_at_once table c given.items events is_prompt given.run given.follows,
      prompt_plain c given.items events is_prompt given.follows,
    )
