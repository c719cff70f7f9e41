-- No reading has more entries than its dialogue.
use Rattle.std.proofs.Common.{arith, ◌≡◌, ◌≤◌, ℕ, ℤ, Bool, true, false, cond, List, [], length, Option, Some, None, Result, Ok, Err, ap, sym, subst, ◌∙◌}
use Rattle.std.specs.Prelude.{IfOk, IfSome, option_and_then, option_map, slice_get}
use Rattle.tcap_msg.specs.declared.message.Message.{Message}
use Rattle.tcap_record.specs.declared.entry.Entry.{Entry}
use Rattle.tcap_dialogues.specs.declared.malformed.SoundPart.{SoundPart}
use Rattle.tcap_readings.specs.declared.malformed.Malformed.{Malformed}
use Rattle.tcap_readings.specs.declared.readings.Reading.{Reading as Read}
use Rattle.tcap_readings.specs.declared.way.Way.{Way}
use Rattle.tcap_readings.specs.declared.way.Way.TheVariants as ways
use Rattle.tcap_readings.specs.Reactions.{answer, later}
use Rattle.tcap_readings.specs.declared.reactions.Reaction.TheVariants as reactions
use Rattle.tcap_readings.specs.Readings.{Reading, aborted_by, bare, closing, put, reading_by, reading_of, rejected_by, sound, unrejecting_at, unrejecting_by, with_message, with_or_without, without}
use Rattle.tcap_readings.proofs.PutLaws.{put_fewer}

module _ (m : Malformed) where
  abbrev IsFew : List Entry → Reading → Type 0
  IsFew entries r = length r.entries ≤ length entries

  message_few : (entries : List Entry) (message : Message) → IsFew entries (with_message m entries message)
  message_few entries message = put_fewer m.number _ entries (omega arith)

  without_few : (entries : List Entry) → IsFew entries (without m entries)
  without_few entries = put_fewer m.number [] entries (omega arith)

  either_few : (entries : List Entry) (o : Option Message) → IsFew entries (with_or_without m entries o)
  either_few entries None = without_few entries
  either_few entries (Some message) = message_few entries message

  unrejecting_few : (at : Option ℤ) (n : ℕ) (entries : List Entry) → length (unrejecting_at at n entries) ≤ length entries
  unrejecting_few at n entries = by (slice_get entries n)
    where
      by : (o : Option Entry) → length (unrejecting_by at n entries o) ≤ length entries
      by None = omega arith
      by (Some entry) = put_fewer n _ entries (omega arith)

  mapped_few : (entries : List Entry) (o : Option Message) → IfSome (option_map (with_message m entries) o) (IsFew entries)
  mapped_few entries None = tt
  mapped_few entries (Some message) = message_few entries message

  rejected_few : (entries : List Entry) (s : SoundPart) (o : Option ℕ)
      → IfSome (option_map (λ at. with_message m (unrejecting_at s.invoke_id at entries) s.message) o) (IsFew entries)
  rejected_few entries s None = tt
  rejected_few entries s (Some at) =
      let one = message_few (unrejecting_at s.invoke_id at entries) s.message in
      let two = unrejecting_few s.invoke_id at entries in
      omega (one, two, arith)

  sound_few : (entries : List Entry) (o : Option SoundPart)
      → IfSome (option_and_then (rejected_by m entries) o) (IsFew entries)
  sound_few entries None = tt
  sound_few entries (Some s) = rejected_few entries s (later reactions.Reject m entries)

  aborted_few : (entries : List Entry) (o : Option ℕ) → IfSome (option_map (aborted_by m entries) o) (IsFew entries)
  aborted_few entries None = tt
  aborted_few entries (Some at) =
      let one = either_few (put at [] entries) (closing m) in
      let two = put_fewer at [] entries (omega arith) in
      omega (one, two, arith)

  refused_few : (entries : List Entry) (is_refused : Bool)
      → IfSome (cond is_refused (option_map (with_message m entries) (bare m)) None) (IsFew entries)
  refused_few entries true = mapped_few entries (bare m)
  refused_few entries false = tt

  reading_few : (way : Way) (entries : List Entry) → IfSome (reading_by way m entries) (IsFew entries)
  reading_few ways.Dropped entries = without_few entries
  reading_few ways.Closed entries = mapped_few entries (closing m)
  reading_few ways.InPart entries = mapped_few entries (sound m)
  reading_few ways.Rejected entries = sound_few entries m.sound
  reading_few ways.Aborted entries = aborted_few entries (answer m entries)
  reading_few ways.Refused entries = refused_few entries _

  -- The reading that is made has no more entries than the dialogue.
  made_few : (way : Way) (entries : List Entry) (made : Option Read) → option_map reading_of made ≡ reading_by way m entries
      → IfSome made (λ r. length r.record.entries.items ≤ length entries)
  made_few way entries made is = by made (subst (λ o. IfSome o (IsFew entries)) (sym is) (reading_few way entries))
    where
      by : (o : Option Read) → IfSome (option_map reading_of o) (IsFew entries)
          → IfSome o (λ r. length r.record.entries.items ≤ length entries)
      by None so = tt
      by (Some r) so = so

  pub result_few : {E : Type 0} (way : Way) (entries copied : List Entry) (result : Result (Option Read) E) → copied ≡ entries
      → IfOk result (λ made. option_map reading_of made ≡ reading_by way m copied)
      → IfOk result (λ made. IfSome made (λ r. length r.record.entries.items ≤ length entries))
  result_few way entries copied (Ok made) same is = made_few way entries made (is ∙ ap (reading_by way m) same)
  result_few way entries copied (Err fault) same is = tt
