-- What does a search conclude from one entry, and which notes does it keep?
use Rattle.std.specs.Prelude.{◌≡◌, List, [], ◌∷◌, ◌++◌, Option, Some, None, Result, Ok, Err, cond}
use Rattle.tcap_ber.specs.declared.fault.Reason.{Reason as ReadingReason}
use Rattle.tcap_end.specs.Table.{Table}
use Rattle.tcap_model.specs.World.{Item}
use Rattle.tcap_model.specs.declared.reason.Reason.{Reason}
use Rattle.tcap_refute.specs.declared.judging.EntryResult.{EntryResult}
use Rattle.tcap_refute.specs.declared.judging.EntryResult.TheVariants.{Passed, Refuted, Ended}
use Rattle.tcap_refute.specs.declared.kind.Kind.{Kind}
use Rattle.tcap_refute.specs.declared.kind.Kind.TheVariants.{BadMessage}
use Rattle.tcap_refute.specs.declared.notes.Notes.{Notes}
use Rattle.tcap_refute.specs.Kind.{is_limit, kind_of_reason, lowest_kind}
use Rattle.tcap_refute.specs.KeptFacts.{AreNotesOf}

-- The conclusion from octets that are no message: F1, or no kind if the reason is a limit of this profile.
abbrev pub judged_fault : ReadingReason → EntryResult
judged_fault reason = cond (is_limit reason) Ended (Refuted BadMessage)

-- The lowest kind of an entry after these items.
abbrev pub entry_kind : Table → List Item → Result Item Reason → Option Kind
entry_kind table items (Ok item) = lowest_kind table items item
entry_kind table items (Err reason) = kind_of_reason reason

-- The conclusion from an entry after these items is right. `Refuted`: the entry has that kind. `Passed`: it is an
-- item without a kind, and the notes include it. `Ended`: it is no item and has no kind.
abbrev pub Judges : Table → List Item → Result Item Reason → EntryResult → Notes → Type 0
Judges table items entry (Refuted kind) notes = entry_kind table items entry ≡ Some kind
Judges table items (Ok item) Passed notes =
    (lowest_kind table items item ≡ None) × AreNotesOf table (items ++ item ∷ []) notes
Judges table items (Ok item) Ended notes = ⊥
Judges table items (Err reason) Passed notes = ⊥
Judges table items (Err reason) Ended notes = kind_of_reason reason ≡ None
