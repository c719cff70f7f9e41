-- Which lines say why nobody is blamed for a refuted entry.
use Rattle.std.specs.Prelude.{◌≡◌, ◌<◌, ℕ, true, List, [], ◌∷◌, ◌++◌, map, slice_get, Option, Some, None, codes}
use Rattle.std.specs.List.{flat_map}
use Rattle.std.specs.Fmt.{decimal}
use Rattle.hex.specs.Hex.{encode_lower}
use Rattle.tcap_record.specs.declared.entry.End.{End as Side}
use Rattle.tcap_record.specs.declared.entry.Entry.{Entry}
use Rattle.tcap_record.specs.Ends.{letter}
use Rattle.tcap_record.specs.Lines.{line_end}
use Rattle.tcap_end.specs.Table.{Table}
use Rattle.tcap_model.specs.Entries.{item_of}
use Rattle.tcap_refute.specs.declared.kind.Refutation.{Refutation}
use Rattle.tcap_refute.specs.Kind.{refuted}
use Rattle.tcap_faults.specs.declared.verdict.unblamed_reason.Tangle.{Tangle}
use Rattle.tcap_faults.specs.declared.verdict.unblamed_reason.Tangle.TheVariants.{TwoIds, BegunTwice, BothBegan, Guessed}
use Rattle.tcap_faults.specs.declared.verdict.unblamed_reason.TangledId.{TangledId}
use Rattle.tcap_faults.specs.declared.verdict.unblamed_reason.Unblamed.{Unblamed}
use Rattle.tcap_faults.specs.declared.verdict.unblamed_reason.Unblamed.TheVariants.{UsedAgain, Tangled}
use Rattle.tcap_faults.specs.Fault.{blamed}
use Rattle.tcap_faults.specs.Unblamed.{unblamed_at}
use Rattle.tcap_evidence.specs.declared.shown_facts.ShownFact.{ShownFact}
use Rattle.tcap_evidence.specs.declared.shown_facts.ShownFact.TheVariants as facts
use Rattle.tcap_evidence.specs.Evidence.{grounds_at}
use Rattle.tcap_evidence.specs.Partners.{paired_before}
use Rattle.tcap_evidence.specs.EvidenceWords.{entries_words, ground_line, is_for}

-- Entry `number`, which is that end's, is refuted, and no end is blamed for it or for an earlier entry.
pub record IsUnblamed (table : Table) (side : Side) (entries : List Entry) (number : ℕ) : Type 0 where
  pub of_end : is_for side (slice_get entries number) ≡ true
  pub is_refuted : (r : Refutation) × (refuted table (map item_of entries) ≡ Some r) × (r.entry ≡ number)
  pub none : (end : Side) (r : Refutation) → blamed table end entries ≡ Some r → number < r.entry

-- the things that show earlier uses of a message's IDs
abbrev pub id_uses : List ShownFact
id_uses = facts.PeerBegins ∷ facts.PeerContinues ∷ facts.OutgoingContinues ∷ facts.Used ∷ []

-- the lines that show earlier uses of the IDs of the message in that entry
abbrev pub id_lines : Table → Side → List Entry → ℕ → List ℕ
id_lines table side entries number = flat_map (ground_line side None) (grounds_at table side entries number id_uses)

-- the reason why an ID is ambiguous (tangled, in the printed text)
unfoldable pub tangle_words : Tangle → List ℕ
tangle_words TwoIds = codes " is tangled (two IDs of the other end stand with it): "
tangle_words BegunTwice = codes " is tangled (its end began it twice): "
tangle_words BothBegan = codes " is tangled (its end began it, and went on from it to an ID that the other end began): "
tangle_words Guessed =
    codes " is tangled (its end began it, and went on from it to an ID that the other end had not used): "

-- the statement that an ID is ambiguous, with its end and the reason
abbrev pub tangled_text : TangledId → List ℕ
tangled_text t =
    codes "  nobody is blamed for it: transaction ID " ++ encode_lower t.id ++ codes " of " ++ letter t.side
    ++ tangle_words t.why

-- the line on an ambiguous ID, with the entries that begin it and those that show its partners
abbrev pub tangled_line : List Entry → ℕ → TangledId → List ℕ
tangled_line entries number t =
    tangled_text t ++ entries_words (paired_before t.side t.id entries number) ++ line_end

-- the line for a Reject of something that a stack may read in another way
unfoldable pub spelling_words : List ℕ
spelling_words =
    codes "  nobody is blamed for it: what it rejects may be mistyped or badly structured as this end reads it\n"

-- the line on an end that used an own ID again
abbrev pub again_text : Side → ℕ → List ℕ
again_text side again =
    codes "  nobody is blamed for it: " ++ letter side ++ (codes " used an own ID again in entry " ++ decimal again)
    ++ codes ", so that its transactions can't be told apart" ++ line_end

-- the lines for a reason why nobody is blamed
abbrev pub unblamed_words : Table → Side → List Entry → ℕ → Option Unblamed → List ℕ
unblamed_words table side entries number (Some (UsedAgain again)) = again_text side again
unblamed_words table side entries number (Some (Tangled t)) =
    tangled_line entries number t ++ id_lines table side entries number
unblamed_words table side entries number None = spelling_words

-- the lines for a refuted entry for which nobody is blamed
abbrev pub unblamed_text : Table → Side → List Entry → ℕ → List ℕ
unblamed_text table side entries number =
    unblamed_words table side entries number (unblamed_at table side entries number)
