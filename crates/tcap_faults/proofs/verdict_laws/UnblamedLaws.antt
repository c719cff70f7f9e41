-- The reason why nothing is blamed on an end at an entry that is no quiet mark, from the history up to the entry.
use Rattle.std.proofs.Common.{◌≡◌, ℕ, ◌+◌, Bool, false, cond, List, Option, Some, option_map, sym, ap, ap₂, ◌∙◌}
use Rattle.std.specs.Prelude.{slice_get}
use Rattle.std.proofs.lemmas.Option.{slice_get-map}
use Rattle.tcap_record.specs.declared.entry.End.{End as Side}
use Rattle.tcap_record.specs.declared.entry.Entry.{Entry}
use Rattle.tcap_end.specs.Table.{Table}
use Rattle.tcap_model.specs.Entries.{item_of}
use Rattle.tcap_faults.specs.declared.verdict.unblamed_reason.TangledId.{TangledId}
use Rattle.tcap_faults.specs.Unblamed.{again_among, is_mark, tangled_at, unblamed_at, unblamed_by, used_again_at}

pub other_there : (table : Table) (side : Side) (entries : List Entry) (number : ℕ) (entry : Entry)
    → slice_get entries number ≡ Some entry → is_mark (Some (item_of entry)) ≡ false
    → (again : Option ℕ) → again ≡ again_among table side entries (number + 1)
    → (tangled : Option TangledId) → tangled ≡ tangled_at side entries number
    → unblamed_by again tangled ≡ unblamed_at table side entries number
other_there table side entries number entry there no_mark again is tangled tangled_is = ap₂ unblamed_by (is ∙ sym used) tangled_is
  where
    used : used_again_at table side entries number ≡ again_among table side entries (number + 1)
    used =
        ap (λ (b : Bool). again_among table side entries (cond b number (number + 1)))
        (ap is_mark (slice_get-map item_of entries number ∙ ap (option_map item_of) there) ∙ no_mark)
