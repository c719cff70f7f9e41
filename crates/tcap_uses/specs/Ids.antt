-- The originating transaction IDs of entries.
use Rattle.std.specs.Prelude.{ℕ, List, [], ◌∷◌, Option, Some, None}
use Rattle.tcap_msg.specs.Parts.{otid_in}
use Rattle.tcap_record.specs.declared.entry.Body.{Body}
use Rattle.tcap_record.specs.declared.entry.Body.TheVariants.{Good, Bad, Quiet}
use Rattle.tcap_record.specs.declared.entry.Entry.{Entry}

-- the originating ID of an entry, if it is a Begin or a Continue
abbrev pub id_in : Entry → Option (List ℕ)
id_in entry = of entry.body
  where
    of : Body → Option (List ℕ)
    of (Good message) = otid_in message
    of (Bad fault) = None
    of Quiet = None

-- these IDs after one more, if there is one
abbrev pub id_before : Option (List ℕ) → List (List ℕ) → List (List ℕ)
id_before None ids = ids
id_before (Some id) ids = id ∷ ids

-- the originating IDs of these entries, in order
abbrev pub ids_in : List Entry → List (List ℕ)
ids_in [] = []
ids_in (entry ∷ entries) = id_before (id_in entry) (ids_in entries)
