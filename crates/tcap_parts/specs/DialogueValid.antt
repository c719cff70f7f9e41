-- Which values of the types are valid?
use Rattle.std.specs.Prelude.{ℕ, ◌<◌, List, Option, Some, None}
use Rattle.tcap_ber.specs.ObjectId.{IsObjectId}
use Rattle.tcap_parts.specs.declared.dialogue.Source.{Source}
use Rattle.tcap_parts.specs.declared.dialogue.Source.TheVariants.{User, Provider}
use Rattle.tcap_parts.specs.declared.dialogue.Dialogue.{Dialogue}
use Rattle.tcap_parts.specs.declared.dialogue.Dialogue.TheVariants.{Request, Response, Abort, Uni}
use Rattle.tcap_parts.specs.Info.{AreExternals}

-- user information, if there is some, is EXTERNALs
abbrev pub IsInfo : Option (List ℕ) → Type 0
IsInfo None = Unit {0}
IsInfo (Some externals) = AreExternals externals

-- a diagnostic is a number from 0 to 127
abbrev pub IsSource : Source → Type 0
IsSource (User n) = n < 128
IsSource (Provider n) = n < 128

abbrev pub IsDialogue : Dialogue → Type 0
IsDialogue (Request context info) = IsObjectId context × IsInfo info
IsDialogue (Response context result diagnostic info) = IsObjectId context × (result < 128) × IsSource diagnostic
    × IsInfo info
IsDialogue (Abort source info) = (source < 128) × IsInfo info
IsDialogue (Uni context info) = IsObjectId context × IsInfo info
