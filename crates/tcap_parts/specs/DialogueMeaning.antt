-- Which values do views of dialogue portions hold?
use Rattle.std.specs.Prelude.{ℕ, List, Option}
use Rattle.std.specs.Option.{option_map}
use Rattle.tcap_parts.specs.declared.info.InfoView.{InfoView}
use Rattle.tcap_parts.specs.declared.dialogue.Source.{Source}
use Rattle.tcap_parts.specs.declared.dialogue.Source.TheVariants as sources
use Rattle.tcap_parts.specs.declared.dialogue.SourceView.{SourceView}
use Rattle.tcap_parts.specs.declared.dialogue.SourceView.TheVariants as source_views
use Rattle.tcap_parts.specs.declared.dialogue.Dialogue.{Dialogue}
use Rattle.tcap_parts.specs.declared.dialogue.Dialogue.TheVariants as owned
use Rattle.tcap_parts.specs.declared.dialogue.DialogueView.{DialogueView}
use Rattle.tcap_parts.specs.declared.dialogue.DialogueView.TheVariants as views

-- the user information of a view
abbrev pub info_meaning : Option InfoView → Option (List ℕ)
info_meaning info = option_map (λ view. view.octets.now) info

-- the diagnostic of a view
abbrev pub source_of : SourceView → Source
source_of (source_views.User n) = sources.User n.number
source_of (source_views.Provider n) = sources.Provider n.number

-- the PDU of a view
abbrev pub dialogue_of : DialogueView → Dialogue
dialogue_of (views.Request context info) = owned.Request context.octets.now (info_meaning info)
dialogue_of (views.Response context result diagnostic info) = owned.Response context.octets.now result.number
    (source_of diagnostic) (info_meaning info)
dialogue_of (views.Abort source info) = owned.Abort source.number (info_meaning info)
dialogue_of (views.Uni context info) = owned.Uni context.octets.now (info_meaning info)
