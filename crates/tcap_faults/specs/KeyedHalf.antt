-- How is the half with an ID of the peer kept?
use Rattle.std.specs.Prelude.{◌≡◌, List, map}
use Rattle.tcap_parts.specs.declared.component.Component.{Component}
use Rattle.tcap_end.specs.Table.{Table}
use Rattle.tcap_faults.specs.SentToId.{is_request_of}
use Rattle.tcap_faults.specs.declared.dialogue.half.Half.{Half}
use Rattle.tcap_faults.specs.declared.component.tally.Tally.{Tally}
use Rattle.tcap_faults.specs.HalfByPeerId.{HalfMessages}
use Rattle.tcap_faults.specs.InvokeCounts.{AreFew, tallied}
use Rattle.tcap_faults.specs.TallyMeaning.{tallies_of}

-- The tallies together count these components, if the components are few.
abbrev pub AreTallies : Table → List Component → List Tally → Type 0
AreTallies table cs tallies = AreFew cs → tallies_of tallies ≡ tallied table cs

-- `kept` represents the half `h`.
pub record IsHalf (table : Table) (h : HalfMessages) (kept : Half) : Type 0 where
  pub origin : kept.origin ≡ h.origin
  pub own : kept.own ≡ h.own
  pub requests : kept.requests ≡ is_request_of h.begin
  pub incoming : AreTallies table h.incoming (map (λ b. b.now) kept.incoming.items)
  pub outgoing : AreTallies table h.outgoing (map (λ b. b.now) kept.outgoing.items)
  pub invoked : AreTallies table h.invoked (map (λ b. b.now) kept.invoked.items)
