-- What a provider's reply requires of the half that was found.
use Rattle.std.proofs.Common.{◌≡◌, Option, Some, None, is_some, sym, ap}
use Rattle.std.specs.Prelude.{not}
use Rattle.std.specs.Borrow.{Bor}
use Rattle.tcap_end.specs.declared.half_state.HalfState.{HalfState}
use Rattle.tcap_end.specs.Half.{Half, is_closed}
use Rattle.tcap_end.proofs.OverLaws.{Shows}

-- The half is open exactly if it has a stored state.
pub shows_open : (h : Half) (r : Option (Bor HalfState)) → Shows h r → is_some r ≡ not (is_closed h.phase)
shows_open h None shown = sym (ap not shown)
shows_open h (Some half) shown = sym (ap not shown.1)
