-- Which messages pass a test by which entries are listed.
use Rattle.std.specs.Prelude.{ℕ, Bool, true, List, Option, is_none, option_map, ◌&&◌, not}
use Rattle.tcap_msg.specs.declared.kind.Kind.TheVariants as forms
use Rattle.tcap_msg.specs.declared.message.Message.{Message}
use Rattle.tcap_msg.specs.Parts.{cause_in, dtid_in, otid_in}
use Rattle.tcap_model.specs.SinceMark.{ended_by, is_begin_with_request}
use Rattle.tcap_refute.specs.EarlierMessages.{is_a}
use Rattle.tcap_faults.specs.SentToId.{is_cause}
use Rattle.tcap_evidence.specs.declared.listing.Test.{Test}
use Rattle.tcap_evidence.specs.declared.listing.Test.TheVariants as tests
use Rattle.tcap_evidence.specs.Scene.{is_same_id}

-- whether a message passes a test
abbrev pub passes : Test → Message → Bool
passes tests.Any m = true
passes tests.Begin m = is_a forms.Begin m
passes tests.Request m = is_begin_with_request m
passes tests.Continue m = is_a forms.Continue m
passes (tests.From id) m = is_same_id (option_map (λ t. t.now) id) (otid_in m)
passes (tests.BeginFrom id) m = is_a forms.Begin m && is_same_id (option_map (λ t. t.now) id) (otid_in m)
passes (tests.RequestFrom id) m = is_begin_with_request m && is_same_id (option_map (λ t. t.now) id) (otid_in m)
passes (tests.Elsewhere from to) m =
    is_a forms.Continue m && is_same_id (option_map (λ t. t.now) from) (otid_in m)
    && not (is_same_id (option_map (λ t. t.now) to) (dtid_in m))
passes (tests.UserMessageTo id) m = is_same_id (option_map (λ t. t.now) id) (dtid_in m) && is_none (cause_in m)
passes (tests.ContinueTo id) m = is_a forms.Continue m && is_same_id (option_map (λ t. t.now) id) (dtid_in m)
passes (tests.EndTo id) m = is_same_id (option_map (λ t. t.now) id) (ended_by m)
passes (tests.AbortTo id number) m = is_same_id (option_map (λ t. t.now) id) (dtid_in m) && is_cause number (cause_in m)
