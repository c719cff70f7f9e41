use Rattle.std.proofs.Common.{◌≡◌, Bool, true, false, not, ◌&&◌, refl, sym, ap, ◌∙◌}
use Rattle.std.specs.List.{list_any}
use Rattle.std.specs.Str.{bytes_eq}
use Rattle.tcap_msg.specs.declared.kind.Kind.TheVariants as forms
use Rattle.tcap_record.specs.Ends.{other}
use Rattle.tcap_refute.specs.EarlierMessages.{peer_sent_from, has_a}
use Rattle.tcap_faults.specs.Counts.{is_nothing}
use Rattle.tcap_faults.specs.SentToId.{outgoing}
use Rattle.tcap_faults.specs.TangledIds.{owns_of}
use Rattle.tcap_faults.proofs.transaction_laws.HistoryLookupLaws.{began_asked}
use Rattle.tcap_faults.proofs.transaction.lookup.PeerId.is_answered_anew.Goals as goal
use Rattle.tcap_faults.proofs.transaction.lookup.PeerId.is_answered_anew.Goals.{then-begins, else-begins}

begun : (asks none spoken value : Bool) → asks ≡ true → spoken ≡ not none → value ≡ not spoken
    → (asks && none) ≡ value
begun asks true spoken value is speaks tells = rw (is, tells, speaks) refl
begun asks false spoken value is speaks tells = rw (is, tells, speaks) refl

not_begun : (asks none value : Bool) → asks ≡ false → value ≡ false → (asks && none) ≡ value
not_begun asks none value is tells = rw (is, tells) refl

pub returns-then-not-tells : goal.returns-then-not-tells
returns-then-not-tells c = λ table side items own id own_is is used.
    let asks = sym (began_asked side items id) ∙ sym (c.begins.ensures table (other side) items id is.from) in
    let both : (has_a forms.Begin (peer_sent_from side id items) && is_nothing (outgoing side id items)) ≡ c.if-begins.value =
    elim c.if-begins.branch [
      | then-begins w ↦ begun _ _ _ _ (asks ∙ w.if-begins.true) (w.tells.ensures table side items id is.to) w.value-is
      | else-begins w ↦ not_begun _ _ _ (asks ∙ w.if-begins.false) (w.value-is ∙ w.if-begins.false)
    ] in
    ap not (c.is_joined.ensures table side items own id own_is is used)
    ∙ ap (λ b. b && not (list_any (bytes_eq own) (owns_of side items id))) (sym (both ∙ c.if-not-tells.true))

pub returns-else-not-tells : goal.returns-else-not-tells
returns-else-not-tells c = λ table side items own id own_is is used.
    let asks = sym (began_asked side items id) ∙ sym (c.begins.ensures table (other side) items id is.from) in
    let both : (has_a forms.Begin (peer_sent_from side id items) && is_nothing (outgoing side id items)) ≡ c.if-begins.value =
    elim c.if-begins.branch [
      | then-begins w ↦ begun _ _ _ _ (asks ∙ w.if-begins.true) (w.tells.ensures table side items id is.to) w.value-is
      | else-begins w ↦ not_begun _ _ _ (asks ∙ w.if-begins.false) (w.value-is ∙ w.if-begins.false)
    ] in
    c.if-not-tells.false
    ∙ ap (λ b. b && not (list_any (bytes_eq own) (owns_of side items id))) (sym (both ∙ c.if-not-tells.false))
