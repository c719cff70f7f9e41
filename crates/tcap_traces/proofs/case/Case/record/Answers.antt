use Rattle.std.proofs.Common.{rules, ◌≡◌, ◌&&◌, ◌++◌, ◌∷◌, [], append-nil, cond, length, map, min, nat_lt, take, true, false, sym, ap, ◌∙◌}
use Rattle.std.proofs.lemmas.List.{take_min}
use Rattle.tcap_traces.specs.Case.{dialogue_in}
use Rattle.tcap_traces.specs.Dialogue.{entry_of, is_marked, most, quiet_mark}
use Rattle.tcap_traces.proofs.case.Case.record.Goals as goal
use Rattle.tcap_traces.proofs.case.Case.record.Goals.{then-has_judged_mark+in_ok-push, else-has_judged_mark}

pub returns-clause-are : goal.returns-clause-are
returns-clause-are c =
    let d = dialogue_in c.args.self.now in
    let es = d.entries in
    let first = map entry_of (take most es) in
    let all : c.as_slice-all.result.now ≡ es = c.as_slice-all.ensures.value in
    let few : c.min.result ≡ min most (length es) = search rules in
    let made : c.in_ok-entries.entries.items ≡ first =
    c.in_ok-entries.ensures ∙ ap (λ l. map entry_of (take c.min.result l)) all ∙ ap (λ n. map entry_of (take n es)) few
    ∙ ap (map entry_of) (take_min most es) in
    elim c.if-has_judged_mark.branch [
      | then-has_judged_mark+in_ok-push w ↦
          let more : c.if-has_judged_mark.entries.items ≡ c.in_ok-entries.entries.items ++ quiet_mark ∷ [] = search rules in
          let marked : (is_marked d.after && nat_lt (length es) most) ≡ true = sym c.has_judged_mark.ensures ∙ w.if-has_judged_mark.true in
          more ∙ ap (λ l. l ++ quiet_mark ∷ []) made ∙ sym (ap (λ b. first ++ cond b (quiet_mark ∷ []) []) marked)
      | else-has_judged_mark w ↦
          let same : c.if-has_judged_mark.entries.items ≡ c.in_ok-entries.entries.items = search rules in
          let none : (is_marked d.after && nat_lt (length es) most) ≡ false = sym c.has_judged_mark.ensures ∙ w.if-has_judged_mark.false in
          same ∙ made ∙ sym (append-nil first) ∙ sym (ap (λ b. first ++ cond b (quiet_mark ∷ []) []) none)
    ]
