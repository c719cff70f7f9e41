use Rattle.std.proofs.Common.{ℕ, Ok, Err, ap, inl, inr, ◌∙◌}
use Rattle.tcap_judge.specs.declared.outcome.Outcome.TheVariants.{Faulty}
use Rattle.tcap_judge.proofs.LawfulLaws.{described_by_replay, reasoned_by_replay, shown_by_replay}
use Rattle.tcap_judge.proofs.checking.judge_record.Goals as goal

pub returns-in-Ok : goal.returns-in-Ok
returns-in-Ok g c =
    let table = c.args.table.now in
    let certificate = c.args.certificate.now in
    let all = c.in-Ok.ensures c.args.judged table certificate c.in-Some.ensures in
    elim (c.finish.ensures table certificate all.entries all.stands.1 (c.dropped.ensures.count ∙ all.stands.0)) [
      | inl memory ↦ inl memory
      | inr reported ↦ inr (record {
        entries = all.entries;
        end = Ok c.in-Ok.field-0;
        reads = all.reads;
        says = reported;
        shown = shown_by_replay c.args.judged table certificate all.entries c.finish.result reported;
        reasoned = reasoned_by_replay c.args.judged table certificate all.entries c.finish.result reported;
        described = described_by_replay c.args.judged table certificate all.entries (Ok c.in-Ok.field-0) c.finish.result reported;
      })
    ]

pub returns : goal.returns
returns g c =
    let fault = c.in-Err.fault in
    let all = c.in-Err.ensures c.args.judged c.args.table.now c.args.certificate.now c.in-Some.ensures in
    inr (record {
      entries = all.entries;
      end = Err fault;
      reads = all.reads;
      says = ap (λ (n : ℕ). Faulty n fault.place) c.number.ensures;
      shown = tt;
      reasoned = tt;
      described = λ both items events ended. cc;
    })
