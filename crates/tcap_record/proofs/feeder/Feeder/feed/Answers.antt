use Rattle.std.proofs.Common.{◌≡◌, ℕ, ◌-◌, List, [], ◌++◌, length, take, drop, sym, ap, subst, ◌∙◌, arith, append-nil}
use Rattle.std.proofs.lemmas.List.{take_at}
use Rattle.tcap_record.specs.PartialRecord.{IsFramedSoFar}
use Rattle.tcap_record.proofs.FeederLaws.{rest_is, fed_behind, cut_back}
use Rattle.tcap_record.proofs.feeder.Feeder.feed.Goals as goal

pub returns-in-Ok-Some-clause-fed : goal.returns-in-Ok-Some-clause-fed
returns-in-Ok-Some-clause-fed c =
    let n = c.in_ok-taken.taken in
    let piece = c.args.piece.now in
    let there = rw c.in-Ok-Some.field-0-is at c.in-Ok-Some.ensures.fed in
    rw (← c.self.view_is, c.in-Ok-Some.field-0-is) (λ octets taken fed.
    let grown : IsFramedSoFar (octets ++ take n piece) (taken ++ c.self.inside.waiting.items) c.feed_some.new.self =
    c.in_ok-taken.ensures.fed octets (taken ++ c.self.inside.waiting.items) fed in
    fed_behind (λ (x : List ℕ). IsFramedSoFar x (taken ++ c.keep_rest.new.waiting.items) c.in-Ok-Some.frames) octets piece
    (take (length piece - n) (drop n piece)) n c.in-Ok-Some.kept (rest_is piece n) c.in_ok-taken.ensures.most
    (there (octets ++ take n piece) taken grown))

pub returns-in-Err-clause-kept : goal.returns-in-Err-clause-kept
returns-in-Err-clause-kept c =
    let more = c.keep_rest.ensures.kept in
    let waiting = c.self.inside.waiting.items in
    let len : length waiting ≡ c.len-waiting.result = omega (arith, c.len-waiting.ensures) in
    rw (← c.self.view_is) (
      [],
      c.truncate.ensures.items ∙ ap (take c.len-waiting.result) more.1
          ∙ take_at waiting more.0 c.len-waiting.result len ∙ sym (append-nil waiting),
    )

pub returns-in-Err-clause-fed : goal.returns-in-Err-clause-fed
returns-in-Err-clause-fed c =
    let inside = c.self.inside in
    let more = c.keep_rest.ensures.kept in
    let waiting = inside.waiting.items in
    let len : length waiting ≡ c.len-waiting.result = omega (arith, c.len-waiting.ensures) in
    let waits : c.truncate.new.self.items ≡ waiting =
    c.truncate.ensures.items ∙ ap (take c.len-waiting.result) more.1 ∙ take_at waiting more.0 c.len-waiting.result len in
    let back : c.cut.new.self ≡ inside.frames = c.cut.ensures
    ∙ cut_back inside.frames c.feed_some.new.self (take c.in_ok-taken.taken c.args.piece.now) c.buffered-held.result
    c.in_ok-taken.ensures.taken.0 c.buffered-held.ensures.count c.in_ok-taken.ensures.taken.1 in
    rw (← c.self.view_is, waits, back) (λ octets taken fed.
    (0, omega arith, subst (λ (x : List ℕ). IsFramedSoFar x (taken ++ waiting) inside.frames) (sym (append-nil octets)) fed))
