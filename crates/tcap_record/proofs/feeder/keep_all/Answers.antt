use Rattle.std.proofs.Common.{◌≡◌, ℕ, ◌+◌, ◌-◌, ◌≤◌, List, [], ◌∷◌, ◌++◌, length, take, None, sym, ap, subst, ◌∙◌, arith, append_assoc}
use Rattle.std.proofs.lemmas.Result.{err_from_is_err_and}
use Rattle.std.proofs.lemmas.List.{length-drop}
use Rattle.tcap_record.specs.declared.entry.Entry.{Entry}
use Rattle.tcap_record.specs.PartialRecord.{FramerState, IsFramedSoFar, IsFramerState, dropped}
use Rattle.tcap_record.proofs.FeederLaws.{held_dropped, no_less, taken_on, taken_all, rest_on, entry_waits}
use Rattle.tcap_record.proofs.feeder.keep_all.Goals as goal

pub returns-in_err-taken-clause-fed : goal.returns-in_err-taken-clause-fed
returns-in_err-taken-clause-fed c octets taken fed =
    let p = err_from_is_err_and c.from_residual.result c.from_residual.ensures.1 in
    let was = c.loop-taken.invariant.2 in
    let more = c.in_err-taken.ensures.fed (octets ++ take was.0 c.args.piece.now) (taken ++ c.loop-taken.waiting.items)
    (was.3 octets taken fed) in
    rw p.1 (
      was.0 + more.0,
      omega (arith, was.1, more.1, ap length was.2, length-drop was.0 c.args.piece.now),
      subst (λ (x : List ℕ). IsFramedSoFar x (taken ++ c.loop-taken.waiting.items) c.feed_some.new.self)
          (taken_on octets c.args.piece.now c.loop-taken.rest.now was.0 more.0 was.2) more.2,
    )

pub returns-in_err-keep_front-clause-fed : goal.returns-in_err-keep_front-clause-fed
returns-in_err-keep_front-clause-fed c octets taken fed =
    let p = err_from_is_err_and c.from_residual-in_err-keep_front.result c.from_residual-in_err-keep_front.ensures.1 in
    let was = c.loop-taken.invariant.2 in
    let more = c.in_ok-taken.ensures.fed (octets ++ take was.0 c.args.piece.now) (taken ++ c.loop-taken.waiting.items)
    (was.3 octets taken fed) in
    rw (p.1, c.in_err-keep_front.ensures.failed.1) (
      was.0 + c.in_ok-taken.taken,
      omega (arith, was.1, c.in_ok-taken.ensures.most, ap length was.2, length-drop was.0 c.args.piece.now),
      subst (λ (x : List ℕ). IsFramedSoFar x (taken ++ c.loop-taken.waiting.items) c.feed_some.new.self)
          (taken_on octets c.args.piece.now c.loop-taken.rest.now was.0 c.in_ok-taken.taken was.2) more,
    )

pub returns-then-not-branch-clause-fed : goal.returns-then-not-branch-clause-fed
returns-then-not-branch-clause-fed c octets taken fed =
    let was = c.loop-taken.invariant.2 in
    let n = c.in_ok-taken.taken in
    let none = c.in_ok-keep_front.ensures.none cc in
    let sound : c.feed_some.new.self.fault ≡ None = ap (λ (h : FramerState). h.fault) c.in_ok-taken.ensures.taken.1 in
    let most : n ≤ length c.loop-taken.rest.now = c.in_ok-taken.ensures.most in
    let all : n ≡ length c.loop-taken.rest.now =
    no_less n (length c.loop-taken.rest.now) most (λ few. none.0 (sound, c.in_ok-taken.ensures.all few)) in
    let more : IsFramedSoFar ((octets ++ take was.0 c.args.piece.now) ++ take n c.loop-taken.rest.now) (taken ++ c.loop-taken.waiting.items)
    c.feed_some.new.self =
    c.in_ok-taken.ensures.fed (octets ++ take was.0 c.args.piece.now) (taken ++ c.loop-taken.waiting.items)
    (was.3 octets taken fed) in
    let whole = taken_on octets c.args.piece.now c.loop-taken.rest.now was.0 n was.2
    ∙ taken_all octets c.args.piece.now c.loop-taken.rest.now was.0 n was.2 all was.1 in
    rw none.1 (subst (λ (x : List ℕ). IsFramedSoFar x (taken ++ c.loop-taken.waiting.items) c.feed_some.new.self) whole more)

pub loop-taken-preserved : goal.loop-taken-preserved
loop-taken-preserved c =
    let was = c.loop-taken.invariant.2 in
    let n = c.in_ok-taken.taken in
    let there = c.in_ok-keep_front.ensures.kept cc in
    let most : n ≤ length c.loop-taken.rest.now = c.in_ok-taken.ensures.most in
    let left : length c.loop-taken.rest.now ≡ length c.args.piece.now - was.0 =
    ap length was.2 ∙ length-drop was.0 c.args.piece.now in
    let after : c.drop_front.new.self ≡ dropped c.feed_some.new.self = c.drop_front.ensures.dropped there.2 there.3 in (
      (
        c.loop-taken.invariant.0.0 ++ there.0 ∷ [],
        there.4 ∙ ap (λ (x : List Entry). x ++ there.0 ∷ []) c.loop-taken.invariant.0.1
            ∙ append_assoc c.args.waiting.now.items c.loop-taken.invariant.0.0 (there.0 ∷ []),
      ),
      (λ held. subst IsFramerState (sym after) (held_dropped c.feed_some.new.self c.in_ok-taken.ensures.held there.2 there.3)),
      (
        was.0 + n,
        omega (arith, was.1, most, left),
        rest_on c.args.piece.now c.loop-taken.rest.now was.0 n was.2 most,
        λ octets taken fed.
            let more : IsFramedSoFar ((octets ++ take was.0 c.args.piece.now) ++ take n c.loop-taken.rest.now)
            (taken ++ c.loop-taken.waiting.items) c.feed_some.new.self =
            c.in_ok-taken.ensures.fed (octets ++ take was.0 c.args.piece.now) (taken ++ c.loop-taken.waiting.items)
            (was.3 octets taken fed) in
            let same = taken_on octets c.args.piece.now c.loop-taken.rest.now was.0 n was.2 in
            let grown = subst (λ (x : List ℕ). IsFramedSoFar x (taken ++ c.loop-taken.waiting.items) c.feed_some.new.self) same more in
            rw there.4 (entry_waits (octets ++ take (was.0 + n) c.args.piece.now) taken c.loop-taken.waiting.items there.0
            c.drop_front.new.self
            (c.drop_front.ensures.fed (octets ++ take (was.0 + n) c.args.piece.now) (taken ++ c.loop-taken.waiting.items) there.0
            there.2 there.1 grown)),
      ),
    )
