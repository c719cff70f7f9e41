-- What is kept after a message joins its channel.
use Rattle.std.proofs.Common.{◌≡◌, ℕ, ◌+◌, ◌*◌, ◌≤◌, ◌<◌, Bool, true, false, cond, List, [], ◌∷◌, ◌++◌, length, Option, Some, None, refl, sym, ap, ap₂, ◌∙◌, arith}
use Rattle.std.specs.Prelude.{slice_get, ◌&&◌, ◌||◌, nat_lt}
use Rattle.std.proofs.lemmas.Bool.{ltb-true, ltb-false, lt-ltb, le-ltb}
use Rattle.tcap_msg.specs.declared.message.Message.{Message}
use Rattle.tcap_record.specs.declared.entry.End.{End as Side}
use Rattle.tcap_record.specs.declared.entry.End.TheVariants as sides
use Rattle.tcap_certificate.specs.declared.certificate.Fate.{Fate}
use Rattle.tcap_certificate.specs.declared.certificate.Fate.TheVariants.{Gap, Lost, By}
use Rattle.tcap_check.specs.declared.progress.Waiting.{Waiting}
use Rattle.tcap_model.specs.World.{Item, MessageInTransit, Sent, is_side}
use Rattle.tcap_model.specs.Run.{Event, joined}
use Rattle.tcap_certificate.specs.Certificate.{Certificate}
use Rattle.tcap_certificate.specs.Replay.{Replay, is_later, is_overtaking, next_entry, time_of, with_step}
use Rattle.tcap_record.specs.Ends.{other}
use Rattle.tcap_certificate.specs.LossCounts.{is_lost_from}
use Rattle.tcap_check.specs.Progress.{greater, overtakes, side_at, sent_by, time_or_zero, unless_lost}
use Rattle.tcap_check.specs.CheckerMeaning.{fate_of, is_alone, kept_by, latest_at, latest_of, progress_of, waiting_at}
use Rattle.tcap_check.proofs.progress_laws.KeptBasics.{moved_counts}
use Rattle.tcap_model.proofs.WorldLaws.{itself}

-- ---- the latest time

none_before : (n : ℕ) → nat_lt n 0 ≡ false
none_before n = le-ltb n 0 (omega arith)

pub greater_left : (m n : ℕ) → m ≤ greater m n
greater_left m n = by (nat_lt m n) refl
  where
    by : (b : Bool) → nat_lt m n ≡ b → m ≤ cond b n m
    by true is = let less : m < n = ltb-true m n is in omega (arith, less)
    by false is = omega arith

greater_right : (m n : ℕ) → n ≤ greater m n
greater_right m n = by (nat_lt m n) refl
  where
    by : (b : Bool) → nat_lt m n ≡ b → n ≤ cond b n m
    by true is = omega arith
    by false is = ltb-false m n is

greater_most : (m n k : ℕ) → m ≤ k → n ≤ k → greater m n ≤ k
greater_most m n k p q = by (nat_lt m n)
  where
    by : (b : Bool) → cond b n m ≤ k
    by true = q
    by false = p

both_ways : (m n : ℕ) → m ≤ n → n ≤ m → m ≡ n
both_ways m n p q = omega (arith, p, q)

greater_assoc : (a b c : ℕ) → greater a (greater b c) ≡ greater (greater a b) c
greater_assoc a b c =
    let ab = greater a b in
    let bc = greater b c in
    let p1 : a ≤ ab = greater_left a b in
    let p2 : b ≤ ab = greater_right a b in
    let p3 : ab ≤ greater ab c = greater_left ab c in
    let p4 : c ≤ greater ab c = greater_right ab c in
    let q1 : b ≤ bc = greater_left b c in
    let q2 : c ≤ bc = greater_right b c in
    let q3 : a ≤ greater a bc = greater_left a bc in
    let q4 : bc ≤ greater a bc = greater_right a bc in
    both_ways (greater a bc) (greater ab c)
    (greater_most a bc (greater ab c) (omega (arith, p1, p3)) (greater_most b c (greater ab c) (omega (arith, p2, p3)) p4))
    (greater_most ab c (greater a bc) (greater_most a b (greater a bc) q3 (omega (arith, q1, q4))) (omega (arith, q2, q4)))

greater_none : (n : ℕ) → greater n 0 ≡ n
greater_none n = rw (none_before n) refl

none_greater : (n : ℕ) → greater 0 n ≡ n
none_greater n = both_ways (greater 0 n) n (greater_most 0 n n (omega arith) (omega arith)) (greater_right 0 n)

before_greater : (t a b : ℕ) → nat_lt t (greater a b) ≡ (nat_lt t a || nat_lt t b)
before_greater t a b = by (nat_lt t a) (nat_lt t b) refl refl
  where
    by : (p q : Bool) → nat_lt t a ≡ p → nat_lt t b ≡ q → nat_lt t (greater a b) ≡ (p || q)
    by true q is at =
        let less : t < a = ltb-true t a is in
        let more : a ≤ greater a b = greater_left a b in lt-ltb t (greater a b) (omega (arith, less, more))
    by false true is at =
        let less : t < b = ltb-true t b at in
        let more : b ≤ greater a b = greater_right a b in lt-ltb t (greater a b) (omega (arith, less, more))
    by false false is at =
        let one : a ≤ t = ltb-false t a is in
        let two : b ≤ t = ltb-false t b at in
        le-ltb t (greater a b) (greater_most a b t one two)

later_is : (t : ℕ) (fate : Fate) → is_later (Some t) (time_of fate) ≡ nat_lt t (time_or_zero fate)
later_is t (Gap g) = refl
later_is t (By k) = refl
later_is t Lost = sym (none_before t)

overtaking : (side : Side) (fate : Fate) (t : ℕ) (fates : List Fate) (items : List Item) → time_of fate ≡ Some t
    → nat_lt t (latest_of side fates items) ≡ is_overtaking side fate fates items
overtaking side fate t [] [] is = none_before t
overtaking side fate t [] (item ∷ items) is = none_before t
overtaking side fate t (first ∷ fates) [] is = none_before t
overtaking side fate t (first ∷ fates) (Item.Quiet ∷ items) is = overtaking side fate t fates items is
overtaking side fate t (first ∷ fates) (Sent sender message ∷ items) is =
    by (is_side side sender) (overtaking side fate t fates items is)
  where
    by : (b : Bool) → nat_lt t (latest_of side fates items) ≡ is_overtaking side fate fates items
        → nat_lt t (cond b (greater (time_or_zero first) (latest_of side fates items)) (latest_of side fates items))
        ≡ ((b && is_later (time_of fate) (time_of first)) || is_overtaking side fate fates items)
    by true rest =
        before_greater t (time_or_zero first) (latest_of side fates items)
        ∙ ap₂ (λ (x y : Bool). x || y) (sym (later_is t first) ∙ ap (λ (o : Option ℕ). is_later o (time_of first)) (sym is)) rest
    by false rest = rest

nothing_lost : (side : Side) (fates : List Fate) (items : List Item) → is_overtaking side Lost fates items ≡ false
nothing_lost side [] [] = refl
nothing_lost side [] (item ∷ items) = refl
nothing_lost side (first ∷ fates) [] = refl
nothing_lost side (first ∷ fates) (Item.Quiet ∷ items) = nothing_lost side fates items
nothing_lost side (first ∷ fates) (Sent sender message ∷ items) = by (is_side side sender) (nothing_lost side fates items)
  where
    by : (b : Bool) → is_overtaking side Lost fates items ≡ false
        → ((b && is_later None (time_of first)) || is_overtaking side Lost fates items) ≡ false
    by true rest = rest
    by false rest = rest

-- Whether a message overtakes an earlier one depends only on the latest time.
pub overtakes_is : (listing : Bool) (judged : Option Side) (c : Certificate) (side : Side) (fate : Fate) (r : Replay) → is_alone judged side ≡ false
    → overtakes fate (side_at side (progress_of listing judged c r)) ≡ is_overtaking side fate c.fates r.world.sent
overtakes_is listing judged c side Lost r so = sym (nothing_lost side c.fates r.world.sent)
overtakes_is listing judged c sides.A (Gap g) r so = rw so (overtaking sides.A (Gap g) (2 * g) c.fates r.world.sent refl)
overtakes_is listing judged c sides.B (Gap g) r so = rw so (overtaking sides.B (Gap g) (2 * g) c.fates r.world.sent refl)
overtakes_is listing judged c sides.A (By k) r so = rw so (overtaking sides.A (By k) (2 * k + 1) c.fates r.world.sent refl)
overtakes_is listing judged c sides.B (By k) r so = rw so (overtaking sides.B (By k) (2 * k + 1) c.fates r.world.sent refl)

-- ---- one more message

kept_with_fate : (fate : Fate) (m : MessageInTransit) → kept_by (Some fate) m ≡ record { number = m.number; message = unless_lost fate m.message }
kept_with_fate (Gap g) m = refl
kept_with_fate (By k) m = refl
kept_with_fate Lost m = refl

waiting_more : (judged : Option Side) (side : Side) (fates : List Fate) (channel : List MessageInTransit) (m : MessageInTransit) (fate : Fate)
    → fate_of judged side (slice_get fates m.number) ≡ Some fate
    → waiting_at judged side fates (channel ++ m ∷ [])
    ≡ waiting_at judged side fates channel ++ (record { number = m.number; message = unless_lost fate m.message }) ∷ []
waiting_more judged side fates [] m fate is =
    ap (λ (o : Option Fate). kept_by o m ∷ []) is ∙ ap (λ (w : Waiting). w ∷ []) (kept_with_fate fate m)
waiting_more judged side fates (first ∷ channel) m fate is =
    ap (λ (x : List Waiting). kept_by (fate_of judged side (slice_get fates first.number)) first ∷ x) (waiting_more judged side fates channel m fate is)

abbrev latest_with : Bool → Fate → ℕ → ℕ
latest_with so fate time = cond so (greater time (time_or_zero fate)) time

latest_more : (side sender : Side) (message : Message) (fates : List Fate) (items : List Item) (fate : Fate)
    → slice_get fates (length items) ≡ Some fate
    → latest_of side fates (items ++ Sent sender message ∷ [])
    ≡ latest_with (is_side side sender) fate (latest_of side fates items)
latest_more side sender message [] [] fate is = cc
latest_more side sender message [] (item ∷ items) fate is = cc
latest_more side sender message (first ∷ fates) [] fate is = by (is_side side sender)
  where
    same : first ≡ fate
    same = cc

    empty : (fates : List Fate) → latest_of side fates [] ≡ 0
    empty [] = refl
    empty (f ∷ fs) = refl

    by : (b : Bool) → cond b (greater (time_or_zero first) (latest_of side fates [])) (latest_of side fates []) ≡ latest_with b fate 0
    by true = rw (empty fates, same) (greater_none (time_or_zero fate) ∙ sym (none_greater (time_or_zero fate)))
    by false = empty fates
latest_more side sender message (first ∷ fates) (Item.Quiet ∷ items) fate is = latest_more side sender message fates items fate is
latest_more side sender message (first ∷ fates) (Sent other m ∷ items) fate is =
    by (is_side side other) (is_side side sender) (latest_more side sender message fates items fate is)
  where
    by : (o s : Bool) → latest_of side fates (items ++ Sent sender message ∷ []) ≡ latest_with s fate (latest_of side fates items)
        → cond o (greater (time_or_zero first) (latest_of side fates (items ++ Sent sender message ∷ [])))
        (latest_of side fates (items ++ Sent sender message ∷ []))
        ≡ latest_with s fate (cond o (greater (time_or_zero first) (latest_of side fates items)) (latest_of side fates items))
    by false s rest = rest
    by true false rest = ap (greater (time_or_zero first)) rest
    by true true rest =
        ap (greater (time_or_zero first)) rest ∙ greater_assoc (time_or_zero first) (latest_of side fates items) (time_or_zero fate)

-- the fate of a message of an end, for each choice of judged ends
abbrev pub fate_at : Option Side → Side → Fate → Fate
fate_at judged side fate = cond (is_alone judged side) Lost fate

fate_is : (judged : Option Side) (side : Side) (fate : Fate) (o : Option Fate) → o ≡ Some fate
    → fate_of judged side o ≡ Some (fate_at judged side fate)
fate_is judged side fate o is = by (is_alone judged side)
  where
    by : (b : Bool) → cond b (Some Lost) o ≡ Some (cond b Lost fate)
    by true = refl
    by false = is

latest_own : (judged : Option Side) (side : Side) (message : Message) (fates : List Fate) (items : List Item) (fate : Fate)
    → slice_get fates (length items) ≡ Some fate
    → latest_at judged side fates (items ++ Sent side message ∷ [])
    ≡ greater (latest_at judged side fates items) (time_or_zero (fate_at judged side fate))
latest_own judged side message fates items fate is = by (is_alone judged side)
  where
    by : (b : Bool) → cond b 0 (latest_of side fates (items ++ Sent side message ∷ []))
        ≡ greater (cond b 0 (latest_of side fates items)) (time_or_zero (cond b Lost fate))
    by true = refl
    by false = latest_more side side message fates items fate is ∙ ap (λ (so : Bool). latest_with so fate (latest_of side fates items)) (itself side)

latest_peer : (judged : Option Side) (side : Side) (message : Message) (fates : List Fate) (items : List Item) (fate : Fate)
    → slice_get fates (length items) ≡ Some fate
    → latest_at judged (other side) fates (items ++ Sent side message ∷ []) ≡ latest_at judged (other side) fates items
latest_peer judged side message fates items fate is =
    ap (λ (n : ℕ). cond (is_alone judged (other side)) 0 n)
    (latest_more (other side) side message fates items fate is ∙ ap (λ (so : Bool). latest_with so fate (latest_of (other side) fates items)) (differ side))
  where
    differ : (side : Side) → is_side (other side) side ≡ false
    differ sides.A = refl
    differ sides.B = refl

-- A step by which a message joins its channel.
pub joined_is : (listing : Bool) (judged : Option Side) (c : Certificate) (side : Side) (event : Event) (message : Message) (fate : Fate) (r : Replay)
    → ((at : Side) → is_lost_from at event ≡ false) → slice_get c.fates (next_entry r) ≡ Some fate
    → progress_of listing judged c (with_step event r (joined side message r.world))
    ≡ sent_by event side (fate_at judged side fate) (next_entry r) message (progress_of listing judged c r)
joined_is listing judged c sides.A event message fate r none has =
    let m : MessageInTransit = record { number = next_entry r; message = message } in
    moved_counts listing judged r.events r.discards event
    (let x : Replay = record { events = r.events; discards = r.discards; world = joined sides.A message r.world } in progress_of listing judged c x) none
    ∙ rw (
      waiting_more judged sides.A c.fates r.world.from_a m (fate_at judged sides.A fate) (fate_is judged sides.A fate (slice_get c.fates m.number) has),
      latest_own judged sides.A message c.fates r.world.sent fate has,
      latest_peer judged sides.A message c.fates r.world.sent fate has,
    ) refl
joined_is listing judged c sides.B event message fate r none has =
    let m : MessageInTransit = record { number = next_entry r; message = message } in
    moved_counts listing judged r.events r.discards event
    (let x : Replay = record { events = r.events; discards = r.discards; world = joined sides.B message r.world } in progress_of listing judged c x) none
    ∙ rw (
      waiting_more judged sides.B c.fates r.world.from_b m (fate_at judged sides.B fate) (fate_is judged sides.B fate (slice_get c.fates m.number) has),
      latest_own judged sides.B message c.fates r.world.sent fate has,
      latest_peer judged sides.B message c.fates r.world.sent fate has,
    ) refl
