-- What is kept of a replay, and its single steps.
use Rattle.std.proofs.Common.{◌≡◌, ℕ, ◌+◌, Bool, true, false, Result, Ok, Err, List, [], ◌∷◌, ◌++◌, map, length, drop, Option, Some, None, refl, sym, ap, ap₂, ◌∙◌, arith, append-nil, append_assoc}
use Rattle.std.specs.Prelude.{filter, not, option_map, slice_get}
use Rattle.std.proofs.lemmas.List.{length-append}
use Rattle.std.proofs.lemmas.List.Elements.{filter-append}
use Rattle.tcap_record.specs.declared.entry.End.{End as Side}
use Rattle.tcap_record.specs.declared.entry.End.TheVariants as sides
use Rattle.tcap_end.specs.declared.fault.EndFault.{EndFault}
use Rattle.tcap_end.specs.End.{End}
use Rattle.tcap_end.specs.Step.{◌>>=◌}
use Rattle.tcap_certificate.specs.declared.certificate.Fate.{Fate}
use Rattle.tcap_certificate.specs.declared.certificate.Fate.TheVariants.{Gap, Lost, By}
use Rattle.tcap_check.specs.declared.progress.Progress.{Progress}
use Rattle.tcap_check.specs.declared.progress.Waiting.{Waiting}
use Rattle.tcap_record.specs.Ends.{other}
use Rattle.tcap_model.specs.World.{MessageInTransit, World, channel_from, end_at, with_channel, with_end}
use Rattle.tcap_model.specs.Run.{Event, Loses, numbers_of}
use Rattle.tcap_certificate.specs.Certificate.{Certificate}
use Rattle.tcap_certificate.specs.Replay.{Replay, all_lost_from, if_lost, is_received_from, losing, lost_front, lost_from_front, lost_last, with_step}
use Rattle.tcap_certificate.specs.LossCounts.{is_lost_from}
use Rattle.tcap_check.specs.Progress.{discard_listed, front_lost, last_lost, losing_kept, lost_counted, loss_listed, moved, side_at, with_side_end, with_waiting}
use Rattle.tcap_check.specs.ReplaySteps.{sent_lost}
use Rattle.tcap_check.specs.CheckerMeaning.{fate_of, is_alone, kept_by, map_ok, progress_of, reported, waiting_at}
use Rattle.tcap_check.specs.ReportedSteps.{ListedRun, with_one_discard, with_events, listed_run_if}
use Rattle.tcap_check.proofs.checker_laws.ToldStepLaws.{discard_if, more_if}
use Rattle.tcap_model.proofs.WorldLaws.{itself, with_same}

-- ---- counts

-- One more element that passes a test, or does not.
count_more : {A : Type 0} (p : A → Bool) (xs : List A) (x : A) → p x ≡ true → length (filter p (xs ++ x ∷ [])) ≡ length (filter p xs) + 1
count_more p xs x is =
    let one : length (filter p (x ∷ [])) ≡ 1 = rw is refl in
    omega (arith, one, ap length (filter-append p xs (x ∷ [])) ∙ length-append (filter p xs) (filter p (x ∷ [])))

count_same : {A : Type 0} (p : A → Bool) (xs : List A) (x : A) → p x ≡ false → length (filter p (xs ++ x ∷ [])) ≡ length (filter p xs)
count_same p xs x is =
    let none : length (filter p (x ∷ [])) ≡ 0 = rw is refl in
    omega (arith, none, ap length (filter-append p xs (x ∷ [])) ∙ length-append (filter p xs) (filter p (x ∷ [])))

-- the progress with the counts of these events, and this report
abbrev pub counted : Option Side → List Event → Option ListedRun → Progress → Progress
counted judged events told p =
    record p { moves = (reported judged events).moves; unheard = (reported judged events).unheard; steps = told }

numbered : (p : Progress) (m n k l : ℕ) (told : Option ListedRun) → m ≡ n → k ≡ l
    → (let x : Progress = record p { moves = m; unheard = k; steps = told } in x) ≡ record p { moves = n; unheard = l; steps = told }
numbered p m n k l told a b = ap₂ (λ (i j : ℕ). let x : Progress = record p { moves = i; unheard = j; steps = told } in x) a b

-- One more event that is no loss is one more step.
pub moved_counts : (listing : Bool) (judged : Option Side) (events : List Event) (discards : List (ℕ × EndFault)) (event : Event) (p : Progress)
    → ((side : Side) → is_lost_from side event ≡ false)
    → counted judged (events ++ event ∷ []) (listed_run_if listing (events ++ event ∷ []) discards) p
    ≡ moved event (counted judged events (listed_run_if listing events discards) p)
moved_counts listing judged events discards event p none =
    ap (λ (told : Option ListedRun). counted judged (events ++ event ∷ []) told p) (sym (more_if listing (event ∷ []) events discards))
    ∙ by judged
  where
    told : Option ListedRun
    told = option_map (with_events (event ∷ [])) (listed_run_if listing events discards)

    by : (judged : Option Side) → counted judged (events ++ event ∷ []) told p
        ≡ moved event (counted judged events (listed_run_if listing events discards) p)
    by None = numbered p _ _ 0 0 told (length-append events (event ∷ [])) refl
    by (Some side) =
        numbered p _ _ _ _ told (count_more (λ (e : Event). not (is_lost_from side e)) events event (rw (none side) refl))
        (count_same (is_lost_from (other side)) events event (none (other side)))

-- One more loss is counted.
loss_counts : (judged : Option Side) (side : Side) (number : ℕ) (events : List Event) (told : Option ListedRun) (p : Progress)
    → counted judged (events ++ Loses side number ∷ []) told p ≡ lost_counted judged side (counted judged events told p)
loss_counts None side number events told p = numbered p _ _ 0 0 told (length-append events (Loses side number ∷ [])) refl
loss_counts (Some sides.A) sides.A number events told p =
    numbered p _ _ _ _ told (count_same (λ (e : Event). not (is_lost_from sides.A e)) events (Loses sides.A number) refl)
    (count_same (is_lost_from sides.B) events (Loses sides.A number) refl)
loss_counts (Some sides.A) sides.B number events told p =
    numbered p _ _ _ _ told (count_more (λ (e : Event). not (is_lost_from sides.A e)) events (Loses sides.B number) refl)
    (count_more (is_lost_from sides.B) events (Loses sides.B number) refl)
loss_counts (Some sides.B) sides.A number events told p =
    numbered p _ _ _ _ told (count_more (λ (e : Event). not (is_lost_from sides.B e)) events (Loses sides.A number) refl)
    (count_more (is_lost_from sides.A) events (Loses sides.A number) refl)
loss_counts (Some sides.B) sides.B number events told p =
    numbered p _ _ _ _ told (count_same (λ (e : Event). not (is_lost_from sides.B e)) events (Loses sides.B number) refl)
    (count_same (is_lost_from sides.A) events (Loses sides.B number) refl)

-- One more loss is counted and listed.
pub lost_counts : (listing : Bool) (judged : Option Side) (side : Side) (number : ℕ) (events : List Event) (discards : List (ℕ × EndFault)) (p : Progress)
    → counted judged (events ++ Loses side number ∷ []) (listed_run_if listing (events ++ Loses side number ∷ []) discards) p
    ≡ loss_listed judged side number (counted judged events (listed_run_if listing events discards) p)
lost_counts listing judged side number events discards p =
    ap (λ (told : Option ListedRun). counted judged (events ++ Loses side number ∷ []) told p)
    (sym (more_if listing (Loses side number ∷ []) events discards))
    ∙ loss_counts judged side number events (option_map (with_events (Loses side number ∷ [])) (listed_run_if listing events discards)) p

-- One more discard is counted and listed as such.
pub discard_counts : (listing : Bool) (judged : Option Side) (side : Side) (number : ℕ) (reason : EndFault) (events : List Event)
    (discards : List (ℕ × EndFault)) (p : Progress)
    → counted judged (events ++ Loses side number ∷ []) (listed_run_if listing (events ++ Loses side number ∷ []) (discards ++ (number, reason) ∷ [])) p
    ≡ lost_counted judged side (discard_listed side number reason (counted judged events (listed_run_if listing events discards) p))
discard_counts listing judged side number reason events discards p =
    ap (λ (told : Option ListedRun). counted judged (events ++ Loses side number ∷ []) told p) (sym (discard_if listing side number reason events discards))
    ∙ loss_counts judged side number events
    (option_map (λ told. with_one_discard number reason (with_events (Loses side number ∷ []) told)) (listed_run_if listing events discards)) p

-- ---- a step of an end

-- A step that changes only an end.
pub end_step_is : (listing : Bool) (judged : Option Side) (c : Certificate) (event : Event) (side : Side) (e : End) (r : Replay)
    → ((at : Side) → is_lost_from at event ≡ false)
    → progress_of listing judged c (with_step event r (with_end side e r.world)) ≡ moved event (with_side_end side e (progress_of listing judged c r))
end_step_is listing judged c event sides.A e r none = moved_counts listing judged r.events r.discards event (with_side_end sides.A e (progress_of listing judged c r)) none
end_step_is listing judged c event sides.B e r none = moved_counts listing judged r.events r.discards event (with_side_end sides.B e (progress_of listing judged c r)) none

-- The replay after a discard, which changes only the events and the discards.
abbrev pub discarding : Side → ℕ → EndFault → Replay → Replay
discarding side number reason r = record {
  events = r.events ++ Loses side number ∷ [];
  discards = r.discards ++ (number, reason) ∷ [];
  world = r.world;
}

pub discard_step_is : (listing : Bool) (judged : Option Side) (c : Certificate) (side : Side) (number : ℕ) (reason : EndFault) (r : Replay)
    → progress_of listing judged c (discarding side number reason r)
    ≡ lost_counted judged side (discard_listed side number reason (progress_of listing judged c r))
discard_step_is listing judged c side number reason r =
    discard_counts listing judged side number reason r.events r.discards (progress_of listing judged c r)

pub end_put : (listing : Bool) (judged : Option Side) (c : Certificate) (side : Side) (e : End) (r : Replay)
    → (let x : Replay = record { events = r.events; discards = r.discards; world = with_end side e r.world } in progress_of listing judged c x)
    ≡ with_side_end side e (progress_of listing judged c r)
end_put listing judged c sides.A e r = refl
end_put listing judged c sides.B e r = refl

-- ---- messages on their way

pub end_kept : (listing : Bool) (judged : Option Side) (c : Certificate) (side : Side) (r : Replay)
    → (side_at side (progress_of listing judged c r)).end ≡ end_at side r.world
end_kept listing judged c sides.A r = refl
end_kept listing judged c sides.B r = refl

pub waiting_kept : (listing : Bool) (judged : Option Side) (c : Certificate) (side : Side) (r : Replay)
    → (side_at side (progress_of listing judged c r)).waiting ≡ waiting_at judged side c.fates (channel_from side r.world)
waiting_kept listing judged c sides.A r = refl
waiting_kept listing judged c sides.B r = refl

-- what is kept of a channel that is replaced
pub channel_put : (listing : Bool) (judged : Option Side) (c : Certificate) (side : Side) (messages : List MessageInTransit) (r : Replay)
    → (let x : Replay = record { events = r.events; discards = r.discards; world = with_channel side messages r.world } in progress_of listing judged c x)
    ≡ with_waiting side (waiting_at judged side c.fates messages) (progress_of listing judged c r)
channel_put listing judged c sides.A messages r = refl
channel_put listing judged c sides.B messages r = refl

channel_again : (listing : Bool) (judged : Option Side) (c : Certificate) (side : Side) (messages others : List MessageInTransit) (events : List Event) (discards : List (ℕ × EndFault)) (w : World)
    → with_waiting side (waiting_at judged side c.fates messages)
    (let x : Replay = record { events = events; discards = discards; world = with_channel side others w } in progress_of listing judged c x)
    ≡ (let x : Replay = record { events = events; discards = discards; world = with_channel side messages w } in progress_of listing judged c x)
channel_again listing judged c sides.A messages others events discards w = refl
channel_again listing judged c sides.B messages others events discards w = refl

lost_again : (listing : Bool) (judged : Option Side) (c : Certificate) (side : Side) (number : ℕ) (messages : List MessageInTransit) (events : List Event) (discards : List (ℕ × EndFault)) (w : World)
    → loss_listed judged side number (let x : Replay = record { events = events; discards = discards; world = with_channel side messages w } in progress_of listing judged c x)
    ≡ (let x : Replay = record { events = events ++ Loses side number ∷ []; discards = discards; world = with_channel side messages w } in progress_of listing judged c x)
lost_again listing judged c side number messages events discards w =
    sym (lost_counts listing judged side number events discards
    (let x : Replay = record { events = events; discards = discards; world = with_channel side messages w } in progress_of listing judged c x))

-- the numbers of the messages that will be lost at the front of a channel
abbrev lost_at : Option Side → Side → List Fate → List MessageInTransit → List ℕ
lost_at judged side fates [] = []
lost_at judged side fates (m ∷ more) =
    if_lost (fate_of judged side (slice_get fates m.number)) (m.number ∷ lost_at judged side fates more)

-- These messages are lost in order.
losing_goes : (listing : Bool) (judged : Option Side) (c : Certificate) (side : Side) (channel : List MessageInTransit) (events : List Event) (discards : List (ℕ × EndFault)) (w : World)
    → losing_kept judged side (waiting_at judged side c.fates channel)
    (let x : Replay = record { events = events; discards = discards; world = with_channel side channel w } in progress_of listing judged c x)
    ≡ (let x : Replay = record {
      events = events ++ map (Loses side) (lost_at judged side c.fates channel);
      discards = discards;
      world = with_channel side (drop (length (lost_at judged side c.fates channel)) channel) w;
    } in progress_of listing judged c x)
losing_goes listing judged c side [] events discards w =
    ap (λ (es : List Event). let x : Replay = record { events = es; discards = discards; world = with_channel side [] w } in progress_of listing judged c x) (sym (append-nil events))
losing_goes listing judged c side (m ∷ more) events discards w =
    by (fate_of judged side (slice_get c.fates m.number)) (losing_goes listing judged c side more (events ++ Loses side m.number ∷ []) discards w)
  where
    at : List Event → List MessageInTransit → Progress
    at es channel = let x : Replay = record { events = es; discards = discards; world = with_channel side channel w } in progress_of listing judged c x

    rest : List Waiting
    rest = waiting_at judged side c.fates more

    lost : List ℕ
    lost = lost_at judged side c.fates more

    stays : at events (m ∷ more) ≡ at (events ++ []) (m ∷ more)
    stays = ap (λ (es : List Event). at es (m ∷ more)) (sym (append-nil events))

    by : (o : Option Fate)
        → losing_kept judged side rest (at (events ++ Loses side m.number ∷ []) more)
        ≡ at ((events ++ Loses side m.number ∷ []) ++ map (Loses side) lost) (drop (length lost) more)
        → losing_kept judged side (kept_by o m ∷ rest) (at events (m ∷ more))
        ≡ at (events ++ map (Loses side) (if_lost o (m.number ∷ lost))) (drop (length (if_lost o (m.number ∷ lost))) (m ∷ more))
    by None on = stays
    by (Some (Gap g)) on = stays
    by (Some (By k)) on = stays
    by (Some Lost) on =
        ap (losing_kept judged side rest)
        (ap (loss_listed judged side m.number) (channel_again listing judged c side more (m ∷ more) events discards w)
        ∙ lost_again listing judged c side m.number more events discards w)
        ∙ on
        ∙ ap (λ (es : List Event). at es (drop (length lost) more)) (append_assoc events (Loses side m.number ∷ []) (map (Loses side) lost))

front_goes : (listing : Bool) (judged : Option Side) (c : Certificate) (side : Side) (r : Replay)
    → front_lost judged side (progress_of listing judged c r)
    ≡ progress_of listing judged c (losing side (lost_at judged side c.fates (channel_from side r.world)) r)
front_goes listing judged c side r =
    ap (λ (x : List Waiting). losing_kept judged side x (progress_of listing judged c r)) (waiting_kept listing judged c side r)
    ∙ ap (λ (w : World). losing_kept judged side (waiting_at judged side c.fates (channel_from side r.world))
    (let x : Replay = record { events = r.events; discards = r.discards; world = w } in progress_of listing judged c x)) (sym (with_same side r.world))
    ∙ losing_goes listing judged c side (channel_from side r.world) r.events r.discards r.world

-- On a channel to a judged end, the messages are lost whose fates are losses.
pub not_alone : (judged : Option Side) (side : Side) → is_received_from judged side ≡ true → is_alone judged side ≡ false
not_alone None side so = refl
not_alone (Some sides.A) sides.A so = cc
not_alone (Some sides.A) sides.B so = refl
not_alone (Some sides.B) sides.A so = refl
not_alone (Some sides.B) sides.B so = cc

lost_at_front : (judged : Option Side) (side : Side) (fates : List Fate) (channel : List MessageInTransit) → is_alone judged side ≡ false
    → lost_at judged side fates channel ≡ lost_front fates channel
lost_at_front judged side fates [] so = refl
lost_at_front judged side fates (m ∷ more) so =
    rw so (ap (λ (x : List ℕ). if_lost (slice_get fates m.number) (m.number ∷ x)) (lost_at_front judged side fates more so))

pub front_is : (listing : Bool) (judged : Option Side) (c : Certificate) (side : Side) (r : Replay) → is_received_from judged side ≡ true
    → front_lost judged side (progress_of listing judged c r) ≡ progress_of listing judged c (lost_from_front c side r)
front_is listing judged c side r so =
    front_goes listing judged c side r
    ∙ ap (λ (numbers : List ℕ). progress_of listing judged c (losing side numbers r))
    (lost_at_front judged side c.fates (channel_from side r.world) (not_alone judged side so))

-- On the channel from an end that is judged alone, all messages are lost.
lost_at_all : (side : Side) (fates : List Fate) (channel : List MessageInTransit) → lost_at (Some side) side fates channel ≡ numbers_of channel
lost_at_all side fates [] = refl
lost_at_all side fates (m ∷ more) = rw (itself side) (ap (λ (x : List ℕ). m.number ∷ x) (lost_at_all side fates more))

pub sent_lost_is : (listing : Bool) (side : Side) (c : Certificate) (r : Replay)
    → sent_lost (Some side) (progress_of listing (Some side) c r) ≡ progress_of listing (Some side) c (all_lost_from side r)
sent_lost_is listing side c r =
    front_goes listing (Some side) c side r
    ∙ ap (λ (numbers : List ℕ). progress_of listing (Some side) c (losing side numbers r)) (lost_at_all side c.fates (channel_from side r.world))

-- The losses at the end of the record.
pub last_is : (listing : Bool) (judged : Option Side) (c : Certificate) (r : Replay)
    → last_lost judged (progress_of listing judged c r) ≡ progress_of listing judged c (lost_last judged c r)
last_is listing None c r =
    ap (front_lost None sides.B) (front_is listing None c sides.A r refl) ∙ front_is listing None c sides.B (lost_from_front c sides.A r) refl
last_is listing (Some judged) c r = front_is listing (Some judged) c (other judged) r (itself (other judged))

-- ---- steps

-- One step, and the steps after it.
pub then_is : {F A : Type 0} (f : Replay → A) (step : Result Replay F) (kept : A → Result A F) (on : Replay → Result Replay F)
    → ((next : Replay) → step ≡ Ok next → kept (f next) ≡ map_ok f (on next))
    → (map_ok f step >>= kept) ≡ map_ok f (step >>= on)
then_is f (Ok next) kept on rest = rest next refl
then_is f (Err reason) kept on rest = refl

pub then_then : {A B C F : Type 0} (first : Result A F) (second : A → Result B F) (third : B → Result C F)
    → (first >>= second >>= third) ≡ (first >>= λ x. second x >>= third)
then_then (Ok x) second third = refl
then_then (Err reason) second third = refl

pub ok_behind : {A F : Type 0} (step : Result A F) → (step >>= λ x. Ok x) ≡ step
ok_behind (Ok x) = refl
ok_behind (Err reason) = refl

pub then_same : {A B F : Type 0} (step : Result A F) (on more : A → Result B F) → ((x : A) → on x ≡ more x)
    → (step >>= on) ≡ (step >>= more)
then_same (Ok x) on more same = same x
then_same (Err reason) on more same = refl

pub map_both : {A B C F : Type 0} (f : A → B) (g : B → C) (h : A → C) (step : Result A F)
    → ((x : A) → step ≡ Ok x → g (f x) ≡ h x) → map_ok g (map_ok f step) ≡ map_ok h step
map_both f g h (Ok x) same = ap Ok (same x refl)
map_both f g h (Err reason) same = refl
