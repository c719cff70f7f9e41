-- Numbers of messages, and the messages that were taken from a channel.
use Rattle.std.proofs.Common.{◌≡◌, ◌⊎◌, inl, inr, ℕ, Bool, true, false, cond, List, [], ◌∷◌, ◌++◌, filter, refl, sym, ap, ◌∙◌, append_assoc}
use Rattle.std.specs.Cmp.{nat_cmp_is}
use Rattle.std.specs.List.Sorted.{IsStrictlySortedBy}
use Rattle.std.specs.Ordering.{nat_cmp}
use Rattle.std.specs.declared.cmp.Ordering.TheVariants.{Less, Equal}
use Rattle.tcap_record.specs.declared.entry.End.{End as Side}
use Rattle.tcap_model.specs.World.{is_side}
use Rattle.tcap_model.specs.Run.{Event, Sends, Receives, Replies, Loses, Expires, Closes, Quiet, Tells, numbers_taken, takes_from}
use Rattle.tcap_certificate.specs.DescribedRun.{is_loss, losses_from, without_losses}
use Rattle.tcap_check.proofs.replay_laws.ReplaySteps.{IsIn, in_left, in_right, in_either, all_in}

-- ---- numbers

not_below : (n x : ℕ) → n ≡ x → nat_cmp x n ≡ Less → ⊥
not_below n x e below =
    let here : nat_cmp x x ≡ Less = rw e at below in
    let same = nat_cmp_is x x Equal refl in cc

-- If two lists together rise, no number is in both.
pub parts_apart : (n : ℕ) (xs ys : List ℕ) → IsStrictlySortedBy nat_cmp (xs ++ ys) → IsIn n xs → IsIn n ys → ⊥
unfolding IsStrictlySortedBy
parts_apart n [] ys rises left right = left
parts_apart n (x ∷ xs) ys rises (inl e) right =
    not_below n x e (all_in (λ y. nat_cmp x y ≡ Less) n (xs ++ ys) rises.0 (in_right n xs ys right))
parts_apart n (x ∷ xs) ys rises (inr left) right = parts_apart n xs ys rises.1 left right

rises_behind : (xs ys : List ℕ) → IsStrictlySortedBy nat_cmp (xs ++ ys) → IsStrictlySortedBy nat_cmp ys
unfolding IsStrictlySortedBy
rises_behind [] ys rises = rises
rises_behind (x ∷ xs) ys rises = rises_behind xs ys rises.1

pub filter_all : (p : ℕ → Bool) (xs : List ℕ) → ((n : ℕ) → IsIn n xs → p n ≡ true) → filter p xs ≡ xs
filter_all p [] pass = refl
filter_all p (x ∷ xs) pass = rw (pass x (inl refl)) (ap (λ more. x ∷ more) (filter_all p xs (λ n is. pass n (inr is))))

-- ---- taken messages

pub taken_both : (side : Side) (xs ys : List Event)
    → numbers_taken side (xs ++ ys) ≡ numbers_taken side xs ++ numbers_taken side ys
taken_both side [] ys = refl
taken_both side (x ∷ xs) ys =
    ap (λ more. takes_from side x ++ more) (taken_both side xs ys)
    ∙ sym (append_assoc (takes_from side x) (numbers_taken side xs) (numbers_taken side ys))

pub taken_left : (side : Side) (n : ℕ) (xs ys : List Event) → IsIn n (numbers_taken side xs)
    → IsIn n (numbers_taken side (xs ++ ys))
taken_left side n xs ys is =
    rw (taken_both side xs ys) (in_left n (numbers_taken side xs) (numbers_taken side ys) is)

pub taken_right : (side : Side) (n : ℕ) (xs ys : List Event) → IsIn n (numbers_taken side ys)
    → IsIn n (numbers_taken side (xs ++ ys))
taken_right side n xs ys is =
    rw (taken_both side xs ys) (in_right n (numbers_taken side xs) (numbers_taken side ys) is)

-- the messages that an event takes if it is a loss
abbrev pub loss_of : Side → Event → List ℕ
loss_of side event = cond (is_loss event) (takes_from side event) []

-- The losses are what each loss takes.
pub losses_first : (side : Side) (event : Event) (events : List Event)
    → losses_from side (event ∷ events) ≡ loss_of side event ++ losses_from side events
losses_first side (Loses sender number) events = by (is_side side sender)
  where
    by : (b : Bool)
        → cond b (number ∷ losses_from side events) (losses_from side events)
        ≡ cond b (number ∷ []) [] ++ losses_from side events
    by true = refl
    by false = refl
losses_first side (Sends place m) events = refl
losses_first side (Receives place number) events = refl
losses_first side (Replies place number) events = refl
losses_first side (Expires place name id) events = refl
losses_first side (Closes place name) events = refl
losses_first side Quiet events = refl
losses_first side (Tells place m) events = refl

pub among_plain : (side : Side) (n : ℕ) (events : List Event) → IsIn n (numbers_taken side (without_losses events))
    → IsIn n (numbers_taken side events)
among_plain side n [] is = is
among_plain side n (event ∷ events) is = by (is_loss event) (among_plain side n events) is
  where
    first : List ℕ
    first = takes_from side event

    rest : List ℕ
    rest = numbers_taken side events

    plain : List ℕ
    plain = numbers_taken side (without_losses events)

    by_parts : (IsIn n plain → IsIn n rest) → IsIn n first ⊎ IsIn n plain → IsIn n (first ++ rest)
    by_parts on (inl here) = in_left n first rest here
    by_parts on (inr more) = in_right n first rest (on more)

    by : (b : Bool) → (IsIn n plain → IsIn n rest)
        → IsIn n (numbers_taken side (cond b (without_losses events) (event ∷ without_losses events)))
        → IsIn n (first ++ rest)
    by true on is = in_right n first rest (on is)
    by false on is = by_parts on (in_either n first plain is)

pub among_losses : (side : Side) (n : ℕ) (events : List Event) → IsIn n (losses_from side events)
    → IsIn n (numbers_taken side events)
among_losses side n [] is = is
among_losses side n (event ∷ events) is =
    by (is_loss event) (among_losses side n events)
    (in_either n (loss_of side event) (losses_from side events) (rw (losses_first side event events) at is))
  where
    first : List ℕ
    first = takes_from side event

    rest : List ℕ
    rest = numbers_taken side events

    lost : List ℕ
    lost = losses_from side events

    by : (b : Bool) → (IsIn n lost → IsIn n rest) → IsIn n (cond b first []) ⊎ IsIn n lost
        → IsIn n (first ++ rest)
    by true on (inl here) = in_left n first rest here
    by false on (inl here) = absurd here
    by b on (inr more) = in_right n first rest (on more)

-- If the numbers rise, no message is both lost and taken otherwise.
pub losses_apart : (side : Side) (n : ℕ) (events : List Event) → IsStrictlySortedBy nat_cmp (numbers_taken side events)
    → IsIn n (losses_from side events) → IsIn n (numbers_taken side (without_losses events)) → ⊥
losses_apart side n [] rises lost plain = lost
losses_apart side n (event ∷ events) rises lost plain =
    by (is_loss event)
    (losses_apart side n events (rises_behind (takes_from side event) (numbers_taken side events) rises))
    (in_either n (loss_of side event) (losses_from side events) (rw (losses_first side event events) at lost)) plain
  where
    first : List ℕ
    first = takes_from side event

    also : List ℕ
    also = losses_from side events

    left : List ℕ
    left = numbers_taken side (without_losses events)

    apart : IsIn n first → IsIn n (numbers_taken side events) → ⊥
    apart = parts_apart n first (numbers_taken side events) rises

    by_plain : (IsIn n also → IsIn n left → ⊥) → IsIn n also → IsIn n first ⊎ IsIn n left → ⊥
    by_plain on lost (inl here) = apart here (among_losses side n events lost)
    by_plain on lost (inr more) = on lost more

    by : (b : Bool) → (IsIn n also → IsIn n left → ⊥) → IsIn n (cond b first []) ⊎ IsIn n also
        → IsIn n (numbers_taken side (cond b (without_losses events) (event ∷ without_losses events))) → ⊥
    by true on (inl here) plain = apart here (among_plain side n events plain)
    by true on (inr lost) plain = on lost plain
    by false on (inl here) plain = here
    by false on (inr lost) plain = by_plain on lost (in_either n first left plain)
