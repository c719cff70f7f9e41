-- The messages of an end before an entry, since the last quiet mark, and their entries.
use Rattle.tcap_evidence_laws.proofs.Common.{◌≡◌, ◌⊎◌, inl, inr, ℕ, zero, suc, ◌+◌, ◌<◌, arith, Bool, true, false, cond, List, [], ◌∷◌, ◌++◌, map, take, Some, None, Result, Ok, Err, refl, sym, ap, ◌∙◌, Contains, slice_get, take-map, Contains-append_left, Contains-push, Contains-push_cases, Message, Side, Entry, Reason, Item, Sent, is_side, item_of, same_side, sent_by, itself, has_not, Numbered, sent_before, with_entries, with_entry, IsSentBefore, items_before}
use Rattle.std.proofs.lemmas.List.{length-take}
use Rattle.std.proofs.lemmas.Option.{slice_get_within}
use Rattle.tcap_evidence.proofs.StretchLaws.{sent_since}

-- the messages, without their numbers
abbrev pub messages : List Numbered → List Message
messages sent = map (λ n. n.1) sent

-- The messages are those among the items since the last quiet mark.
pub sent_are : (side : Side) (entries : List Entry) (number : ℕ)
    → messages (sent_before side entries number) ≡ sent_by side (items_before entries number)
sent_are side entries number = sent_since side entries number

-- ---- which entries

-- there is no quiet mark among these entries
abbrev NoMark : List (Result Item Reason) → Type 0
NoMark entries = (j : ℕ) → slice_get entries j ≡ Some (Ok Item.Quiet) → ⊥

-- Entry `k` is a message of this end, and no quiet mark follows it.
record IsLast (side : Side) (entries : List (Result Item Reason)) (k : ℕ) (m : Message) : Type 0 where
  is : slice_get entries k ≡ Some (Ok (Sent side m))
  since : (j : ℕ) → k < j → slice_get entries j ≡ Some (Ok Item.Quiet) → ⊥

none_behind : (entry : Result Item Reason) (entries : List (Result Item Reason)) → NoMark entries → (j : ℕ) → 0 < j
    → slice_get (entry ∷ entries) j ≡ Some (Ok Item.Quiet) → ⊥
none_behind entry entries none zero behind is = absurd (omega arith)
none_behind entry entries none (suc j) behind is = none j is

none_more : (entry : Result Item Reason) (entries : List (Result Item Reason)) → (entry ≡ Ok Item.Quiet → ⊥)
    → NoMark entries → NoMark (entry ∷ entries)
none_more entry entries isnt none zero is = isnt (let same : entry ≡ Ok Item.Quiet = cc in same)
none_more entry entries isnt none (suc j) is = none j is

-- This still holds with one more entry in front.
last_more : (side : Side) (entry : Result Item Reason) (entries : List (Result Item Reason)) (k : ℕ) (m : Message)
    → IsLast side entries k m → IsLast side (entry ∷ entries) (suc k) m
last_more side entry entries k m last = record { is = last.is; since = behind }
  where
    behind : (j : ℕ) → suc k < j → slice_get (entry ∷ entries) j ≡ Some (Ok Item.Quiet) → ⊥
    behind zero after is = absurd (omega arith)
    behind (suc j) after is = last.since j (omega arith) is

last_less : (side : Side) (entry : Result Item Reason) (entries : List (Result Item Reason)) (k : ℕ) (m : Message)
    → IsLast side (entry ∷ entries) (suc k) m → IsLast side entries k m
last_less side entry entries k m last =
    record { is = last.is; since = λ j after is. last.since (suc j) (omega arith) is }

module _ (side : Side) where
  -- A message that is there was there before, or is one of these entries.
  abbrev Came : List (Result Item Reason) → ℕ → List Numbered → ℕ → Message → Type 0
  Came entries at sent n m =
      ((k : ℕ) × (n ≡ at + k) × IsLast side entries k m) ⊎ (Contains sent (n, m) × NoMark entries)

  came_more : (entry : Result Item Reason) (entries : List (Result Item Reason)) (at : ℕ) (sent : List Numbered) (n : ℕ)
      (m : Message) → (entry ≡ Ok Item.Quiet → ⊥) → Came entries (at + 1) sent n m → Came (entry ∷ entries) at sent n m
  came_more entry entries at sent n m isnt (inl (k, at_k, last)) =
      inl (suc k, omega (arith, at_k), last_more side entry entries k m last)
  came_more entry entries at sent n m isnt (inr (has, none)) = inr (has, none_more entry entries isnt none)

  came : (entries : List (Result Item Reason)) (at : ℕ) (sent : List Numbered) (n : ℕ) (m : Message)
      → Contains (with_entries side at entries sent) (n, m) → Came entries at sent n m
  came [] at sent n m has = inr (has, λ j is. cc)
  came (Err reason ∷ entries) at sent n m has =
      came_more (Err reason) entries at sent n m (λ bad. cc) (came entries (at + 1) sent n m has)
  came (Ok Item.Quiet ∷ entries) at sent n m has = by (came entries (at + 1) [] n m has)
    where
      by : Came entries (at + 1) [] n m → Came (Ok Item.Quiet ∷ entries) at sent n m
      by (inl (k, at_k, last)) = inl (suc k, omega (arith, at_k), last_more side (Ok Item.Quiet) entries k m last)
      by (inr (none, clear)) = has_not (n, m) none
  came (Ok (Sent sender first) ∷ entries) at sent n m has =
      by (is_side side sender) refl
      (came entries (at + 1) (cond (is_side side sender) (sent ++ (at, first) ∷ []) sent) n m has)
    where
      own : side ≡ sender → NoMark entries → Contains sent (n, m) ⊎ ◌≡◌ {A = Numbered} (at, first) (n, m)
          → Came (Ok (Sent sender first) ∷ entries) at sent n m
      own same clear (inl before) = inr (before, none_more (Ok (Sent sender first)) entries (λ bad. cc) clear)
      own same clear (inr it) =
          let number : at ≡ n = ap (λ (p : Numbered). p.0) it in
          let message : first ≡ m = ap (λ (p : Numbered). p.1) it in
          inl (
            zero,
            omega (arith, number),
            record {
              is = rw (same, message) refl;
              since = none_behind (Ok (Sent sender first)) entries clear;
            },
          )

      by : (b : Bool) → is_side side sender ≡ b → Came entries (at + 1) (cond b (sent ++ (at, first) ∷ []) sent) n m
          → Came (Ok (Sent sender first) ∷ entries) at sent n m
      by b is (inl (k, at_k, last)) =
          inl (suc k, omega (arith, at_k), last_more side (Ok (Sent sender first)) entries k m last)
      by true is (inr (there, clear)) =
          own (same_side side sender is) clear (Contains-push_cases sent (at, first) (n, m) there)
      by false is (inr (there, clear)) = inr (there, none_more (Ok (Sent sender first)) entries (λ bad. cc) clear)

  -- A message that was there stays, if there is no quiet mark.
  stays : (entries : List (Result Item Reason)) (at : ℕ) (sent : List Numbered) (n : ℕ) (m : Message)
      → Contains sent (n, m) → NoMark entries → Contains (with_entries side at entries sent) (n, m)
  stays [] at sent n m has none = has
  stays (Err reason ∷ entries) at sent n m has none =
      stays entries (at + 1) sent n m has (λ j is. none (suc j) is)
  stays (Ok Item.Quiet ∷ entries) at sent n m has none = absurd (none zero refl)
  stays (Ok (Sent sender first) ∷ entries) at sent n m has none =
      stays entries (at + 1) (cond (is_side side sender) (sent ++ (at, first) ∷ []) sent) n m (by (is_side side sender))
      (λ j is. none (suc j) is)
    where
      by : (b : Bool) → Contains (cond b (sent ++ (at, first) ∷ []) sent) (n, m)
      by true = Contains-append_left sent ((at, first) ∷ []) (n, m) has
      by false = has

  -- A message of these entries that no quiet mark follows is there.
  comes : (entries : List (Result Item Reason)) (at : ℕ) (sent : List Numbered) (n : ℕ) (m : Message) (k : ℕ)
      → n ≡ at + k → IsLast side entries k m → Contains (with_entries side at entries sent) (n, m)
  comes [] at sent n m k at_k last = let bad : None ≡ Some (Ok (Sent side m)) = last.is in cc
  comes (entry ∷ entries) at sent n m zero at_k last =
      stays entries (at + 1) (with_entry side at entry sent) n m here (λ j is. last.since (suc j) (omega arith) is)
    where
      it : entry ≡ Ok (Sent side m)
      it = let same : Some entry ≡ Some (Ok (Sent side m)) = last.is in cc

      number : at ≡ n
      number = omega (arith, at_k)

      here : Contains (with_entry side at entry sent) (n, m)
      here = rw (it, itself side, number) (Contains-push sent (n, m))
  comes (entry ∷ entries) at sent n m (suc k) at_k last =
      comes entries (at + 1) (with_entry side at entry sent) n m k (omega (arith, at_k)) (last_less side entry entries k m last)

-- ---- the entries before entry `number`

taken_at : (n : ℕ) (xs : List (Result Item Reason)) (k : ℕ) → k < n → slice_get (take n xs) k ≡ slice_get xs k
taken_at zero xs k below = absurd (omega arith)
taken_at (suc n) [] k below = refl
taken_at (suc n) (x ∷ xs) zero below = refl
taken_at (suc n) (x ∷ xs) (suc k) below = taken_at n xs k (omega arith)

module _ (entries : List Entry) (number : ℕ) (k : ℕ) (x : Result Item Reason) where
  pub there_at : k < number → slice_get (map item_of entries) k ≡ Some x → slice_get (map item_of (take number entries)) k ≡ Some x
  there_at below is =
      ap (λ (es : List (Result Item Reason)). slice_get es k) (sym (take-map item_of number entries))
      ∙ taken_at number (map item_of entries) k below ∙ is

  pub back_at : slice_get (map item_of (take number entries)) k ≡ Some x
      → (k < number) × (slice_get (map item_of entries) k ≡ Some x)
  back_at is =
      let it = ap (λ (es : List (Result Item Reason)). slice_get es k) (take-map item_of number entries) ∙ is in
      let within = slice_get_within (take number (map item_of entries)) k x it in
      let long = length-take number (map item_of entries) in
      let below : k < number = omega arith in
      (below, sym (taken_at number (map item_of entries) k below) ∙ it)

-- Each message is in an entry that matches it.
pub was_sent : (side : Side) (entries : List Entry) (number n : ℕ) (m : Message)
    → Contains (sent_before side entries number) (n, m) → IsSentBefore entries number side n m
was_sent side entries number n m has = by (came side (map item_of (take number entries)) 0 [] n m has)
  where
    by : Came side (map item_of (take number entries)) 0 [] n m → IsSentBefore entries number side n m
    by (inl (k, at_k, last)) =
        let number_is : k ≡ n = omega (arith, at_k) in
        let (below, is) = back_at entries number k (Ok (Sent side m)) last.is in
        record {
          is = rw (← number_is) is;
          before = omega (arith, below, number_is);
          since = λ j after before is. last.since j (omega arith) (there_at entries number j (Ok Item.Quiet) before is);
        }
    by (inr (none, clear)) = has_not (n, m) none

-- Each matching entry has its message in the list.
pub is_sent : (side : Side) (entries : List Entry) (number n : ℕ) (m : Message) → IsSentBefore entries number side n m
    → Contains (sent_before side entries number) (n, m)
is_sent side entries number n m sent =
    comes side (map item_of (take number entries)) 0 [] n m n (omega arith)
    (record {
      is = there_at entries number n (Ok (Sent side m)) sent.before sent.is;
      since = λ j after is.
          let (before, quiet) = back_at entries number j (Ok Item.Quiet) is in sent.since j after before quiet;
    })
