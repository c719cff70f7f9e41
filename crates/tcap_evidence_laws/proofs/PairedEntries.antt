-- Each entry listed for a transaction ID begins the ID, or is a Continue that uses it with a partner.
use Rattle.tcap_evidence_laws.proofs.Common.{◌≡◌, ◌⊎◌, inl, inr, ℕ, ◌+◌, ◌<◌, arith, Bool, true, false, cond, ◌&&◌, List, [], ◌∷◌, ◌++◌, length, length-append, map, take, Option, Some, None, Result, Ok, Err, refl, sym, subst, ◌∙◌, Contains, slice_get, and_parts, append_assoc, append-nil, Contains-push_cases, Message, Side, Entry, Reason, Item, Sent, is_side, item_of, same_side, has_not, is_begin_from, Pairing, anew, no_pairing, paired_before, partner_in, with_message, with_pair, with_pairs, with_partner, is_same_id, IsSentBefore}
use Rattle.tcap_evidence_laws.proofs.EntryPlaces.{Entries, here_at, keeps_at, push_at, within_at}
use Rattle.tcap_evidence_laws.proofs.SentBefore.{back_at, there_at}

module _ (of : Side) (id : List ℕ) where
  -- A Begin from the ID, or a Continue that uses it with a partner.
  abbrev pub IsSo : Side → Message → Type 0
  IsSo sender m =
      (sender ≡ of) × (is_begin_from id m ≡ true) ⊎ (partner : List ℕ) × (partner_in of id sender m ≡ Some partner)

  -- Entry `n` is such a message, and no quiet mark follows it.
  record IsOne (done : Entries) (n : ℕ) : Type 0 where
    sender : Side
    message : Message
    is : slice_get done n ≡ Some (Ok (Sent sender message))
    so : IsSo sender message
    since : (j : ℕ) → n < j → slice_get done j ≡ Some (Ok Item.Quiet) → ⊥

  abbrev AreOnes : Entries → List ℕ → Type 0
  AreOnes done listed = (n : ℕ) → Contains listed n → IsOne done n

  -- This still holds after one more entry that is not a quiet mark.
  one_stays : (done : Entries) (entry : Result Item Reason) (n : ℕ) → (entry ≡ Ok Item.Quiet → ⊥) → IsOne done n
      → IsOne (done ++ entry ∷ []) n
  one_stays done entry n not_quiet one = record {
    sender = one.sender;
    message = one.message;
    is = keeps_at done (entry ∷ []) n _ one.is;
    so = one.so;
    since = λ j after is. quiet j after (push_at done entry j _ is);
  }
    where
      quiet : (j : ℕ) → n < j → (slice_get done j ≡ Some (Ok Item.Quiet)) ⊎ (entry ≡ Ok Item.Quiet) → ⊥
      quiet j after (inl before) = one.since j after before
      quiet j after (inr it) = not_quiet it

  -- The new entry is such a message.
  one_here : (done : Entries) (sender : Side) (m : Message) → IsSo sender m
      → IsOne (done ++ Ok (Sent sender m) ∷ []) (length done)
  one_here done sender m so = record {
    sender = sender;
    message = m;
    is = here_at done [] (Ok (Sent sender m));
    so = so;
    since = λ j after is.
        let below = within_at (done ++ Ok (Sent sender m) ∷ []) j _ is in
        let long = length-append done (Ok (Sent sender m) ∷ []) in omega arith;
  }

  module _ (done : Entries) (sender : Side) (m : Message) where
    abbrev taken : Result Item Reason
    taken = Ok (Sent sender m)

    kept : (listed : List ℕ) → AreOnes done listed → AreOnes (done ++ taken ∷ []) listed
    kept listed are n has = one_stays done taken n (λ bad. cc) (are n has)

    pushed : (listed : List ℕ) → AreOnes done listed → IsSo sender m → AreOnes (done ++ taken ∷ []) (listed ++ length done ∷ [])
    pushed listed are so n has = by (Contains-push_cases listed (length done) n has)
      where
        by : Contains listed n ⊎ (length done ≡ n) → IsOne (done ++ taken ∷ []) n
        by (inl before) = kept listed are n before
        by (inr it) = subst (IsOne (done ++ taken ∷ [])) it (one_here done sender m so)

    noted : (listed : List ℕ) (partner : List ℕ) (last : Option (List ℕ)) → AreOnes done listed → IsSo sender m
        → AreOnes (done ++ taken ∷ []) (listed ++ anew (length done) partner last)
    noted listed partner last are so = by (is_same_id last (Some partner))
      where
        by : (b : Bool) → AreOnes (done ++ taken ∷ []) (listed ++ cond b [] (length done ∷ []))
        by true = λ n has.
            kept listed are n (subst (λ (xs : List ℕ). Contains xs n) (append-nil listed) has)
        by false = pushed listed are so

    stands : (p : Pairing) → AreOnes done p.0 → (b : Bool) (o : Option (List ℕ)) → partner_in of id sender m ≡ o
        → AreOnes (done ++ taken ∷ []) (with_partner (length done) b o p).0
    stands (entries, from, to) are b None is = kept entries are
    stands (entries, from, to) are true (Some q) is = noted entries q from are (inr (q, is))
    stands (entries, from, to) are false (Some q) is = noted entries q to are (inr (q, is))

    with_one : (p : Pairing) → AreOnes done p.0 → AreOnes (done ++ taken ∷ []) (with_message of id (length done) sender m p).0
    with_one p are = by (is_side of sender && is_begin_from id m) refl
      where
        by : (b : Bool) → (is_side of sender && is_begin_from id m) ≡ b
            → AreOnes (done ++ taken ∷ []) (cond {A = Pairing} b (p.0 ++ length done ∷ [], None, None)
            (with_partner (length done) (is_side of sender) (partner_in of id sender m) p)).0
        by true is =
            let (own, begins) = and_parts (is_side of sender) (is_begin_from id m) is in
            pushed p.0 are (inl (sym (same_side of sender own), begins))
        by false is = stands p are (is_side of sender) (partner_in of id sender m) refl

  one_more : (done : Entries) (entry : Result Item Reason) (p : Pairing) → AreOnes done p.0
      → AreOnes (done ++ entry ∷ []) (with_pair of id (length done) entry p).0
  one_more done (Ok (Sent sender m)) p are = with_one done sender m p are
  one_more done (Ok Item.Quiet) p are = λ n has. has_not n has
  one_more done (Err reason) p are = λ n has. one_stays done (Err reason) n (λ bad. cc) (are n has)

  all_are : (more done : Entries) (p : Pairing) → AreOnes done p.0
      → AreOnes (done ++ more) (with_pairs of id (length done) more p).0
  all_are [] done p are = λ n has.
      subst (λ (es : Entries). IsOne es n) (sym (append-nil done)) (are n has)
  all_are (entry ∷ more) done p are = λ n has.
      subst (λ (es : Entries). IsOne es n) (append_assoc done (entry ∷ []) more)
      (all_are more (done ++ entry ∷ []) (with_pair of id (length done) entry p) (one_more done entry p are) n
      (subst (λ (at : ℕ). Contains (with_pairs of id at more (with_pair of id (length done) entry p)).0 n) (sym long) has))
    where
      long : length (done ++ entry ∷ []) ≡ length done + 1
      long = length-append done (entry ∷ [])

-- Each listed entry is such a message, before entry `number` and after the last quiet mark.
pub is_one_listed : (of : Side) (id : List ℕ) (entries : List Entry) (number n : ℕ)
    → Contains (paired_before of id entries number) n → (sender : Side) × (m : Message) × IsSentBefore entries number sender n m
    × ((sender ≡ of) × (is_begin_from id m ≡ true) ⊎ (partner : List ℕ) × (partner_in of id sender m ≡ Some partner))
is_one_listed of id entries number n has = (one.sender, one.message, sent, one.so)
  where
    one : IsOne of id (map item_of (take number entries)) n
    one = all_are of id (map item_of (take number entries)) [] no_pairing (λ k none. has_not k none) n has

    sent : IsSentBefore entries number one.sender n one.message
    sent =
        let (below, is) = back_at entries number n (Ok (Sent one.sender one.message)) one.is in
        record {
          is = is;
          before = below;
          since = λ j after before quiet. one.since j after (there_at entries number j (Ok Item.Quiet) before quiet);
        }
