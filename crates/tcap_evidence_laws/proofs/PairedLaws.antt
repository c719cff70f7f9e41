-- The entries listed for a transaction ID: each Begin from it and, for each Continue with a partner, a Continue with
-- the same partner.
use Rattle.tcap_evidence_laws.proofs.Common.{false_from_ne_true, ◌≡◌, ◌⊎◌, inl, inr, ℕ, zero, suc, ◌+◌, ◌<◌, ◌≤◌, arith, Bool, true, false, cond, ◌&&◌, List, [], ◌∷◌, ◌++◌, length, length-append, map, take, Option, Some, None, Result, Ok, Err, refl, sym, ap, subst, ◌∙◌, Contains, nat_le, slice_get, and_parts, leb-true, append_assoc, append-nil, Contains-append_left, Contains-push, Message, dtid_in, Side, Entry, Reason, Item, Sent, is_side, item_of, only_if, id_is, is_a, itself, is_begin_from, is_continue_from, Pairing, anew, no_pairing, paired_before, partner_in, with_message, with_pair, with_pairs, with_partner, is_same_id, IsSentBefore}
use Rattle.std.proofs.lemmas.Bool.{leb-false}
use Rattle.tcap_msg.specs.declared.kind.Kind.TheVariants as forms
use Rattle.tcap_record.specs.declared.entry.End.TheVariants as sides
use Rattle.tcap_evidence_laws.specs.ListedEntries.{IsPaired}
use Rattle.tcap_evidence_laws.proofs.EntryPlaces.{Entries, front_at, here_at, keeps_at, push_at, within_at}
use Rattle.tcap_evidence_laws.proofs.MessageTests.{not_both}
use Rattle.tcap_evidence_laws.proofs.SentBefore.{back_at, there_at}

-- Two ends are equal if both are `of`, or neither is.
one_end : (of a b : Side) → is_side of a ≡ is_side of b → a ≡ b
one_end sides.A sides.A sides.A is = refl
one_end sides.A sides.B sides.B is = refl
one_end sides.B sides.A sides.A is = refl
one_end sides.B sides.B sides.B is = refl
one_end of a b is = cc

-- ---- the listed entries

module _ (of : Side) (id : List ℕ) where
  -- A listed Continue, from the ID or to it, with this partner; after it there is no Begin from the ID and no quiet
  -- mark.
  pub record Stands (done : Entries) (listed : List ℕ) (is_from : Bool) (partner : List ℕ) : Type 0 where
    at : ℕ
    sender : Side
    message : Message
    has : Contains listed at
    is : slice_get done at ≡ Some (Ok (Sent sender message))
    from : is_side of sender ≡ is_from
    partner_is : partner_in of id sender message ≡ Some partner
    none_begun : (j : ℕ) (m : Message) → at < j → slice_get done j ≡ Some (Ok (Sent of m)) → is_begin_from id m ≡ false
    since : (j : ℕ) → at < j → slice_get done j ≡ Some (Ok Item.Quiet) → ⊥

  abbrev last_of : Bool → Pairing → Option (List ℕ)
  last_of true (entries, from, to) = from
  last_of false (entries, from, to) = to

  -- There is such a Continue for the last partner in each direction.
  abbrev AreLast : Entries → Pairing → Type 0
  AreLast done p = (is_from : Bool) (partner : List ℕ) → last_of is_from p ≡ Some partner → Stands done p.0 is_from partner

  none_last : (done : Entries) (listed : List ℕ) → AreLast done (listed, None, None)
  none_last done listed true partner is = let bad : None ≡ Some partner = is in cc
  none_last done listed false partner is = let bad : None ≡ Some partner = is in cc

  -- After an entry that is neither a Begin from the ID nor a quiet mark, this still holds, if the listed entries stay.
  stands_on : (done : Entries) (entry : Result Item Reason) (listed more : List ℕ) (is_from : Bool) (partner : List ℕ)
      → ((m : Message) → entry ≡ Ok (Sent of m) → is_begin_from id m ≡ false) → (entry ≡ Ok Item.Quiet → ⊥)
      → Stands done listed is_from partner → Stands (done ++ entry ∷ []) (listed ++ more) is_from partner
  stands_on done entry listed more is_from partner not_begun not_quiet s = record {
    at = s.at;
    sender = s.sender;
    message = s.message;
    has = Contains-append_left listed more s.at s.has;
    is = keeps_at done (entry ∷ []) s.at _ s.is;
    from = s.from;
    partner_is = s.partner_is;
    none_begun = λ j m after is. begun j m after (push_at done entry j _ is);
    since = λ j after is. quiet j after (push_at done entry j _ is);
  }
    where
      begun : (j : ℕ) (m : Message) → s.at < j → (slice_get done j ≡ Some (Ok (Sent of m))) ⊎ (entry ≡ Ok (Sent of m))
          → is_begin_from id m ≡ false
      begun j m after (inl before) = s.none_begun j m after before
      begun j m after (inr it) = not_begun m it

      quiet : (j : ℕ) → s.at < j → (slice_get done j ≡ Some (Ok Item.Quiet)) ⊎ (entry ≡ Ok Item.Quiet) → ⊥
      quiet j after (inl before) = s.since j after before
      quiet j after (inr it) = not_quiet it

  -- The new entry is such a Continue.
  stands_here : (done : Entries) (sender : Side) (m : Message) (listed : List ℕ) (partner : List ℕ)
      → partner_in of id sender m ≡ Some partner
      → Stands (done ++ Ok (Sent sender m) ∷ []) (listed ++ length done ∷ []) (is_side of sender) partner
  stands_here done sender m listed partner is = record {
    at = length done;
    sender = sender;
    message = m;
    has = Contains-push listed (length done);
    is = here_at done [] (Ok (Sent sender m));
    from = refl;
    partner_is = is;
    none_begun = λ j n after there. absurd (over j _ after there);
    since = λ j after there. over j _ after there;
  }
    where
      over : (j : ℕ) (y : Result Item Reason) → length done < j → slice_get (done ++ Ok (Sent sender m) ∷ []) j ≡ Some y → ⊥
      over j y after there =
          let below = within_at (done ++ Ok (Sent sender m) ∷ []) j y there in
          let long = length-append done (Ok (Sent sender m) ∷ []) in omega arith

  -- ---- one entry more

  module _ (done : Entries) (sender : Side) (m : Message) (not_begun : (is_side of sender && is_begin_from id m) ≡ false) where
    abbrev taken : Result Item Reason
    taken = Ok (Sent sender m)

    none_begun : (n : Message) → taken ≡ Ok (Sent of n) → is_begin_from id n ≡ false
    none_begun n is =
        let end : sender ≡ of = cc in
        let same : m ≡ n = cc in
        let own : is_side of sender ≡ true = rw end (itself of) in
        rw (← same) (sym (ap (λ b. b && is_begin_from id m) own) ∙ not_begun)

    -- the partner of the Continue is noted for its direction; the other direction keeps its partner
    noted : (entries : List ℕ) (last other : Option (List ℕ)) (partner : List ℕ) → partner_in of id sender m ≡ Some partner
        → ((q : List ℕ) → last ≡ Some q → Stands done entries (is_side of sender) q)
        → Stands (done ++ taken ∷ []) (entries ++ anew (length done) partner last) (is_side of sender) partner
    noted entries last other partner stands before = by (is_same_id last (Some partner)) refl
      where
        same : (o : Option (List ℕ)) → is_same_id o (Some partner) ≡ true → o ≡ Some partner
        same None is = cc
        same (Some q) is = let it : Some partner ≡ Some q = id_is q (Some partner) is in sym it

        by : (b : Bool) → is_same_id last (Some partner) ≡ b
            → Stands (done ++ taken ∷ []) (entries ++ anew (length done) partner last) (is_side of sender) partner
        by true is = rw is
            (stands_on done taken entries [] (is_side of sender) partner none_begun (λ bad. cc) (before partner (same last is)))
        by false is = rw is (stands_here done sender m entries partner stands)

    on : (p : Pairing) → AreLast done p
        → AreLast (done ++ taken ∷ []) (with_partner (length done) (is_side of sender) (partner_in of id sender m) p)
    on (entries, from, to) are = by (partner_in of id sender m) refl (is_side of sender) refl
      where
        kept : (more : List ℕ) (is_from : Bool) (partner : List ℕ) → last_of is_from (entries, from, to) ≡ Some partner
            → Stands (done ++ taken ∷ []) (entries ++ more) is_from partner
        kept more is_from partner is =
            stands_on done taken entries more is_from partner none_begun (λ bad. cc) (are is_from partner is)

        by : (o : Option (List ℕ)) → partner_in of id sender m ≡ o → (b : Bool) → is_side of sender ≡ b
            → AreLast (done ++ taken ∷ []) (with_partner (length done) b o (entries, from, to))
        by None none b side = λ is_from partner is.
            subst (λ (listed : List ℕ). Stands (done ++ taken ∷ []) listed is_from partner) (append-nil entries)
            (kept [] is_from partner is)
        by (Some q) stands true side = new
          where
            new : AreLast (done ++ taken ∷ []) (entries ++ anew (length done) q from, Some q, to)
            new true partner is =
                let same : q ≡ partner = cc in
                rw (← same, ← side) (noted entries from to q stands (λ r last. rw side (are true r last)))
            new false partner is = kept (anew (length done) q from) false partner is
        by (Some q) stands false side = new
          where
            new : AreLast (done ++ taken ∷ []) (entries ++ anew (length done) q to, from, Some q)
            new false partner is =
                let same : q ≡ partner = cc in
                rw (← same, ← side) (noted entries to from q stands (λ r last. rw side (are false r last)))
            new true partner is = kept (anew (length done) q to) true partner is

  one_more : (done : Entries) (entry : Result Item Reason) (p : Pairing) → AreLast done p
      → AreLast (done ++ entry ∷ []) (with_pair of id (length done) entry p)
  one_more done (Ok (Sent sender m)) p are = by (is_side of sender && is_begin_from id m) refl
    where
      by : (b : Bool) → (is_side of sender && is_begin_from id m) ≡ b
          → AreLast (done ++ Ok (Sent sender m) ∷ []) (with_message of id (length done) sender m p)
      by true is = rw is (none_last (done ++ Ok (Sent sender m) ∷ []) (p.0 ++ length done ∷ []))
      by false is = rw is (on done sender m is p are)
  one_more done (Ok Item.Quiet) p are = none_last (done ++ Ok Item.Quiet ∷ []) []
  one_more done (Err reason) (entries, from, to) are = λ is_from partner is.
      subst (λ (listed : List ℕ). Stands (done ++ Err reason ∷ []) listed is_from partner) (append-nil entries)
      (stands_on done (Err reason) entries [] is_from partner (λ m bad. cc) (λ bad. cc) (are is_from partner is))

  -- ---- all entries

  -- Without a quiet mark, a listed entry stays listed.
  stays : (more : Entries) (at : ℕ) (p : Pairing) (k : ℕ) → Contains p.0 k
      → ((j : ℕ) → slice_get more j ≡ Some (Ok Item.Quiet) → ⊥) → Contains (with_pairs of id at more p).0 k
  stays [] at p k has none = has
  stays (Err reason ∷ more) at p k has none = stays more (at + 1) p k has (λ j is. none (suc j) is)
  stays (Ok Item.Quiet ∷ more) at p k has none = absurd (none zero refl)
  stays (Ok (Sent sender m) ∷ more) at (entries, from, to) k has none =
      stays more (at + 1) (with_message of id at sender m (entries, from, to)) k
      (by (is_side of sender && is_begin_from id m) (is_side of sender) (partner_in of id sender m)) (λ j is. none (suc j) is)
    where
      by : (begins b : Bool) (o : Option (List ℕ)) → Contains (cond {A = Pairing} begins
          (entries ++ at ∷ [], None, None) (with_partner at b o (entries, from, to))).0 k
      by true b o = Contains-append_left entries (at ∷ []) k has
      by false b None = has
      by false true (Some q) = Contains-append_left entries (anew at q from) k has
      by false false (Some q) = Contains-append_left entries (anew at q to) k has

  -- A Begin from the ID is listed.
  pub begun : (more : Entries) (at : ℕ) (p : Pairing) (k n : ℕ) (m : Message) → n ≡ at + k
      → slice_get more k ≡ Some (Ok (Sent of m)) → is_begin_from id m ≡ true
      → ((j : ℕ) → k < j → slice_get more j ≡ Some (Ok Item.Quiet) → ⊥) → Contains (with_pairs of id at more p).0 n
  begun [] at p k n m at_k is begins none = let bad : None ≡ Some (Ok (Sent of m)) = is in cc
  begun (entry ∷ more) at p zero n m at_k is begins none =
      stays more (at + 1) (with_pair of id at entry p) n here (λ j is. none (suc j) (omega arith) is)
    where
      it : entry ≡ Ok (Sent of m)
      it = let same : Some entry ≡ Some (Ok (Sent of m)) = is in cc

      number : n ≡ at
      number = omega (arith, at_k)

      here : Contains (with_pair of id at entry p).0 n
      here = rw (it, itself of, begins, number) (Contains-push p.0 at)
  begun (entry ∷ more) at p (suc k) n m at_k is begins none =
      begun more (at + 1) (with_pair of id at entry p) k n m (omega (arith, at_k)) is begins
      (λ j after is. none (suc j) (omega arith) is)

  -- A listed Continue of this end with this partner, no later than entry `n`, with no Begin from the ID between.
  pub record Paired (all : Entries) (listed : List ℕ) (sender : Side) (partner : List ℕ) (n : ℕ) : Type 0 where
    at : ℕ
    message : Message
    has : Contains listed at
    is : slice_get all at ≡ Some (Ok (Sent sender message))
    partner_is : partner_in of id sender message ≡ Some partner
    no_later : at ≤ n
    none_begun : (j : ℕ) (m : Message) → at < j → j ≤ n → slice_get all j ≡ Some (Ok (Sent of m)) → is_begin_from id m ≡ false
    since : (j : ℕ) → at < j → j ≤ n → slice_get all j ≡ Some (Ok Item.Quiet) → ⊥

  -- A Continue with a partner is not a Begin from the ID.
  goes_on : (sender : Side) (m : Message) (partner : List ℕ) → partner_in of id sender m ≡ Some partner
      → (is_side of sender && is_begin_from id m) ≡ false
  goes_on sender m partner stands =
      false_from_ne_true (is_side of sender && is_begin_from id m)
      (λ is.
      let (own, begins) = and_parts (is_side of sender) (is_begin_from id m) is in
      let from : only_if (is_continue_from id m) (dtid_in m) ≡ Some partner = rw own at stands in
      let goes = so (is_continue_from id m) own from in
      not_both m (and_parts (is_a forms.Begin m) _ begins).0 (and_parts (is_a forms.Continue m) _ goes).0)
    where
      so : (b : Bool) → is_side of sender ≡ true → only_if b (dtid_in m) ≡ Some partner → b ≡ true
      so true own is = refl
      so false own is = let bad : None ≡ Some partner = is in cc

  -- So its partner is the last one of its direction.
  last_is : (at : ℕ) (sender : Side) (m : Message) (p : Pairing) (partner : List ℕ) → partner_in of id sender m ≡ Some partner
      → last_of (is_side of sender) (with_message of id at sender m p) ≡ Some partner
  last_is at sender m p partner stands = rw (goes_on sender m partner stands, stands) (by (is_side of sender) p)
    where
      by : (b : Bool) (q : Pairing) → last_of b (with_partner at b (Some partner) q) ≡ Some partner
      by true (entries, from, to) = refl
      by false (entries, from, to) = refl

  -- There is such a Continue for each Continue with a partner.
  pub paired : (more done : Entries) (p : Pairing) → AreLast done p → (k : ℕ) (sender : Side) (m : Message) (partner : List ℕ)
      → slice_get more k ≡ Some (Ok (Sent sender m)) → partner_in of id sender m ≡ Some partner
      → ((j : ℕ) → k < j → slice_get more j ≡ Some (Ok Item.Quiet) → ⊥)
      → Paired (done ++ more) (with_pairs of id (length done) more p).0 sender partner (length done + k)
  paired [] done p are k sender m partner is stands none = let bad : None ≡ Some (Ok (Sent sender m)) = is in cc
  paired (entry ∷ more) done p are zero sender m partner is stands none = record {
    at = s.at;
    message = s.message;
    has = stays more (length done + 1) (with_pair of id (length done) entry p) s.at s.has (λ j is. none (suc j) (omega arith) is);
    is = subst (λ (x : Side). slice_get (done ++ entry ∷ more) s.at ≡ Some (Ok (Sent x s.message))) end
        (whole s.at _ (keeps_at (done ++ entry ∷ []) more s.at _ s.is));
    partner_is = subst (λ (x : Side). partner_in of id x s.message ≡ Some partner) end s.partner_is;
    no_later = omega (arith, within_at (done ++ entry ∷ []) s.at _ s.is, long);
    none_begun = λ j n after below there. s.none_begun j n after (before j _ below there);
    since = λ j after below there. s.since j after (before j _ below there);
  }
    where
      it : entry ≡ Ok (Sent sender m)
      it = let same : Some entry ≡ Some (Ok (Sent sender m)) = is in cc

      last : last_of (is_side of sender) (with_pair of id (length done) entry p) ≡ Some partner
      last = rw it (last_is (length done) sender m p partner stands)

      s : Stands (done ++ entry ∷ []) (with_pair of id (length done) entry p).0 (is_side of sender) partner
      s = one_more done entry p are (is_side of sender) partner last

      end : s.sender ≡ sender
      end = one_end of s.sender sender s.from

      long : length (done ++ entry ∷ []) ≡ length done + 1
      long = length-append done (entry ∷ [])

      whole : (j : ℕ) (y : Result Item Reason) → slice_get ((done ++ entry ∷ []) ++ more) j ≡ Some y
          → slice_get (done ++ entry ∷ more) j ≡ Some y
      whole j y there = rw (← append_assoc done (entry ∷ []) more) there

      before : (j : ℕ) (y : Result Item Reason) → j ≤ length done + 0 → slice_get (done ++ entry ∷ more) j ≡ Some y
          → slice_get (done ++ entry ∷ []) j ≡ Some y
      before j y below there =
          front_at (done ++ entry ∷ []) more j y (omega (arith, long)) (rw (append_assoc done (entry ∷ []) more) there)
  paired (entry ∷ more) done p are (suc k) sender m partner is stands none =
      subst (λ (es : Entries). Paired es (with_pairs of id (length done + 1) more (with_pair of id (length done) entry p)).0 sender
      partner (length done + suc k)) (append_assoc done (entry ∷ []) more)
      (subst (λ (at : ℕ). Paired ((done ++ entry ∷ []) ++ more)
      (with_pairs of id (length done + 1) more (with_pair of id (length done) entry p)).0 sender partner at) number
      (subst (λ (at : ℕ). Paired ((done ++ entry ∷ []) ++ more)
      (with_pairs of id at more (with_pair of id (length done) entry p)).0 sender partner (length (done ++ entry ∷ []) + k)) long
      (paired more (done ++ entry ∷ []) (with_pair of id (length done) entry p) (one_more done entry p are) k sender m partner is
      stands (λ j after is. none (suc j) (omega arith) is))))
    where
      long : length (done ++ entry ∷ []) ≡ length done + 1
      long = length-append done (entry ∷ [])

      number : length (done ++ entry ∷ []) + k ≡ length done + suc k
      number = omega (arith, long)

-- ---- before an entry

module _ (of : Side) (id : List ℕ) (entries : List Entry) (number : ℕ) where
  abbrev before : Entries
  before = map item_of (take number entries)

  none_behind : (sender : Side) (n : ℕ) (m : Message) → IsSentBefore entries number sender n m → (j : ℕ) → n < j
      → slice_get before j ≡ Some (Ok Item.Quiet) → ⊥
  none_behind sender n m sent j after is =
      let (below, it) = back_at entries number j (Ok Item.Quiet) is in sent.since j after below it

  -- Each Begin from the ID is listed.
  pub begin_is_listed : (n : ℕ) (m : Message) → IsSentBefore entries number of n m → is_begin_from id m ≡ true
      → Contains (paired_before of id entries number) n
  begin_is_listed n m sent begins =
      begun of id before 0 no_pairing n n m (omega arith) (there_at entries number n _ sent.before sent.is) begins (none_behind of n m sent)

  -- For each Continue with a partner there is such a listed Continue.
  pub is_paired : (sender : Side) (n : ℕ) (m : Message) (partner : List ℕ) → IsSentBefore entries number sender n m
      → partner_in of id sender m ≡ Some partner → IsPaired of id entries number sender partner n
  is_paired sender n m partner sent stands = record {
    at = p.at;
    message = p.message;
    listed = p.has;
    sent = record { is = at_is.1; before = at_is.0; since = λ j after below is. behind j after below is (order j n) };
    stands = p.partner_is;
    no_later = p.no_later;
    none_begun = λ k b after below is.
        let within : k < number = let first = sent.before in omega arith in
        p.none_begun k b after below (there_at entries number k _ within is);
  }
    where
      number_is : (k : ℕ) → 0 + k ≡ k
      number_is k = omega arith

      p : Paired of id before (paired_before of id entries number) sender partner n
      p =
          subst (λ (k : ℕ). Paired of id before (paired_before of id entries number) sender partner k) (number_is n)
          (paired of id before [] no_pairing (none_last of id [] []) n sender m partner (there_at entries number n _ sent.before sent.is) stands
          (none_behind sender n m sent))

      at_is : (p.at < number) × (slice_get (map item_of entries) p.at ≡ Some (Ok (Sent sender p.message)))
      at_is = back_at entries number p.at _ p.is

      order : (j k : ℕ) → (j ≤ k) ⊎ (k < j)
      order j k = by (nat_le j k) refl
        where
          by : (b : Bool) → nat_le j k ≡ b → (j ≤ k) ⊎ (k < j)
          by true is = inl (leb-true j k is)
          by false is = inr (leb-false j k is)

      behind : (j : ℕ) → p.at < j → j < number → slice_get (map item_of entries) j ≡ Some (Ok Item.Quiet)
          → (j ≤ n) ⊎ (n < j) → ⊥
      behind j after below is (inl early) = p.since j after early (there_at entries number j _ below is)
      behind j after below is (inr late) = sent.since j late below is
