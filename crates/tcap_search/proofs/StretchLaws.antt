-- Entries, segment by segment between quiet marks.
use Rattle.std.proofs.Common.{◌≡◌, Bool, true, false, cond, ℕ, ◌+◌, ◌-◌, ◌≤◌, ◌<◌, arith, List, [], ◌∷◌, ◌++◌, length, take, drop, get_or, Option, zero, suc, refl, sym, ap, subst, ◌∙◌, append_assoc}
use Rattle.std.specs.Prelude.{◌||◌, Result, Ok, Err, IfOk, map}
use Rattle.std.specs.List.{list_any}
use Rattle.std.proofs.lemmas.List.{drop_more, get_or-drop, length-append, length-drop, length-map, length-take-le, take-append-drop}
use Rattle.std.proofs.lemmas.List.Folds.{list_any_more}
use Rattle.std.proofs.Math.Seq.{drop-nil, take-length}
use Rattle.tcap_record.specs.declared.entry.End.{End as Side}
use Rattle.tcap_record.specs.declared.entry.Entry.{Entry}
use Rattle.tcap_certificate.specs.Certificate.{Certificate}
use Rattle.tcap_search.specs.ProposedCertificate.{behind, fate_after, is_mark, of_mark, of_segment, of_segments, segments, then_certificate, with_entry, proposed_by}
use Rattle.tcap_search.proofs.LimitLaws.{count_of_segment}

abbrev pub has_mark : List Entry → Bool
has_mark entries = list_any (λ e. is_mark e.body) entries

-- There is a first segment.
pub first_segment : (entries : List Entry)
    → (segment : List Entry) × (more : List (List Entry)) × (segments entries ≡ segment ∷ more)
first_segment [] = ([], [], refl)
first_segment (e ∷ entries) = by (is_mark e.body) refl (first_segment entries)
  where
    by : (b : Bool) → is_mark e.body ≡ b
        → (segment : List Entry) × (more : List (List Entry)) × (segments entries ≡ segment ∷ more)
        → (segment : List Entry) × (more : List (List Entry))
        × (cond b ([] ∷ segments entries) (with_entry e (segments entries)) ≡ segment ∷ more)
    by true so rest = ([], segments entries, refl)
    by false so (segment, more, is) = (e ∷ segment, more, rw is refl)

-- Entries without a mark are one segment.
pub one_segment : (entries : List Entry) → has_mark entries ≡ false → segments entries ≡ entries ∷ []
one_segment [] none = refl
one_segment (e ∷ entries) none = by (is_mark e.body) none (one_segment entries)
  where
    by : (b : Bool) → (b || has_mark entries) ≡ false → (has_mark entries ≡ false → segments entries ≡ entries ∷ [])
        → cond b ([] ∷ segments entries) (with_entry e (segments entries)) ≡ (e ∷ entries) ∷ []
    by true none on = cc
    by false none on = rw (on none) refl

-- Entries before a mark are the first segment.
pub segment_before : (front : List Entry) (mark : Entry) (more : List Entry) → has_mark front ≡ false
    → is_mark mark.body ≡ true → segments (front ++ mark ∷ more) ≡ front ∷ segments more
segment_before [] mark more none is = rw is refl
segment_before (e ∷ front) mark more none is =
    by (is_mark e.body) none (λ rest. segment_before front mark more rest is)
  where
    by : (b : Bool) → (b || has_mark front) ≡ false
        → (has_mark front ≡ false → segments (front ++ mark ∷ more) ≡ front ∷ segments more)
        → cond b ([] ∷ segments (front ++ mark ∷ more)) (with_entry e (segments (front ++ mark ∷ more)))
        ≡ (e ∷ front) ∷ segments more
    by true none on = cc
    by false none on = rw (on none) refl

-- ---- certificates in a row

pub then_assoc : (c d f : Certificate)
    → then_certificate (then_certificate c d) f ≡ then_certificate c (then_certificate d f)
then_assoc c d f =
    rw (
      append_assoc c.fates d.fates f.fates,
      append_assoc c.expire d.expire f.expire,
      append_assoc c.close d.close f.close,
    ) refl

-- the certificate of entries without a mark
pub of_one : (judged : Option Side) (first : ℕ) (entries : List Entry) → has_mark entries ≡ false
    → of_segments judged first (segments entries) ≡ behind first (of_segment judged false entries)
of_one judged first entries none = rw (one_segment entries none) refl

-- the certificates of entries before a mark, of the mark, and of the entries after it
pub of_more : (judged : Option Side) (first : ℕ) (front : List Entry) (mark : Entry) (more : List Entry)
    → has_mark front ≡ false
    → is_mark mark.body ≡ true
    → of_segments judged first (segments (front ++ mark ∷ more))
    ≡ then_certificate (behind first (of_segment judged true front))
    (then_certificate (of_mark (first + length front))
    (of_segments judged (first + length front + 1) (segments more)))
of_more judged first front mark more none is =
    let (segment, others, split) = first_segment more in
    rw (segment_before front mark more none is, split) refl

-- ---- along the entries

drop_drop : {A : Type 0} (n k : ℕ) (xs : List A) → drop k (drop n xs) ≡ drop (n + k) xs
drop_drop zero k xs = ap (λ m. drop m xs) (omega arith)
drop_drop (suc n) k [] = drop-nil k ∙ sym (drop-nil (suc n + k))
drop_drop (suc n) k (x ∷ xs) =
    let more : suc (n + k) ≡ suc n + k = omega arith in
    drop_drop n k xs ∙ ap (λ m. drop m (x ∷ xs)) more

-- the entry at place k of the present segment
module _ (entries : List Entry) (first k : ℕ) (e : Entry) (within : first + k < length entries)
    (is : e ≡ get_or entries (first + k) e) where
  abbrev under : List Entry
  under = drop first entries

  k_within : k < length under
  k_within = rw (length-drop first entries) (omega (arith, within))

  is_there : get_or under k e ≡ e
  is_there = get_or-drop first entries k e ∙ sym is

  -- The entry is no mark, and the segment goes on.
  pub goes_on : is_mark e.body ≡ false → has_mark (take k under) ≡ false → has_mark (take (k + 1) under) ≡ false
  goes_on plain none =
      let more : has_mark (take (k + 1) under) ≡ (has_mark (take k under) || is_mark (get_or under k e).body) =
      list_any_more (λ x. is_mark x.body) under k e k_within in
      more ∙ rw (none, is_there, plain) refl

  split : under ≡ take k under ++ e ∷ drop (first + k + 1) entries
  split =
      sym (take-append-drop k under)
      ∙ ap (λ x. take k under ++ x)
      (drop_more under k e k_within ∙ ap (λ x. x ∷ drop (k + 1) under) is_there
      ∙ ap (λ x. e ∷ x) (drop_drop first (k + 1) entries ∙ ap (λ n. drop n entries) (omega arith)))

  -- The entry is a mark, and the next segment begins.
  pub begins : (judged : Option Side) (found : Certificate) → is_mark e.body ≡ true → has_mark (take k under) ≡ false
      → then_certificate found (of_segments judged first (segments under))
      ≡ then_certificate
      (then_certificate (then_certificate found (behind first (of_segment judged true (take k under))))
      (of_mark (first + k)))
      (of_segments judged (first + k + 1) (segments (drop (first + k + 1) entries)))
  begins judged found mark none =
      let count : length (take k under) ≡ k = length-take-le k under (omega (arith, k_within)) in
      ap (λ x. then_certificate found (of_segments judged first (segments x))) split
      ∙ ap (then_certificate found) (of_more judged first (take k under) e (drop (first + k + 1) entries) none mark)
      ∙ rw count
      (sym (then_assoc found (behind first (of_segment judged true (take k under)))
      (then_certificate (of_mark (first + k))
      (of_segments judged (first + k + 1) (segments (drop (first + k + 1) entries)))))
      ∙ sym (then_assoc (then_certificate found (behind first (of_segment judged true (take k under))))
      (of_mark (first + k))
      (of_segments judged (first + k + 1) (segments (drop (first + k + 1) entries)))))

-- The entries after the last mark are the last segment.
pub ends : (judged : Option Side) (entries : List Entry) (found : Certificate) (first k : ℕ)
    → first + k ≡ length entries
    → has_mark (take k (drop first entries)) ≡ false
    → then_certificate found (of_segments judged first (segments (drop first entries)))
    ≡ then_certificate found (behind first (of_segment judged false (drop first entries)))
ends judged entries found first k all none =
    let count : length (drop first entries) ≡ k = length-drop first entries ∙ omega (arith, all) in
    let whole : take k (drop first entries) ≡ drop first entries =
    subst (λ n. take n (drop first entries) ≡ drop first entries) count (take-length (drop first entries)) in
    ap (then_certificate found) (of_one judged first (drop first entries) (subst (λ x. has_mark x ≡ false) whole none))

-- the same facts, by the number of the entry
module _ (entries : List Entry) (first i : ℕ) (begun : first ≤ i) where
  at : first + (i - first) ≡ i
  at = omega (arith, begun)

  next : i - first + 1 ≡ i + 1 - first
  next = omega (arith, begun)

  pub goes_on_at : (e : Entry) → i < length entries → e ≡ get_or entries i e → is_mark e.body ≡ false
      → has_mark (take (i - first) (drop first entries)) ≡ false
      → has_mark (take (i + 1 - first) (drop first entries)) ≡ false
  goes_on_at e within is plain none =
      subst (λ n. has_mark (take n (drop first entries)) ≡ false) next
      (goes_on entries first (i - first) e (rw at within) (rw at is) plain none)

  pub begins_at : (judged : Option Side) (e : Entry) (found : Certificate) → i < length entries → e ≡ get_or entries i e
      → is_mark e.body ≡ true
      → has_mark (take (i - first) (drop first entries)) ≡ false
      → then_certificate found (of_segments judged first (segments (drop first entries)))
      ≡ then_certificate
      (then_certificate (then_certificate found (behind first
      (of_segment judged true (take (i - first) (drop first entries)))))
      (of_mark i))
      (of_segments judged (i + 1) (segments (drop (i + 1) entries)))
  begins_at judged e found within is mark none =
      subst
      (λ n. then_certificate found (of_segments judged first (segments (drop first entries)))
      ≡ then_certificate
      (then_certificate (then_certificate found (behind first
      (of_segment judged true (take (i - first) (drop first entries)))))
      (of_mark n))
      (of_segments judged (n + 1) (segments (drop (n + 1) entries))))
      at (begins entries first (i - first) e (rw at within) (rw at is) judged found mark none)

  pub ends_at : (judged : Option Side) (found : Certificate) → i ≡ length entries
      → has_mark (take (i - first) (drop first entries)) ≡ false
      → then_certificate found (of_segments judged first (segments (drop first entries)))
      ≡ then_certificate found (behind first
      (of_segment judged false (take (length entries - first) (drop first entries))))
  ends_at judged found all none =
      ends judged entries found first (i - first) (at ∙ all) none
      ∙ ap (λ x. then_certificate found (behind first (of_segment judged false x)))
      (sym (subst (λ n. take n (drop first entries) ≡ drop first entries) (length-drop first entries)
      (take-length (drop first entries))))

-- ---- the number of fates

module _ (judged : Option Side) where
  with_count : (marked : Bool) (found : Certificate) (first : ℕ) (segment : List Entry)
      → length ((then_certificate found (behind first (of_segment judged marked segment))).fates)
      ≡ length found.fates + length segment
  with_count marked found first segment =
      length-append found.fates (map (fate_after first) ((of_segment judged marked segment).fates))
      ∙ ap (λ n. length found.fates + n)
      (length-map ((of_segment judged marked segment).fates) (fate_after first)
      ∙ count_of_segment judged marked segment)

  pub count_ends : (entries : List Entry) (found : Certificate) (first : ℕ) → first ≤ length entries
      → length found.fates ≡ first
      → length ((then_certificate found (behind first (of_segment judged false
      (take (length entries - first) (drop first entries))))).fates)
      ≡ length entries
  count_ends entries found first within count =
      let some : length (take (length entries - first) (drop first entries)) ≡ length entries - first =
      length-take-le (length entries - first) (drop first entries)
      (let left : length (drop first entries) ≡ length entries - first = length-drop first entries in
      omega (arith, left)) in
      with_count false found first (take (length entries - first) (drop first entries))
      ∙ omega (arith, some, count, within)

  pub count_begins : (entries : List Entry) (found : Certificate) (first i : ℕ) → first ≤ i → i < length entries
      → length found.fates ≡ first
      → length ((then_certificate (then_certificate found (behind first
      (of_segment judged true (take (i - first) (drop first entries)))))
      (of_mark i)).fates)
      ≡ i + 1
  count_begins entries found first i begun within count =
      let some : length (take (i - first) (drop first entries)) ≡ i - first =
      length-take-le (i - first) (drop first entries)
      (let left : length (drop first entries) ≡ length entries - first = length-drop first entries in
      omega (arith, left, within)) in
      let front : length ((then_certificate found (behind first (of_segment judged true
      (take (i - first) (drop first entries))))).fates)
      ≡ length found.fates + length (take (i - first) (drop first entries)) =
      with_count true found first (take (i - first) (drop first entries)) in
      length-append ((then_certificate found (behind first (of_segment judged true
      (take (i - first) (drop first entries))))).fates) _
      ∙ omega (arith, front, some, count, begun)

-- A weaker property of a result.
pub answers_so : {A E : Type 0} (P Q : A → Type 0) (r : Result A E) → ((x : A) → P x → Q x) → IfOk r P → IfOk r Q
answers_so P Q (Ok x) so is = so x is
answers_so P Q (Err e) so is = is

-- ---- the certificate found along the entries

-- The certificate found before a segment has the fates of the entries before it. With the certificate proposed from
-- this segment on, it is the whole.
pub record IsBefore (judged : Option Side) (entries : List Entry) (first : ℕ) (found : Certificate) : Type 0 where
  pub count : length found.fates ≡ first
  pub is : then_certificate found (of_segments judged first (segments (drop first entries)))
      ≡ proposed_by judged entries

-- The present segment begins at `first`, and has no mark up to `i`.
pub record IsSegment (entries : List Entry) (first i : ℕ) : Type 0 where
  pub begun : first ≤ i
  pub within : i ≤ length entries
  pub none : has_mark (take (i - first) (drop first entries)) ≡ false

-- A segment begins after a mark.
pub segment_begins : (entries : List Entry) (i : ℕ) → i < length entries → IsSegment entries (i + 1) (i + 1)
segment_begins entries i below = record {
  begun = omega arith;
  within = omega (arith, below);
  none = let nothing : (i + 1) - (i + 1) ≡ 0 = omega arith in rw nothing refl;
}

-- It goes on over an entry that is no mark.
pub segment_goes_on : (entries : List Entry) (first i : ℕ) (e : Entry) → IsSegment entries first i → i < length entries
    → e ≡ get_or entries i e → is_mark e.body ≡ false → IsSegment entries first (i + 1)
segment_goes_on entries first i e so below is unmarked = record {
  begun = omega (arith, so.begun);
  within = omega (arith, below);
  none = goes_on_at entries first i so.begun e below is unmarked so.none;
}

module _ (judged : Option Side) (entries : List Entry) (first i : ℕ) (so : IsSegment entries first i) (found : Certificate)
    (before : IsBefore judged entries first found) where
  -- This holds after another segment and its mark.
  pub mark_is_before : (e : Entry) → i < length entries → e ≡ get_or entries i e → is_mark e.body ≡ true
      → (segment new : Certificate)
      → segment ≡ then_certificate found (behind first (of_segment judged true (take (i - first) (drop first entries))))
      → new ≡ then_certificate segment (of_mark i)
      → IsBefore judged entries (i + 1) new
  mark_is_before e within is mark segment new segment_is new_is = record {
    count = rw (new_is, segment_is) (count_begins judged entries found first i so.begun within before.count);
    is =
        rw (new_is, segment_is)
        (sym (begins_at entries first i so.begun judged e found within is mark so.none) ∙ before.is);
  }

  -- After the last segment, the certificate is the whole.
  pub all_found : length entries ≤ i → (new : Certificate)
      → new ≡ then_certificate found (behind first
      (of_segment judged false (take (length entries - first) (drop first entries))))
      → (new ≡ proposed_by judged entries) × (length new.fates ≡ length entries)
  all_found past new is = let all : i ≡ length entries = omega (arith, so.within, past) in (
    is ∙ sym (ends_at entries first i so.begun judged found all so.none) ∙ before.is,
    rw is (count_ends judged entries found first (omega (arith, so.begun, all)) before.count),
  )
