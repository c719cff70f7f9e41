-- The laws of the dialogues of a segment with reused IDs, from the invariant of each front of it.
use Rattle.std.proofs.Common.{arith, ◌≡◌, ◌⊎◌, inl, inr, ℕ, ◌+◌, ◌<◌, ◌≤◌, ◌-◌, true, false, List, [], Some, None, length, map, sym, ap, take, ◌∙◌}
use Rattle.std.specs.Prelude.{Contains, slice_get}
use Rattle.std.proofs.lemmas.Bool.{cases_lt}
use Rattle.std.proofs.lemmas.List.Elements.{Contains-append_cases, Contains-append_left, Contains-append_right}
use Rattle.tcap_msg.specs.declared.message.Message.{Message}
use Rattle.tcap_record.specs.declared.entry.End.{End as Side}
use Rattle.tcap_end.specs.Table.{Table}
use Rattle.std.proofs.lemmas.Option.{slice_get_past}
use Rattle.tcap_model.specs.World.{Item, Sent, has_quiet}
use Rattle.tcap_model.specs.Run.{IsLawfulFor}
use Rattle.tcap_dialogues.specs.Course.{Course, Courses, Heading, bare, courses_behind, courses_of, has_entry, heading_of, headings_of, ids_in}
use Rattle.tcap_dialogues.specs.declared.reuse.Reuse.{Reuse}
use Rattle.tcap_dialogues.specs.DialoguesOfList.{IdOf, is_among}
use Rattle.tcap_dialogues.specs.Part.{IsClosed, ShareId, part_of}
use Rattle.tcap_dialogues.proofs.CourseLaws.{Among, AreCourses, InOrBehind, each_behind}
use Rattle.tcap_dialogues.proofs.CourseLists.{bare_at, heading_at, in_front, stands}
use Rattle.tcap_dialogues.proofs.CourseStretch.{well_so_far}
use Rattle.tcap_dialogues.proofs.CutEnds.{closed_from}
use Rattle.tcap_dialogues.proofs.CutIds.{among_is}
use Rattle.tcap_dialogues.proofs.PartLaws.{part_keeps}

-- ---- the whole segment

-- the invariant after the last entry
record Ended (headings : List Heading) (s : Courses) : Type 0 where
  n : ℕ
  all : AreCourses headings n s.done s.live
  past : (k : ℕ) → slice_get headings (n + k) ≡ None

module _ (reuse : Reuse) (headings : List Heading) where
  -- the dialogues, done or live
  abbrev pub ended_with : Courses
  ended_with = courses_behind reuse (record { done = []; live = [] }) 0 headings

  -- The invariant holds for them.
  ended : Ended headings ended_with
  ended = record {
    n = length headings;
    all = (well_so_far reuse headings).courses;
    past = λ k. slice_get_past headings (length headings + k) (omega arith);
  }

  -- A dialogue of the segment is done or live.
  pub among : (d : Course) → Contains (courses_of reuse headings) d → Among ended_with.done ended_with.live d
  among d has = Contains-append_cases ended_with.done ended_with.live d has

  -- A dialogue that is done or live is one of the segment.
  pub listed : (d : Course) → Among ended_with.done ended_with.live d → Contains (courses_of reuse headings) d
  listed d (inl has) = Contains-append_left ended_with.done ended_with.live d has
  listed d (inr has) = Contains-append_right ended_with.done ended_with.live d has

  -- No entry is past the last.
  within : (i : ℕ) (h : Heading) → slice_get headings i ≡ Some h → i < ended.n
  within i h is = by (cases_lt i ended.n)
    where
      by : (i < ended.n) ⊎ (ended.n ≤ i) → i < ended.n
      by (inl less) = less
      by (inr past) =
          let at : i ≡ ended.n + (i - ended.n) = omega arith in
          let bad : Some h ≡ None = sym is ∙ ap (slice_get headings) at ∙ ended.past (i - ended.n) in cc

  -- ---- the laws

  -- Each entry is in exactly one dialogue.
  pub entry_has_one : (n : ℕ) → n < length headings
      → (d : Course) × Contains (courses_of reuse headings) d × (has_entry d n ≡ true)
      × ((another : Course) → Contains (courses_of reuse headings) another → has_entry another n ≡ true → another ≡ d)
  entry_has_one n less =
      let (h, is) = stands headings n less in
      let o = ended.all.owner n h is (within n h is) in (
        o.course,
        listed o.course o.listed,
        o.has,
        λ another has so. ended.all.one_number another o.course n (among another has) o.listed so o.has,
      )

  -- If two entries share an ID, and the first is in a dialogue without reused IDs, the second is in it, or after all of
  -- it.
  shares_behind : (d : Course) (i j : ℕ) (g h : Heading) (id : IdOf) → Contains (courses_of reuse headings) d → d.again ≡ false
      → slice_get headings i ≡ Some g → slice_get headings j ≡ Some h → is_among (ids_in g) id ≡ true → is_among (ids_in h) id ≡ true
      → has_entry d i ≡ true → InOrBehind d j
  shares_behind d i j g h id has anew is so its hers of_it =
      let o = ended.all.owner i g is (within i g is) in
      let same : o.course ≡ d = ended.all.one_number o.course d i o.listed (among d has) o.has of_it in
      each_behind headings ended.n ended_with.done ended_with.live ended.all d j h id (among d has) anew so (within j h so) hers
      (ap (λ x. is_among x.ids id) (sym same) ∙ o.all id its)

-- A dialogue without reused IDs shares no ID with the rest of the segment up to each of its entries.
pub course_shares_nothing : (reuse : Reuse) (items : List Item) (headings : List Heading) (d : Course) (n : ℕ) → has_quiet items ≡ false
    → map bare headings ≡ headings_of items → Contains (courses_of reuse headings) d → d.again ≡ false → has_entry d n ≡ true
    → IsClosed (has_entry d) (take (n + 1) items)
course_shares_nothing reuse items headings d n unmarked bares has anew of_it = closed_from (has_entry d) (take (n + 1) items) follows
  where
    by : (j : ℕ) → j < n + 1 → InOrBehind d j → has_entry d j ≡ true
    by j less (inl so) = so
    by j less (inr past) = let more = past n of_it in absurd (omega (arith, less, more))

    follows : (i j : ℕ) (s t : Side) (m o : Message) → slice_get (take (n + 1) items) i ≡ Some (Sent s m)
        → slice_get (take (n + 1) items) j ≡ Some (Sent t o) → ShareId s m t o → has_entry d i ≡ true → has_entry d j ≡ true
    follows i j s t m o is so (end, id, hers, his) first =
        let it : IdOf = record { end = end; octets = id } in
        let (lower, there) = in_front items (n + 1) i (Sent s m) is in
        let (less, here) = in_front items (n + 1) j (Sent t o) so in
        let (g, at, one) = bare_at headings (headings_of items) i (heading_of s m) bares (heading_at items i s m unmarked there) in
        let (h, also, two) = bare_at headings (headings_of items) j (heading_of t o) bares (heading_at items j t o unmarked here) in
        by j less
        (shares_behind reuse headings d i j g h it has anew at also
        (ap (λ x. is_among (ids_in x) it) one ∙ among_is s m it ∙ hers) (ap (λ x. is_among (ids_in x) it) two ∙ among_is t o it ∙ his) first)

-- A lawful end may have sent its part of the dialogue, up to this entry.
pub course_keeps : (side : Side) (reuse : Reuse) (items : List Item) (headings : List Heading) (table : Table) (d : Course) (n : ℕ)
    → has_quiet items ≡ false → map bare headings ≡ headings_of items → Contains (courses_of reuse headings) d → d.again ≡ false
    → has_entry d n ≡ true → IsLawfulFor side (take (n + 1) items) table
    → IsLawfulFor side (part_of (has_entry d) 0 (take (n + 1) items)) table
course_keeps side reuse items headings table d n unmarked bares has anew of_it lawful =
    part_keeps side (take (n + 1) items) table (has_entry d)
    (course_shares_nothing reuse items headings d n unmarked bares has anew of_it) lawful
