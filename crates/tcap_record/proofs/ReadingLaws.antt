-- The octets fed of a record are the octets read of it.
use Rattle.std.proofs.Common.{◌≡◌, ◌≢◌, ℕ, ◌+◌, ◌<◌, ◌≤◌, List, [], ◌∷◌, ◌++◌, length, take, drop, Some, None, Result, Ok, Err, refl, sym, ap, subst, ◌∙◌, inl, inr, arith, append_assoc, take-append-drop}
use Rattle.std.proofs.lemmas.List.{length-append}
use Rattle.tcap_ber.proofs.StayLaws.{walk_fault_stays}
use Rattle.tcap_record.specs.declared.entry.Entry.{Entry}
use Rattle.tcap_record.specs.declared.fault.FeedFault.{FeedFault}
use Rattle.tcap_record.specs.declared.fault.FeedReason.{FeedReason}
use Rattle.tcap_record.specs.declared.fault.FeedReason.TheVariants as feed
use Rattle.tcap_record.specs.RecordOctets.{entry_limit, IsRestFault}
use Rattle.tcap_record.specs.FramingResult.{feed_fault}
use Rattle.tcap_record.specs.PartialRecord.{FramerState, IsFramedSoFar, IsFramerState, IsFramerStateWith, IsPart}
use Rattle.tcap_record.specs.FeederResult.{FinishesAs}
use Rattle.tcap_record.specs.FeederState.{FeederState, IsFedSoFar, FailsToFeed}
use Rattle.tcap_record.specs.Reading.{IsReadAs}
use Rattle.tcap_record.proofs.FramingLaws.{ends_as}
use Rattle.tcap_record.proofs.FrontLaws.{part_not_whole}
use Rattle.tcap_record.proofs.FedLaws.{framed_on}

-- a fault stays if more octets follow
fault_on : (count : ℕ) (rest more : List ℕ) (reason : FeedReason) (offset : ℕ) → IsRestFault count rest reason offset
    → reason ≢ feed.CutRecord → IsRestFault count (rest ++ more) reason offset
fault_on count [] more reason offset h other = absurd h
fault_on count (first ∷ octets) more feed.TooManyEntries offset h other = h
fault_on count (first ∷ octets) more feed.BadEnd offset h other = h
fault_on count (first ∷ octets) more (feed.Element reason) offset (room, is_end, (place, at, fault)) other =
    (room, is_end, (place, at, walk_fault_stays octets more reason place fault))
fault_on count (first ∷ octets) more feed.CutRecord offset h other = absurd (other refl)
fault_on count (first ∷ octets) more feed.BadHexLine offset h other = absurd h
fault_on count (first ∷ octets) more feed.Read offset h other = absurd h
fault_on count (first ∷ octets) more feed.Memory offset h other = absurd h

-- a part of an entry is CutRecord at its end
part_cut : (count : ℕ) (octets : List ℕ) → IsPart octets → octets ≢ [] → count < entry_limit
    → IsRestFault count octets feed.CutRecord (length octets)
part_cut count [] is_part some room = absurd (some refl)
part_cut count (first ∷ more) is_part some room = (room, is_part.0, is_part.1, omega arith)

-- These octets were fed without a fault, and a part of an entry is held.
pub record IsFed (returned : List ℕ) (entries : List Entry) (h : FramerState) : Type 0 where
  pub fed : IsFramedSoFar returned entries h
  pub held : IsFramerState h
  pub sound : h.fault ≡ None
  pub is_part : IsPart h.octets

cut_there : (returned : List ℕ) (entries : List Entry) (h : FramerState) → IsFed returned entries h → h.octets ≢ []
    → IsRestFault (length entries) h.octets feed.CutRecord (length h.octets)
cut_there returned entries h f some =
    let with : IsFramerStateWith h None = subst (IsFramerStateWith h) f.sound f.held.1 in
    subst (λ (n : ℕ). IsRestFault n h.octets feed.CutRecord (length h.octets)) f.fed.count_is
    (part_cut h.count h.octets f.is_part some (with.0 some))

-- at the end
read_ended : (returned : List ℕ) (entries : List Entry) (h : FramerState) → IsFed returned entries h → h.octets ≡ []
    → IsReadAs entries (Ok tt) returned
read_ended returned entries h f none = record {
  rest = h.octets;
  framed = f.fed.framed;
  within = omega (arith, f.held.0, f.fed.count_is);
  ends = none;
}

-- within an entry
read_cut : (returned : List ℕ) (entries : List Entry) (h : FramerState) → IsFed returned entries h → h.octets ≢ []
    → IsReadAs entries (Err (feed_fault feed.CutRecord (h.place + length h.octets))) returned
read_cut returned entries h f some = record {
  rest = h.octets;
  framed = f.fed.framed;
  within = omega (arith, f.held.0, f.fed.count_is);
  ends = (length h.octets, omega (arith, f.fed.place_is), cut_there returned entries h f some);
}

pub read_finished : (r : Result (Unit {0}) FeedFault) (returned : List ℕ) (entries : List Entry) (h : FramerState) → IsFed returned entries h
    → FinishesAs r h → IsReadAs entries r returned
read_finished (Ok done) returned entries h f (sound, inl none) = read_ended returned entries h f none
read_finished (Ok done) returned entries h f (sound, inr whole) = absurd (part_not_whole h.octets f.is_part whole)
read_finished (Err fault) returned entries h f (inl wrong) = let e = sym wrong ∙ f.sound in absurd cc
read_finished (Err fault) returned entries h f (inr (sound, some, part, is)) = rw is (read_cut returned entries h f some)

-- memory ran out; more octets were read than were fed
pub read_to_memory : (returned more : List ℕ) (entries : List Entry) (h : FramerState) → IsFramedSoFar returned entries h → IsFramerState h
    → IsReadAs entries (Err (feed_fault feed.Memory 0)) (returned ++ more)
read_to_memory returned more entries h fed held = record {
  rest = h.octets ++ more;
  framed = framed_on 0 entries returned h.octets more fed.framed;
  within = omega (arith, held.0, fed.count_is);
  ends = refl;
}

-- the octets have a fault
pub read_to_fault : (returned more : List ℕ) (entries : List Entry) (h : FramerState) (f : FeedFault) → IsFramedSoFar returned entries h → IsFramerState h
    → h.fault ≡ Some f → IsReadAs entries (Err f) (returned ++ more)
read_to_fault returned more entries h f fed held wrong =
    let with : IsFramerStateWith h (Some f) = subst (IsFramerStateWith h) wrong held.1 in
    let there : IsRestFault (length entries) (h.octets ++ more) f.reason with.0 =
    subst (λ (n : ℕ). IsRestFault n (h.octets ++ more) f.reason with.0) fed.count_is
    (fault_on h.count h.octets more f.reason with.0 with.2 with.3) in
    record {
      rest = h.octets ++ more;
      framed = framed_on 0 entries returned h.octets more fed.framed;
      within = omega (arith, held.0, fed.count_is);
      ends = ends_as (length entries) (length (returned ++ more)) (h.octets ++ more) f.reason f.place with.0
          (omega (arith, with.1, fed.place_is, length-append returned more, length-append h.octets more)) there;
    }

-- a piece is refused
pub read_refused : (returned piece : List ℕ) (old new : FeederState) (f : FeedFault) → IsFed returned old.waiting old.held → IsFramerState new.held
    → FailsToFeed f old new piece
    → ((n : ℕ) × (n ≤ length piece) × IsFedSoFar (returned ++ take n piece) [] new) → IsReadAs new.waiting (Err f) (returned ++ piece)
read_refused returned piece old new f was held (inl (wrong, same)) fed = let e = sym wrong ∙ was.sound in absurd cc
read_refused returned piece old new f was held (inr (inl (sound, is, same, some))) fed =
    rw (is, same) (read_to_memory returned piece old.waiting old.held was.fed was.held)
read_refused returned piece old new f was held (inr (inr (sound, wrong))) (n, most, fed) =
    let all : (returned ++ take n piece) ++ drop n piece ≡ returned ++ piece =
    append_assoc returned (take n piece) (drop n piece) ∙ ap (λ (x : List ℕ). returned ++ x) (take-append-drop n piece) in
    subst (IsReadAs new.waiting (Err f)) all
    (read_to_fault (returned ++ take n piece) (drop n piece) new.waiting new.held f fed held wrong)
