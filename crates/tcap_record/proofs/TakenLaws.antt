-- The octets taken of a piece after a part of an entry.
use Rattle.std.proofs.Common.{◌≡◌, ℕ, ◌+◌, ◌-◌, ◌<◌, ◌≤◌, List, [], ◌∷◌, ◌++◌, length, take, min, sym, ap, subst, ◌∙◌, arith}
use Rattle.std.proofs.lemmas.List.{length-append, length-take-le, take_all, take-append-le}
use Rattle.std.proofs.Math.Seq.{take-append-add}
use Rattle.tcap_record.specs.declared.fault.FeedReason.{FeedReason}
use Rattle.tcap_record.specs.declared.fault.FeedReason.TheVariants as feed
use Rattle.tcap_record.specs.declared.frames.Front.{Front}
use Rattle.tcap_record.specs.declared.frames.Front.TheVariants.{Whole, Part, Refused}
use Rattle.tcap_record.specs.RecordOctets.{entry_limit, IsRestFault}
use Rattle.tcap_record.specs.PartialRecord.{IsPart, IsWhole}
use Rattle.tcap_record.specs.FrontEntry.{entry_room, front_at, taken_of, IsLonger, BeginsAs, IsTaken}
use Rattle.tcap_ber.proofs.OuterLaws.{walk_fault_within}
use Rattle.tcap_record.proofs.FrontLaws.{front_whole, front_part, front_refused, part_longer, part_within}

-- the window of a piece after a part, as far as there is room
pub record Comes (old piece window : List ℕ) : Type 0 where
  pub rest : List ℕ
  pub is_part : IsPart old
  pub some : 0 < length piece
  pub joined : piece ≡ window ++ rest
  pub room : length window ≡ min (entry_room - length old) (length piece)

pub comes : (old piece window rest : List ℕ) (held count : ℕ) → IsPart old → 0 < length piece → held ≡ length old → count ≡ min (entry_room - held) (length piece) → length window ≡ count → piece ≡ window ++ rest
    → Comes old piece window
comes old piece window rest held count is_part some len room is joined = record {
  rest = rest;
  is_part = is_part;
  some = some;
  joined = joined;
  room = rw (← len) (is ∙ room);
}

pub window_some : (old piece window : List ℕ) → Comes old piece window → 0 < length window
window_some old piece window c = omega (arith, part_within old c.is_part, c.room, c.some)

pub window_fits : (old piece window : List ℕ) → Comes old piece window → length old + length window ≤ entry_room
window_fits old piece window c = omega (arith, part_within old c.is_part, c.room)

pub is_longer : (count : ℕ) (old window : List ℕ) (front : Front) → IsPart old → front ≡ front_at count (old ++ window) → IsLonger (length old) front
is_longer count old window (Whole n) is_part e = omega (arith, part_longer count n old window is_part (sym e))
is_longer count old window Part is_part e = tt
is_longer count old window (Refused reason offset) is_part e = tt

pub taken_within : (count : ℕ) (old window : List ℕ) (front : Front) → front ≡ front_at count (old ++ window) → taken_of (length old) (length window) front ≤ length window
taken_within count old window (Whole n) e = omega (arith, (front_whole count n (old ++ window) (sym e)).0, length-append old window)
taken_within count old window Part e = omega arith
taken_within count old window (Refused reason offset) e = omega arith

-- a fault is at most at the end of the octets
refused_within : (count : ℕ) (octets : List ℕ) (reason : FeedReason) (offset : ℕ) → IsRestFault count octets reason offset → offset ≤ length octets
refused_within count [] reason offset h = absurd h
refused_within count (first ∷ more) feed.TooManyEntries offset h = omega (arith, h.1)
refused_within count (first ∷ more) feed.BadEnd offset h = omega (arith, h.3)
refused_within count (first ∷ more) (feed.Element reason) offset h = omega (arith, h.2.1, walk_fault_within more reason h.2.0 h.2.2)
refused_within count (first ∷ more) feed.CutRecord offset h = omega (arith, h.3)
refused_within count (first ∷ more) feed.BadHexLine offset h = absurd h
refused_within count (first ∷ more) feed.Read offset h = absurd h
refused_within count (first ∷ more) feed.Memory offset h = absurd h

begins_as : (count n : ℕ) (old window new : List ℕ) (front : Front) → count ≤ entry_limit → front ≡ front_at count (old ++ window) → IsLonger (length old) front
    → n ≡ taken_of (length old) (length window) front → new ≡ old ++ take n window → BeginsAs count new front
begins_as count n old window new (Whole k) within e long is grown =
    let there = front_whole count k (old ++ window) (sym e) in
    let at : k ≡ length old + n = omega (arith, long, is) in
    let all : take k (old ++ window) ≡ new = ap (λ (i : ℕ). take i (old ++ window)) at ∙ take-append-add old window n ∙ sym grown in
    (subst IsWhole all there.2, omega (arith, within, there.3))
begins_as count n old window new Part within e long is grown =
    let all : old ++ window ≡ new = sym (grown ∙ ap (λ (x : List ℕ). old ++ x) (take_all n window (omega (arith, is)))) in
    let there = front_part count new (sym (ap (front_at count) all) ∙ sym e) in
    (there.0, λ some. omega (arith, within, there.1 some))
begins_as count n old window new (Refused reason offset) within e long is grown =
    let all : old ++ window ≡ new = sym (grown ∙ ap (λ (x : List ℕ). old ++ x) (take_all n window (omega (arith, is)))) in
    let there = front_refused count offset new reason within (sym (ap (front_at count) all) ∙ sym e) in
    (there.0, there.1, refused_within count new reason offset there.0)

all_taken : (count n : ℕ) (old piece window : List ℕ) (front : Front) → Comes old piece window → front ≡ front_at count (old ++ window)
    → n ≡ taken_of (length old) (length window) front → front ≡ Part → n ≡ length piece
all_taken count n old piece window (Whole k) c e is part = absurd cc
all_taken count n old piece window Part c e is part =
    omega (arith, is, c.room, (front_part count (old ++ window) (sym e)).2, length-append old window)
all_taken count n old piece window (Refused reason offset) c e is part = absurd cc

pub is_taken : (count n : ℕ) (old piece window new : List ℕ) (front : Front) → Comes old piece window → count ≤ entry_limit → front ≡ front_at count (old ++ window)
    → n ≡ taken_of (length old) (length window) front → new ≡ old ++ take n window → IsTaken count old piece new front n
is_taken count n old piece window new front c within e is grown =
    let few : n ≤ length window = omega (arith, is, taken_within count old window front e) in
    let same : take n piece ≡ take n window = ap (take n) c.joined ∙ take-append-le n window c.rest few in
    record {
      most = omega (arith, few, ap length c.joined, length-append window c.rest);
      grown = grown ∙ ap (λ (x : List ℕ). old ++ x) (sym same);
      few = omega (arith, few, window_fits old piece window c, ap length grown, length-append old (take n window), length-take-le n window few);
      begins = begins_as count n old window new front within e (is_longer count old window front c.is_part e) is grown;
      all = all_taken count n old piece window front c e is;
    }
