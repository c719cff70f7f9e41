-- An act of an end is one of its part, or changes nothing of it.
use Rattle.std.proofs.Common.{◌≡◌, ℕ, ℤ, Bool, true, false, List, [], ◌∷◌, ◌++◌, length, Some, Ok, refl, sym, ap, subst, ◌∙◌, append_assoc}
use Rattle.std.specs.Prelude.{slice_get}
use Rattle.std.specs.List.{AllByRecursion}
use Rattle.tcap_msg.specs.declared.message.Message.{Message}
use Rattle.tcap_msg.specs.declared.message.Message.TheVariants.{Unidirectional, Begin, Continue, End as EndMessage, Abort}
use Rattle.tcap_msg.specs.Parts.{dtid_in, otid_in}
use Rattle.tcap_record.specs.declared.entry.End.{End as Side}
use Rattle.tcap_end.specs.declared.half.HalfName.{HalfName}
use Rattle.tcap_end.specs.Table.{Table}
use Rattle.tcap_end.specs.End.{End}
use Rattle.tcap_end.specs.Message.{receive, send}
use Rattle.tcap_end.specs.HiddenSteps.{close, expire}
use Rattle.tcap_end.specs.ReachableEnd.{IsEnd}
use Rattle.tcap_record.specs.Ends.{other}
use Rattle.tcap_model.specs.World.{Item, MessageInTransit, Sent}
use Rattle.tcap_model.specs.Run.{abort_for, may_refuse, provider_abort, reply_to, only_if}
use Rattle.tcap_model.proofs.RunLaws.{some_is, then_some, where_some}
use Rattle.tcap_dialogues.specs.Part.{part_of}
use Rattle.tcap_model.proofs.Acts.{Acts, Says, Hears, Refuses, Misses, Drops, Shuts, Told, Marked, Stays, Seen, newest}
use Rattle.tcap_dialogues.proofs.Views.{same_seen}
use Rattle.tcap_dialogues.proofs.PartLists.{get_next, kept_more, kept_none, kept_of, part_kept, part_left, part_quiet, place_next, place_of}
use Rattle.tcap_dialogues.proofs.InsideLaws.{Matches, Thins, inside, named_in, nothing_matches}
use Rattle.tcap_dialogues.proofs.SendLaws.{Fits, send_thins}
use Rattle.tcap_dialogues.proofs.ReceiveLaws.{close_thins, expire_thins, quiet_thins, receive_thins, reply_same}

-- A provider's Abort goes to the ID from which the message came.
abort_to : (m abort : Message) → abort_for m ≡ Some abort → (id : List ℕ) × (otid_in m ≡ Some id) × (dtid_in abort ≡ Some id)
abort_to (Unidirectional dialogue components) abort is = cc
abort_to (Begin otid dialogue components) abort is = let same : provider_abort otid 4 ≡ abort = cc in (otid, refl, rw (← same) refl)
abort_to (Continue otid dtid dialogue components) abort is = let same : provider_abort otid 1 ≡ abort = cc in (otid, refl, rw (← same) refl)
abort_to (EndMessage dtid dialogue components) abort is = cc
abort_to (Abort dtid reason) abort is = cc

-- So does a provider's answer.
reply_goes : (e : End) (m abort : Message) → reply_to e m ≡ Some abort → (id : List ℕ) × (otid_in m ≡ Some id) × (dtid_in abort ≡ Some id)
reply_goes e m abort is =
    let (found, answers, step) = then_some (abort_for m) (λ x. only_if (may_refuse e m x) (Some x)) abort is in
    let same = some_is ((where_some (may_refuse e m found) (Some found) abort step).1) in
    abort_to m abort (answers ∙ ap Some same)

-- the part of a view
abbrev pub part : (ℕ → Bool) → (List ℕ → Bool) → (List ℕ → Bool) → List Item → Seen → Seen
part keeps own peer all s =
    record { at = inside own peer s.at; coming = kept_of keeps (place_of keeps all) s.coming; sent = part_of keeps 0 s.sent }

-- A message in transit to an end is in the list.
abbrev pub IsListed : Side → List Item → MessageInTransit → Type 0
IsListed side all m = slice_get all m.number ≡ Some (Sent (other side) m.message)

-- The act is one of the part, and the IDs of each half agree after it.
pub record PartActs (table : Table) (side : Side) (keeps : ℕ → Bool) (own peer : List ℕ → Bool) (all : List Item) (s t : Seen) : Type 0 where
  pub acts : Acts table side (part keeps own peer all s) (part keeps own peer all t)
  pub matches : Matches own peer t.at

module _ (table : Table) (side : Side) (keeps : ℕ → Bool) (own peer : List ℕ → Bool) (all : List Item)
    (fit : (i : ℕ) (m : Message) → slice_get all i ≡ Some (Sent side m) → Fits own peer (keeps i) m)
    (came : (i : ℕ) (m : Message) → slice_get all i ≡ Some (Sent (other side) m) → Fits peer own (keeps i) m)
    (s : Seen) (sound : IsEnd s.at) (matches : Matches own peer s.at) where
  -- the act leads from this view to that one
  abbrev Happens : Seen → Type 0
  Happens t = PartActs table side keeps own peer all s t

  -- the act of the part
  abbrev Passes : Seen → Type 0
  Passes t = Acts table side (part keeps own peer all s) (part keeps own peer all t)

  -- a sending
  part_says : (m : Message) (made : End) (rest : List Item) → send table s.at m ≡ Ok made
      → (s.sent ++ Sent side m ∷ []) ++ rest ≡ all → Happens (record s { at = made; sent = s.sent ++ Sent side m ∷ [] })
  part_says m made rest step is = record { acts = by (keeps (length s.sent)) refl thins; matches = thins.matches }
    where
      thins : Thins own peer (keeps (length s.sent)) (λ x. send table x m) s.at made
      thins = send_thins own peer table s.at (keeps (length s.sent)) sound matches made m
          (fit (length s.sent) m (rw (← is) (get_next s.sent rest (Sent side m)))) step

      by : (k : Bool) → keeps (length s.sent) ≡ k → Thins own peer (keeps (length s.sent)) (λ x. send table x m) s.at made
          → Passes (record s { at = made; sent = s.sent ++ Sent side m ∷ [] })
      by true so thins = Says m (inside own peer made) (thins.kept so) (same_seen refl refl (part_kept keeps side m s.sent so))
      by false so thins = Stays (same_seen (thins.apart so) refl (part_left keeps side m s.sent so))

  -- a delivery
  part_hears : (head : MessageInTransit) (more : List MessageInTransit) (made : End) → s.coming ≡ head ∷ more → IsListed side all head
      → receive table s.at head.message ≡ Ok made → Happens (record s { at = made; coming = more })
  part_hears head more made was listed step = record { acts = by (keeps head.number) refl thins; matches = thins.matches }
    where
      thins : Thins own peer (keeps head.number) (λ x. receive table x head.message) s.at made
      thins = receive_thins own peer table s.at (keeps head.number) sound matches made head.message (came head.number head.message listed) step

      by : (k : Bool) → keeps head.number ≡ k → Thins own peer (keeps head.number) (λ x. receive table x head.message) s.at made
          → Passes (record s { at = made; coming = more })
      by true so thins = Hears (record { number = place_of keeps all head.number; message = head.message })
          (kept_of keeps (place_of keeps all) more) (inside own peer made) (rw (was, so) refl) (thins.kept so) refl
      by false so thins = Stays (same_seen (thins.apart so) (rw (was, so) refl) refl)

  -- a provider's reply
  part_refuses : (head : MessageInTransit) (more : List MessageInTransit) (abort : Message) (rest : List Item) → s.coming ≡ head ∷ more → IsListed side all head
      → reply_to s.at head.message ≡ Some abort → (s.sent ++ Sent side abort ∷ []) ++ rest ≡ all
      → Happens (record s { coming = more; sent = s.sent ++ Sent side abort ∷ [] })
  part_refuses head more abort rest was listed step is = record { acts = by (keeps head.number) refl; matches = matches }
    where
      together : keeps (length s.sent) ≡ keeps head.number
      together =
          let (id, from, to) = reply_goes s.at head.message abort step in
          sym ((fit (length s.sent) abort (rw (← is) (get_next s.sent rest (Sent side abort)))).destination id to)
          ∙ (came head.number head.message listed).origin id from

      by : (k : Bool) → keeps head.number ≡ k
          → Passes (record s { coming = more; sent = s.sent ++ Sent side abort ∷ [] })
      by true so = Refuses (record { number = place_of keeps all head.number; message = head.message })
          (kept_of keeps (place_of keeps all) more) abort (rw (was, so) refl)
          (reply_same own peer s.at sound matches head.message (subst (λ k. Fits peer own k head.message) so (came head.number head.message listed)) ∙ step)
          (same_seen refl refl (part_kept keeps side abort s.sent (together ∙ so)))
      by false so = Stays (same_seen refl (rw (was, so) refl) (part_left keeps side abort s.sent (together ∙ so)))

  -- a loss
  part_misses : (head : MessageInTransit) (more : List MessageInTransit) → s.coming ≡ head ∷ more → Happens (record s { coming = more })
  part_misses head more was = record { acts = by (keeps head.number) refl; matches = matches }
    where
      by : (k : Bool) → keeps head.number ≡ k → Passes (record s { coming = more })
      by true so = Misses (record { number = place_of keeps all head.number; message = head.message })
          (kept_of keeps (place_of keeps all) more) (rw (was, so) refl) refl
      by false so = Stays (same_seen refl (rw (was, so) refl) refl)

  -- a message of the other end
  part_told : (m : Message) (rest : List Item) → (s.sent ++ Sent (other side) m ∷ []) ++ rest ≡ all
      → Happens (record s { coming = s.coming ++ newest s.sent m ∷ []; sent = s.sent ++ Sent (other side) m ∷ [] })
  part_told m rest is = record { acts = by (keeps (length s.sent)) refl; matches = matches }
    where
      number : place_of keeps all (length s.sent) ≡ length (part_of keeps 0 s.sent)
      number = place_next keeps all s.sent (Sent (other side) m ∷ rest) (sym (append_assoc s.sent (Sent (other side) m ∷ []) rest) ∙ is)

      by : (k : Bool) → keeps (length s.sent) ≡ k
          → Passes (record s { coming = s.coming ++ newest s.sent m ∷ []; sent = s.sent ++ Sent (other side) m ∷ [] })
      by true so = Told m (same_seen refl
          (kept_more keeps (place_of keeps all) s.coming (newest s.sent m) so
          ∙ ap (λ n. kept_of keeps (place_of keeps all) s.coming ++ record { number = n; message = m } ∷ []) number)
          (part_kept keeps (other side) m s.sent so))
      by false so = Stays (same_seen refl (kept_none keeps (place_of keeps all) s.coming (newest s.sent m) so) (part_left keeps (other side) m s.sent so))

  -- an expiry
  part_drops : (name : HalfName) (id : ℤ) (made : End) → expire table s.at name id ≡ Ok made → Happens (record s { at = made })
  part_drops name id made step = record { acts = by (named_in own peer name) refl thins; matches = thins.matches }
    where
      thins : Thins own peer (named_in own peer name) (λ x. expire table x name id) s.at made
      thins = expire_thins own peer table s.at (named_in own peer name) sound matches made name id refl step

      by : (k : Bool) → named_in own peer name ≡ k → Thins own peer (named_in own peer name) (λ x. expire table x name id) s.at made
          → Passes (record s { at = made })
      by true so thins = Drops name id (inside own peer made) (thins.kept so) refl
      by false so thins = Stays (same_seen (thins.apart so) refl refl)

  -- a closing
  part_shuts : (name : HalfName) (made : End) → close table s.at name ≡ Ok made → Happens (record s { at = made })
  part_shuts name made step = record { acts = by (named_in own peer name) refl thins; matches = thins.matches }
    where
      thins : Thins own peer (named_in own peer name) (λ x. close table x name) s.at made
      thins = close_thins own peer table s.at (named_in own peer name) sound matches made name refl step

      by : (k : Bool) → named_in own peer name ≡ k → Thins own peer (named_in own peer name) (λ x. close table x name) s.at made
          → Passes (record s { at = made })
      by true so thins = Shuts name (inside own peer made) (thins.kept so) refl
      by false so thins = Stays (same_seen (thins.apart so) refl refl)

  -- Each act of an end is one of its part, or changes nothing of it.
  pub part_acts : (t : Seen) (rest : List Item) → AllByRecursion (IsListed side all) s.coming → t.sent ++ rest ≡ all → Acts table side s t → Happens t
  part_acts t rest listed is (Says m made step t_is) = rw t_is (part_says m made rest step (rw t_is at is))
  part_acts t rest listed is (Hears head more made was step t_is) = rw t_is (part_hears head more made was ((rw was at listed).0) step)
  part_acts t rest listed is (Refuses head more abort was step t_is) =
      rw t_is (part_refuses head more abort rest was ((rw was at listed).0) step (rw t_is at is))
  part_acts t rest listed is (Misses head more was t_is) = rw t_is (part_misses head more was)
  part_acts t rest listed is (Drops name id made step t_is) = rw t_is (part_drops name id made step)
  part_acts t rest listed is (Shuts name made step t_is) = rw t_is (part_shuts name made step)
  part_acts t rest listed is (Told m t_is) = rw t_is (part_told m rest (rw t_is at is))
  part_acts t rest listed is (Marked none quiet_is t_is) = rw t_is (record {
    acts = Marked (rw none refl) (quiet_thins own peer s.at quiet_is) (same_seen refl refl (part_quiet keeps 0 s.sent));
    matches = nothing_matches own peer;
  })
  part_acts t rest listed is (Stays t_is) = rw t_is (record { acts = Stays refl; matches = matches })
