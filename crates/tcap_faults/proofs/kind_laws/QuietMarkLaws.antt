-- No half is open at a quiet mark.
use Rattle.std.proofs.Common.{◌≡◌, ◌⊎◌, inl, inr, ℕ, Bool, true, false, cond, List, [], ◌∷◌, ◌++◌, Option, Some, None, Ok, option_map, refl, sym, ap, ◌∙◌, arith}
use Rattle.std.specs.Prelude.{◌&&◌}
use Rattle.std.specs.Map.{lookup}
use Rattle.std.specs.BTreeMap.{is_at}
use Rattle.std.specs.Result.{result_ok}
use Rattle.std.proofs.lemmas.Bool.{and_parts, both_ways}
use Rattle.std.proofs.lemmas.List.{append-nil}
use Rattle.tcap_msg.specs.declared.kind.Kind.TheVariants as forms
use Rattle.tcap_msg.specs.declared.message.Message.{Message}
use Rattle.tcap_msg.specs.Parts.{otid_in}
use Rattle.tcap_record.specs.declared.entry.End.{End as Side}
use Rattle.tcap_record.specs.declared.entry.End.TheVariants as sides
use Rattle.tcap_end.specs.declared.fault.EndFault.TheVariants as faults
use Rattle.tcap_end.specs.declared.half.Slot.{Slot}
use Rattle.tcap_end.specs.declared.half.Slot.TheVariants.{Begun, Accepted}
use Rattle.tcap_end.specs.Step.{needs, ◌>>◌}
use Rattle.tcap_end.specs.Table.{Table, octets_cmp}
use Rattle.tcap_end.specs.Half.{Half, is_closed}
use Rattle.tcap_end.specs.End.{End, KeyedHalf, all_closed, nothing}
use Rattle.tcap_end.specs.ReachableEnd.{HasHalf}
use Rattle.tcap_model.specs.World.{Item, MessageInTransit, Sent, World, end_at}
use Rattle.tcap_model.specs.Run.{Adds, Event, Sends, Replies, Quiet, Tells, KeepsRules, Runs, after, after_quiet, option_then}
use Rattle.tcap_model.proofs.RunLaws.{grows, runs_keep}
use Rattle.tcap_refute.specs.EarlierMessages.{is_a, sent_by, since_quiet}
use Rattle.tcap_refute.proofs.MomentLaws.{kept_before, last_or_before}
use Rattle.tcap_faults.specs.Fault.{is_left_open, is_open_at_mark}
use Rattle.tcap_faults.specs.ClosedHalves.{is_surely_open}
use Rattle.tcap_faults.proofs.list_laws.FindLaws.{any_is}
use Rattle.tcap_faults.proofs.view_laws.ActiveHalfLaws.{surely_open}
use Rattle.tcap_faults.proofs.view_laws.ViewLaws.{View, view_of}

-- ---- an end at a quiet mark

-- All its halves are closed.
closed_found : (es : List (List ℕ × Half)) (test : List ℕ → Bool) (h : Half) → all_closed es ≡ true
    → lookup test es ≡ Some h → is_closed h.phase ≡ true
closed_found [] test h closed found = cc
closed_found ((key, half) ∷ more) test h closed found = grind (arith, closed, found, closed_found more test h)

closed_in : (e : End) → (all_closed e.begun && all_closed e.accepted) ≡ true → (f : KeyedHalf) → HasHalf e f
    → is_closed f.half.phase ≡ true
closed_in e closed f had = by f.slot f.key f.half had
  where
    both : (all_closed e.begun ≡ true) × (all_closed e.accepted ≡ true)
    both = and_parts (all_closed e.begun) (all_closed e.accepted) closed

    by : (slot : Slot) (key : List ℕ) (h : Half) → HasHalf e (record { slot = slot; key = key; half = h })
        → is_closed h.phase ≡ true
    by Begun key h had = closed_found e.begun (is_at (octets_cmp key)) h both.0 had
    by Accepted key h had = closed_found e.accepted (is_at (octets_cmp key)) h both.1 had

-- All halves of both ends are closed.
both_closed : (a b : Bool) (x : World) (items : List Item)
    → option_then (result_ok (needs a faults.StillOpen >> Ok nothing))
    (λ p. option_map (λ q. record { a = p; b = q; from_a = []; from_b = []; sent = items })
    (result_ok (needs b faults.StillOpen >> Ok nothing))) ≡ Some x
    → (a ≡ true) × (b ≡ true)
both_closed true true x items is = (refl, refl)
both_closed true false x items is = cc
both_closed false b x items is = cc

mark_closed : (table : Table) (w next : World) → after table Quiet w ≡ Some next → (side : Side)
    → (all_closed (end_at side w).begun && all_closed (end_at side w).accepted) ≡ true
mark_closed table w next is side = by side (ends w.from_a w.from_b is)
  where
    quiet_a : Bool
    quiet_a = all_closed w.a.begun && all_closed w.a.accepted

    quiet_b : Bool
    quiet_b = all_closed w.b.begun && all_closed w.b.accepted

    ends : (a b : List MessageInTransit) → after_quiet (record w { from_a = a; from_b = b }) ≡ Some next
        → (quiet_a ≡ true) × (quiet_b ≡ true)
    ends [] [] is = both_closed quiet_a quiet_b next (w.sent ++ Item.Quiet ∷ []) is
    ends [] (m ∷ b) is = cc
    ends (m ∷ a) b is = cc

    by : (side : Side) → (quiet_a ≡ true) × (quiet_b ≡ true)
        → (all_closed (end_at side w).begun && all_closed (end_at side w).accepted) ≡ true
    by sides.A both = both.0
    by sides.B both = both.1

-- ---- a mark

-- Whether a message is a Continue from an own ID whose half is surely open.
abbrev is_sure_at : Table → Side → List Item → Option (List ℕ) → Bool
is_sure_at table side items None = false
is_sure_at table side items (Some own) = is_surely_open table side items own

abbrev goes_on_sure : Table → Side → List Item → Message → Bool
goes_on_sure table side items m = is_a forms.Continue m && is_sure_at table side items (otid_in m)

-- No half is surely open at a mark.
none_open : {table : Table} {side : Side} {e : End} {coming : List Message} {items : List Item}
    → View table side e coming items → (all_closed e.begun && all_closed e.accepted) ≡ true
    → is_open_at_mark table side items ≡ true → ⊥
none_open {table} {side} {e} {coming} {items} view closed is =
    let (m, has, left) = any_is (is_left_open table side items) (sent_by side items) is in
    by (otid_in m) (and_parts (is_a forms.Continue m) _ (and_parts (goes_on_sure table side items m) _ left).0).1
  where
    by : (o : Option (List ℕ)) → is_sure_at table side items o ≡ true → ⊥
    by None sure = cc
    by (Some own) sure =
        let (f, had, mine, active) = surely_open view own sure in
        let open_one : is_closed f.half.phase ≡ false = rw active refl in
        both_ways (is_closed f.half.phase) open_one (closed_in e closed f had)

-- ---- along a run

abbrev HasNoOpen : Table → Side → List Event → World → Type 0
HasNoOpen table side events w =
    KeepsRules side events → (front behind : List Item) → w.sent ≡ front ++ Item.Quiet ∷ behind
    → is_open_at_mark table side (since_quiet front) ≡ true → ⊥

-- One more step.
module _ (table : Table) (side : Side) (before : List Event) (w next : World) (runs : Runs table before w)
    (had : HasNoOpen table side before w) (kept : KeepsRules side before) (front behind : List Item)
    (sent : next.sent ≡ front ++ Item.Quiet ∷ behind)
    (is : is_open_at_mark table side (since_quiet front) ≡ true) where
  none_more : next.sent ≡ w.sent ++ [] → ⊥
  none_more same = had kept front behind (sym (append-nil w.sent) ∙ sym same ∙ sent) is

  one_more : (item : Item) → next.sent ≡ w.sent ++ item ∷ []
      → (item ≡ Item.Quiet → is_open_at_mark table side (since_quiet w.sent) ≡ true → ⊥) → ⊥
  one_more item same now = by (last_or_before item Item.Quiet w.sent front behind (sym same ∙ sent))
    where
      by : ((item ≡ Item.Quiet) × (w.sent ≡ front)) ⊎ ((rest : List Item) × (w.sent ≡ front ++ Item.Quiet ∷ rest)) → ⊥
      by (inl (last, all)) = now last (rw all is)
      by (inr (rest, all)) = had kept front rest all is

  by_step : (event : Event) → after table event w ≡ Some next → ⊥
  by_step event step = let (items, adds, same) = grows table event w next step in by event step items adds same
    where
      by : (event : Event) → after table event w ≡ Some next → (items : List Item) → Adds w event items
          → next.sent ≡ w.sent ++ items → ⊥
      by (Sends sender m) step items adds same =
          one_more (Sent sender m) (same ∙ ap (λ more. w.sent ++ more) adds) (λ last. cc)
      by (Replies replier number) step items (head, more, abort, channel, at, refused, adds) same =
          one_more (Sent replier abort) (same ∙ ap (λ more. w.sent ++ more) adds) (λ last. cc)
      by (Tells teller m) step items adds same =
          one_more (Sent teller m) (same ∙ ap (λ more. w.sent ++ more) adds) (λ last. cc)
      by Quiet step items adds same =
          one_more Item.Quiet (same ∙ ap (λ more. w.sent ++ more) adds)
          (λ last. none_open (view_of table side before w runs kept) (mark_closed table w next step side))
      by event step items adds same = none_more (same ∙ ap (λ more. w.sent ++ more) adds)

none_at_first : {P : Type 0} (front behind : List Item) → [] ≡ front ++ Item.Quiet ∷ behind → P
none_at_first [] behind is = cc
none_at_first (item ∷ front) behind is = cc

-- At no quiet mark of a run is a half of an end that keeps the rules surely open.
pub no_open_mark : (table : Table) (events : List Event) (w : World) (before behind : List Item) (side : Side)
    → Runs table events w → KeepsRules side events → w.sent ≡ before ++ Item.Quiet ∷ behind
    → is_open_at_mark table side (since_quiet before) ≡ true → ⊥
no_open_mark table events w before behind side runs keeps sent is =
    runs_keep table (HasNoOpen table side) (λ keeps front behind sent is. none_at_first front behind sent)
    (λ earlier event v next ran step had keeps front behind sent is.
    let (kept, outgoing) = kept_before side earlier event keeps in
    by_step table side earlier v next ran had kept front behind sent is event step)
    events w runs keeps before behind sent is
