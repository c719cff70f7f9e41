-- What blaming an entry on an end implies for all runs.
use Rattle.std.proofs.Common.{◌≡◌, inl, inr, Bool, true, false, cond, ℕ, zero, suc, ◌+◌, ◌-◌, arith, List, [], ◌∷◌, ◌++◌, map, length, slice_get, Option, Some, None, Result, Ok, Err, not, refl, sym, ap, subst, ◌∙◌}
use Rattle.std.specs.Option.{option_or}
use Rattle.std.specs.Prelude.{◌&&◌}
use Rattle.std.specs.List.{find}
use Rattle.std.proofs.lemmas.Bool.{and_parts}
use Rattle.std.proofs.lemmas.List.{append_assoc, length-append, map-append}
use Rattle.tcap_ber.specs.declared.fault.Fault.{Fault}
use Rattle.tcap_ber.specs.Element.{IsRaw}
use Rattle.tcap_msg.specs.declared.message.Message.{Message}
use Rattle.tcap_msg.specs.Message.{Spells}
use Rattle.tcap_record.specs.declared.entry.Body.{Body}
use Rattle.tcap_record.specs.declared.entry.Body.TheVariants.{Bad}
use Rattle.tcap_record.specs.declared.entry.End.{End as Side}
use Rattle.tcap_record.specs.declared.entry.Entry.{Entry}
use Rattle.tcap_record.specs.RecordOctets.{Framed, FramedFrom, IsEntry, octet_of, quiet_octet}
use Rattle.tcap_end.specs.Table.{Table}
use Rattle.tcap_model.specs.declared.reason.Reason.{Reason}
use Rattle.tcap_model.specs.declared.reason.Reason.TheVariants as reasons
use Rattle.tcap_model.specs.World.{Item, Sent, is_side}
use Rattle.tcap_model.specs.Entries.{item_by, item_of}
use Rattle.tcap_model.proofs.RunLaws.{same_side}
use Rattle.tcap_refute.specs.declared.kind.Kind.{Kind}
use Rattle.tcap_refute.specs.declared.kind.Kind.TheVariants as kinds
use Rattle.tcap_refute.specs.declared.kind.Refutation.{Refutation}
use Rattle.tcap_refute.specs.EarlierMessages.{since_quiet}
use Rattle.tcap_refute.specs.Kind.{kind_of_reason, refutation_at}
use Rattle.tcap_refute.specs.FirstKinds.{first_kinds}
use Rattle.tcap_refute.proofs.RefutedLaws.{bad_reason, found_so, oks}
use Rattle.tcap_faults.specs.BlameMeaning.{HasNoMessage, IsAtFaultOf, IsBadEntryOf}
use Rattle.tcap_faults.specs.Fault.{bad_entry_of, blamed, blamed_after, fault_since, further_kinds, is_fault, is_open_at_mark}
use Rattle.tcap_record.specs.Ends.{is_entry_of}
use Rattle.tcap_faults.specs.UsedAgain.{has_used_again}
use Rattle.tcap_faults.proofs.kind_laws.QuietMarkLaws.{no_open_mark}
use Rattle.tcap_faults.proofs.kind_laws.FaultLaws.{none_at_fault}

abbrev pairs : List Entry → List (Option Side × Result Item Reason)
pairs entries = map (λ e. (e.side, item_of e)) entries

made_by : (entry : ℕ) (kind : Kind) (r : Refutation)
    → refutation_at entry (Some kind) ≡ Some r → (entry ≡ r.entry) × (kind ≡ r.kind)
made_by entry kind r is =
    let made : (let x : Refutation = record { entry = entry; kind = kind } in x) ≡ r = cc in
    (ap (λ (x : Refutation). x.entry) made, ap (λ (x : Refutation). x.kind) made)

-- The element after a list is at its length.
there_behind : (front : List Entry) (e : Entry) (more : List Entry) → slice_get (front ++ e ∷ more) (length front) ≡ Some e
there_behind [] e more = refl
there_behind (first ∷ front) e more = there_behind front e more

as_long : (front : List Entry) (before : List Item) → map item_of front ≡ oks before → length front ≡ length before
as_long [] [] is = refl
as_long [] (item ∷ before) is = cc
as_long (e ∷ front) [] is = cc
as_long (e ∷ front) (item ∷ before) is = ap suc (as_long front before cc)

-- Octets that are no message belong to a bad entry.
bad_body : (side : Option Side) (body : Body) (fault : Fault) → item_by side body ≡ Err (reasons.BadMessage fault)
    → body ≡ Bad fault
bad_body side (Bad f) fault is = let same : f ≡ fault = cc in ap Bad same
bad_body None body fault is = cc
bad_body (Some s) body fault is = cc

-- The entry is of this end.
of_end : (side : Side) (sender : Option Side) → is_entry_of side sender ≡ true → sender ≡ Some side
of_end side sender is = grind (arith, is)

module _ (table : Table) (side : Side) (r : Refutation) (front : List Entry) (e : Entry) (more : List Entry)
    (before : List Item) (fronts : map item_of front ≡ oks before) where
  -- The meanings of all entries.
  joined : (x : Result Item Reason) → item_of e ≡ x
      → map item_of (front ++ e ∷ more) ≡ oks before ++ x ∷ map item_of more
  joined x is = map-append item_of front (e ∷ more) ∙ rw (fronts, is) refl

  counted : (kind : Kind) → refutation_at (length before) (Some kind) ≡ Some r → length before ≡ r.entry
  counted kind is = (made_by (length before) kind r is).0

  -- The entry is no item.
  of_bad : (reason : Reason) → item_of e ≡ Err reason
      → refutation_at (length before) (bad_entry_of side e.side reason) ≡ Some r
      → IsAtFaultOf table side (front ++ e ∷ more) r
  of_bad reason read is = by (is_entry_of side e.side) refl is
    where
      with_kind : is_entry_of side e.side ≡ true → (o : Option Kind) → kind_of_reason reason ≡ o
          → refutation_at (length before) o ≡ Some r → IsAtFaultOf table side (front ++ e ∷ more) r
      with_kind mine None named is = cc
      with_kind mine (Some kind) named is =
          let (entry_is, kind_is) = made_by (length before) kind r is in
          let (bad, fault, of, no_limit) = bad_reason reason kind named in
          inl (
            sym kind_is ∙ bad,
            record {
              entry = e;
              fault = fault;
              there = subst (λ (n : ℕ). slice_get (front ++ e ∷ more) n ≡ Some e)
                  (as_long front before fronts ∙ entry_is) (there_behind front e more);
              side_is = of_end side e.side mine;
              body_is = bad_body e.side e.body fault
                  (read ∙ ap (λ (x : Reason). let o : Result Item Reason = Err x in o) of);
              no_limit = no_limit;
            },
          )

      by : (b : Bool) → is_entry_of side e.side ≡ b
          → refutation_at (length before) (cond b (kind_of_reason reason) None) ≡ Some r
          → IsAtFaultOf table side (front ++ e ∷ more) r
      by true mine is = with_kind mine (kind_of_reason reason) refl is
      by false other is = cc

  -- The entry is a message: it has the fault, or an entry after it has.
  of_message : (sender : Side) (message : Message) → item_of e ≡ Ok (Sent sender message) → (later : Option Refutation)
      → (later ≡ Some r → IsAtFaultOf table side (front ++ e ∷ more) r)
      → option_or (refutation_at (length before) (fault_since table side (since_quiet before) (Sent sender message))) later ≡ Some r
      → IsAtFaultOf table side (front ++ e ∷ more) r
  of_message sender message read later on is =
      by (is_side side sender && not (has_used_again table side (since_quiet before ++ Sent sender message ∷ []))) refl is
    where
      found : (o : Option Kind) → is_side side sender ≡ true
          → find (is_fault table side (since_quiet before) message) (first_kinds ++ further_kinds) ≡ o
          → option_or (refutation_at (length before) o) later ≡ Some r → IsAtFaultOf table side (front ++ e ∷ more) r
      found None mine named is = on is
      found (Some kind) mine named is =
          let same : side ≡ sender = same_side side sender mine in
          let so = found_so (is_fault table side (since_quiet before) message) (first_kinds ++ further_kinds) kind named in
          inr (inl (record {
            before = before;
            message = message;
            more = map item_of more;
            are = joined (Ok (Sent side message)) (read ∙ rw same refl);
            counted = counted kind is;
            has_kind =
                subst (λ (k : Kind). is_fault table side (since_quiet before) message k ≡ true)
                (made_by (length before) kind r is).1 so;
            unsendable = λ events w behind runs keeps sent.
                none_at_fault table events w before behind side message kind runs keeps sent so;
          }))

      by : (b : Bool)
          → (is_side side sender && not (has_used_again table side (since_quiet before ++ Sent sender message ∷ []))) ≡ b
          → option_or (refutation_at (length before)
          (cond b (find (is_fault table side (since_quiet before) message) (first_kinds ++ further_kinds)) None)) later ≡ Some r
          → IsAtFaultOf table side (front ++ e ∷ more) r
      by true mine is =
          found (find (is_fault table side (since_quiet before) message) (first_kinds ++ further_kinds))
          (and_parts (is_side side sender) _ mine).0 refl is
      by false other is = on is

  of_mark : item_of e ≡ Ok Item.Quiet → (later : Option Refutation)
      → (later ≡ Some r → IsAtFaultOf table side (front ++ e ∷ more) r)
      → option_or (refutation_at (length before) (fault_since table side (since_quiet before) Item.Quiet)) later ≡ Some r
      → IsAtFaultOf table side (front ++ e ∷ more) r
  of_mark read later on is =
      by (not (has_used_again table side (since_quiet before)) && is_open_at_mark table side (since_quiet before)) refl is
    where
      by : (b : Bool)
          → (not (has_used_again table side (since_quiet before)) && is_open_at_mark table side (since_quiet before)) ≡ b
          → option_or (refutation_at (length before) (cond b (Some kinds.OpenAtMark) None)) later ≡ Some r
          → IsAtFaultOf table side (front ++ e ∷ more) r
      by true so is =
          let left = (and_parts (not (has_used_again table side (since_quiet before))) _ so).1 in
          inr (inr (record {
            before = before;
            more = map item_of more;
            are = joined (Ok Item.Quiet) read;
            counted = counted kinds.OpenAtMark is;
            has_kind = (sym (made_by (length before) kinds.OpenAtMark r is).1, left);
            none = λ events w behind runs keeps sent.
                no_open_mark table events w before behind side runs keeps sent left;
          }))
      by false so is = on is

-- If none of these items has a kind, the blamed entry after them is at fault.
of_behind : (table : Table) (side : Side) (r : Refutation) (front more : List Entry) (before : List Item)
    → map item_of front ≡ oks before → blamed_after table side before (length before) (pairs more) ≡ Some r
    → IsAtFaultOf table side (front ++ more) r
of_behind table side r front [] before fronts is = cc
of_behind table side r front (e ∷ more) before fronts is =
    by (item_of e) refl is (λ item. of_behind table side r (front ++ e ∷ []) more (before ++ item ∷ []))
  where
    on : (item : Item) → item_of e ≡ Ok item
        → (map item_of (front ++ e ∷ []) ≡ oks (before ++ item ∷ [])
        → blamed_after table side (before ++ item ∷ []) (length (before ++ item ∷ [])) (pairs more) ≡ Some r
        → IsAtFaultOf table side ((front ++ e ∷ []) ++ more) r)
        → blamed_after table side (before ++ item ∷ []) (length before + 1) (pairs more) ≡ Some r
        → IsAtFaultOf table side (front ++ e ∷ more) r
    on item read rest is =
        subst (λ (es : List Entry). IsAtFaultOf table side es r) (append_assoc front (e ∷ []) more)
        (rest (map-append item_of front (e ∷ []) ∙ rw (fronts, read) refl ∙ sym (map-append _ before (item ∷ [])))
        (rw (length-append before (item ∷ [])) is))

    by : (x : Result Item Reason) → item_of e ≡ x
        → blamed_after table side before (length before) ((e.side, x) ∷ pairs more) ≡ Some r
        → ((item : Item) → map item_of (front ++ e ∷ []) ≡ oks (before ++ item ∷ [])
        → blamed_after table side (before ++ item ∷ []) (length (before ++ item ∷ [])) (pairs more) ≡ Some r
        → IsAtFaultOf table side ((front ++ e ∷ []) ++ more) r)
        → IsAtFaultOf table side (front ++ e ∷ more) r
    by (Err reason) read is rest = of_bad table side r front e more before fronts reason read is
    by (Ok Item.Quiet) read is rest =
        of_mark table side r front e more before fronts read _ (on Item.Quiet read (rest Item.Quiet)) is
    by (Ok (Sent sender message)) read is rest =
        of_message table side r front e more before fronts sender message read _
        (on (Sent sender message) read (rest (Sent sender message))) is

pub blamed_at_fault : (table : Table) (side : Side) (entries : List Entry) (r : Refutation)
    → blamed table side entries ≡ Some r → IsAtFaultOf table side entries r
blamed_at_fault table side entries r is = of_behind table side r [] entries [] refl is

-- ---- octets that are no message

-- What is at this place of the octets, if they begin at `start` in the record.
record StandsFrom (start : ℕ) (side : Side) (place : ℕ) (octets : List ℕ) : Type 0 where
  front : List ℕ
  element : List ℕ
  behind : List ℕ
  joined : octets ≡ front ++ (octet_of side ∷ (element ++ behind))
  at : place ≡ start + length front + 1
  raw : IsRaw element
  none : (m : Message) → Spells m element → ⊥

module _ (side : Side) (fault : Fault) (entry : Entry) (side_is : entry.side ≡ Some side) (body_is : entry.body ≡ Bad fault) where
  first_none : (place : ℕ) (octets others : List ℕ) → IsEntry place entry octets others
      → StandsFrom place side entry.place octets
  first_none place octets others (inl sent) = record {
    front = [];
    element = sent.element;
    behind = others;
    joined = sent.joined ∙ ap (λ (s : Side). octet_of s ∷ (sent.element ++ others)) mine;
    at = let there = sent.place_is in omega arith;
    raw = sent.raw;
    none = (rw body_is at sent.body).0;
  }
    where
      mine : sent.side ≡ side
      mine = let both : Some sent.side ≡ Some side = sym sent.side_is ∙ side_is in cc
  first_none place octets others (inr mark) = let bad = sym mark.side_is ∙ side_is in cc

-- Octets in front move the place.
put_before : (start : ℕ) (side : Side) (place : ℕ) (front octets others : List ℕ) → octets ≡ front ++ others
    → StandsFrom (start + (length octets - length others)) side place others → StandsFrom start side place octets
put_before start side place front octets others is it = record {
  front = front ++ it.front;
  element = it.element;
  behind = it.behind;
  joined = is ∙ ap (λ more. front ++ more) it.joined
      ∙ sym (append_assoc front it.front (octet_of side ∷ (it.element ++ it.behind)));
  at =
      let long = ap length is ∙ length-append front others in
      let both = length-append front it.front in
      let there = it.at in omega arith;
  raw = it.raw;
  none = it.none;
}

entry_before : (place : ℕ) (entry : Entry) (octets others : List ℕ) → IsEntry place entry octets others
    → (front : List ℕ) × (octets ≡ front ++ others)
entry_before place entry octets others (inl sent) = (octet_of sent.side ∷ sent.element, sent.joined)
entry_before place entry octets others (inr mark) = (quiet_octet ∷ [], mark.joined)

none_from : (side : Side) (fault : Fault) (entry : Entry) (entries : List Entry) (place : ℕ) (octets rest : List ℕ)
    (number : ℕ) → FramedFrom place entries octets rest → slice_get entries number ≡ Some entry
    → entry.side ≡ Some side → entry.body ≡ Bad fault → StandsFrom place side entry.place octets
none_from side fault entry [] place octets rest number framed there side_is body_is = cc
none_from side fault entry (e ∷ entries) place octets rest zero (others, is_entry, more) there side_is body_is =
    let same : e ≡ entry = cc in
    first_none side fault entry side_is body_is place octets others (rw (← same) is_entry)
none_from side fault entry (e ∷ entries) place octets rest (suc n) (others, is_entry, more) there side_is body_is =
    let (front, joined) = entry_before place e octets others is_entry in
    put_before place side entry.place front octets others joined
    (none_from side fault entry entries (place + (length octets - length others)) others rest n more there side_is body_is)

pub bad_has_none : (side : Side) (entries : List Entry) (octets rest : List ℕ) (number : ℕ)
    → Framed entries octets rest → (bad : IsBadEntryOf side entries number) → HasNoMessage side bad.entry.place octets
bad_has_none side entries octets rest number framed bad =
    let it = none_from side bad.fault bad.entry entries 0 octets rest number framed bad.there bad.side_is bad.body_is in
    record {
      front = it.front;
      element = it.element;
      behind = it.behind;
      joined = it.joined;
      at = let there = it.at in omega arith;
      raw = it.raw;
      none = it.none;
    }
