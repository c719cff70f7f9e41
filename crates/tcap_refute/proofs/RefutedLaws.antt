-- What a refutation implies for all runs.
use Rattle.std.proofs.Common.{◌≡◌, inl, inr, Bool, true, false, cond, ℕ, zero, suc, ◌+◌, List, [], ◌∷◌, ◌++◌, map, length, slice_get, Option, Some, None, Result, Ok, Err, refl, sym, ap, subst, ◌∙◌, arith}
use Rattle.std.specs.Option.{option_or}
use Rattle.std.specs.List.{find}
use Rattle.std.specs.Prelude.{IfOk, IfSome}
use Rattle.std.proofs.lemmas.List.{length-append}
use Rattle.tcap_ber.specs.declared.fault.Fault.{Fault}
use Rattle.tcap_record.specs.declared.entry.End.{End as Side}
use Rattle.tcap_record.specs.declared.entry.End.TheVariants as sides
use Rattle.tcap_record.specs.declared.entry.Entry.{Entry}
use Rattle.tcap_end.specs.Table.{Table}
use Rattle.tcap_model.specs.declared.reason.Reason.{Reason}
use Rattle.tcap_model.specs.declared.reason.Reason.TheVariants as reasons
use Rattle.tcap_model.specs.World.{Item, Sent}
use Rattle.tcap_model.specs.Run.{BothKeepRules, Event, IsLawful, KeepsRules}
use Rattle.tcap_model.specs.Entries.{AreItems, item_of}
use Rattle.tcap_refute.specs.declared.kind.Kind.{Kind}
use Rattle.tcap_refute.specs.declared.kind.Kind.TheVariants as kinds
use Rattle.tcap_refute.specs.declared.kind.Refutation.{Refutation}
use Rattle.tcap_refute.specs.EarlierMessages.{since_quiet}
use Rattle.tcap_refute.specs.Kind.{is_limit, is_of_kind, kind_of_reason, refutation_at, refuted, refuted_after, refuting_kinds}
use Rattle.tcap_refute.specs.Unsendable.{IsAtFault, IsBadByKind}
use Rattle.tcap_refute.proofs.KindLaws.{none_of_kind}

-- What `find` returns passes.
pub found_so : {A : Type 0} (passes : A → Bool) (xs : List A) (x : A) → find passes xs ≡ Some x → passes x ≡ true
found_so passes [] x is = cc
found_so passes (y ∷ ys) x is = grind (arith, found_so passes ys x, is)

-- These items, as entries.
abbrev pub oks : List Item → List (Result Item Reason)
oks items = map (λ item. Ok item) items

pub oks_more : (before : List Item) (item : Item) (more : List (Result Item Reason))
    → oks (before ++ item ∷ []) ++ more ≡ oks before ++ Ok item ∷ more
oks_more [] item more = refl
oks_more (first ∷ before) item more = ap (λ (x : List (Result Item Reason)). Ok first ∷ x) (oks_more before item more)

pub get_there : (before : List Item) (entry : Result Item Reason) (more : List (Result Item Reason))
    → slice_get (oks before ++ entry ∷ more) (length before) ≡ Some entry
get_there [] entry more = refl
get_there (first ∷ before) entry more = get_there before entry more

-- If a reason gives a kind, the kind is F1, and the octets are no message.
pub bad_reason : (reason : Reason) (kind : Kind) → kind_of_reason reason ≡ Some kind
    → (kind ≡ kinds.BadMessage) × (fault : Fault) × (reason ≡ reasons.BadMessage fault)
    × (is_limit fault.reason ≡ false)
bad_reason (reasons.BadMessage fault) kind is = by (is_limit fault.reason) refl is
  where
    by : (b : Bool) → is_limit fault.reason ≡ b → cond b None (Some kinds.BadMessage) ≡ Some kind
        → (kind ≡ kinds.BadMessage) × (f : Fault) × (reasons.BadMessage fault ≡ reasons.BadMessage f)
        × (is_limit f.reason ≡ false)
    by true so is = cc
    by false so is = (cc, fault, refl, so)
bad_reason reason kind is = cc

-- If none of these items has a kind, the refuted entry after them is at fault.
at_fault_behind : (table : Table) (before : List Item) (more : List (Result Item Reason)) (r : Refutation)
    → refuted_after table before (length before) more ≡ Some r → IsAtFault table (oks before ++ more) r
at_fault_behind table before [] r is = cc
at_fault_behind table before (Err reason ∷ more) r is = by (kind_of_reason reason) refl is
  where
    by : (o : Option Kind) → kind_of_reason reason ≡ o → refutation_at (length before) o ≡ Some r
        → IsAtFault table (oks before ++ Err reason ∷ more) r
    by None named is = cc
    by (Some kind) named is =
        let made : (let x : Refutation = record { entry = length before; kind = kind } in x) ≡ r = cc in
        let (bad, fault, of, no_limit) = bad_reason reason kind named in
        inl (
          sym (ap (λ (x : Refutation). x.kind) made) ∙ bad,
          record {
            fault = fault;
            no_limit = no_limit;
            there = subst (λ (n : ℕ). slice_get (oks before ++ Err reason ∷ more) n ≡ Some (Err (reasons.BadMessage fault)))
                (ap (λ (x : Refutation). x.entry) made)
                (get_there before (Err reason) more ∙ ap (λ (x : Reason). let o : Option (Result Item Reason) = Some (Err x) in o) of);
          },
        )
at_fault_behind table before (Ok Item.Quiet ∷ more) r is =
    subst (λ (x : List (Result Item Reason)). IsAtFault table x r) (oks_more before Item.Quiet more)
    (at_fault_behind table (before ++ Item.Quiet ∷ []) more r (rw (length-append before (Item.Quiet ∷ [])) is))
at_fault_behind table before (Ok (Sent side message) ∷ more) r is =
    by (find (is_of_kind table side (since_quiet before) message) refuting_kinds) refl
    (λ is. subst (λ (x : List (Result Item Reason)). IsAtFault table x r) (oks_more before (Sent side message) more)
    (at_fault_behind table (before ++ Sent side message ∷ []) more r
    (rw (length-append before (Sent side message ∷ [])) is)))
    is
  where
    by : (o : Option Kind) → find (is_of_kind table side (since_quiet before) message) refuting_kinds ≡ o
        → (refuted_after table (before ++ Sent side message ∷ []) (length before + 1) more ≡ Some r
        → IsAtFault table (oks before ++ Ok (Sent side message) ∷ more) r)
        → option_or (refutation_at (length before) o)
        (refuted_after table (before ++ Sent side message ∷ []) (length before + 1) more)
        ≡ Some r
        → IsAtFault table (oks before ++ Ok (Sent side message) ∷ more) r
    by None named on is = on is
    by (Some kind) named on is =
        let made : (let x : Refutation = record { entry = length before; kind = kind } in x) ≡ r = cc in
        inr (record {
          before = before;
          side = side;
          message = message;
          more = more;
          are = refl;
          counted = ap (λ (x : Refutation). x.entry) made;
          has_kind = subst (λ (k : Kind). is_of_kind table side (since_quiet before) message k ≡ true)
              (ap (λ (x : Refutation). x.kind) made) (found_so (is_of_kind table side (since_quiet before) message) refuting_kinds kind named);
          unsendable = λ events w behind runs keeps sent.
              none_of_kind table events w before behind side message kind runs keeps sent
              (found_so (is_of_kind table side (since_quiet before) message) refuting_kinds kind named);
        })

pub at_fault : (table : Table) (entries : List (Result Item Reason)) (r : Refutation) → refuted table entries ≡ Some r
    → IsAtFault table entries r
at_fault table entries r is = at_fault_behind table [] entries r is

-- The kind is F1 exactly if the entry's octets are no message.
pub bad_by_kind : (table : Table) (entries : List (Result Item Reason)) (r : Refutation) → IsAtFault table entries r
    → IsBadByKind entries r
bad_by_kind table entries r (inl (is, entry)) = ((λ same. entry), (λ bad. is))
bad_by_kind table entries r (inr it) = (
  (λ is.
      let no : false ≡ true = subst (λ (k : Kind). is_of_kind table it.side (since_quiet it.before) it.message k ≡ true) is it.has_kind in cc),
  (λ bad.
      let there : slice_get entries r.entry ≡ Some (Ok (Sent it.side it.message)) =
      ap (slice_get entries) (sym it.counted) ∙ ap (λ (xs : List (Result Item Reason)). slice_get xs (length it.before)) it.are
      ∙ get_there it.before (Ok (Sent it.side it.message)) it.more in
      let wrong = sym bad.there ∙ there in cc),
)

-- This holds for the result of a search.
pub named_by_kind : {F : Type 0} (table : Table) (entries : List (Result Item Reason)) (found : Result (Option Refutation) F)
    → IfOk found (λ r. r ≡ refuted table entries) → IfOk found (λ r. IfSome r (IsBadByKind entries))
named_by_kind table entries (Ok (Some r)) is = bad_by_kind table entries r (at_fault table entries r (sym is))
named_by_kind table entries r is = tt

-- ---- a refuted record is lawful by no certificate

-- If the entries are these items, their meanings are these items.
pub are_oks : (entries : List Entry) (items : List Item) → AreItems entries items → map item_of entries ≡ oks items
are_oks [] [] are = refl
are_oks [] (item ∷ items) are = absurd are
are_oks (entry ∷ entries) [] are = absurd are
are_oks (entry ∷ entries) (Sent side message ∷ items) are = rw (are.0.0, are.0.1, are_oks entries items are.1) refl
are_oks (entry ∷ entries) (Item.Quiet ∷ items) are = rw (are.0.0, are.0.1, are_oks entries items are.1) refl

-- No entry of a list of items is bad.
pub none_is_bad : (items : List Item) (entry : ℕ) (reason : Reason) → slice_get (oks items) entry ≡ Some (Err reason) → ⊥
none_is_bad [] entry reason is = cc
none_is_bad (item ∷ items) zero reason is = cc
none_is_bad (item ∷ items) (suc entry) reason is = none_is_bad items entry reason is

-- A split of the entries at an item is a split of the items.
pub split_oks : (items before : List Item) (item : Item) (more : List (Result Item Reason))
    → oks items ≡ oks before ++ Ok item ∷ more → (behind : List Item) × (items ≡ before ++ item ∷ behind)
split_oks [] [] item more is = cc
split_oks [] (first ∷ before) item more is = cc
split_oks (x ∷ items) [] item more is = (items, cc)
split_oks (x ∷ items) (first ∷ before) item more is =
    let rest = split_oks items before item more cc in
    (rest.0, let same : x ≡ first = cc in rw (same, rest.1) refl)

keeps_of : (side : Side) (events : List Event) → BothKeepRules events → KeepsRules side events
keeps_of sides.A events both = both.0
keeps_of sides.B events both = both.1

pub never_lawful : (table : Table) (entries : List Entry) (items : List Item) (r : Refutation) (moves : ℕ)
    → refuted table (map item_of entries) ≡ Some r → AreItems entries items → IsLawful items table moves → ⊥
never_lawful table entries items r moves is are (events, (w, runs, sent), both, count) =
    by (at_fault table (oks items) r (rw (← are_oks entries items are) is))
  where
    by : IsAtFault table (oks items) r → ⊥
    by (inl (bad, entry)) = none_is_bad items r.entry (reasons.BadMessage entry.fault) entry.there
    by (inr named) =
        let (behind, all) = split_oks items named.before (Sent named.side named.message) named.more named.are in
        named.unsendable events w behind runs (keeps_of named.side events both) (sent ∙ all)
