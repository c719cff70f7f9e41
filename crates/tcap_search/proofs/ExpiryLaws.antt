-- The expiries that a sweep finds.
use Rattle.std.proofs.Common.{◌≡◌, ℕ, ℤ, ◌+◌, Bool, true, false, List, [], ◌∷◌, ◌++◌, take, Option, Some, None, refl, sym, ap, ap₂, ◌∙◌, arith, ◌<◌, cond, map, length, get_or}
use Rattle.std.specs.Option.{option_or}
use Rattle.std.specs.Prelude.{◌&&◌, is_some, nat_lt, nat_le, ◌||◌}
use Rattle.std.specs.List.{list_any}
use Rattle.std.proofs.lemmas.Bool.{and_parts, le-ltb, or_parts}
use Rattle.std.proofs.lemmas.Bool.Decides.{nat_tests}
use Rattle.std.proofs.lemmas.Simd.{map-map}
use Rattle.tcap_parts.specs.declared.component.Component.{Component}
use Rattle.tcap_record.specs.declared.entry.End.{End as Side}
use Rattle.tcap_record.specs.declared.entry.Entry.{Entry}
use Rattle.tcap_record.specs.Ends.{other}
use Rattle.tcap_model.specs.Run.{option_then, only_if}
use Rattle.tcap_certificate.specs.declared.certificate.Expiry.{Expiry}
use Rattle.tcap_certificate.specs.declared.certificate.Fate.{Fate}
use Rattle.tcap_certificate.specs.declared.certificate.Fate.TheVariants.{Gap, Lost, By}
use Rattle.tcap_search.specs.declared.sweep.Answer.{Answer}
use Rattle.tcap_search.specs.SegmentEntries.{Line, are_of_one_end, is_of_peer, last, share_transaction, lines_of}
use Rattle.tcap_search.specs.ProposedCertificate.{Fated, components_at, expiries_by, expiries_from, expiry_by, invocation_at, is_answer_of, is_delivered_by, last_invocation, rejected_line, unrecognized, with_expiry, fated, expiries_of}
use Rattle.tcap_search.specs.Fates.{is_line_of, is_of}
use Rattle.tcap_search.specs.ListedExpiries.{all_rejected, entry_rejected, rejected_of, with_answer}
use Rattle.tcap_search.specs.Sweep.{components_of, invoked_in, answer_at, answer_kept, answer_rejected, answers_at, invoked_by}
use Rattle.tcap_search.proofs.GapLaws.{of_both, shares_none}
use Rattle.tcap_search.proofs.TestLaws.{of_peer, of_peer_none, one_end, and_and, and_false, and_swap}
use Rattle.tcap_search.proofs.LatestLaws.{last_never, last_passes, last_same, last_earlier, given_is, given_same}
use Rattle.tcap_search.proofs.LineLaws.{AreNumbered, entries_of_lines, line_at, lines_numbered, count_lines}
use Rattle.tcap_search.proofs.SweepLaws.{answer_with, answered_in, components_are, is_answering, is_in_gap_below, answered_more, invoked_more}
use Rattle.tcap_search.specs.declared.sweep.Sweep.{Sweep}
use Rattle.tcap_search.specs.DeliveryOrder.{AreInOrder}
use Rattle.tcap_search.specs.SegmentLists.{AreTransactions}
use Rattle.tcap_search.specs.InvocationMap.{kept_at}
use Rattle.tcap_certificate.specs.Replay.{due_in}
use Rattle.tcap_search.proofs.FateSteps.{lines_more}
use Rattle.tcap_search.proofs.LossLaws.{entries_fated, fates_fated, lines_fated}
use Rattle.tcap_search.specs.Rejections.{has_rejection, rejects}
use Rattle.tcap_search.proofs.UnansweredLaws.{any_line}

-- ---- the last Invoke before a number

-- The last Invoke before a number is the last among this many lines.
invocation_is : (lines : List Line) (x : Line) (side : Side) (t : ℕ) (id : ℤ) (gap : ℕ) → AreNumbered 0 lines
    → x.entry.side ≡ Some side → x.transaction ≡ Some t
    → last_invocation lines x id gap ≡ invoked_in (take gap lines) t side id
invocation_is lines x side t id gap are at_side at_t =
    ap (λ (o : Option Line). option_then o (invocation_at id))
    (last_same original (λ y. nat_lt y.number gap && passes y) same lines
    ∙ last_earlier gap lines passes are)
    ∙ given_is passes (invocation_at id) gives (take gap lines)
    ∙ given_same (λ y. only_if (passes y) (invocation_at id y))
    (λ y. only_if (is_line_of side t y) (invocation_at id y))
    (λ y. once (is_line_of side t y) (invocation_at id y)) (take gap lines)
  where
    original : Line → Bool
    original y = nat_lt y.number gap && are_of_one_end x.entry y.entry && share_transaction x y
        && is_some (invocation_at id y)

    passes : Line → Bool
    passes y = is_line_of side t y && is_some (invocation_at id y)

    both : (y : Line) → (are_of_one_end x.entry y.entry && share_transaction x y) ≡ is_line_of side t y
    both y = ap (λ (b : Bool). b && share_transaction x y) (one_end x.entry y.entry side at_side)
        ∙ of_both side t x y at_t

    same : (y : Line) → original y ≡ (nat_lt y.number gap && passes y)
    same y =
        ap (λ (b : Bool). b && is_some (invocation_at id y))
        (and_and (nat_lt y.number gap) (are_of_one_end x.entry y.entry) (share_transaction x y)
        ∙ ap (λ (b : Bool). nat_lt y.number gap && b) (both y))
        ∙ and_and (nat_lt y.number gap) (is_line_of side t y) (is_some (invocation_at id y))

    gives : (y : Line) → passes y ≡ true → is_some (invocation_at id y) ≡ true
    gives y is = (and_parts (is_line_of side t y) (is_some (invocation_at id y)) is).1

    once : {A : Type 0} (b : Bool) (o : Option A) → only_if (b && is_some o) o ≡ only_if b o
    once true None = refl
    once true (Some a) = refl
    once false o = refl

-- ---- the expiry that one component adds

abbrev pub answered_by : List Line → List Fated → ℕ → ℕ → Side → Option (Bool × ℤ) → Option Answer
answered_by lines all limit t side None = None
answered_by lines all limit t side (Some (is_result, id)) = answered_in lines all limit is_result t side id

le_is : (g k : ℕ) → nat_le g k ≡ nat_lt g (k + 1)
le_is g k = grind (arith, nat_tests)

delivered_is : (k : ℕ) (fate : Fate) → is_delivered_by k fate ≡ is_in_gap_below (k + 1) fate
delivered_is k (Gap g) = le_is g k
delivered_is k (By reply) = refl
delivered_is k Lost = refl

module _ (lines : List Line) (all : List Fated) (x : Line) where
  abbrev rejects_it : Bool → ℤ → Fated → Bool
  rejects_it is_result id y = is_of_peer x.entry y.line.entry && share_transaction x y.line
      && is_delivered_by x.number y.fate
      && list_any (is_answer_of is_result id) (components_at y.line)

  -- A line without end or transaction adds nothing.
  adds_nothing : ((y : Line) → (is_of_peer x.entry y.entry && share_transaction x y) ≡ false)
      → (listed : List Expiry) (o : Option (Bool × ℤ)) → expiry_by all lines x listed o ≡ listed
  adds_nothing never listed None = refl
  adds_nothing never listed (Some (is_result, id)) = rw none refl
    where
      none : rejected_line all x (is_result, id) ≡ None
      none = last_never (rejects_it is_result id) all
          (λ y. ap (λ (b : Bool). b && is_delivered_by x.number y.fate
          && list_any (is_answer_of is_result id) (components_at y.line))
          (never y.line))

  all_nothing : ((y : Line) → (is_of_peer x.entry y.entry && share_transaction x y) ≡ false)
      → (listed : List Expiry) (components : List Component) → expiries_by all lines x listed components ≡ listed
  all_nothing never listed [] = refl
  all_nothing never listed (c ∷ more) =
      ap (λ (l : List Expiry). expiries_by all lines x l more) (adds_nothing never listed (unrecognized c))
      ∙ all_nothing never listed more

module _ (lines : List Line) (all : List Fated) (x : Line) (side : Side) (t : ℕ) (are : AreNumbered 0 lines)
    (at_side : x.entry.side ≡ Some side) (at_t : x.transaction ≡ Some t) where
  -- whether y is an answer delivered so far, as the sweep sees it
  abbrev came : Bool → ℤ → Fated → Bool
  came is_result id y = is_in_gap_below (x.number + 1) y.fate && is_answering is_result t side id y

  rejects_is : (is_result : Bool) (id : ℤ) (y : Fated) → rejects_it lines all x is_result id y ≡ came is_result id y
  rejects_is is_result id y =
      ap (λ (b : Bool). b && list_any (is_answer_of is_result id) (components_at y.line))
      (ap (λ (b : Bool). b && is_delivered_by x.number y.fate)
      (ap (λ (b : Bool). b && share_transaction x y.line) (of_peer x.entry y.line.entry side at_side)
      ∙ of_both (other side) t x y.line at_t)
      ∙ ap (λ (b : Bool). is_line_of (other side) t y.line && b) (delivered_is x.number y.fate)
      ∙ and_swap (is_line_of (other side) t y.line) (is_in_gap_below (x.number + 1) y.fate))
      ∙ ap (λ (cs : List Component). is_in_gap_below (x.number + 1) y.fate && is_line_of (other side) t y.line
      && list_any (is_answer_of is_result id) cs) (components_are y.line)
      ∙ and_and (is_in_gap_below (x.number + 1) y.fate) (is_line_of (other side) t y.line)
      (list_any (is_answer_of is_result id) (components_of y.line.entry))

  gives : (is_result : Bool) (id : ℤ) (y : Fated) → came is_result id y ≡ true
      → is_some (answer_with lines t side id y.fate) ≡ true
  gives is_result id y is = by y.fate
      ((and_parts (is_in_gap_below (x.number + 1) y.fate) (is_answering is_result t side id y) is).0)
    where
      by : (f : Fate) → is_in_gap_below (x.number + 1) f ≡ true → is_some (answer_with lines t side id f) ≡ true
      by Lost in_gap = absurd (cc)
      by (By reply) in_gap = absurd (cc)
      by (Gap g) in_gap = refl

  -- A component adds the expiry of the answer that it rejects.
  adds : (listed : List Expiry) (o : Option (Bool × ℤ))
      → expiry_by all lines x listed o ≡ with_answer side listed (answered_by lines all (x.number + 1) t side o)
  adds listed None = refl
  adds listed (Some (is_result, id)) =
      by (rejected_line all x (is_result, id)) refl
      (last_passes (came is_result id) all) found
    where
      same_line : rejected_line all x (is_result, id) ≡ last (came is_result id) all
      same_line = last_same (rejects_it lines all x is_result id) (came is_result id) (rejects_is is_result id) all

      found : option_then (last (came is_result id) all) (λ y. answer_with lines t side id y.fate)
          ≡ answered_in lines all (x.number + 1) is_result t side id
      found = given_is (came is_result id) (λ y. answer_with lines t side id y.fate) (gives is_result id) all

      by : (o : Option Fated) → rejected_line all x (is_result, id) ≡ o
          → ((y : Fated) → last (came is_result id) all ≡ Some y → came is_result id y ≡ true)
          → option_then (last (came is_result id) all) (λ y. answer_with lines t side id y.fate)
          ≡ answered_in lines all (x.number + 1) is_result t side id
          → expiry_by all lines x listed (Some (is_result, id))
          ≡ with_answer side listed (answered_in lines all (x.number + 1) is_result t side id)
      by None at passes is =
          let none : answered_in lines all (x.number + 1) is_result t side id ≡ None =
          sym is ∙ ap (λ (o : Option Fated). option_then o (λ y. answer_with lines t side id y.fate))
          (sym same_line ∙ at) in
          rw (at, none) refl
      by (Some y) at passes is = of_fate y.fate refl
          ((and_parts (is_in_gap_below (x.number + 1) y.fate) (is_answering is_result t side id y) (passes y here)).0)
        where
          here : last (came is_result id) all ≡ Some y
          here = sym same_line ∙ at

          some : answered_in lines all (x.number + 1) is_result t side id ≡ answer_with lines t side id y.fate
          some = sym is ∙ ap (λ (o : Option Fated). option_then o (λ y. answer_with lines t side id y.fate)) here

          of_fate : (f : Fate) → y.fate ≡ f → is_in_gap_below (x.number + 1) f ≡ true
              → expiry_by all lines x listed (Some (is_result, id))
              ≡ with_answer side listed (answered_in lines all (x.number + 1) is_result t side id)
          of_fate Lost of_y in_gap = absurd (cc)
          of_fate (By reply) of_y in_gap = absurd (cc)
          of_fate (Gap g) of_y in_gap = rw (at, some, of_y)
              (ap₂ (λ (o : Option Side) (i : Option (ℕ × ℕ)). with_expiry listed o g i) at_side
              (invocation_is lines x side t id g are at_side at_t))

  all_add : (listed : List Expiry) (components : List Component)
      → expiries_by all lines x listed components
      ≡ all_rejected (answered_by lines all (x.number + 1) t side) side listed components
  all_add listed [] = refl
  all_add listed (c ∷ more) =
      ap (λ (l : List Expiry). expiries_by all lines x l more) (adds listed (unrecognized c))
      ∙ all_add (with_answer side listed (answered_by lines all (x.number + 1) t side (unrecognized c))) more

-- ---- the expiries that one line adds

pub line_adds : (lines : List Line) (all : List Fated) (x : Line) (listed : List Expiry) → AreNumbered 0 lines
    → expiries_by all lines x listed (components_at x)
    ≡ entry_rejected (answered_by lines all (x.number + 1)) listed x.entry x.transaction
line_adds lines all x listed are =
    ap (expiries_by all lines x listed) (components_are x) ∙ by x.entry.side refl x.transaction refl
  where
    by : (s : Option Side) → x.entry.side ≡ s → (o : Option ℕ) → x.transaction ≡ o
        → expiries_by all lines x listed (components_of x.entry)
        ≡ rejected_of (answered_by lines all (x.number + 1)) listed s o (components_of x.entry)
    by None at o is = all_nothing lines all x
        (λ y. ap (λ (b : Bool). b && share_transaction x y) (of_peer_none x.entry y.entry at)) listed
        (components_of x.entry)
    by (Some side) at None is = all_nothing lines all x
        (λ y. ap (λ (b : Bool). is_of_peer x.entry y.entry && b) (shares_none x y is)
        ∙ and_false (is_of_peer x.entry y.entry))
        listed (components_of x.entry)
    by (Some side) at (Some t) is = all_add lines all x side t are at is listed (components_of x.entry)

-- Equal answers add equal expiries.
all_same : (found other : Option (Bool × ℤ) → Option Answer) → ((o : Option (Bool × ℤ)) → found o ≡ other o)
    → (side : Side) (listed : List Expiry) (components : List Component)
    → all_rejected found side listed components ≡ all_rejected other side listed components
all_same found other same side listed [] = refl
all_same found other same side listed (c ∷ more) = rw (same (unrecognized c))
    (all_same found other same side (with_answer side listed (other (unrecognized c))) more)

pub entry_same : (found other : ℕ → Side → Option (Bool × ℤ) → Option Answer)
    → ((t : ℕ) (side : Side) (o : Option (Bool × ℤ)) → found t side o ≡ other t side o)
    → (listed : List Expiry) (e : Entry) (transaction : Option ℕ)
    → entry_rejected found listed e transaction ≡ entry_rejected other listed e transaction
entry_same found other same listed e transaction = by e.side transaction
  where
    by : (s : Option Side) (o : Option ℕ)
        → rejected_of found listed s o (components_of e) ≡ rejected_of other listed s o (components_of e)
    by None o = refl
    by (Some side) None = refl
    by (Some side) (Some t) = all_same (found t side) (other t side) (same t side) side listed (components_of e)

-- ---- one more line

pub expiries_more : (all : List Fated) (lines front : List Line) (x : Line) (listed : List Expiry)
    → expiries_from all lines (front ++ x ∷ []) listed
    ≡ expiries_by all lines x (expiries_from all lines front listed) (components_at x)
expiries_more all lines [] x listed = refl
expiries_more all lines (y ∷ front) x listed =
    expiries_more all lines front x (expiries_by all lines y listed (components_at y))

-- ---- the fates of lines

module _ (entries : List Entry) (fates : List Fate) (counted : length fates ≡ length entries) where
  abbrev all_of : List Fated
  all_of = fated (lines_of entries) fates

  same : length fates ≡ length (lines_of entries)
  same = counted ∙ sym (count_lines entries)

  -- the entries of lines with fates
  all_entries : map (λ y. y.line.entry) all_of ≡ entries
  all_entries = entries_fated (lines_of entries) fates same ∙ entries_of_lines entries

  -- the transactions of lines with fates
  all_transactions : (transactions : List (Option ℕ)) → AreTransactions entries transactions
      → map (λ y. y.line.transaction) all_of ≡ transactions
  all_transactions transactions are =
      sym (map-map (λ (x : Line). x.transaction) (λ (y : Fated). y.line) all_of)
      ∙ ap (map (λ (x : Line). x.transaction)) (lines_fated (lines_of entries) fates same) ∙ sym are

-- ---- at the start

-- No answer is delivered in a gap below 0.
answered_none : (lines : List Line) (all : List Fated) (is_result : Bool) (t : ℕ) (s : Side) (id : ℤ)
    → answered_in lines all 0 is_result t s id ≡ None
answered_none lines [] is_result t s id = refl
answered_none lines (y ∷ all) is_result t s id = rw (answered_none lines all is_result t s id) (by y.fate)
  where
    by : (f : Fate) → only_if (is_in_gap_below 0 f && is_answering is_result t s id y) (answer_with lines t s id f)
        ≡ None
    by (Gap g) = let none : nat_lt g 0 ≡ false = le-ltb g 0 (omega arith) in rw none refl
    by Lost = refl
    by (By reply) = refl

pub answers_start : (entries : List Entry) (fates : List Fate) (sweep : Sweep)
    → ((is_result : Bool) (t : ℕ) (s : Side) (id : ℤ) → answer_kept is_result t s id sweep ≡ None)
    → (is_result : Bool) (t : ℕ) (s : Side) (id : ℤ) → answer_kept is_result t s id sweep
    ≡ answered_in (lines_of entries) (fated (lines_of entries) fates) 0 is_result t s id
answers_start entries fates sweep none is_result t s id =
    none is_result t s id ∙ sym (answered_none (lines_of entries) (fated (lines_of entries) fates) is_result t s id)

-- ---- one more entry

-- The answers stay if both maps do.
pub answers_stay : (a b : Sweep) → b.results ≡ a.results → b.errors ≡ a.errors
    → (is_result : Bool) (t : ℕ) (s : Side) (id : ℤ) → answer_kept is_result t s id b ≡ answer_kept is_result t s id a
answers_stay a b results errors true t s id = rw results refl
answers_stay a b results errors false t s id = rw errors refl

module _ (entries : List Entry) (transactions : List (Option ℕ)) (fates : List Fate)
    (are : AreTransactions entries transactions) (counted : length fates ≡ length entries)
    (order : AreInOrder (fated (lines_of entries) fates)) (i : ℕ) where
  abbrev lines : List Line
  lines = lines_of entries

  abbrev all : List Fated
  all = fated (lines_of entries) fates

  fates_there : fates ≡ map (λ x. x.fate) all
  fates_there = sym (fates_fated (lines_of entries) fates (same entries fates counted))

  -- the answers after the gap before the entry
  pub answers_step : (before behind : Sweep) (due : List ℕ) → due ≡ due_in i 0 fates
      → ((t : ℕ) (s : Side) (id : ℤ) → kept_at t s id before.invokes ≡ invoked_in (take i lines) t s id)
      → ((is_result : Bool) (t : ℕ) (s : Side) (id : ℤ)
      → answer_kept is_result t s id before ≡ answered_in lines all i is_result t s id)
      → ((is_result : Bool) (t : ℕ) (s : Side) (id : ℤ) → answer_kept is_result t s id behind
      ≡ cond (list_any (answers_at entries transactions is_result t s id) due)
      (Some (answer_at i (kept_at t s id before.invokes))) (answer_kept is_result t s id before))
      → (is_result : Bool) (t : ℕ) (s : Side) (id : ℤ)
      → answer_kept is_result t s id behind ≡ answered_in lines all (i + 1) is_result t s id
  answers_step before behind due is_due invokes answers noted is_result t s id =
      noted is_result t s id
      ∙ rw (is_due, invokes t s id, answers is_result t s id)
      (ap (λ (fs : List Fate).
      cond (list_any (answers_at entries transactions is_result t s id) (due_in i 0 fs))
      (Some (answer_at i (invoked_in (take i lines) t s id))) (answered_in lines all i is_result t s id))
      fates_there
      ∙ ap (λ (es : List Entry).
      cond (list_any (answers_at es transactions is_result t s id) (due_in i 0 (map (λ x. x.fate) all)))
      (Some (answer_at i (invoked_in (take i lines) t s id))) (answered_in lines all i is_result t s id))
      (sym (all_entries entries fates counted))
      ∙ ap (λ (ts : List (Option ℕ)).
      cond (list_any (answers_at (map (λ y. y.line.entry) all) ts is_result t s id)
      (due_in i 0 (map (λ x. x.fate) all)))
      (Some (answer_at i (invoked_in (take i lines) t s id))) (answered_in lines all i is_result t s id))
      (sym (all_transactions entries fates counted transactions are))
      ∙ answered_more lines all i is_result t s id order)

  module _ (within : i < length entries) (e : Entry) (is_entry : e ≡ get_or entries i e) where
    abbrev here : Line
    here = line_at i e (get_or transactions i None)

    -- the Invokes after the entry
    pub invokes_step : (before behind : Option (ℕ × ℕ)) (t : ℕ) (s : Side) (id : ℤ)
        → before ≡ invoked_in (take i lines) t s id
        → behind ≡ option_or (only_if (is_of s t e (get_or transactions i None)) (invoked_by i e id)) before
        → behind ≡ invoked_in (take (i + 1) lines) t s id
    invokes_step before behind t s id was noted = noted
        ∙ ap (option_or (only_if (is_of s t e (get_or transactions i None)) (invoked_by i e id))) was
        ∙ sym (invoked_more (take i lines) here t s id)
        ∙ ap (λ (ls : List Line). invoked_in ls t s id) (sym (lines_more entries transactions are i within e is_entry))

    -- the list after the entry
    pub listed_step : (sweep : Sweep) (before behind : List Expiry)
        → ((is_result : Bool) (t : ℕ) (s : Side) (id : ℤ)
        → answer_kept is_result t s id sweep ≡ answered_in lines all (i + 1) is_result t s id)
        → before ≡ expiries_from all lines (take i lines) []
        → behind ≡ entry_rejected (answer_rejected sweep) before e (get_or transactions i None)
        → behind ≡ expiries_from all lines (take (i + 1) lines) []
    listed_step sweep before behind answers was added = added
        ∙ entry_same (answer_rejected sweep) (answered_by lines all (i + 1)) same before e (get_or transactions i None)
        ∙ sym (line_adds lines all here before (lines_numbered entries))
        ∙ ap (λ (l : List Expiry). expiries_by all lines here l (components_at here)) was
        ∙ sym (expiries_more all lines (take i lines) here [])
        ∙ ap (λ (ls : List Line). expiries_from all lines ls [])
        (sym (lines_more entries transactions are i within e is_entry))
      where
        same : (t : ℕ) (side : Side) (o : Option (Bool × ℤ)) → answer_rejected sweep t side o
            ≡ answered_by lines all (i + 1) t side o
        same t side None = refl
        same t side (Some (is_result, id)) = answers is_result t side id

-- ---- no answer is rejected as unrecognized

none_by : (all : List Fated) (lines : List Line) (x : Line) (listed : List Expiry) (cs : List Component)
    → list_any rejects cs ≡ false → expiries_by all lines x listed cs ≡ listed
none_by all lines x listed [] none = refl
none_by all lines x listed (c ∷ more) none = by (unrecognized c) none (none_by all lines x listed more)
  where
    by : (o : Option (Bool × ℤ)) → (is_some o || list_any rejects more) ≡ false
        → (list_any rejects more ≡ false → expiries_by all lines x listed more ≡ listed)
        → expiries_by all lines x (expiry_by all lines x listed o) more ≡ listed
    by None none rest = rest none
    by (Some p) none rest = cc

none_from : (all : List Fated) (lines more : List Line) (listed : List Expiry)
    → list_any (λ x. has_rejection x.entry) more ≡ false → expiries_from all lines more listed ≡ listed
none_from all lines [] listed none = refl
none_from all lines (x ∷ more) listed none =
    let (here, later) = or_parts (has_rejection x.entry) (list_any (λ x. has_rejection x.entry) more) none in
    rw (none_by all lines x listed (components_of x.entry) here) (none_from all lines more listed later)

pub no_expiries : (all : List Fated) (entries : List Entry) → list_any has_rejection entries ≡ false
    → expiries_of all (lines_of entries) ≡ []
no_expiries all entries none =
    none_from all (lines_of entries) (lines_of entries) [] (any_line has_rejection entries ∙ none)
