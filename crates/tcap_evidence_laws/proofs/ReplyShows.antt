-- The lists show F7 (a misplaced dialogue portion) and F14 (an Abort of the provider that answers nothing).
use Rattle.tcap_evidence_laws.proofs.Common.{◌≡◌, ◌⊎◌, inl, inr, ℕ, ◌+◌, ◌<◌, arith, Bool, true, false, cond, not, ◌&&◌, ◌||◌, List, Option, Some, None, is_some, refl, ap, Contains, ◌==◌, list_any, and_parts, eqb-true, ltb-true, not-true, Dialogue, Message, Begin, Continue, EndMessage, Abort, cause_in, dialogue_in, dtid_in, Side, Entry, Table, Item, peer_sent_from, has_a, is_a, sent_by, is_begin_with_request, Accepted, Refused, Subject, is_surely_open, count, is_nothing, HalfMessages, begun_from, half_by, half_of, is_abort_with, outgoing, was_refused, none_passes, passes_not, scene_of, entries_where, Scene, AreListsComplete, HasKind, ListsNone, items_before}
use Rattle.tcap_end.specs.Dialogue.{accepts_dialogue, refuses_dialogue}
use Rattle.tcap_refute.specs.Kind.{is_misplaced_in_abort, is_misplaced_dialogue, is_misplaced_in_continue}
use Rattle.tcap_faults.specs.ClosedHalves.{all_go_to_open}
use Rattle.tcap_faults.specs.Fault.{count_received, is_wrong_reply}
use Rattle.tcap_faults.specs.HalfKinds.{is_accepted}
use Rattle.tcap_evidence_laws.specs.HalfEvidence.{AcceptsNone, NoBeginLeft, NoContinueLeft, ShowsMisplaced, ShowsWrongReply, goes_to_open}
use Rattle.tcap_evidence_laws.proofs.CountedLaws.{messages_counted, scene_to}
use Rattle.tcap_evidence_laws.proofs.HasKindLaws.{either, goes_so, kind_so, reply_so}
use Rattle.tcap_evidence_laws.proofs.ListsLaws.{none_there, nothing_there, one_aborts, one_there, something_outgoing}
use Rattle.tcap_evidence_laws.proofs.SceneLists.{IsTo}
use Rattle.tcap_parts.specs.declared.dialogue.Dialogue.TheVariants as dialogues
use Rattle.tcap_msg.specs.declared.kind.Kind.TheVariants as forms
use Rattle.tcap_refute.specs.declared.kind.Kind.TheVariants as kinds
use Rattle.tcap_evidence.specs.declared.shown_facts.ShownFact.TheVariants as facts

-- ---- F7

-- If two conditions do not both hold and one does, the other does not.
not_both : (has so : Bool) → not (has && so) ≡ true → so ≡ true → has ≡ false
not_both true true apart is = cc
not_both false true apart is = refl
not_both has false apart is = cc

-- A Continue or an End.
going_on : (has : Bool) (d : Option Dialogue) → is_misplaced_in_continue has d ≡ true
    → (is_some d ≡ true) × (accepts_dialogue d ≡ true → has ≡ false)
going_on has None is = cc
going_on has (Some d) is = (refl, not_both has (accepts_dialogue (Some d)) is)

-- An Abort.
aborting : (has : Bool) (d : Option Dialogue) → is_misplaced_in_abort has d ≡ true
    → (is_some d ≡ true) × (refuses_dialogue d ≡ true → has ≡ false)
aborting has None is = cc
aborting has (Some (dialogues.Response context result diagnostic info)) is =
    (refl, not_both has (refuses_dialogue (Some (dialogues.Response context result diagnostic info))) is)
aborting has d is = (refl, λ so. cc)

module _ (table : Table) (side : Side) (entries : List Entry) (number : ℕ) (about : Subject) where
  abbrev misplaced_in : Message → Scene
  misplaced_in m = scene_of table side entries number m kinds.MisplacedDialogue about

  -- The peer sent no Begin with a request from the destination ID.
  no_request : (m : Message) (id : List ℕ) → dtid_in m ≡ Some id
      → list_any is_begin_with_request (peer_sent_from side id (items_before entries number)) ≡ false
      → ListsNone (misplaced_in m) facts.PeerRequests
  no_request m id to none =
      none_there side (items_before entries number) (misplaced_in m) id
      (scene_to table side entries number m kinds.MisplacedDialogue about id to) is_begin_with_request none

  alone_none : (m : Message) → dtid_in m ≡ None → ListsNone (misplaced_in m) facts.PeerRequests
  alone_none m to = ap (entries_where is_begin_with_request) (nothing_there (misplaced_in m) to)

  misplaced_by : (m : Message) → is_misplaced_dialogue side (items_before entries number) m ≡ true
      → ShowsMisplaced (misplaced_in m) m
  misplaced_by (Continue otid dtid dialogue components) is =
      let (some, none) = going_on (list_any is_begin_with_request (peer_sent_from side dtid (items_before entries number))) dialogue is in
      (some, λ so. no_request (Continue otid dtid dialogue components) dtid refl (none so))
  misplaced_by (EndMessage dtid dialogue components) is =
      let (some, none) = going_on (list_any is_begin_with_request (peer_sent_from side dtid (items_before entries number))) dialogue is in
      (some, λ so. no_request (EndMessage dtid dialogue components) dtid refl (none so))
  misplaced_by (Abort dtid reason) is =
      let (some, none) =
      aborting (list_any is_begin_with_request (peer_sent_from side dtid (items_before entries number)))
      (dialogue_in (Abort dtid reason)) is in (some, λ so. no_request (Abort dtid reason) dtid refl (none so))
  misplaced_by m is = ((and_parts (is_some (dialogue_in m)) _ is).0, λ so. alone_none m refl)

pub misplaced_shows : (table : Table) (side : Side) (entries : List Entry) (number : ℕ) (m : Message) (about : Subject)
    → HasKind table side (items_before entries number) m kinds.MisplacedDialogue
    → ShowsMisplaced (scene_of table side entries number m kinds.MisplacedDialogue about) m
misplaced_shows table side entries number m about has =
    misplaced_by table side entries number about m
    (kind_so table side (items_before entries number) m kinds.MisplacedDialogue refl has)

-- ---- accepted Begins

refused_so : (refused : Bool) → is_accepted (cond refused Refused Accepted) ≡ false → refused ≡ true
refused_so true not_so = refl
refused_so false not_so = cc

module _ (side : Side) (items : List Item) (s : Scene) (id : List ℕ) (of : IsTo side items id s) where
  -- If the half is not an accepted one, no Begin was accepted.
  pub none_accepted : is_accepted (half_of side items id).origin ≡ false → AcceptsNone s
  none_accepted = by (has_a forms.Begin (peer_sent_from side id items)) (begun_from side items id) refl
    where
      by : (b : Bool) (o : Option (List ℕ)) → has_a forms.Begin (peer_sent_from side id items) ≡ b
          → is_accepted (half_by side items id b o).origin ≡ false → AcceptsNone s
      by true o begun not_so = inr (one_aborts side items s id of 4 (refused_so (was_refused side id items) not_so))
      by false o none not_so = inl (none_there side items s id of (is_a forms.Begin) none)

-- ---- F14

module _ (table : Table) (side : Side) (entries : List Entry) (number : ℕ) (m : Message) (about : Subject) (id : List ℕ)
    (to : dtid_in m ≡ Some id) where
  abbrev items : List Item
  items = items_before entries number

  abbrev s : Scene
  s = scene_of table side entries number m kinds.WrongReply about

  abbrev h : HalfMessages
  h = half_of side items id

  of : IsTo side items id s
  of = scene_to table side entries number m kinds.WrongReply about id to

  all : AreListsComplete side items id s
  all = messages_counted table side entries number m kinds.WrongReply about id to

  -- Each Continue was answered by an Abort or received.
  fewer : count (is_a forms.Continue) (peer_sent_from side id items)
      < count (is_abort_with 1 id) (sent_by side items) + 1 + count_received side id items h → NoContinueLeft s
  fewer = by (is_nothing (outgoing side id items)) (is_accepted h.origin) refl refl
    where
      by : (nothing accepted : Bool) → is_nothing (outgoing side id items) ≡ nothing → is_accepted h.origin ≡ accepted
          → count (is_a forms.Continue) (peer_sent_from side id items)
          < count (is_abort_with 1 id) (sent_by side items) + 1 + cond (nothing || accepted) 0 1 → NoContinueLeft s
      by true accepted no_outgoing is less = inl (omega (arith, all.continues, all.unknown, less))
      by false true some is less = inl (omega (arith, all.continues, all.unknown, less))
      by false false some none less =
          inr (inl (
            omega (arith, all.continues, all.unknown, less),
            something_outgoing side items s id of some,
            none_accepted side items s id of none,
          ))

  -- All Continues go to open halves.
  all_open : all_go_to_open table side items (peer_sent_from side id items) ≡ true → NoContinueLeft s
  all_open is =
      inr (inr (
        one_there side items s id of (is_a forms.Continue) (and_parts (has_a forms.Continue (peer_sent_from side id items)) _ is).0,
        none_there side items s id of elsewhere (none_passes elsewhere (peer_sent_from side id items) open_still),
      ))
    where
      elsewhere : Message → Bool
      elsewhere x = is_a forms.Continue x && not (goes_to_open s x)

      open_still : (x : Message) → Contains (peer_sent_from side id items) x → elsewhere x ≡ false
      open_still x has = by (dtid_in x) refl
        where
          by : (o : Option (List ℕ)) → dtid_in x ≡ o → elsewhere x ≡ false
          by None goes =
              let none = not-true _ (and_parts (has_a forms.Continue (peer_sent_from side id items)) _ is).1 in
              let so : (is_a forms.Continue x && true) ≡ false = rw goes at (passes_not _ (peer_sent_from side id items) x has none) in
              rw goes so
          by (Some own) goes =
              let none = not-true _ (and_parts (has_a forms.Continue (peer_sent_from side id items)) _ is).1 in
              let so : (is_a forms.Continue x && not (is_surely_open table side items own)) ≡ false =
              rw goes at (passes_not _ (peer_sent_from side id items) x has none) in rw goes so

  begins_left : (not (is_accepted h.origin) || not (is_nothing (outgoing side id items))) ≡ true → NoBeginLeft s
  begins_left is =
      either (not (is_accepted h.origin)) (not (is_nothing (outgoing side id items))) is
      (λ none. inl (none_accepted side items s id of (not-true (is_accepted h.origin) none)))
      (λ some. inr (something_outgoing side items s id of (not-true (is_nothing (outgoing side id items)) some)))

  reply_by : (cause : ℕ) → is_wrong_reply table side id items h cause ≡ true → ShowsWrongReply s (Some cause)
  reply_by cause is =
      either _ _ is
      (λ one.
      let (is_one, none) = and_parts (cause == 1) _ one in
      inl (eqb-true cause 1 is_one, either _ _ none (λ less. fewer (ltb-true _ _ less)) all_open))
      (λ four.
      let (is_four, none) = and_parts (cause == 4) _ four in
      inr (eqb-true cause 4 is_four, begins_left none))

pub reply_shows : (table : Table) (side : Side) (entries : List Entry) (number : ℕ) (m : Message) (about : Subject)
    → HasKind table side (items_before entries number) m kinds.WrongReply
    → ShowsWrongReply (scene_of table side entries number m kinds.WrongReply about) (cause_in m)
reply_shows table side entries number m about has =
    let (id, to) = goes_so table side (items_before entries number) m kinds.WrongReply refl has in
    let (cause, caused, is) = reply_so table side (items_before entries number) m id to has in
    rw caused (reply_by table side entries number m about id to cause is)
