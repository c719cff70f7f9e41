-- The items that matter for a half give the half that all items give.
use Rattle.std.proofs.Common.{◌≡◌, ℕ, Bool, true, false, cond, ◌&&◌, ◌||◌, List, [], ◌∷◌, ◌++◌, filter, Option, Some, None, Result, Ok, refl, sym, ap, ap₂, ◌∙◌}
use Rattle.std.specs.Prelude.{is_some, not}
use Rattle.std.specs.List.{cons_option, find}
use Rattle.std.specs.Option.{option_to_list, option_or}
use Rattle.std.proofs.lemmas.Option.{same_Some}
use Rattle.tcap_parts.specs.declared.component.Component.{Component}
use Rattle.tcap_msg.specs.declared.kind.Kind.TheVariants as forms
use Rattle.tcap_msg.specs.declared.message.Message.{Message}
use Rattle.tcap_msg.specs.declared.message.Message.TheVariants.{Unidirectional, Begin, Continue, End as EndMessage, Abort}
use Rattle.tcap_msg.specs.Parts.{components_in, dtid_in, otid_in}
use Rattle.tcap_record.specs.declared.entry.End.{End as Side}
use Rattle.tcap_record.specs.declared.entry.End.TheVariants as sides
use Rattle.tcap_record.specs.Ends.{other}
use Rattle.tcap_end.specs.End.{is_id}
use Rattle.tcap_end.specs.Table.{Table}
use Rattle.tcap_model.specs.declared.reason.Reason.{Reason}
use Rattle.tcap_model.specs.Run.{option_then, only_if}
use Rattle.tcap_model.specs.World.{Item, Sent, has_quiet, is_side}
use Rattle.tcap_refute.specs.declared.kind.Kind.{Kind}
use Rattle.tcap_refute.specs.declared.kind.Kind.TheVariants as kinds
use Rattle.tcap_refute.specs.EarlierMessages.{peer_sent_from, components_of, has_a, is_a, sent_by, since_quiet}
use Rattle.tcap_refute.specs.FirstComponent.{answers_nothing_in, first_component, first_where, is_wrong_in}
use Rattle.tcap_refute.specs.FirstKinds.{answers_none}
use Rattle.tcap_refute.specs.Kind.{answers_none_of, is_unknown_operation, no_class_allows}
use Rattle.tcap_faults.specs.declared.dialogue.half_origin.HalfOrigin.TheVariants.{Accepted, Refused, Begun, Unanswered, Nowhere}
use Rattle.tcap_faults.specs.Counts.{is_nothing}
use Rattle.tcap_faults.specs.SentToId.{begin_from, is_begin_from, is_continue_to, is_abort_with, is_outgoing_to, outgoing, was_refused}
use Rattle.tcap_faults.specs.TangledIds.{goes_to_begun}
use Rattle.tcap_faults.specs.HalfByPeerId.{accepted_half, answered_from, begun_from, begun_half, continued_to, half_by, half_of, incoming_continues}
use Rattle.tcap_faults.specs.FaultSubject.{alone_component, half_component, subject, subject_by}
use Rattle.tcap_faults.specs.RelevantItems.{matters_for_half, items_for_half, items_for_entry}
use Rattle.tcap_faults.proofs.verdict_laws.SubjectLaws.{alone_is, half_is}
use Rattle.tcap_faults.proofs.list_laws.TwoTests.{any_kept}
use Rattle.std.proofs.lemmas.Bool.{and_parts, or_right}

-- ---- tests

-- The first of what passes a test depends on what passes alone.
abbrev first_of : List Message → Option Message
first_of [] = None
first_of (m ∷ ms) = Some m

find_first : (test : Message → Bool) (ms : List Message) → find test ms ≡ first_of (filter test ms)
find_first test [] = refl
find_first test (m ∷ ms) = by (test m) (find_first test ms)
  where
    by : (b : Bool) → find test ms ≡ first_of (filter test ms)
        → cond b (Some m) (find test ms) ≡ first_of (cond b (m ∷ filter test ms) (filter test ms))
    by true rest = refl
    by false rest = rest

since_all : (items : List Item) → has_quiet items ≡ false → since_quiet items ≡ items
since_all [] none = refl
since_all (Sent sender m ∷ items) none =
    ap (λ b. cond b (since_quiet items) (Sent sender m ∷ items)) none
since_all (Item.Quiet ∷ items) none = cc

module _ (side : Side) (id : List ℕ) where
  abbrev those : List Item → List Item
  those items = filter (matters_for_half side id) items

  -- ---- quiet marks are kept

  quiet_stays : (items : List Item) → has_quiet (those items) ≡ has_quiet items
  quiet_stays [] = refl
  quiet_stays (Item.Quiet ∷ items) = refl
  quiet_stays (Sent sender m ∷ items) = by (matters_for_half side id (Sent sender m)) (quiet_stays items)
    where
      by : (b : Bool) → has_quiet (those items) ≡ has_quiet items
          → has_quiet (cond b (Sent sender m ∷ those items) (those items)) ≡ has_quiet items
      by true rest = rest
      by false rest = rest

  since_those : (items : List Item) → since_quiet (those items) ≡ those (since_quiet items)
  since_those [] = refl
  since_those (Item.Quiet ∷ items) = since_those items
  since_those (Sent sender m ∷ items) =
      by (matters_for_half side id (Sent sender m)) refl (has_quiet items) refl (quiet_stays items) (since_those items)
    where
      by : (b : Bool) → matters_for_half side id (Sent sender m) ≡ b → (q : Bool) → has_quiet items ≡ q
          → has_quiet (those items) ≡ has_quiet items → since_quiet (those items) ≡ those (since_quiet items)
          → since_quiet (cond b (Sent sender m ∷ those items) (those items))
          ≡ those (cond q (since_quiet items) (Sent sender m ∷ items))
      by true so q has stays rest = more q has
        where
          more : (q : Bool) → has_quiet items ≡ q
              → cond (has_quiet (those items)) (since_quiet (those items)) (Sent sender m ∷ those items)
              ≡ those (cond q (since_quiet items) (Sent sender m ∷ items))
          more true has = rw (stays ∙ has) rest
          more false has = rw (stays ∙ has, so) refl
      by false so true has stays rest = rest
      by false so false has stays rest = rw so (rest ∙ ap those (since_all items has))

  -- ---- what each end sent

  -- If each message that passes matters, the same messages pass among those that matter.
  module _ (test : Message → Bool) where
    passed : (end : Side)
        → ((m : Message) (sender : Side) → test m ≡ true → is_side end sender ≡ true → matters_for_half side id (Sent sender m) ≡ true)
        → (items : List Item) → filter test (sent_by end (those items)) ≡ filter test (sent_by end items)
    passed end so [] = refl
    passed end so (Item.Quiet ∷ items) = passed end so items
    passed end so (Sent sender m ∷ items) =
        by (is_side end sender) refl (test m) refl (matters_for_half side id (Sent sender m)) (so m sender) (passed end so items)
      where
        by : (s : Bool) → is_side end sender ≡ s → (t : Bool) → test m ≡ t → (b : Bool)
            → (test m ≡ true → is_side end sender ≡ true → b ≡ true)
            → filter test (sent_by end (those items)) ≡ filter test (sent_by end items)
            → filter test (sent_by end (cond b (Sent sender m ∷ those items) (those items)))
            ≡ filter test (cons_option (only_if s (Some m)) (sent_by end items))
        by true is true passes true must rest = rw (is, passes) (ap (λ ms. m ∷ ms) rest)
        by true is true passes false must rest = let never = must passes is in cc
        by true is false passes true must rest = rw (is, passes) rest
        by true is false passes false must rest = rw passes rest
        by false is t passes true must rest = rw is rest
        by false is t passes false must rest = rest

  peer_matters : (m : Message) (sender : Side) → is_id id (otid_in m) ≡ true → is_side (other side) sender ≡ true
      → matters_for_half side id (Sent sender m) ≡ true
  peer_matters m sender so is = by side sender is
    where
      by : (s t : Side) → is_side (other s) t ≡ true → matters_for_half s id (Sent t m) ≡ true
      by sides.A sides.A is = cc
      by sides.A sides.B is = so
      by sides.B sides.A is = so
      by sides.B sides.B is = cc

  own_matters : (m : Message) (sender : Side) → (is_a forms.Begin m || is_id id (dtid_in m)) ≡ true
      → is_side side sender ≡ true → matters_for_half side id (Sent sender m) ≡ true
  own_matters m sender so is = by side sender is
    where
      by : (s t : Side) → is_side s t ≡ true → matters_for_half s id (Sent t m) ≡ true
      by sides.A sides.A is = so
      by sides.A sides.B is = cc
      by sides.B sides.A is = cc
      by sides.B sides.B is = so

  to_matters : (m : Message) (sender : Side) (b : Bool) → (is_id id (dtid_in m) && b) ≡ true → is_side side sender ≡ true
      → matters_for_half side id (Sent sender m) ≡ true
  to_matters m sender b so = own_matters m sender (or_right (is_a forms.Begin m) _ (and_parts (is_id id (dtid_in m)) b so).0)

  begin_matters : (m : Message) (sender : Side) (b : Bool) → (is_a forms.Begin m && b) ≡ true → is_side side sender ≡ true
      → matters_for_half side id (Sent sender m) ≡ true
  begin_matters m sender b so =
      own_matters m sender (ap (λ x. x || is_id id (dtid_in m)) (and_parts (is_a forms.Begin m) b so).0)

  module _ (items : List Item) where
    same_asked : peer_sent_from side id (those items) ≡ peer_sent_from side id items
    same_asked = passed (λ m. is_id id (otid_in m)) (other side) peer_matters items

    same_outgoing : outgoing side id (those items) ≡ outgoing side id items
    same_outgoing = passed (is_outgoing_to id) side (λ m sender so. to_matters m sender _ so) items

    same_refused : was_refused side id (those items) ≡ was_refused side id items
    same_refused =
        any_kept (is_abort_with 4 id) (sent_by side (those items))
        ∙ ap (λ ms. not (is_nothing ms)) (passed (is_abort_with 4 id) side (λ m sender so. to_matters m sender _ so) items)
        ∙ sym (any_kept (is_abort_with 4 id) (sent_by side items))

    same_begin : (own : List ℕ) → begin_from side own (those items) ≡ begin_from side own items
    same_begin own =
        find_first (is_begin_from own) (sent_by side (those items))
        ∙ ap first_of (passed (is_begin_from own) side (λ m sender so. begin_matters m sender _ so) items)
        ∙ sym (find_first (is_begin_from own) (sent_by side items))

    same_goes : (m : Message) → goes_to_begun side (those items) m ≡ goes_to_begun side items m
    same_goes (Continue otid dtid dialogue components) = ap is_some (same_begin dtid)
    same_goes m = refl

    -- ---- the half

    same_own : begun_from side (those items) id ≡ begun_from side items id
    same_own = λ i. option_then (find (λ m. same_goes m i) (same_asked i)) dtid_in

    same_answered : answered_from side (those items) id ≡ answered_from side items id
    same_answered = ap (λ ms. option_then (find (is_a forms.Continue) ms) otid_in) same_outgoing

    same_continued : (own : Option (List ℕ)) → continued_to side (those items) id own ≡ continued_to side items id own
    same_continued None = refl
    same_continued (Some own) = ap (filter (is_continue_to own)) same_asked

    same_accepted : accepted_half side (those items) id ≡ accepted_half side items id
    same_accepted = λ i. record {
      origin = cond (same_refused i) Refused Accepted;
      own = same_answered i;
      begin = find (is_a forms.Begin) (same_asked i);
      incoming = components_of (option_to_list (find (is_a forms.Begin) (same_asked i)) ++ continued i);
      outgoing = components_of (same_outgoing i);
      invoked = components_of (same_outgoing i);
    }
      where
        continued : continued_to side (those items) id (answered_from side (those items) id)
            ≡ continued_to side items id (answered_from side items id)
        continued =
            ap (continued_to side (those items) id) same_answered ∙ same_continued (answered_from side items id)

    same_begun : (own : List ℕ) → begun_half side (those items) id own ≡ begun_half side items id own
    same_begun own = λ i. record {
      origin = cond (is_nothing (incoming i)) Unanswered Begun;
      own = Some own;
      begin = same_begin own i;
      incoming = components_of (incoming i);
      outgoing = components_of (same_outgoing i);
      invoked = components_of (option_to_list (same_begin own i) ++ same_outgoing i);
    }
      where
        incoming : incoming_continues (begin_from side own (those items)) (continued_to side (those items) id (Some own))
            ≡ incoming_continues (begin_from side own items) (continued_to side items id (Some own))
        incoming = ap₂ incoming_continues (same_begin own) (same_continued (Some own))

    same_by : (b : Bool) (own : Option (List ℕ)) → half_by side (those items) id b own ≡ half_by side items id b own
    same_by true own = same_accepted
    same_by false None = refl
    same_by false (Some own) = same_begun own

    pub same_half : half_of side (those items) id ≡ half_of side items id
    same_half =
        ap₂ (half_by side (those items) id) (ap (has_a forms.Begin) same_asked) same_own
        ∙ same_by (has_a forms.Begin (peer_sent_from side id items)) (begun_from side items id)

-- ---- the component

module _ (of_one : Bool) (table : Table) (side : Side) where
  -- The first component is the same if the tests of components agree.
  same_first : (xs ys : List Item) (m : Message) (kind : Kind)
      → ((c : Component) → answers_nothing_in of_one side xs m c ≡ answers_nothing_in of_one side ys m c)
      → ((c : Component) → is_wrong_in table side xs m c ≡ is_wrong_in table side ys m c)
      → first_component of_one table side xs m kind ≡ first_component of_one table side ys m kind
  same_first xs ys m kinds.AnswersNothing answers wrong = λ i. first_where (λ c. answers c i) 0 (components_in m)
  same_first xs ys m kinds.WrongOperation answers wrong = λ i. first_where (λ c. wrong c i) 0 (components_in m)
  same_first xs ys m kind answers wrong = refl

  module _ (items : List Item) where
    -- The messages of the peer from the destination ID decide the first component.
    asked_first : (id : List ℕ) (m : Message) (kind : Kind) → Some id ≡ dtid_in m
        → first_component of_one table side (those side id items) m kind ≡ first_component of_one table side items m kind
    asked_first id m kind to = same_first (those side id items) items m kind (answers m to) (wrong m to)
      where
        asks : (dtid : List ℕ) → Some id ≡ Some dtid → peer_sent_from side dtid (those side id items) ≡ peer_sent_from side dtid items
        asks dtid to = rw (← same_Some id dtid to) (same_asked side id items)

        answers : (m : Message) → Some id ≡ dtid_in m → (c : Component)
            → answers_nothing_in of_one side (those side id items) m c ≡ answers_nothing_in of_one side items m c
        answers (Continue otid dtid dialogue components) to c =
            ap (λ ms. cond of_one (answers_none (components_of ms) c) (answers_none_of (components_of ms) c)) (asks dtid to)
        answers (EndMessage dtid dialogue components) to c =
            ap (λ ms. cond of_one (answers_none (components_of ms) c) (answers_none_of (components_of ms) c)) (asks dtid to)
        answers (Abort dtid reason) to c =
            ap (λ ms. cond of_one (answers_none (components_of ms) c) (answers_none_of (components_of ms) c)) (asks dtid to)
        answers m to c = refl

        wrong : (m : Message) → Some id ≡ dtid_in m → (c : Component)
            → is_wrong_in table side (those side id items) m c ≡ is_wrong_in table side items m c
        wrong (Continue otid dtid dialogue components) to c =
            ap (λ ms. is_unknown_operation table c || no_class_allows table (components_of ms) c) (asks dtid to)
        wrong (EndMessage dtid dialogue components) to c =
            ap (λ ms. is_unknown_operation table c || no_class_allows table (components_of ms) c) (asks dtid to)
        wrong (Abort dtid reason) to c =
            ap (λ ms. is_unknown_operation table c || no_class_allows table (components_of ms) c) (asks dtid to)
        wrong m to c = refl

    -- ---- the subject

    same_subject : (id : List ℕ) (m : Message) (kind : Kind) → Some id ≡ dtid_in m
        → subject of_one table side (those side id items) m kind ≡ subject of_one table side items m kind
    same_subject id m kind to =
        sym (half_is of_one table side (those side id items) kind m id to)
        ∙ (λ i. record {
          origin = (same_half side id items i).origin;
          own = (same_half side id items i).own;
          component = option_or (asked_first id m kind to i)
              (half_component table (same_half side id items i) (components_in m) kind);
        })
        ∙ half_is of_one table side items kind m id to

    -- Without a destination ID, nothing matters.
    alone_same : (m : Message) (kind : Kind) → None ≡ dtid_in m
        → subject of_one table side [] m kind ≡ subject of_one table side items m kind
    alone_same m kind none =
        sym (alone_is of_one table side [] kind m none)
        ∙ ap (λ first. record {
          origin = Nowhere;
          own = None;
          component = option_or first (alone_component (components_in m) kind);
        }) (same_first [] items m kind (answers m none) (wrong m none))
        ∙ alone_is of_one table side items kind m none
      where
        answers : (m : Message) → None ≡ dtid_in m → (c : Component)
            → answers_nothing_in of_one side [] m c ≡ answers_nothing_in of_one side items m c
        answers (Unidirectional dialogue components) none c = refl
        answers (Begin otid dialogue components) none c = refl
        answers m none c = cc

        wrong : (m : Message) → None ≡ dtid_in m → (c : Component)
            → is_wrong_in table side [] m c ≡ is_wrong_in table side items m c
        wrong (Unidirectional dialogue components) none c = refl
        wrong (Begin otid dialogue components) none c = refl
        wrong m none c = cc

  -- The subject of a message after the items that matter is its subject after all items.
  matters_for : (items : List Item) (m : Message) (kind : Kind) (o : Option (List ℕ)) → o ≡ dtid_in m
      → subject of_one table side (since_quiet (items_for_half side o items)) m kind
      ≡ subject of_one table side (since_quiet items) m kind
  matters_for items m kind None to = alone_same (since_quiet items) m kind to
  matters_for items m kind (Some id) to =
      ap (λ xs. subject of_one table side xs m kind) (since_those side id items)
      ∙ same_subject (since_quiet items) id m kind to

  pub matters_alone : (items : List Item) (r : Result Item Reason) (kind : Kind)
      → subject_by of_one table side (since_quiet (items_for_entry side r items)) (Some r) kind
      ≡ subject_by of_one table side (since_quiet items) (Some r) kind
  matters_alone items (Ok (Sent sender m)) kind = matters_for items m kind (dtid_in m) refl
  matters_alone items r kind = refl
