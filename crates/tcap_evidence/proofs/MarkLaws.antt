-- The halves that are open at a quiet mark, from the stored facts on both ends.
use Rattle.tcap_evidence.proofs.Common.{◌≡◌, ℕ, ◌+◌, ◌<◌, Bool, true, false, cond, not, ◌&&◌, ◌||◌, List, [], ◌∷◌, Option, Some, None, drop, get_or, length, map, refl, sym, ap, ap₂, ◌∙◌, is_at, find, list_any, lookup, Message, dtid_in, otid_in, other, is_id, octets_cmp, is_a, sent_by, option_or, SentEntry, ended_to, first_to, messages_of, Numbered, entries_where, numbered_of, Scene, is_open_continue}
use Rattle.std.proofs.Common.{bytes_eq, is_some}
use Rattle.std.specs.BTreeSet as set
use Rattle.std.proofs.lemmas.Map.Lookups.{exact_bytes}
use Rattle.std.proofs.lemmas.Map.Views.{tells_apart}
use Rattle.tcap_msg.specs.declared.kind.Kind.TheVariants as forms
use Rattle.tcap_msg.specs.declared.message.Message.TheVariants.{Continue, Abort}
use Rattle.tcap_model.specs.Run.{option_then, only_if}
use Rattle.tcap_refute.specs.EarlierMessages.{ends_to}
use Rattle.tcap_faults.specs.ClosedHalves.{is_surely_open}
use Rattle.tcap_faults.proofs.transaction_laws.KeyLaws.{at_other}
use Rattle.tcap_faults.proofs.transaction_laws.IdMapLaws.{Puts}
use Rattle.tcap_faults.proofs.list_laws.TwoTests.{any_agree}
use Rattle.tcap_evidence.specs.declared.mark.Halves.{Halves}
use Rattle.tcap_evidence.specs.OpenAtMark.{AreHalves}
use Rattle.tcap_evidence.proofs.ListingLaws.{left_is}

-- ---- the stored messages

messages_are : (sent : List SentEntry) → map (λ n. n.1) (numbered_of sent) ≡ messages_of sent
messages_are [] = refl
messages_are (s ∷ more) = ap (λ ms. s.message.now ∷ ms) (messages_are more)

-- The stored messages are those that were sent among the items.
pub all_sent : (sent : List SentEntry) (its : List Numbered) (ms : List Message) → numbered_of sent ≡ its
    → map (λ n. n.1) its ≡ ms
    → messages_of sent ≡ ms
all_sent sent its ms are sent_is = sym (messages_are sent) ∙ ap (map (λ n. n.1)) are ∙ sent_is

-- ---- the destination of a Continue

-- the destination of the first Continue from an ID
first_goes : (id : List ℕ) (ms : List Message)
    → first_to id ms ≡ option_then (find (λ m. is_a forms.Continue m && is_id id (otid_in m)) ms) dtid_in
first_goes id [] = refl
first_goes id (Continue otid dtid dialogue components ∷ ms) = by (bytes_eq id otid) (first_goes id ms)
  where
    by : (b : Bool)
        → first_to id ms ≡ option_then (find (λ m. is_a forms.Continue m && is_id id (otid_in m)) ms) dtid_in
        → option_or (only_if b (Some dtid)) (first_to id ms)
        ≡ option_then (cond b (Some (Continue otid dtid dialogue components)) (find (λ m. is_a forms.Continue m && is_id id (otid_in m)) ms)) dtid_in
    by true rest = refl
    by false rest = rest
first_goes id (m ∷ ms) = first_goes id ms

option_or_none : {A : Type 0} (o : Option A) → o ≡ option_or o None
option_or_none None = refl
option_or_none (Some a) = refl

module _ (old : List (List ℕ × List ℕ)) (otid dtid : List ℕ) where
  -- The destination of a Continue is noted if none went from the same ID before.
  pub first_noted : (new : List (List ℕ × List ℕ)) → is_some (lookup (is_at (octets_cmp otid)) old) ≡ false
      → Puts old new otid dtid
      → (id : List ℕ) → lookup (is_at (octets_cmp id)) new
      ≡ option_or (lookup (is_at (octets_cmp id)) old) (only_if (bytes_eq id otid) (Some dtid))
  first_noted new none puts id = puts id ∙ by (is_at (octets_cmp otid) id) refl
    where
      nothing : (o : Option (List ℕ)) → is_some o ≡ false → o ≡ None
      nothing None is = refl
      nothing (Some a) is = cc

      by : (b : Bool) → is_at (octets_cmp otid) id ≡ b
          → cond b (Some dtid) (lookup (is_at (octets_cmp id)) old)
          ≡ option_or (lookup (is_at (octets_cmp id)) old) (only_if (bytes_eq id otid) (Some dtid))
      by true same =
          let one : otid ≡ id = tells_apart exact_bytes otid id same in
          let gone : lookup (is_at (octets_cmp id)) old ≡ None =
          ap (λ key. lookup (is_at (octets_cmp key)) old) (sym one) ∙ nothing _ none in
          rw (gone, ← at_other otid id, same) refl
      by false apart = rw (← at_other otid id, apart) (option_or_none _)

-- ---- ended IDs

or_assoc : (a b c : Bool) → ((a || b) || c) ≡ (a || (b || c))
or_assoc true b c = refl
or_assoc false b c = refl

module _ (by_provider : Bool) (sent : List SentEntry) (i : ℕ) (x : SentEntry) (within : i < length sent)
    (here : x ≡ get_or sent i x) (id : List ℕ) where
  -- whether a message from number `i` on is an End or an Abort to the ID
  abbrev left_ended : ℕ → Bool
  left_ended i = list_any (λ m. is_id id (ended_to by_provider m)) (messages_of (drop i sent))

  -- The next message is taken.
  pub ended_more : {all : Bool} (was now : Bool) → now ≡ (was || is_id id (ended_to by_provider x.message.now))
      → (was || left_ended i) ≡ all → (now || left_ended (i + 1)) ≡ all
  ended_more was now is so_far =
      ap (λ b. b || left_ended (i + 1)) is
      ∙ or_assoc was (is_id id (ended_to by_provider x.message.now)) (left_ended (i + 1))
      ∙ ap (λ b. was || b)
      (sym (left_is (λ xs. list_any (λ m. is_id id (ended_to by_provider m)) (messages_of xs)) sent i x within here))
      ∙ so_far

-- an End or an Abort to an ID
ends_is : (id : List ℕ) (m : Message) → is_id id (ended_to true m) ≡ ends_to id m
ends_is id (Abort dtid reason) = refl
ends_is id m = refl

-- ---- a half that is certainly open

module _ (s : Scene) (kept : Halves) (are : AreHalves s kept) (unarranged : s.table.prearranged ≡ false) (own : List ℕ) where
  goes : (to : Option (List ℕ)) → to ≡ lookup (is_at (octets_cmp own)) kept.first.entries
      → option_then (find (λ m. is_a forms.Continue m && is_id own (otid_in m)) (sent_by s.side s.items)) dtid_in ≡ to
  goes to is = sym (first_goes own (sent_by s.side s.items)) ∙ sym (are.first own) ∙ sym is

  -- The half is not open if no Continue went from its ID.
  pub open_nowhere : None ≡ lookup (is_at (octets_cmp own)) kept.first.entries
      → false ≡ is_surely_open s.table s.side s.items own
  open_nowhere none = let none_goes = goes None none in rw (unarranged, none_goes) refl

  -- If one did, the half is open exactly if neither end ended it.
  pub open_there : (to : List ℕ) → Some to ≡ lookup (is_at (octets_cmp own)) kept.first.entries
      → (not (set.contains octets_cmp kept.ended to) && not (set.contains octets_cmp kept.ended_by_peer own))
      ≡ is_surely_open s.table s.side s.items own
  open_there to there =
      let it_goes = goes (Some to) there in
      ap₂ (λ a b. not a && not b) (are.ended to)
      (are.ended_by_peer own ∙ any_agree _ _ (sent_by (other s.side) s.items) (ends_is own))
      ∙ rw (unarranged, it_goes) refl

-- If the table allows prearranged ends, no half is certainly open.
not_open : (s : Scene) → s.table.prearranged ≡ true → (m : Message) → is_open_continue s m ≡ false
not_open s arranged (Continue otid dtid dialogue components) = rw arranged refl
not_open s arranged m = refl

pub none_open : (s : Scene) → s.table.prearranged ≡ true → (sent : List Numbered)
    → [] ≡ entries_where (is_open_continue s) sent
none_open s arranged [] = refl
none_open s arranged (n ∷ more) = rw (not_open s arranged n.1) (none_open s arranged more)
