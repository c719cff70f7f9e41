-- What the lists show if a message does not fit its dialogue, its half, or the message that it answers: F7 to F9 and
-- F14 (Q.774 3.2, 3.3).
use Rattle.std.specs.Prelude.{◌≡◌, ◌⊎◌, ◌<◌, ◌≤◌, ◌+◌, ℕ, Bool, true, false, List, [], Option, Some, None, is_some, ◌&&◌, not}
use Rattle.tcap_msg.specs.declared.kind.Kind.TheVariants as forms
use Rattle.tcap_msg.specs.declared.message.Message.{Message}
use Rattle.tcap_msg.specs.declared.message.Message.TheVariants.{Abort}
use Rattle.tcap_msg.specs.Parts.{dialogue_in, dtid_in}
use Rattle.tcap_end.specs.Dialogue.{accepts_dialogue, is_response, is_user_abort, refuses_dialogue}
use Rattle.tcap_refute.specs.EarlierMessages.{is_a}
use Rattle.tcap_faults.specs.ClosedHalves.{is_surely_open}
use Rattle.tcap_faults.specs.TangledIds.{goes_to_begun}
use Rattle.tcap_faults.specs.declared.dialogue.half_origin.HalfOrigin.{HalfOrigin}
use Rattle.tcap_faults.specs.declared.dialogue.half_origin.HalfOrigin.TheVariants.{Accepted, Refused, Begun, Unanswered, Nowhere}
use Rattle.tcap_faults.specs.HalfByPeerId.{responds}
use Rattle.tcap_evidence.specs.declared.shown_facts.ShownFact.TheVariants as facts
use Rattle.tcap_evidence.specs.NumberedMessages.{entries_where}
use Rattle.tcap_evidence.specs.Scene.{Scene, peer_from_dtid, to_half}
use Rattle.tcap_evidence_laws.specs.ListedEntries.{AreDifferent, ListsNone, ListsOne, count_shown}

-- ---- F7: a dialogue portion that the message may not carry

-- whether the dialogue portion answers a request: an AARE that accepts the dialogue; in an Abort, an AARE that refuses
-- it
abbrev pub answers_request : Message → Bool
answers_request (Abort dtid reason) = refuses_dialogue (dialogue_in (Abort dtid reason))
answers_request m = accepts_dialogue (dialogue_in m)

-- The message has a dialogue portion; and if it answers a request, no Begin from the destination ID has one.
abbrev pub ShowsMisplaced : Scene → Message → Type 0
ShowsMisplaced s m = (is_some (dialogue_in m) ≡ true) × (answers_request m ≡ true → ListsNone s facts.PeerRequests)

-- ---- F8: no half may send the message

-- The end accepted the peer's Begin: there is one, and it was not refused.
abbrev pub Accepts : Scene → Type 0
Accepts s = ListsOne s facts.PeerBegins × ListsNone s facts.Refused

-- The end accepted no Begin of the peer: there is none, or it was refused.
abbrev pub AcceptsNone : Scene → Type 0
AcceptsNone s = ListsNone s facts.PeerBegins ⊎ ListsOne s facts.Refused

-- The end sent a Begin from the own ID; the peer sent a Continue, but no Begin.
abbrev pub Begins : Scene → Type 0
Begins s = ListsNone s facts.PeerBegins × ListsOne s facts.Begun × ListsOne s facts.PeerContinues

-- A half that began in this way may not send:
-- - Refused: the peer's Begin was refused;
-- - Unanswered: no Continue answers the request of the end's Begin;
-- - Nowhere: there is no Begin of the peer, and no Continue to an ID that the end began.
abbrev pub MayNotSpeak : Scene → HalfOrigin → Type 0
MayNotSpeak s Accepted = ⊥
MayNotSpeak s Refused = ListsOne s facts.PeerBegins × ListsOne s facts.Refused
MayNotSpeak s Begun = ⊥
MayNotSpeak s Unanswered = Begins s × ListsOne s facts.OwnRequests × (entries_where responds (to_half s) ≡ [])
MayNotSpeak s Nowhere =
    ListsNone s facts.PeerBegins × (entries_where (goes_to_begun s.side s.items) (peer_from_dtid s) ≡ [])

-- The message's originating ID is not the half's. Accepted half: the end sent a Begin from the own ID, or a Continue
-- from another own ID. Begun half: its own ID is another one.
abbrev pub GoesFromOther : Scene → HalfOrigin → Type 0
GoesFromOther s Accepted =
    Accepts s × (ListsOne s facts.Begun ⊎ ListsOne s facts.OutgoingContinues × AreDifferent s.half s.from)
GoesFromOther s Begun = Begins s × AreDifferent s.half s.from
GoesFromOther s origin = ⊥

-- The half may not send, or has another own ID, or was closed by an Abort with cause 1.
abbrev pub ShowsWrongHalf : Scene → HalfOrigin → Type 0
ShowsWrongHalf s origin = MayNotSpeak s origin ⊎ GoesFromOther s origin ⊎ ListsOne s facts.Unknown

-- ---- F9: a dialogue portion that does not fit the dialogue state

-- whether only the first answer may carry the dialogue portion: any portion; in an Abort, an AARE
abbrev pub is_for_first : Message → Bool
is_for_first (Abort dtid reason) = is_response (dialogue_in (Abort dtid reason))
is_for_first m = is_some (dialogue_in m)

-- The dialogue portion does not fit a half whose Begin the peer sent, because one of these holds:
-- - the portion is for the first answer, but the end sent a Continue before;
-- - the message is the first answer to a request, but has no AARE;
-- - the message is an Abort with a user's ABRT, but there was no request.
abbrev pub MisfitsAccepted : Scene → Message → Type 0
MisfitsAccepted s (Abort dtid reason) =
    (is_for_first (Abort dtid reason) ≡ true) × ListsOne s facts.OutgoingContinues
    ⊎ (is_user_abort (dialogue_in (Abort dtid reason)) ≡ true) × ListsNone s facts.PeerRequests
MisfitsAccepted s m =
    (is_for_first m ≡ true) × ListsOne s facts.OutgoingContinues
    ⊎ (is_response (dialogue_in m) ≡ false) × ListsNone s facts.OutgoingContinues × ListsOne s facts.PeerRequests

-- The dialogue portion does not fit a half whose Begin the end sent: the portion is for the first answer; or an Abort
-- has a user's ABRT, but not every Begin from the own ID has a request.
abbrev pub MisfitsBegun : Scene → Message → Type 0
MisfitsBegun s (Abort dtid reason) =
    (is_for_first (Abort dtid reason) ≡ true)
    ⊎ (is_user_abort (dialogue_in (Abort dtid reason)) ≡ true)
    × (count_shown s facts.OwnRequests < count_shown s facts.Begun)
MisfitsBegun s m = is_for_first m ≡ true

-- F9, by how the half began
abbrev pub ShowsWrongDialogue : Scene → HalfOrigin → Message → Type 0
ShowsWrongDialogue s Accepted m = ListsOne s facts.PeerBegins × MisfitsAccepted s m
ShowsWrongDialogue s Begun m = ListsOne s facts.Begun × MisfitsBegun s m
ShowsWrongDialogue s origin m = ⊥

-- ---- F14: an Abort of the provider that answers no message that is left

-- whether a message goes to a half that is certainly open
abbrev pub goes_to_open : Scene → Message → Bool
goes_to_open s m = by (dtid_in m)
  where
    by : Option (List ℕ) → Bool
    by None = false
    by (Some own) = is_surely_open s.table s.side s.items own

-- No Continue from the destination ID is left for an Abort with cause 1. Either each was answered; or each but one,
-- which was received, because the end sent something there without accepting a Begin; or each goes to an open half.
abbrev pub NoContinueLeft : Scene → Type 0
NoContinueLeft s =
    (count_shown s facts.PeerContinues ≤ count_shown s facts.Unknown)
    ⊎ (count_shown s facts.PeerContinues ≤ count_shown s facts.Unknown + 1) × ListsOne s facts.OutgoingComponents
    × AcceptsNone s
    ⊎ ListsOne s facts.PeerContinues
    × (entries_where (λ m. is_a forms.Continue m && not (goes_to_open s m)) (peer_from_dtid s) ≡ [])

-- No Begin from the destination ID is left to be refused: none was accepted, or the end sent something there.
abbrev pub NoBeginLeft : Scene → Type 0
NoBeginLeft s = AcceptsNone s ⊎ ListsOne s facts.OutgoingComponents

-- F14, by the cause of the Abort
abbrev pub ShowsWrongReply : Scene → Option ℕ → Type 0
ShowsWrongReply s None = ⊥
ShowsWrongReply s (Some cause) = (cause ≡ 1) × NoContinueLeft s ⊎ (cause ≡ 4) × NoBeginLeft s
