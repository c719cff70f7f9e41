-- The names that most proofs of this crate cite, passed on from one place. Declares nothing.
pub use Rattle.std.proofs.Common.{◌≡◌, ◌⊎◌, inl, inr, ℕ, ℤ, ◌+◌, ◌≤◌, ◌<◌, arith, Bool, true, false, not, ◌||◌, List, [], ◌∷◌, ◌++◌, length, take, Option, Some, None, refl, sym, ap, subst, ◌∙◌, ltb-true, cond, ◌&&◌, map, Result, Ok, Err, is_none, ◌≢◌, ◌==◌, append_assoc, append-nil, length-append, is_some, zero, suc, option_to_list, option_map}
pub use Rattle.std.specs.Option.{option_or}
pub use Rattle.std.proofs.lemmas.Bool.{and_from, and_parts, leb-true, or_cases, not-true, or_left, eq-eqb, or_right, or_parts, eqb-true, false_from_ne_true}
pub use Rattle.std.proofs.lemmas.List.{length-map, map-append, take-map}
pub use Rattle.std.proofs.lemmas.List.Elements.{Contains-append_right, Contains-append_left, filter_map-append, Contains-append_cases, Contains-push_cases, Contains-push}
pub use Rattle.std.specs.List.{find, list_any}
pub use Rattle.std.specs.Prelude.{nat_lt, Contains, filter, slice_get, nat_le}
pub use Rattle.tcap_parts.specs.declared.code.Code.{Code}
pub use Rattle.tcap_parts.specs.declared.component.Component.{Component}
pub use Rattle.tcap_parts.specs.declared.component.Component.TheVariants.{Invoke, ReturnResult, ReturnError, Reject}
pub use Rattle.tcap_parts.specs.declared.component.ResultBody.{ResultBody}
pub use Rattle.tcap_parts.specs.declared.dialogue.Dialogue.{Dialogue}
pub use Rattle.tcap_msg.specs.Parts.{components_in, cause_in, dialogue_in, dtid_in, otid_in, kind_in}
pub use Rattle.tcap_msg.specs.declared.message.Message.{Message}
pub use Rattle.tcap_msg.specs.declared.message.Message.TheVariants.{Unidirectional, Begin, Continue, End as EndMessage, Abort}
pub use Rattle.tcap_record.specs.Ends.{other}
pub use Rattle.tcap_record.specs.declared.entry.End.{End as Side}
pub use Rattle.tcap_record.specs.declared.entry.Entry.{Entry}
pub use Rattle.tcap_end.proofs.StepLaws.{none_is}
pub use Rattle.tcap_end.specs.Component.{is_code}
pub use Rattle.tcap_end.specs.Dialogue.{is_response}
pub use Rattle.tcap_end.specs.End.{is_id}
pub use Rattle.tcap_end.specs.Table.{Table}
pub use Rattle.tcap_model.proofs.ListLaws.{contains_first}
pub use Rattle.tcap_model.proofs.RunLaws.{same_side}
pub use Rattle.tcap_model.proofs.TurnLaws.{id_is}
pub use Rattle.tcap_model.proofs.WorldLaws.{itself}
pub use Rattle.tcap_model.specs.Entries.{item_of}
pub use Rattle.tcap_model.specs.Run.{only_if}
pub use Rattle.tcap_model.specs.SinceMark.{ended_by, is_begin_with_request}
pub use Rattle.tcap_model.specs.World.{Item, Sent, is_side}
pub use Rattle.tcap_model.specs.declared.reason.Reason.{Reason}
pub use Rattle.tcap_end.proofs.FoundLaws.{is_that_id}
pub use Rattle.tcap_refute.proofs.Members.{has_not, any_has, filter_has, filter_map_has, has_first, has_later}
pub use Rattle.tcap_refute.specs.EarlierMessages.{invokes, is_invoke_id, is_a, peer_sent_from, components_of, has_a, message_of, sent_by}
pub use Rattle.tcap_refute.specs.Kind.{goes_elsewhere}
pub use Rattle.tcap_refute.specs.declared.kind.Kind.{Kind}
pub use Rattle.tcap_refute.specs.declared.kind.Refutation.{Refutation}
pub use Rattle.tcap_faults.proofs.component_laws.FewSums.{count_invokes, any_same}
pub use Rattle.tcap_faults.proofs.list_laws.CountLaws.{one, count_both, count_more}
pub use Rattle.tcap_faults.proofs.list_laws.FindLaws.{any_is, filter_is, find_has}
pub use Rattle.tcap_faults.proofs.list_laws.TwoTests.{passes_not, none_passes, flat_map_is}
pub use Rattle.tcap_faults.proofs.story_laws.AnsweredLaws.{count_takes_all}
pub use Rattle.tcap_faults.proofs.story_laws.InvokeListLaws.{id_itself}
pub use Rattle.tcap_faults.specs.ClosedHalves.{was_closed, is_surely_open}
pub use Rattle.tcap_faults.specs.Components.{has_component, is_of_link}
pub use Rattle.tcap_faults.specs.Counts.{any_problem, count, count_class, invokes_where, is_error, is_last_result, rejects_invoke, is_result, has_class, rejects_result, is_nothing}
pub use Rattle.tcap_faults.specs.Fault.{is_fault, is_of_half_kind}
pub use Rattle.tcap_faults.specs.FaultSubject.{subject, subject_by, subject_of}
pub use Rattle.tcap_faults.specs.HalfByPeerId.{HalfMessages, half_of, begun_from, continued_to, half_by, incoming_continues, answered_from, from_first, responds}
pub use Rattle.tcap_faults.specs.HalfKinds.{is_wrong_half, goes_from_other, may_not_send}
pub use Rattle.tcap_faults.specs.InvokeCounts.{is_sort}
pub use Rattle.tcap_faults.specs.SentToId.{is_continue_to, is_cause, is_abort_with, outgoing, began, begin_from, is_request_of, was_refused, is_begin_from, is_continue_from}
pub use Rattle.tcap_faults.specs.TangledIds.{is_own_tangled, peers_of, goes_to_begun, owns_of, goes_over_tangled}
pub use Rattle.tcap_faults.specs.declared.component.component_sort.Class.{Class}
pub use Rattle.tcap_faults.specs.declared.component.component_sort.Class.TheVariants.{Any, One, Two, Three}
pub use Rattle.tcap_faults.specs.declared.component.component_sort.Sort.{Sort}
pub use Rattle.tcap_faults.specs.declared.dialogue.half_origin.HalfOrigin.{HalfOrigin}
pub use Rattle.tcap_faults.specs.declared.dialogue.half_origin.HalfOrigin.TheVariants.{Accepted, Begun, Nowhere, Refused, Unanswered}
pub use Rattle.tcap_faults.specs.declared.verdict.fault_subject.Subject.{Subject}
pub use Rattle.tcap_evidence.specs.Evidence.{invoke_id_of, grounds_of, mark_scene, scene_of, component_at, grounds_in, shows}
pub use Rattle.tcap_evidence.specs.NumberedMessages.{Numbered, in_order, sent_before, entries_where, entries_with, with_entries, with_entry}
pub use Rattle.tcap_evidence.specs.Operations.{invocations_at}
pub use Rattle.tcap_evidence.specs.Partners.{Pairing, anew, no_pairing, paired_before, partner_in, with_message, with_pair, with_pairs, with_partner}
pub use Rattle.tcap_evidence.specs.Scene.{Scene, has_request, incoming_by, invoked_by, is_open_continue, is_same_id, own_begin, own_id, shown, since_first, peer_from_dtid, to_half, sent_to_dtid, went_elsewhere, with_sort, with_sort_in}
pub use Rattle.tcap_evidence.specs.declared.shown_facts.ShownFact.{ShownFact}
pub use Rattle.tcap_evidence_laws.specs.ComponentEvidence.{earlier_passing, incoming_passing, invokes_passing, entries_passing, invoked_components}
pub use Rattle.tcap_evidence_laws.specs.GivenLists.{IsAscending, invokes_listed}
pub use Rattle.tcap_evidence_laws.specs.ListedEntries.{HasKind, component_with, items_before, count_shown, scene_at, ListsNone, HasSort, AreListsComplete, AreCounted, ListsOne, AreSame, IsEntryOf, IsEntryItself, IsSentBefore, IsShown, AreDifferent, IsOpen, IsOutgoingTo}
