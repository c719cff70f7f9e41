-- The names that most proofs of this crate cite, passed on from one place. Declares nothing.
pub use Rattle.std.proofs.Common.{◌≡◌, ◌<◌, length, get_or, ℕ, Bool, true, false, cond, List, [], ◌∷◌, Option, Some, None, refl, map, take, Ok, Err, sym, ap, ◌∙◌, ◌+◌, ◌≤◌, ◌++◌, append_assoc, drop, filter, flat_map, not, ◌&&◌, ◌||◌, ap₂, Result, ◌⊎◌, arith, to_z-of_z}
pub use Rattle.std.specs.Option.{option_or}
pub use Rattle.std.proofs.lemmas.Iterator.Consumers.{YieldsList-from_first}
pub use Rattle.std.proofs.lemmas.List.{append-nil}
pub use Rattle.std.proofs.lemmas.Result.{on_ok_weaker, IfOk-weaker}
pub use Rattle.std.specs.BTreeMap.{is_at}
pub use Rattle.std.specs.Fmt.{decimal, signed_decimal}
pub use Rattle.std.specs.List.{list_any, find}
pub use Rattle.std.specs.Map.{lookup}
pub use Rattle.std.specs.Prelude.{slice_get, if◌then◌else◌, codes}
pub use Rattle.std.specs.Result.{is_ok}
pub use Rattle.std.specs.String.{string_bytes}
pub use Rattle.tcap_parts.specs.Meaning.{component_of, components_left}
pub use Rattle.tcap_parts.specs.declared.component.Component.{Component}
pub use Rattle.tcap_msg.specs.Parts.{components_in, dtid_in, dialogue_in, otid_in}
pub use Rattle.tcap_msg.specs.declared.message.Message.{Message}
pub use Rattle.tcap_record.specs.Ends.{other, letter}
pub use Rattle.tcap_record.specs.Lines.{line_end}
pub use Rattle.tcap_record.specs.declared.entry.Body.{Body}
pub use Rattle.tcap_record.specs.declared.entry.Body.TheVariants.{Good, Bad, Quiet}
pub use Rattle.tcap_record.specs.declared.entry.End.{End as Side}
pub use Rattle.tcap_record.specs.declared.entry.Entry.{Entry}
pub use Rattle.tcap_end.specs.Dialogue.{is_response}
pub use Rattle.tcap_end.specs.End.{is_id}
pub use Rattle.tcap_end.specs.Table.{Table, octets_cmp}
pub use Rattle.tcap_model.specs.Entries.{item_by, item_of}
pub use Rattle.tcap_model.specs.World.{Item, Sent}
pub use Rattle.tcap_model.specs.declared.reason.Reason.{Reason}
pub use Rattle.tcap_refute.specs.EarlierMessages.{since_quiet, is_a, sent_by}
pub use Rattle.tcap_refute.specs.declared.kind.Kind.{Kind}
pub use Rattle.tcap_refute.specs.declared.kind.Refutation.{Refutation}
pub use Rattle.tcap_faults.specs.FaultSubject.{items_among}
pub use Rattle.tcap_faults.specs.InvokeCounts.{is_sort}
pub use Rattle.tcap_evidence.specs.Evidence.{shows, component_at, grounds_in, invoke_id_in, mark_scene, scene_of}
pub use Rattle.tcap_evidence.specs.EvidenceWords.{ground_line, invocation_line}
pub use Rattle.tcap_evidence.specs.NumberedMessages.{numbered_of, sent_before, Numbered, entries_where, inserted, in_order}
pub use Rattle.tcap_evidence.specs.OpenAtMark.{is_of_mark, ended_to, first_to, messages_of}
pub use Rattle.tcap_evidence.specs.Operations.{invocations_of}
pub use Rattle.tcap_evidence.specs.Partners.{paired_before}
pub use Rattle.tcap_evidence.specs.PassingEntries.{passes}
pub use Rattle.tcap_evidence.specs.Scene.{since_first, Scene, is_open_continue, is_same_id}
pub use Rattle.tcap_evidence.specs.StoredScene.{IsScene, AreMessagesByEnd}
pub use Rattle.tcap_evidence.specs.declared.sent.Sent.{Sent as SentEntry}
pub use Rattle.tcap_evidence.specs.declared.sent.MessagesByEnd.{MessagesByEnd}
