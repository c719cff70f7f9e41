use Rattle.std.proofs.Common.{◌≡◌, ◌++◌, Option, None, Some, List, ℕ, sym, ap, ◌∙◌}
use Rattle.std.specs.Prelude.{option_map}
use Rattle.std.specs.Option.{option_to_list}
use Rattle.tcap_ber.specs.Reading.{element, span}
use Rattle.tcap_msg.specs.declared.transaction_id.TransactionIdView.{TransactionIdView}
use Rattle.tcap_dialogues.specs.HeadingReading.{id_under, whole_next}
use Rattle.tcap_dialogues.proofs.HeadingLaws.{both_agree, differ_on, goes_on, ids_in, known_end, known_step, next_shorter, own_differ, peer_differ}
use Rattle.tcap_dialogues.proofs.heading.ids_among.Goals as goal

abbrev octets_in : Option TransactionIdView → Option (List ℕ)
octets_in id = option_map (λ id. id.octets.now) id

pub loop-found-smaller : goal.loop-found-smaller
loop-found-smaller c = next_shorter (span c.loop-found.rest) (element c.in-Some.found, span c.in-Some.behind) (sym c.whole_next.ensures ∙ ap (option_map (λ x. (element x.0, span x.1))) c.in-Some.is)

pub returns-in_default-agreed : goal.returns-in_default-agreed
returns-in_default-agreed c =
    let next : whole_next (span c.loop-found.rest) ≡ Some (element c.in-Some.found, span c.in-Some.behind) = sym c.whole_next.ensures ∙ ap (option_map (λ x. (element x.0, span x.1))) c.in-Some.is in
    own_differ (span c.args.content) (known_step 0x48 (span c.args.content) (span c.loop-found.rest) _ (octets_in c.loop-found.otid) c.loop-found.invariant.own next
    ∙ differ_on (option_to_list (octets_in c.loop-found.otid) ++ id_under 0x48 (element c.in-Some.found)) (ids_in 0x48 (span c.in-Some.behind))
    (sym c.agreed.ensures ∙ ap (option_map octets_in) c.in_default-agreed.is))

pub returns-in_default-agreed-2 : goal.returns-in_default-agreed-2
returns-in_default-agreed-2 c =
    let next : whole_next (span c.loop-found.rest) ≡ Some (element c.in-Some.found, span c.in-Some.behind) = sym c.whole_next.ensures ∙ ap (option_map (λ x. (element x.0, span x.1))) c.in-Some.is in
    peer_differ (span c.args.content) (known_step 0x49 (span c.args.content) (span c.loop-found.rest) _ (octets_in c.loop-found.dtid) c.loop-found.invariant.peer next
    ∙ differ_on (option_to_list (octets_in c.loop-found.dtid) ++ id_under 0x49 (element c.in-Some.found)) (ids_in 0x49 (span c.in-Some.behind))
    (sym c.agreed-in-Some.ensures ∙ ap (option_map octets_in) c.in_default-agreed-2.is))

pub loop-found-preserved : goal.loop-found-preserved
loop-found-preserved c =
    let next : whole_next (span c.loop-found.rest) ≡ Some (element c.in-Some.found, span c.in-Some.behind) = sym c.whole_next.ensures ∙ ap (option_map (λ x. (element x.0, span x.1))) c.in-Some.is in
    record {
      own = known_step 0x48 (span c.args.content) (span c.loop-found.rest) _ (octets_in c.loop-found.otid) c.loop-found.invariant.own next
          ∙ goes_on (option_to_list (octets_in c.loop-found.otid) ++ id_under 0x48 (element c.in-Some.found)) (ids_in 0x48 (span c.in-Some.behind)) (octets_in c.in-Some-agreed.own)
          (sym c.agreed.ensures ∙ ap (option_map octets_in) c.in-Some-agreed.is);
      peer = known_step 0x49 (span c.args.content) (span c.loop-found.rest) _ (octets_in c.loop-found.dtid) c.loop-found.invariant.peer next
          ∙ goes_on (option_to_list (octets_in c.loop-found.dtid) ++ id_under 0x49 (element c.in-Some.found)) (ids_in 0x49 (span c.in-Some.behind)) (octets_in c.in-Some-agreed-2.peer)
          (sym c.agreed-in-Some.ensures ∙ ap (option_map octets_in) c.in-Some-agreed-2.is);
    }

pub returns : goal.returns
returns c =
    let none : whole_next (span c.loop-found.rest) ≡ None = sym c.whole_next.ensures ∙ ap (option_map (λ x. (element x.0, span x.1))) c.in_default.is in
    both_agree (span c.args.content) (octets_in c.loop-found.otid) (octets_in c.loop-found.dtid)
    (known_end 0x48 (span c.args.content) (span c.loop-found.rest) (octets_in c.loop-found.otid) c.loop-found.invariant.own none)
    (known_end 0x49 (span c.args.content) (span c.loop-found.rest) (octets_in c.loop-found.dtid) c.loop-found.invariant.peer none)
