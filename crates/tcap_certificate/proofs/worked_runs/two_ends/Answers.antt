use Rattle.std.proofs.Common.{rules, pos, [], ◌∷◌, refl}
use Rattle.tcap_record.specs.declared.entry.End.TheVariants.{A, B}
use Rattle.tcap_end.specs.declared.half.HalfName.TheVariants.{Own, Peer}
use Rattle.tcap_model.specs.Run.{Receives, Expires, Closes}
use Rattle.tcap_certificate.specs.WorkedRuns as worked
use Rattle.tcap_certificate.proofs.WorkedRuns.{follows, gap, implying, last, works}
use Rattle.tcap_certificate.proofs.worked_runs.two_ends.Goals as goal

pub returns-clause-empty_record : goal.returns-clause-empty_record
returns-clause-empty_record c = works worked.table worked.empty_record 0 (_, refl, refl) (refl, refl) refl
    (follows worked.empty_record refl (search rules) (search rules) (search rules) refl refl
    (last refl))

pub returns-clause-two_entries : goal.returns-clause-two_entries
returns-clause-two_entries c = (
  works worked.table worked.two_entries 4 (_, refl, refl) (refl, refl) refl
      (follows worked.two_entries refl (search rules) (search rules) (search rules) refl refl
      (gap [] refl refl (gap (Receives B 0 ∷ []) refl refl (last refl)))),
  search rules,
)

pub returns-clause-three_entries : goal.returns-clause-three_entries
returns-clause-three_entries c = (
  works worked.table worked.three_entries 6 (_, refl, refl) (refl, refl) refl
      (follows worked.three_entries refl (search rules) (search rules) (search rules) refl refl
      (gap [] refl refl (gap (Receives B 0 ∷ []) refl refl (gap (Receives A 1 ∷ []) refl refl (last refl))))),
  search rules,
)

pub returns-clause-crossing : goal.returns-clause-crossing
returns-clause-crossing c = works worked.table worked.crossing 9 (_, refl, refl) (refl, refl) refl
    (follows worked.crossing refl (search rules) (search rules) (search rules) refl refl
    (gap [] refl refl (gap (Receives B 0 ∷ []) refl refl (gap (Receives A 1 ∷ []) refl refl (gap [] refl refl
    (gap (Receives B 2 ∷ []) refl refl (last refl)))))))

pub returns-clause-late_reject : goal.returns-clause-late_reject
returns-clause-late_reject c = works worked.table worked.late_reject 7 (_, refl, refl) (refl, refl) refl
    (follows worked.late_reject refl (search rules) (search rules) (search rules) refl refl
    (gap [] refl refl (gap (Receives B 0 ∷ []) refl refl (gap (Expires A (Own (1 ∷ [])) (pos 1) ∷ Receives A 1 ∷ []) refl refl
    (last refl)))))

pub returns-clause-delayed : goal.returns-clause-delayed
returns-clause-delayed c = works worked.table worked.delayed 11 (_, refl, refl) (refl, refl) refl
    (follows worked.delayed refl (search rules) (search rules) (search rules) refl refl
    (gap [] refl refl (gap (Receives B 0 ∷ []) refl refl (gap (Receives A 1 ∷ []) refl refl
    (implying [] (Expires A (Own (1 ∷ [])) (pos 1) ∷ []) ((refl, refl, (0, search rules, refl)), tt) refl refl
    (gap (Receives A 2 ∷ Receives B 3 ∷ []) refl refl (last refl)))))))

pub returns-clause-closed_half : goal.returns-clause-closed_half
returns-clause-closed_half c = works worked.table worked.closed_half 6 (_, refl, refl) (refl, refl) refl
    (follows worked.closed_half refl (search rules) (search rules) (search rules) refl refl
    (gap [] refl refl (gap (Receives B 0 ∷ []) refl refl (gap (Closes A (Own (1 ∷ [])) ∷ []) refl refl (last refl)))))

pub returns-clause-refused_begin : goal.returns-clause-refused_begin
returns-clause-refused_begin c = works worked.table worked.refused_begin 3 (_, refl, refl) (refl, refl) refl
    (follows worked.refused_begin refl (search rules) (search rules) (search rules) refl refl
    (gap [] refl refl (gap [] refl refl (last refl))))

pub returns-clause-lost_begin : goal.returns-clause-lost_begin
returns-clause-lost_begin c = works worked.table worked.lost_begin 2 (_, refl, refl) (refl, refl) refl
    (follows worked.lost_begin refl (search rules) (search rules) (search rules) refl refl
    (gap [] refl refl (last refl)))

pub returns-clause-over_a_mark : goal.returns-clause-over_a_mark
returns-clause-over_a_mark c = works worked.table worked.over_a_mark 9 (_, refl, refl) (refl, refl) refl
    (follows worked.over_a_mark refl (search rules) (search rules) (search rules) refl refl
    (gap [] refl refl (gap (Receives B 0 ∷ []) refl refl (gap (Receives A 1 ∷ []) refl refl (gap [] refl refl
    (gap (Receives B 3 ∷ []) refl refl (last refl)))))))

pub returns-clause-both_again : goal.returns-clause-both_again
returns-clause-both_again c = works worked.table worked.both_again 13 (_, refl, refl) (refl, refl) refl
    (follows worked.both_again refl (search rules) (search rules) (search rules) refl refl
    (gap [] refl refl (gap (Receives B 0 ∷ []) refl refl (gap (Receives A 1 ∷ []) refl refl (gap (Receives B 2 ∷ []) refl refl
    (gap [] refl refl (gap (Receives B 4 ∷ []) refl refl (gap (Receives A 5 ∷ []) refl refl (last refl)))))))))

pub returns-clause-in_a_row : goal.returns-clause-in_a_row
returns-clause-in_a_row c = works worked.table worked.in_a_row 4 (_, refl, refl) (refl, refl) refl
    (follows worked.in_a_row refl (search rules) (search rules) (search rules) refl refl
    (gap [] refl refl (gap [] refl refl (last refl))))

pub returns-clause-end_implies : goal.returns-clause-end_implies
returns-clause-end_implies c = works worked.table worked.end_implies 7 (_, refl, refl) (refl, refl) refl
    (follows worked.end_implies refl (search rules) (search rules) (search rules) refl refl
    (gap [] refl refl (gap (Receives B 0 ∷ []) refl refl
    (implying (Receives A 1 ∷ []) (Expires B (Peer (1 ∷ [])) (pos 1) ∷ []) ((refl, refl, (0, search rules, refl)), tt) refl refl
    (last refl)))))

pub returns-clause-both_close : goal.returns-clause-both_close
returns-clause-both_close c = works worked.prearranged worked.both_close 9 (_, refl, refl) (refl, refl) refl
    (follows worked.both_close refl (search rules) (search rules) (search rules) refl refl
    (gap [] refl refl (gap (Receives B 0 ∷ []) refl refl (gap (Receives A 1 ∷ []) refl refl
    (gap (Closes A (Own (1 ∷ [])) ∷ Closes B (Peer (1 ∷ [])) ∷ Receives A 2 ∷ []) refl refl (last refl))))))
