-- All that is handed over represents the dialogues of the segment.
use Rattle.std.proofs.Common.{List, [], ◌∷◌, ◌++◌, length, sym, subst}
use Rattle.std.specs.Prelude.{filter}
use Rattle.tcap_dialogues.specs.Course.{Heading, courses_of, courses_so_far, is_free}
use Rattle.tcap_dialogues.specs.CutDialogues.{AreCompleteDialogues}
use Rattle.tcap_dialogues.specs.declared.complete_dialogue.CompleteDialogue.{CompleteDialogue}
use Rattle.tcap_dialogues.specs.declared.reuse.Reuse.{Reuse}
use Rattle.tcap_dialogues.proofs.CourseStretch.{so_far_more, well_so_far}
use Rattle.tcap_dialogues.proofs.CutLists.{kept_in}
use Rattle.tcap_dialogues.proofs.GatheredLaws.{more_gathered}

module _ (reuse : Reuse) (headings : List Heading) (before given : List CompleteDialogue)
    (are : AreCompleteDialogues (courses_so_far reuse headings).done before) where
  -- With what is handed over at the next entry, it represents those that are done then.
  pub next_gathered : (h : Heading)
      → AreCompleteDialogues (filter (is_free reuse (length headings) (courses_so_far reuse headings) h) (courses_so_far reuse headings).live) given
      → AreCompleteDialogues (courses_so_far reuse (headings ++ h ∷ [])).done (before ++ given)
  next_gathered h more =
      subst (λ s. AreCompleteDialogues s.done (before ++ given)) (sym (so_far_more reuse headings h))
      (more_gathered _ _ before given
      (λ d e n has hers its too. (well_so_far reuse headings).courses.no_number d e n has
      (kept_in (is_free reuse (length headings) (courses_so_far reuse headings) h) (courses_so_far reuse headings).live e hers).0 its too)
      are more)

  -- With what is handed over at the end, it represents all.
  pub all_gathered : AreCompleteDialogues (courses_so_far reuse headings).live given → AreCompleteDialogues (courses_of reuse headings) (before ++ given)
  all_gathered more =
      more_gathered _ _ before given
      (λ d e n has hers its too. (well_so_far reuse headings).courses.no_number d e n has hers its too) are more
