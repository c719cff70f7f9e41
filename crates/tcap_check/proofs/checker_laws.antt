-- The steps of a checker, entry by entry, and its results.
pub mod ListedStepsLaws
pub mod SendingLaws
pub mod ToldStepLaws
pub mod EntryLaws
pub mod CheckerLaws
pub mod RefusalLaws
