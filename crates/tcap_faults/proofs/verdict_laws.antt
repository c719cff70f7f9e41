-- The search over the entries of a record: what each entry adds.
pub mod LowestKindLaws
pub mod NextEntryLaws
pub mod SearchLaws
pub mod EarlierEntriesLaws
pub mod UnblamedLaws
pub mod SubjectLaws
pub mod RelevantItemsLaws
pub mod RelevantEntriesLaws
