pub mod JudgingLaws
pub mod ShownLaws
mod ResultLaws
mod ReactionLaws
mod TraceEntriesLaws
mod TraceMeaningLaws
mod TraceLaws
mod MarksLaws
mod DirectiveLaws
mod FeedLaws
mod PieceLaws
mod ReaderLaws
pub mod DialoguePairs
pub mod FirstEntries
pub mod TakenEntries
pub mod UnreadLaws
pub mod MarkLaws
pub mod CaseFacts
pub mod DialogueFacts
pub mod SegmentLaws
pub mod SegmentState
mod LateResults
mod LateReactions
pub mod StableVerdicts
pub mod TraceStateLaws
mod FirstAbove
