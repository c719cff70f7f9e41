-- What a refusal shows, and what was taken before it.
pub mod NoSends
pub mod SendShows
pub mod FollowingLaws
pub mod TakenNumberLaws
pub mod PendingLaws
pub mod PendingBoth
pub mod ReasonGaps
pub mod ReasonItems
pub mod ReasonPending
pub mod ReasonMarks
pub mod ReasonLaws
pub mod RefusedReplayLaws
pub mod TakenEntriesLaws
