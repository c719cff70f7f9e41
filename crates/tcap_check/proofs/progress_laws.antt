-- The steps over what a checker keeps are those of the replay, part by part.
pub mod KeptLeft
pub mod KeptBasics
pub mod KeptCounts
pub mod KeptDeliveries
pub mod KeptEntries
pub mod KeptGaps
pub mod KeptGrowth
pub mod KeptMarks
pub mod KeptMessages
pub mod KeptPending
pub mod KeptSends
pub mod KeptStays
pub mod KeptSteps
