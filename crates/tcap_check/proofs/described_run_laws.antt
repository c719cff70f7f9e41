-- A certificate that describes a run gives a run.
pub mod ExpiryLaws
pub mod ImpliedLaws
pub mod OrderLaws
pub mod DescribedLaws
pub mod AlikeLaws
pub mod DescribedGaps
pub mod DescribedSends
pub mod DescribedRuns
