-- What one end and the list of messages see of a run.
pub mod ActLaws
pub mod GrowthLaws
pub mod ViewLaws
pub mod InvariantLaws
pub mod AdvanceLaws
pub mod BegunHalfLaws
pub mod AcceptedHalfLaws
pub mod ActiveHalfLaws
pub mod ClosedHalfLaws
pub mod AskedLaws
