-- The run that a certificate gives.
pub mod StepsAreOne
pub mod StepCounts
pub mod GivenBound
pub mod NumberLaws
pub mod GivenLosses
pub mod GivenEvents
pub mod GivenRuns
