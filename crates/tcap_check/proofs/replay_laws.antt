-- The replay of a certificate is a run, step by step, with these losses and discards.
pub mod ReplaySteps
pub mod ReplayLaws
pub mod ReplayGaps
pub mod ReplayEntries
pub mod ReplayInvariants
pub mod DiscardReasons
