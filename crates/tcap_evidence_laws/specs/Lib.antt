pub mod ListedEntries
pub mod HalfEvidence
pub mod ComponentEvidence
pub mod GivenLists
