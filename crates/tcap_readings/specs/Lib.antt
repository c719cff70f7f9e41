pub mod Malformed
pub mod Reactions
pub mod Readings
