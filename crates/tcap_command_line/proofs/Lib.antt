pub mod Help
pub mod Valued
pub mod PlacelessWalk
pub mod PlacelessTakes
pub mod PlacelessFaults
pub mod PlacelessCommands
pub mod Tool
pub mod Needed
