pub mod World
pub mod Run
pub mod SinceMark
pub mod Entries
pub mod Reason
pub mod WorkedItems
