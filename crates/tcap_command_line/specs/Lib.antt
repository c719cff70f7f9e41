pub mod CommandLine
pub mod Subcommands
pub mod Tests
pub mod Words
