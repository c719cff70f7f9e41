pub mod InMemory
pub mod Traces
