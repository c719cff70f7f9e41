pub mod Counts
pub mod TraceReading
pub mod NotedCase
pub mod KeptState
pub mod Answer
pub mod RunAnswer
