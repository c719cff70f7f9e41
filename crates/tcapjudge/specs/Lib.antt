pub mod TestStatus
pub mod TraceFiles
