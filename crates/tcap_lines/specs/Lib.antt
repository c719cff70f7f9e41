pub mod ShowRun
pub mod RecordLines
pub mod PackRun
