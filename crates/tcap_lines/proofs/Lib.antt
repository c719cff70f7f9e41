pub mod PrintLaws
pub mod ShowLaws
