pub mod BareLaws
pub mod DepthLaws
pub mod BookLaws
pub mod BookRows
pub mod ContextRows
