pub mod PutLaws
mod ReadingLaws
