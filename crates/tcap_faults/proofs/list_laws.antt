-- What a test finds, keeps and counts in lists.
pub mod FindLaws
pub mod CountLaws
pub mod TwoTests
pub mod OneMoreLaws
