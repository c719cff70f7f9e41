pub mod Book
pub mod BookText
pub mod DottedContext
