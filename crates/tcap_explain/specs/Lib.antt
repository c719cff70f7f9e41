pub mod Faults
pub mod IndentedText
pub mod RefutedLines
pub mod StepLines
pub mod VerdictLines
mod WorkedIndentedText
