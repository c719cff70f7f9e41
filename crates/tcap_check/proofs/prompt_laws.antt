-- Prompt certificates, and runs that deliver each message before the next is sent.
pub mod PromptLaws
pub mod AtOnceRuns
pub mod AtOnceLaws
