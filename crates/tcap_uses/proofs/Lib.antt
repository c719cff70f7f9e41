mod Results
mod MarkLaws
mod PromptLaws
