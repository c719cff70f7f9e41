-- The story of a half: what happened to its components, and what it may send after that.
pub mod Stories
pub mod InvokeListLaws
pub mod ComponentStepLaws
pub mod ReceivedComponentLaws
pub mod StoryLaws
pub mod OwnInvocationLaws
pub mod ReceivedInvocationLaws
pub mod ClassLaws
pub mod AnsweredLaws
pub mod LastingInvocationLaws
pub mod InvokeRejectLaws
pub mod LinkRejectLaws
pub mod ReceivedAnswerLaws
pub mod MessageComponentLaws
pub mod RejectProblemLaws
pub mod FirstMessageLaws
