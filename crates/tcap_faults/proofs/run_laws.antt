-- In each run, each open half of an end that keeps the rules has its story.
pub mod MayHearLaws
pub mod TakenMessageLaws
pub mod ItemLaws
pub mod HalfGoesOnLaws
pub mod HalfReceivesLaws
pub mod EndSendsLaws
pub mod EndReceivesLaws
pub mod OpenHalfLaws
