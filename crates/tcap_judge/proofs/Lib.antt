pub mod JudgeLaws
pub mod LawfulLaws
pub mod SpellsNothingLaws
pub mod VerdictLaws
pub mod BlamedLaws
pub mod EachEndLaws
pub mod JointLaws
mod NeverGivenLaws
pub mod OctetLaws
