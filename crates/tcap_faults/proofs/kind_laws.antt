-- No message of an end that keeps the rules has a kind, and no quiet mark has one; so what is blamed on an end is at
-- fault.
pub mod QuietMarkLaws
pub mod HalfFacts
pub mod OwnHalfLaws
pub mod HalfKindsLaws
pub mod DialogueLaws
pub mod ComponentLaws
pub mod ReplyLaws
pub mod FaultLaws
pub mod BlamedLaws
