-- The counts of components are those of the definitions, if the components are few.
pub mod SumLaws
pub mod CodeListLaws
pub mod FirstCodeLaws
pub mod InvokeMapLaws
pub mod LinkLaws
pub mod ComponentSortLaws
pub mod TallyLaws
pub mod TallySumLaws
pub mod SeveralTalliesLaws
pub mod GlobalCodeLaws
pub mod CountTests
pub mod FewSums
pub mod InvokeSums
pub mod AnswerSums
pub mod RejectSums
pub mod ComponentFaultLaws
pub mod FewComponentsLaws
