mod LawfulRuns
mod IndentedLaws
mod NamedEnds
