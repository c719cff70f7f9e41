-- The replay for one end is a run of this end, and a run of both ends gives one for each.
pub mod AloneWeights
pub mod AloneLoad
pub mod AloneCounts
pub mod AloneReplays
pub mod AloneRuns
pub mod AloneViews
pub mod AloneMirrors
pub mod AloneTies
pub mod AloneBoth
pub mod AloneTaken
