-- What is kept of transaction IDs: what a message adds, and what a look-up finds.
pub mod TangledLaws
pub mod SameIdsLaws
pub mod HistoryLookupLaws
pub mod JoinTestLaws
pub mod FirstTangled
pub mod LookupLaws
pub mod KeyLaws
pub mod IdMapLaws
pub mod JoinedIdsLaws
pub mod MessageMoreLaws
pub mod JoinUpdateLaws
pub mod ShownClosedLaws
pub mod JoinStepLaws
pub mod HistoryUpdateLaws
pub mod IdListLaws
pub mod SentFromLaws
pub mod SentToLaws
