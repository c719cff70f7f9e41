pub mod MapLaws
pub mod KeepLaws
pub mod CodeMapLaws
pub mod ItemLaws
pub mod PlaceLaws
pub mod ChainLaws
pub mod RowLaws
pub mod ListLaws
