pub mod Items
pub mod CodeMap
pub mod InlineList
pub mod Storage
pub mod Chains
pub mod KindIndex
pub mod Row
pub mod Lists
