pub mod IdOrder
pub mod KindLaws
pub mod MessageLaws
pub mod MessageWithin
pub mod DecodeLaws
pub mod CanonicalLaws
pub mod EncodeLaws
pub mod SpellingLaws
