pub mod CertificateTextLaws
pub mod BehindLaws
pub mod WrittenLaws
pub mod CompactLaws
