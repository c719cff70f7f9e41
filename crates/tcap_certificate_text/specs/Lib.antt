pub mod CertificateText
