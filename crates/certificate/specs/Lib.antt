pub mod Readable
pub mod CertificateText
