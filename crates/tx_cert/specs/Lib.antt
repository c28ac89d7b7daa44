pub mod Certificate
pub mod CertText
pub mod CertFaults
pub mod inner
