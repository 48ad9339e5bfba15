pub mod AnsweredLemmas
pub mod Accepting
pub mod ReportLemmas
pub mod ProofReplies
pub mod TraceReplies
pub mod DelayReplies
pub mod CertificateLines
pub mod StrongReplies
