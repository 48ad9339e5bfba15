pub mod KeptRuns
pub mod LeastFailing
pub mod Shown
pub mod KeptProofs
pub mod ExportLemmas
pub mod FoundLemmas
pub mod ReplyLemmas
