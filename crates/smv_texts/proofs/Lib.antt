pub mod Heads
pub mod ReportLemmas
