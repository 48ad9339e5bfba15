pub mod Verdicts
pub mod Exports
pub mod Added
pub mod Checked
pub mod Found
pub mod Proved
