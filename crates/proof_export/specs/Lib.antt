pub mod Exported
pub mod Listed
