pub mod Filled
pub mod Proved
pub mod Listed
