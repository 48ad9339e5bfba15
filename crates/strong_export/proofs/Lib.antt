mod Listed
pub mod SameStates
mod Seen
pub mod Searched
