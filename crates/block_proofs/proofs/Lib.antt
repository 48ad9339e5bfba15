pub mod Marked
pub mod Pinned
pub mod Agreed
