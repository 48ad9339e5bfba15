pub mod Numbered
pub mod Parted
pub mod Finding
