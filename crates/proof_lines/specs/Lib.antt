pub mod Frames
pub mod Cases
pub mod Tested
pub mod LineCounts
pub mod Told
