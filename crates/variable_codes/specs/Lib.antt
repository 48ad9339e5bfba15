pub mod Levels
pub mod Codes
pub mod LaidOut
