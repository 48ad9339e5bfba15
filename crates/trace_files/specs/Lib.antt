pub mod Trace
pub mod Spells
pub mod Refuses
pub mod Small
pub mod Parts
pub mod Told
