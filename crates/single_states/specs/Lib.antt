pub mod Braces
pub mod Summary
pub mod Outcomes
