pub mod Members
pub mod Judge
pub mod Visited
pub mod Verdicts
