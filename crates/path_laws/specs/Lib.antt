pub mod StateSet
pub mod StateCount
pub mod Fairness
pub mod Live
pub mod Reach
pub mod Invariant
pub mod Laws
