pub mod EntrySets
pub mod Claimed
pub mod ConstraintClaims
pub mod FreeClaims
