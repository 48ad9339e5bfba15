pub mod Sizes
pub mod Mapped
pub mod Told
pub mod Placed
pub mod Answered
pub mod Rooms
pub mod ReadyLemmas
