pub mod Delays
pub mod Form
pub mod Seen
pub mod Shows
pub mod Pinned
pub mod Laws
pub mod Tests
