pub mod Strong
pub mod Form
pub mod Seen
pub mod Shows
pub mod Pinned
pub mod Tests
pub mod Laws
