pub mod Binary
pub mod Code
pub mod Enough
pub mod Kept
pub mod Layouts
pub mod Laws
pub mod Rows
