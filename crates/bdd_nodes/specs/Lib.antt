pub mod Triple
pub mod Table
pub mod Size
pub mod Makes
pub mod Store
pub mod Refusal
pub mod Steps
