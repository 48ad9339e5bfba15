pub mod Asked
pub mod Given
pub mod Listed
pub mod Number
pub mod Parts
pub mod Words
