pub mod Marks
pub mod Numbered
pub mod PinsFor
