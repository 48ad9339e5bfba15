pub mod Others
mod Plain
