pub mod RangeLemmas
mod Shown
mod SpecLeaves
mod Specs
