pub use Rattle.bdd_ops.specs.Independence
pub mod Exchange
pub mod Product
