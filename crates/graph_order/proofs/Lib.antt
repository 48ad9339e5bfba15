pub mod GraphLemmas
pub mod SearchLemmas
pub mod AdvanceLemmas
pub mod ComponentLemmas
pub mod StepLemmas
