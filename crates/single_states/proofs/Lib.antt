pub mod BracesLemmas
mod SummaryLemmas
mod EvalLemmas
mod ValuationLemmas
mod DistinctLemmas
mod StateLemmas
mod StepLemmas
mod PushLemmas
mod OutcomeLemmas
mod Sections
mod FormulaLemmas
