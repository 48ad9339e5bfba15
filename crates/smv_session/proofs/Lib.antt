mod NamedPairs
mod Numbers
pub mod Answered
pub mod BitCounts
pub mod BlockPlaces
pub mod Budget
pub mod Built
pub mod Decided
pub mod Ended
pub mod FaultLemmas
pub mod FormulaPlaces
pub mod Heard
pub mod NotBuilt
pub mod OneAnswer
pub mod Promises
pub mod PutText
pub mod Ready
pub mod RefusedLemmas
pub mod SavedReplies
pub mod SourceLemmas
pub mod Tried
