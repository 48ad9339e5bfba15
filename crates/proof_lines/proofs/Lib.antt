pub mod Counting
pub mod Passing
pub mod LayerLines
pub mod StepLines
pub mod ReachLines
pub mod Framed
pub mod EntryLines
pub mod AskedLines
pub mod EntryLoops
pub mod EntryNumbers
pub mod SharedLines
pub mod EndLines
pub mod CasesKept
pub mod BlockParts
pub mod BlockClaims
pub mod FreeParts
pub mod WholeTests
mod LineSums
