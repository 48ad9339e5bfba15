-- What files in memory are, and what a load does to their counts.
use Rattle.std.specs.Prelude.{ℕ, List, Result, Ok, Err}
use Rattle.smv_outside.specs.declared.faults.FileFaults.{FileFaults}
use Rattle.smv_outside.specs.declared.faults.LoadFault.{LoadFault}
use Rattle.smv_outside.specs.declared.faults.LoadFault.TheVariants.{Failed, NotThere, TooLong, Memory}
use Rattle.smv_outside.specs.declared.faults.SaveFault.{SaveFault}
use Rattle.smv_outside.specs.declared.faults.SaveFault.TheVariants as save
use Rattle.smv_outside.specs.Contents.{Contents}
use Rattle.smv_outside.specs.Faults.{next_count}

-- files in memory: what they hold, which calls fail, how many calls there were, and the faults so far
pub record MemoryFiles : Type 0 where
  pub contents : Contents
  pub fails : List ℕ
  pub calls : ℕ
  pub faults : FileFaults

-- the counts after a load: that of its own fault is one more
abbrev pub counts_after : {T : Type 0} → FileFaults → Result T LoadFault → FileFaults
counts_after before (Ok loaded) = before
counts_after before (Err Failed) = record before { failed = next_count before.failed }
counts_after before (Err NotThere) = record before { missing = next_count before.missing }
counts_after before (Err (TooLong taken)) = before
counts_after before (Err Memory) = before

-- and after a save
abbrev pub counts_after_save : {T : Type 0} → FileFaults → Result T SaveFault → FileFaults
counts_after_save before (Ok done) = before
counts_after_save before (Err save.Failed) = record before { unsaved = next_count before.unsaved }
counts_after_save before (Err save.Memory) = before
