-- How an answer ends, and the exit status of the process.
use Rattle.std.specs.Prelude.{ℕ}
use Rattle.smv_texts.specs.declared.ending.Ending.{Ending}
use Rattle.smv_texts.specs.declared.ending.Ending.TheVariants as endings
use Rattle.smv_texts.specs.declared.status.Status.{Status}
use Rattle.smv_texts.specs.declared.status.Status.TheVariants.{Clear, Failed, Undecided, ModelRefused, OutsideFault, Usage, Memory, ProofRefused}

-- no answer ends with a fault of the outside, nor with want of memory
abbrev pub status_of : Ending → Status
status_of endings.Clear = Clear
status_of endings.Failed = Failed
status_of (endings.Undecided held) = Undecided held
status_of endings.ModelRefused = ModelRefused
status_of endings.ProofRefused = ProofRefused
status_of endings.Usage = Usage

abbrev pub code_of : Status → ℕ
code_of Clear = 0
code_of Failed = 1
code_of (Undecided held) = 2
code_of ModelRefused = 3
code_of OutsideFault = 4
code_of Usage = 5
code_of Memory = 6
code_of ProofRefused = 7
