use Rattle.std.proofs.Common.{ℕ, ◌<◌, get_or}
use Rattle.std.specs.Prelude.{All}
use Rattle.kripke_model.specs.System.{Variable}
use Rattle.trace_files.specs.Small.{IsSmall}
use Rattle.trace_files.proofs.small.look_at_types.Given as goal

-- the values of the variables so far are small
abbrev pub invariant-loop-var : goal.invariant-loop-var
invariant-loop-var l = (k : ℕ) → k < l.var-index → (d : Variable) → All IsSmall (get_or l.model.vars k d).values
