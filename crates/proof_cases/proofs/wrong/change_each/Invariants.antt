use Rattle.std.proofs.Common.{◌≡◌, length}
use Rattle.proof_form.specs.Form.{entries_sets}
use Rattle.proof_cases.proofs.wrong.change_each.Given as goal

abbrev pub invariant-loop-k : goal.invariant-loop-k
invariant-loop-k l = (entries_sets l.entries.items ≡ entries_sets l.fn.entries.items) × (length l.entries.items ≡ length l.fn.entries.items)
