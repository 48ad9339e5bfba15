use Rattle.std.proofs.Common.{◌≡◌, ℕ, ◌<◌, false, get_or}
use Rattle.region_sets.specs.declared.pins.Pin.{Pin}
use Rattle.proof_form.specs.Form.{Entry}
use Rattle.claim_sets.specs.EntrySets.{fits}
use Rattle.claim_sets.proofs.entry_sets.find_own.Given as goal

-- the entries so far are others
abbrev pub invariant-loop-entry : goal.invariant-loop-entry
invariant-loop-entry l = (k : ℕ) → k < l.entry-index → (d : Entry Pin) → fits (get_or l.entries k d) l.node l.plus ≡ false
