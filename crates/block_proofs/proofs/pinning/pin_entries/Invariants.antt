use Rattle.std.proofs.Common.{◌≡◌, map, take}
use Rattle.proof_form.specs.Form.{map_entry}
use Rattle.block_proofs.specs.PinsFor.{pin_for}
use Rattle.block_proofs.proofs.pinning.pin_entries.Given as goal

-- those before have their pins
abbrev pub invariant-loop-entry : goal.invariant-loop-entry
invariant-loop-entry l = l.made.items ≡ map (map_entry (pin_for l.table)) (take l.entry-index l.entries)
