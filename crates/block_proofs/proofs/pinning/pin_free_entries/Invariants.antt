use Rattle.std.proofs.Common.{◌≡◌, map, take}
use Rattle.proof_form.specs.Form.{map_free_entry}
use Rattle.block_proofs.specs.PinsFor.{pin_for}
use Rattle.block_proofs.proofs.pinning.pin_free_entries.Given as goal

-- those before have their pins
abbrev pub invariant-loop-free : goal.invariant-loop-free
invariant-loop-free l = l.made.items ≡ map (map_free_entry (pin_for l.table)) (take l.free-index l.entries)
