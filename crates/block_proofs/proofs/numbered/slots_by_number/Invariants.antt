use Rattle.std.proofs.Common.{◌≡◌, map, take, slice_index}
use Rattle.region_sets.specs.Ranks.{slots}
use Rattle.block_proofs.proofs.numbered.slots_by_number.Given as goal

-- those before have their slots
abbrev pub invariant-loop-place : goal.invariant-loop-place
invariant-loop-place l = l.table.items ≡ map (λ place. slice_index (slots l.pins) place) (take l.place-index l.places)
