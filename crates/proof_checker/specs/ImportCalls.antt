-- What the import of a proof's sets does to those that are kept.
use Rattle.std.specs.Prelude.{◌≡◌, ℕ, ◌+◌, ◌≤◌, List, [], length, Result, Ok, Err, IfErr}
use Rattle.bit_encode.specs.Enough.{times_enough}
use Rattle.diagram_sets.specs.declared.sets.DiagramSets.{DiagramSets}
use Rattle.region_sets.specs.Ranks.{slots}
use Rattle.region_sets.specs.Sets.{Sets, Adds, IsCaused}
use Rattle.region_sets.specs.declared.pins.SetRefusal.{SetRefusal}
use Rattle.proof_checker.specs.Imported.{seen_in}
use Rattle.proof_checker.specs.declared.importing.Imported.{Imported}

-- the limit has what is enough so many times, and one pin finds room
abbrev pub HasTimes : ℕ → Sets → Type 0
HasTimes n v = (n ≤ times_enough v.over v.gauge.limit) × (v.live + 1 ≤ v.room)

abbrev pub made_slots : Result Imported SetRefusal → List ℕ
made_slots (Ok made) = slots made.pins.items
made_slots (Err refusal) = []

-- the pins that were made are live, and nothing else is changed
pub record IsImportCall (old new : DiagramSets) (result : Result Imported SetRefusal) : Type 0 where
  pub pins : Adds (seen_in old) (seen_in new) (made_slots result)
  pub refusal : IfErr result (IsCaused (seen_in old) (seen_in new))
