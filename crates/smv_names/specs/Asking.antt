-- Where paths can be asked for.
use Rattle.std.specs.Prelude.{◌≡◌, ℕ, ◌<◌, List, length}
use Rattle.smv_instances.specs.declared.instances.Instances.{Instances}
use Rattle.smv_instances.specs.Program.{Program}
use Rattle.smv_instances.specs.Instances.{all_entries, instances}
use Rattle.smv_names.specs.declared.resolving.Targets.{Targets}
use Rattle.smv_names.specs.declared.targets.Bracket.{Bracket as Held}
use Rattle.smv_names.specs.Denotes.{Bracket}
use Rattle.smv_names.specs.Targets.{AreBrackets}
use Rattle.smv_names.specs.Ready.{AreTargets}

-- paths can be asked for in the instance with this number, where a table has so many entries
abbrev pub CanAsk : Instances → Targets → ℕ → ℕ → Type 0
CanAsk all targets count i
    = (p : Program) × AreTargets p all targets × (i < length (instances p))
    × (count ≡ length (all_entries p))

-- the values of these indexes can be asked for
abbrev pub CanIndex : Instances → Targets → ℕ → List Held → Type 0
CanIndex all targets count held
    = (p : Program) × (bs : List Bracket) × AreTargets p all targets
    × (count ≡ length (all_entries p)) × AreBrackets p held bs
