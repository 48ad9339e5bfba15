-- The search for a strong path.
use Rattle.std.specs.Prelude.{ℕ, ◌+◌, ◌*◌, List}
use Rattle.fair_fixpoint.specs.SatSets.{pin_bound}
use Rattle.fair_rules.specs.FreePart.{constraint_nodes}
use Rattle.kripke_model.specs.System.{System, constraint_count}
use Rattle.path_laws.specs.StateCount.{state_count}
use Rattle.strong_export.specs.declared.finding.Found.{Found}
use Rattle.strong_export.specs.declared.finding.Found.TheVariants.{None, Path}
use Rattle.command_replies.specs.SeenRows.{certificate_of}
use Rattle.command_replies.specs.Strong.{IsShownBy}
use Rattle.strong_fair.specs.Strong.{HasStrongPath, IsStrongPath, Pair}

-- what was found for the pairs: a strong path, or a certificate, and there is none
abbrev pub IsFound : System → List Pair → Found → Type 0
IsFound m pairs (Path path) = IsStrongPath m pairs path
IsFound m pairs (None over) =
    IsShownBy m pairs over.nodes.items (certificate_of over) × (HasStrongPath m pairs → ⊥)

-- so many sets are held at a time by the search itself, and with those of the constraints
abbrev pub search_pins : System → ℕ
search_pins m = 4 * state_count m + constraint_count m + 32

abbrev pub strong_pins : System → ℕ
strong_pins m =
    pin_bound m (constraint_nodes m) (state_count m) + (search_pins m + constraint_count m)
