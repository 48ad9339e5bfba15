-- Why the sets of a block find no room.
use Rattle.std.specs.Prelude.{◌≡◌, ℕ, ◌*◌, ◌<◌}
use Rattle.bdd_nodes.specs.Refusal.{levels_shown, number_shown}
use Rattle.bit_encode.specs.Code.{state_bits}
use Rattle.bit_encode.specs.Enough.{enough}
use Rattle.kripke_model.specs.System.{System}
use Rattle.region_sets.specs.declared.pins.SetRefusal.{SetRefusal}
use Rattle.region_sets.specs.declared.pins.SetRefusal.TheVariants.{Full, Memory}

-- A store was full, with two levels for each bit of a state, and with this limit, which is below so
-- many times what is enough; or there was no memory.
abbrev pub IsNoRoom : System → ℕ → ℕ → SetRefusal → Type 0
IsNoRoom m limit times (Full held) = (levels_shown held ≡ 2 * state_bits m)
    × (number_shown held ≡ limit) × (limit < enough m * times)
IsNoRoom m limit times Memory = Unit {0}
