-- What shows that the node limit was met.
use Rattle.std.specs.Prelude.{◌≡◌, ℕ, ◌*◌, ◌<◌}
use Rattle.bdd_nodes.specs.declared.refusal.Held.{Held}
use Rattle.bdd_nodes.specs.Refusal.{levels_shown, number_shown}
use Rattle.bit_encode.specs.Code.{state_bits}
use Rattle.bit_encode.specs.Enough.{enough}
use Rattle.kripke_model.specs.System.{System}

-- a store of diagrams over the model's states was full: it had a level for each bit of the current and of the next state
abbrev pub IsOfLimit : System → ℕ → Held → Type 0
IsOfLimit m limit held = (levels_shown held ≡ 2 * state_bits m) × (number_shown held ≡ limit)

-- and the limit is below what is enough for the model
abbrev pub IsMet : System → ℕ → Held → Type 0
IsMet m limit held = IsOfLimit m limit held × (limit < enough m)
