-- From which node limit on there is always room.
use Rattle.std.specs.Prelude.{ℕ, ◌+◌, ◌*◌, ◌/◌, ◌^◌}
use Rattle.kripke_model.specs.Flat.{node_total}
use Rattle.kripke_model.specs.System.{System, constraint_count}
use Rattle.bit_encode.specs.Code.{state_bits}

-- a node limit from which on every specification gets a verdict
abbrev pub enough : System → ℕ
enough m = (node_total m + 8) ^ 2 * (constraint_count m + 2) * 2 ^ (4 * state_bits m + 4)

-- how many times a limit has what is enough
abbrev pub times_enough : System → ℕ → ℕ
times_enough m limit = limit / enough m
