-- The number by which a triple is hashed.
use Rattle.std.specs.Prelude.{ℕ, ◌+◌, ◌*◌, ◌^◌}
use Rattle.bdd_nodes.specs.declared.triple.Triple.{Triple}

-- the level and the two children, in 32 bits each
abbrev pub triple_number : Triple → ℕ
triple_number t = t.level + t.low * 2 ^ 32 + t.high * 2 ^ 64
