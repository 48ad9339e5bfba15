-- What an operand shows of its node.
use Rattle.std.specs.Prelude.{ℕ, Bool, ◌==◌, if◌then◌else◌}
use Rattle.bdd_ops.specs.declared.operand.Operand.{Operand}

-- the child for a bit of this level: the operand itself where its level is another
abbrev pub part_at : Operand → ℕ → Bool → ℕ
part_at o level bit = if o.level == level then (if bit then o.high else o.low) else o.own
