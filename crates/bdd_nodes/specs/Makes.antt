-- How often a store was asked to make a diagram.
use Rattle.std.specs.Prelude.{ℕ, ◌+◌}
use Rattle.bdd_nodes.specs.declared.makes.Number.{Number, Zero, OneMore'}
use Rattle.bdd_nodes.specs.declared.makes.Makes.{Makes}

-- the number that was built: each `OneMore` counts
abbrev pub value_of : Number → ℕ
value_of Zero = 0
value_of (OneMore' mark before) = value_of before + 1

-- the number of times
abbrev pub number_of : Makes → ℕ
number_of m = value_of m.number.value
