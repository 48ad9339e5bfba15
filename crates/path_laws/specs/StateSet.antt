-- Sets of states as tests, read on the states of a model alone.
use Rattle.std.specs.Prelude.{Bool, IsTrue}
use Rattle.kripke_model.specs.System.{State}

abbrev pub StateSet : Type 0
StateSet = State → Bool

infix 50 ◌∈◌
abbrev pub ◌∈◌ : State → StateSet → Type 0
s ∈ B = IsTrue (B s)
