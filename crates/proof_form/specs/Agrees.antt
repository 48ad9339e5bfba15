-- Sets that have the same states of the model.
use Rattle.std.specs.Prelude.{◌≡◌}
use Rattle.kripke_model.specs.System.{System, State}
use Rattle.kripke_model.specs.Step.{IsState}
use Rattle.path_laws.specs.StateSet.{StateSet}

-- the sets agree on the states of the model
abbrev pub SameOn : System → StateSet → StateSet → Type 0
SameOn m F G = (s : State) → IsState m s → F s ≡ G s
