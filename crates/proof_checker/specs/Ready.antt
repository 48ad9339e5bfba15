-- Sets over the transition relation that one test leaves for the next.
use Rattle.std.specs.Prelude.{◌≡◌, ℕ, ◌*◌, List, MatchOption}
use Rattle.bit_encode.specs.Code.{state_bits}
use Rattle.diagram_sets.specs.Kept.{room_in}
use Rattle.diagram_sets.specs.declared.sets.DiagramSets.{DiagramSets}
use Rattle.kripke_model.specs.System.{System}
use Rattle.proof_checker.specs.Imported.{seen_in}
use Rattle.proof_checker.specs.declared.kept.KeptSets.{KeptSets}

-- the sets are over this model, in a store of this limit with the variables in this order, and none
-- is live
pub record IsClear (m : System) (order : List ℕ) (limit : ℕ) (x : DiagramSets) : Type 0 where
  pub over : (seen_in x).over ≡ m
  pub gauge : (seen_in x).gauge
      ≡ record { levels = 2 * state_bits m; limit = limit; order = order }
  pub live : (seen_in x).live ≡ 0
  pub room : (seen_in x).room ≡ room_in m limit

-- and no store was full
pub record IsReady (m : System) (order : List ℕ) (limit : ℕ) (x : DiagramSets) : Type 0 where
  pub clear : IsClear m order limit x
  pub fulls : (seen_in x).fulls ≡ 0

-- what is kept, if anything is, is ready for a block of a file of this model with this order
abbrev pub IsKept : System → List ℕ → ℕ → KeptSets → Type 0
IsKept m order limit kept = MatchOption kept.sets (Unit {0}) (IsReady m order limit)
