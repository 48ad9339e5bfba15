-- The layout of a model, and a store that has room for its states.
use Rattle.std.specs.Prelude.{◌≡◌, ◌*◌}
use Rattle.kripke_model.specs.System.{System}
use Rattle.bdd_nodes.specs.declared.store.Store.{Store}
use Rattle.bdd_nodes.specs.Store.{levels_of}
use Rattle.bit_encode.specs.Code.{Coding, types_of, bit_count}

-- the layout of the model's variables, and a store with a level for each of its bits, of a state and of the next one
pub record LaidOut (a : Coding) (m : System) (s : Store) : Type 0 where
  pub types : a.types ≡ types_of m
  pub levels : levels_of s ≡ 2 * bit_count a.types
