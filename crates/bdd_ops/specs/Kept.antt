-- What work on an engine keeps, and what a diagram that it makes is.
use Rattle.std.specs.Prelude.{◌≡◌, ℕ, ◌≤◌, Bool, List, Result, IfErr}
use Rattle.bdd_nodes.specs.declared.store.Store.{Store}
use Rattle.bdd_nodes.specs.declared.refusal.StoreRefusal.{StoreRefusal}
use Rattle.bdd_nodes.specs.Store.{Has, value_of, Grows}
use Rattle.bdd_nodes.specs.Refusal.{IsRefusalOf}
use Rattle.bdd_ops.specs.declared.engine.Engine.{Engine}
use Rattle.bdd_ops.specs.Engine.{store_of, capacity_of, lists_of, refused_of}

-- earlier diagrams keep their functions, the lists of levels and the cache's size stay, and what found no memory is still counted
pub record KeepsEngine (old new : Engine) : Type 0 where
  pub grows : Grows (store_of old) (store_of new)
  pub refused : refused_of old ≤ refused_of new
  pub lists : lists_of new ≡ lists_of old
  pub capacity : capacity_of new ≡ capacity_of old

-- what a call did to an engine: it keeps this of it, and a refusal is one of its store
pub record IsEngineCall {T : Type 0} (old new : Engine)
    (result : Result T StoreRefusal) : Type 0 where
  pub keeps : KeepsEngine old new
  pub held : IfErr result (IsRefusalOf (store_of new))

-- the same of a call that may add a list of levels
pub record IsStoreCall {T : Type 0} (old new : Engine)
    (result : Result T StoreRefusal) : Type 0 where
  pub grows : Grows (store_of old) (store_of new)
  pub held : IfErr result (IsRefusalOf (store_of new))

-- a diagram of the store with this value at each list of bits
pub record IsRegion (s : Store) (r : ℕ) (f : List Bool → Bool) : Type 0 where
  pub has : Has s r
  pub value : (bits : List Bool) → value_of s r bits ≡ f bits
