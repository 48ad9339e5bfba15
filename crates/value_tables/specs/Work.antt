-- What an engine keeps and how much it grows.
use Rattle.std.specs.Prelude.{ℕ, ◌+◌, ◌*◌, ◌^◌, ◌≤◌, length, Result, IfErr}
use Rattle.bdd_nodes.specs.declared.store.Store.{Store}
use Rattle.bdd_nodes.specs.Store.{levels_of, triples}
use Rattle.bdd_nodes.specs.declared.refusal.StoreRefusal.{StoreRefusal}
use Rattle.bdd_nodes.specs.Refusal.{IsRefusalOf}
use Rattle.bdd_ops.specs.declared.engine.Engine.{Engine}
use Rattle.bdd_ops.specs.Engine.{store_of}
use Rattle.bdd_ops.specs.Kept.{KeepsEngine}

-- what work on an engine keeps, and the steps never fall
pub record Keeps (old new : Engine) (before after : ℕ) : Type 0 where
  pub engine : KeepsEngine old new
  pub steps : before ≤ after

-- a call that works on an engine keeps this of it, and a refusal is one of its store
pub record IsWork {T : Type 0} (old new : Engine) (before after : ℕ)
    (result : Result T StoreRefusal) : Type 0 where
  pub keeps : Keeps old new before after
  pub held : IfErr result (IsRefusalOf (store_of new))

-- the table grows by at most k times as many triples as one operation may add
pub record Spends (k : ℕ) (old new : Store) : Type 0 where
  pub count : length (triples new) ≤ length (triples old) + k * 2 ^ levels_of old

-- how many triples an expression of n nodes may add, in units of what one operation may add, which is u triples
abbrev pub allowance : ℕ → ℕ → ℕ
allowance n u = 16 * ((n + 1) * (n + 1)) * u

-- the same for a list of elements or of arms with n nodes in all
abbrev pub list_allowance : ℕ → ℕ → ℕ
list_allowance n u = 16 * (n * (n + 4)) * u

-- the same for an operator on tables of l and r cells
abbrev pub operator_allowance : ℕ → ℕ → ℕ → ℕ
operator_allowance l r u = 13 * (l + r) + 26 + 2 * u
