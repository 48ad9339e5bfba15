-- What a call of the recursion may add to the cache, and what it costs.
use Rattle.std.specs.Prelude.{◌≡◌, ℕ, ◌<◌, ◌≤◌, ◌⊎◌, Bool, true, Result, OnOk, OnErr}
use Rattle.bdd_nodes.specs.Store.{levels_of, triples}
use Rattle.bdd_ops.specs.declared.key.Key.{Key}
use Rattle.bdd_ops.specs.declared.engine.Engine.{Engine}
use Rattle.bdd_ops.specs.declared.operation.Operation.{Operation}
use Rattle.bdd_ops.specs.Engine.{store_of, entries_of, fresh_of, capacity_of, refused_of}
use Rattle.bdd_ops.specs.Answer.{key_weight}
use Rattle.bdd_ops.specs.Operation.{weight_of}
use Rattle.bdd_ops.specs.Cost.{has_entry, IsCheap, IsFrugal}

-- each key that came is no heavier than the operation
abbrev pub AddsWithin : (Key → Key → Bool) → Operation → Engine → Engine → Type 0
AddsWithin same k old new
    = (q : Key) → has_entry same (entries_of new) q ≡ true
    → (has_entry same (entries_of old) q ≡ true) ⊎ (key_weight q ≤ weight_of k)

module _ (same : Key → Key → Bool) (most : ℕ) where
  -- the steps of a call that succeeds are paid, where each entry found memory
  abbrev pub IsCheapCall : {A E : Type 0} → Result A E → Operation → Engine → Engine → ℕ → ℕ
      → Type 0
  IsCheapCall result k old new before after
      = refused_of new ≡ refused_of old → refused_of old < most
      → OnOk result (IsCheap same (levels_of (store_of old)) (triples (store_of old)) k
      (capacity_of old) (fresh_of old) before after (fresh_of new))

  -- and those of a call that is refused
  abbrev pub IsFrugalCall : {A E : Type 0} → Result A E → Operation → Engine → Engine → ℕ → ℕ
      → Type 0
  IsFrugalCall result k old new before after
      = refused_of new ≡ refused_of old → refused_of old < most
      → OnErr result (IsFrugal same (levels_of (store_of old)) (triples (store_of old)) k
      (capacity_of old) (fresh_of old) (entries_of old) before after)
