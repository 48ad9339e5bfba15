-- What it does to an engine to remember an answer.
use Rattle.std.specs.Prelude.{◌≡◌, ℕ, ◌+◌, ◌<◌, ◌≤◌, ◌⊎◌, Bool, Some, None, ◌∷◌, min, length, Contains}
use Rattle.std.specs.Map.{lookup}
use Rattle.std.specs.List.Sorted.{IsPermutation}
use Rattle.bdd_ops.specs.declared.key.Key.{Key}
use Rattle.bdd_ops.specs.declared.engine.Engine.{Engine}
use Rattle.bdd_ops.specs.Engine.{store_of, entries_of, fresh_of, capacity_of, lists_of, refused_of}

module _ (same : Key → Key → Bool) (most : ℕ) where
  -- the key has this answer, or it found no memory and one more is counted, as far as the count goes
  pub record IsRemembered (old new : Engine) (key : Key) (answer : ℕ) : Type 0 where
    pub outcome : ((lookup (same key) (entries_of new) ≡ Some answer)
        × (refused_of new ≡ refused_of old))
        ⊎ ((lookup (same key) (entries_of new) ≡ None)
        × (refused_of new ≡ min (refused_of old + 1) most))
    pub others : (k : Key) (r : ℕ) → Contains (entries_of new) (k, r)
        → ((k ≡ key) × (r ≡ answer)) ⊎ Contains (entries_of old) (k, r)
    pub kept : length (fresh_of old) < capacity_of old → (k : Key) (r : ℕ)
        → Contains (fresh_of old) (k, r) → Contains (fresh_of new) (k, r)
    pub refused : refused_of old ≤ refused_of new
    pub store : store_of new ≡ store_of old
    pub lists : lists_of new ≡ lists_of old
    pub capacity : capacity_of new ≡ capacity_of old

  -- and it had no entry, so where there is memory it comes to those of the operation that runs
  pub record IsNoted (old new : Engine) (key : Key) (answer : ℕ) : Type 0 where
    pub remembered : IsRemembered old new key answer
    pub fresh : refused_of new ≡ refused_of old → refused_of old < most
        → length (fresh_of old) < capacity_of old
        → IsPermutation ((key, answer) ∷ fresh_of old) (fresh_of new)
