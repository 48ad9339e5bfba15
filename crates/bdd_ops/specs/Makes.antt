-- How often a call asks the store to make a diagram.
use Rattle.std.specs.Prelude.{◌≡◌, ℕ, ◌+◌, ◌*◌, ◌<◌, ◌≤◌}
use Rattle.bdd_nodes.specs.Store.{makes_of}
use Rattle.bdd_ops.specs.declared.engine.Engine.{Engine}
use Rattle.bdd_ops.specs.Engine.{store_of, capacity_of, refused_of}

-- at most so many times, where the cache has room for an entry of each and each entry found memory; the count of those that found none ends at most
abbrev pub MakesWithin : ℕ → Engine → Engine → ℕ → Type 0
MakesWithin most old new times
    = refused_of new ≡ refused_of old → refused_of old < most → times ≤ capacity_of old
    → makes_of (store_of new) ≤ makes_of (store_of old) + times

-- two steps at least for each time, and one more
abbrev pub PaysMakes : Engine → Engine → ℕ → ℕ → Type 0
PaysMakes old new before after
    = 2 * makes_of (store_of new) + before + 1 ≤ 2 * makes_of (store_of old) + after
