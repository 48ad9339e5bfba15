-- What contracts see of a store.
use Rattle.std.specs.Prelude.{◌≡◌, ◌≢◌, ℕ, ◌≤◌, Bool, List, length, Option, Some}
use Rattle.bdd_nodes.specs.declared.triple.Triple.{Triple}
use Rattle.bdd_nodes.specs.declared.store.Store.{Store}
use Rattle.bdd_nodes.specs.Table as table
use Rattle.bdd_nodes.specs.Size as size
use Rattle.bdd_nodes.specs.Makes.{number_of}

-- the number of levels
abbrev pub levels_of : Store → ℕ
levels_of s = s.levels

-- the limit on the number of triples
abbrev pub limit_of : Store → ℕ
limit_of s = s.limit

-- the triples, in the order of their numbers
abbrev pub triples : Store → List Triple
triples s = s.nodes.keys

-- how often `make` was called on the store
abbrev pub makes_of : Store → ℕ
makes_of s = number_of s.makes

-- the store has the number
abbrev pub Has : Store → ℕ → Type 0
Has s r = table.Has (triples s) r

-- the triple of a number
abbrev pub node_of : Store → ℕ → Option Triple
node_of s r = table.node_of (triples s) r

-- the level of a number
abbrev pub level_of : Store → ℕ → ℕ
level_of s r = table.level_of (levels_of s) (triples s) r

-- the value of a number at a list of bits
abbrev pub value_of : Store → ℕ → List Bool → Bool
value_of s r bits = table.value_of (triples s) r bits

-- how many triples are reached from a number, its own among them
abbrev pub size_of : Store → ℕ → ℕ
size_of s r = size.size_of (triples s) r

-- the triple of a level and two children
abbrev pub triple : ℕ → ℕ → ℕ → Triple
triple level low high = record { level = level; low = low; high = high }

-- no number has the triple
abbrev pub IsAbsent : Store → ℕ → ℕ → ℕ → Type 0
IsAbsent s level low high = (r : ℕ) → node_of s r ≢ Some (triple level low high)

-- nothing but new triples at the end, so that each earlier number keeps its triple, its level and its meaning, and no call of `make` is forgotten
pub record Grows (old new : Store) : Type 0 where
  pub levels : levels_of new ≡ levels_of old
  pub limit : limit_of new ≡ limit_of old
  pub makes : makes_of old ≤ makes_of new
  pub triples : table.IsGrowth (triples old) (triples new)
  pub has : (r : ℕ) → Has old r → Has new r
  pub node : (r : ℕ) → Has old r → node_of new r ≡ node_of old r
  pub level : (r : ℕ) → Has old r → level_of new r ≡ level_of old r
  pub value : (r : ℕ) → Has old r → (bits : List Bool) → value_of new r bits ≡ value_of old r bits

-- r is the number of this triple, or its child where the two are equal
pub record IsNodeOf (s : Store) (level low high r : ℕ) : Type 0 where
  pub equal : low ≡ high → r ≡ low
  pub node : low ≢ high → node_of s r ≡ Some (triple level low high)

-- two numbers have the same value at each list of the levels' bits
abbrev pub HaveSameValues : Store → ℕ → ℕ → Type 0
HaveSameValues s q r
    = (bits : List Bool) → length bits ≡ levels_of s → value_of s q bits ≡ value_of s r bits

-- the store has no room for the triple: its children differ, no number has it, and there are as many triples as the limit says
pub record IsFullFor (s : Store) (level low high : ℕ) : Type 0 where
  pub different : low ≢ high
  pub absent : IsAbsent s level low high
  pub held : length (triples s) ≡ limit_of s
