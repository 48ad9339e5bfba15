-- What contracts see of a refusal.
use Rattle.std.specs.Prelude.{◌≡◌, ℕ, length, Result, Ok, Err}
use Rattle.bdd_nodes.specs.declared.store.Store.{Store}
use Rattle.bdd_nodes.specs.Store.{levels_of, limit_of, triples}
use Rattle.bdd_nodes.specs.declared.refusal.Held.{Held}
use Rattle.bdd_nodes.specs.declared.refusal.StoreRefusal.{StoreRefusal}
use Rattle.bdd_nodes.specs.declared.refusal.StoreRefusal.TheVariants.{Full, Memory}

-- the levels and the limit of the store that was full
abbrev pub levels_shown : Held → ℕ
levels_shown held = held.levels

abbrev pub number_shown : Held → ℕ
number_shown held = held.number

-- the store was full
abbrev pub IsFull : {T : Type 0} → Result T StoreRefusal → Type 0
IsFull (Ok r) = ⊥
IsFull (Err (Full held)) = Unit {0}
IsFull (Err Memory) = ⊥

-- a refusal of this store: a full one is shown by its levels and its limit, and it holds as many triples as the limit says
abbrev pub IsRefusalOf : Store → StoreRefusal → Type 0
IsRefusalOf s (Full held)
    = (levels_shown held ≡ levels_of s) × (number_shown held ≡ limit_of s)
    × (length (triples s) ≡ limit_of s)
IsRefusalOf s Memory = Unit {0}
