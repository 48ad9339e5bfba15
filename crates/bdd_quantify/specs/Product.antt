-- The conjunction of two diagrams with some levels quantified.
use Rattle.std.specs.Prelude.{◌≡◌, ℕ, ◌+◌, ◌-◌, ◌*◌, ◌^◌, ◌<◌, min, ◌≤◌, Bool, ◌&&◌, ◌==◌, if◌then◌else◌, List, length, slice_index}
use Rattle.bdd_nodes.specs.declared.store.Store.{Store}
use Rattle.bdd_nodes.specs.Store.{Has, levels_of, level_of, triples, value_of}
use Rattle.bdd_ops.specs.declared.key.Key.{Key}
use Rattle.bdd_ops.specs.declared.key.Key.TheVariants.{Exists, AndExists}
use Rattle.bdd_ops.specs.Answer.{some_choice, list_at}

-- some choice of the bits at these levels gives both the value 1
abbrev pub product_of : Store → List ℕ → ℕ → ℕ → List Bool → Bool
product_of s levels f g bits = some_choice (λ bs. value_of s f bs && value_of s g bs) levels bits

-- r is the diagram of it
pub record IsProduct (s : Store) (levels : List ℕ) (f g r : ℕ) : Type 0 where
  pub has_f : Has s f
  pub has_g : Has s g
  pub has : Has s r
  pub value : (bits : List Bool) → value_of s r bits ≡ product_of s levels f g bits

-- the same by the list that stands at a place
pub record IsEntry (s : Store) (lists : List (List ℕ)) (f g r p : ℕ) : Type 0 where
  pub listed : p + 1 ≤ length lists
  pub product : IsProduct s (list_at lists p) f g r

-- the cache's key: a true operand is left out
abbrev pub key_of : ℕ → ℕ → ℕ → Key
key_of f g p = if g == 1 then Exists f p else (if f == 1 then Exists g p else AndExists f g p)

-- the levels at the places before this one lie above a level
abbrev pub ArePassed : List ℕ → ℕ → ℕ → Type 0
ArePassed levels from level = (k : ℕ) → k < from → k < length levels → slice_index levels k < level

-- a product of two diagrams adds at most so many triples: fewer, the deeper both lie
abbrev pub GrowsByProduct : ℕ → ℕ → Store → Store → Type 0
GrowsByProduct f g old new
    = length (triples new) + 2 ^ levels_of old
    ≤ length (triples old)
    + 2 ^ levels_of old * 2 ^ (levels_of old - min (level_of old f) (level_of old g))
