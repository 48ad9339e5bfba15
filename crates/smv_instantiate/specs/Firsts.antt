-- The first flat variables of what is declared, and how many elements of an array stand before one of them.
use Rattle.std.specs.Prelude.{◌≡◌, ℕ, ◌+◌, ◌-◌, ◌*◌, ◌≤◌, List, ◌∷◌, Option, Some}
use Rattle.std.specs.List.{AllZip}
use Rattle.smv_instances.specs.Program.{Name, Plain, Program}
use Rattle.smv_instances.specs.Entries.{Entity, Entry}
use Rattle.smv_instances.specs.Instances.{Scope, all_entries, indexed, place_of, spelled, variable_names}
use Rattle.smv_names.specs.declared.targets.Bracket.{Bracket}

-- ---- first flat variables

-- the name of the first element of x
abbrev pub first_element : Plain → Name → Name
first_element (Plain.Array low high element) x = first_element element (indexed x low)
first_element Plain.Boolean x = x
first_element (Plain.Enumeration constants) x = x
first_element (Plain.Range low high) x = x

-- the number of the first flat variable of an entry, where that is a variable or an array
abbrev pub IsFirst : Program → Option ℕ → Scope × Entry → Type 0
IsFirst p first (s, e)
    = (type : Plain) → e.entity ≡ Entity.Stored type
    → first ≡ Some (place_of (variable_names p) (first_element type (spelled s e.name)))

-- those of all entries, by the numbers of the entries
abbrev pub AreFirsts : Program → List (Option ℕ) → Type 0
AreFirsts p firsts = AllZip (IsFirst p) firsts (all_entries p)

-- ---- elements

-- the value of an index lies within bounds that can be written
abbrev pub IsWithin : Bracket → ℕ → Type 0
IsWithin b n = (b.low ≤ n) × (n ≤ b.high) × (b.high ≤ 2147483647)

-- how many elements stand before the one with these indexes, the last one first
abbrev pub offset : List Bracket → List ℕ → ℕ
offset (b ∷ bs) (n ∷ ns) = offset bs ns * (b.high + 1 - b.low) + (n - b.low)
offset bs ns = 0
