-- Abbreviations by their numbers: the places of their entries among all entries, in instantiation order.
use Rattle.std.specs.Prelude.{◌≡◌, ℕ, ◌<◌, ◌≤◌, List, length, take, map, flat_map, Option, Some, option_map, slice_get, slice_index}
use Rattle.smv_names.specs.declared.nodes.Nodes.{Nodes}
use Rattle.smv_instances.specs.Program.{Program}
use Rattle.smv_instances.specs.Entries.{Entry, entries}
use Rattle.smv_instances.specs.Instances.{Scope, module_of, all_entries, instances}
use Rattle.smv_instances.specs.Numbered.{scope_at}
use Rattle.smv_names.specs.Abbreviations.{Abbreviation}

-- the name of an entry, whatever it stands for
abbrev pub abbreviation_at : Program → ℕ → Option Abbreviation
abbreviation_at p node
    = option_map (λ e. record { scope = e.0; name = e.1.name }) (slice_get (all_entries p) node)

-- the entry k of the instance s has this number
abbrev pub IsNode : Program → Scope → ℕ → ℕ → Type 0
IsNode p s k node
    = (e : Entry) → slice_get (entries (module_of s)) k ≡ Some e
    → slice_get (all_entries p) node ≡ Some (s, e)

-- the entries of an instance
abbrev pub placed_entries : Scope → List (Scope × Entry)
placed_entries s = map (λ e. (s, e)) (entries (module_of s))

-- how many entries stand before those of the instance i
abbrev pub entries_before : Program → ℕ → ℕ
entries_before p i = length (flat_map placed_entries (take i (instances p)))

pub record AreNodes (p : Program) (nodes : Nodes) : Type 0 where
  pub all : nodes.count ≡ length (all_entries p)
  pub lengths : length nodes.firsts.items ≡ length (instances p)
  pub firsts : (i : ℕ) → i < length (instances p)
      → slice_index nodes.firsts.items i ≡ entries_before p i

-- the entry with this number stands in one of the instances from low on, before high
pub record IsBetween (p : Program) (node low high : ℕ) : Type 0 where
  pub from : entries_before p low ≤ node
  pub below : node < entries_before p high

-- it is the entry k of the instance i
pub record IsPlaced (p : Program) (node i k : ℕ) : Type 0 where
  pub scope : Scope
  pub numbered : scope_at p i ≡ Some scope
  pub entry : Entry
  pub stands : slice_get (entries (module_of scope)) k ≡ Some entry
  pub is : slice_get (all_entries p) node ≡ Some (scope, entry)
