-- Assignments in groups: the next values of each process, then all current values, then all initial values. What is
-- assigned twice is assigned twice in one group, and each graph has the edges of two groups.
use Rattle.std.specs.Prelude.{◌≡◌, ℕ, ◌+◌, ◌<◌, List, length, Contains}
use Rattle.std.specs.List.{slice_index_or}
use Rattle.kripke_model.specs.declared.models.Part.{Part}
use Rattle.kripke_model.specs.System.{Assignment}
use Rattle.smv_static.specs.Numbers.{row}
use Rattle.smv_static.specs.Targets.{targets_of}

abbrev pub group_by : ℕ → Part → ℕ → ℕ
group_by processes Part.Init process = processes + 1
group_by processes Part.Now process = processes
group_by processes Part.Next process = process

-- the group of an assignment, where there are so many processes
abbrev pub group_of : ℕ → Assignment → ℕ
group_of processes a = group_by processes a.part a.process

-- row g has the places of the assignments of group g
pub record IsGrouped (processes : ℕ) (assigns : List Assignment)
    (rows : List (List ℕ)) : Type 0 where
  pub known : (g k : ℕ) → Contains (row rows g) k → k < length assigns
  pub sound : (g k : ℕ) (d : Assignment) → Contains (row rows g) k
      → group_of processes (slice_index_or assigns k d) ≡ g
  pub complete : (k : ℕ) (d : Assignment) → k < length assigns
      → Contains (row rows (group_of processes (slice_index_or assigns k d))) k

-- row x has what the assignments of variable x at these places depend on
pub record IsTable (assigns : List Assignment) (places : List ℕ)
    (rows : List (List ℕ)) : Type 0 where
  pub sound : (x y : ℕ) → Contains (row rows x) y → (k : ℕ) × Contains places k
      × ((d : Assignment) → (slice_index_or assigns k d).var ≡ x)
      × ((d : Assignment) → Contains (targets_of (slice_index_or assigns k d)) y)
  pub complete : (k y : ℕ) (d : Assignment) → Contains places k
      → Contains (targets_of (slice_index_or assigns k d)) y
      → Contains (row rows (slice_index_or assigns k d).var) y
