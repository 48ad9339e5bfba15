-- The modules of a program as the code keeps them.
use Rattle.std.specs.Prelude.{◌≡◌, ℕ, ◌+◌, ◌<◌, true, false, List, [], ◌∷◌, map, length, take, slice_index_or}
use Rattle.std.specs.List.{list_any, AllZip}
use Rattle.std.specs.Str.{bytes_eq}
use Rattle.smv_instances.specs.declared.modules.Table.{Table}
use Rattle.smv_instances.specs.declared.modules.Modules.{Modules}
use Rattle.smv_instances.specs.Program.{Name, Module, Program}
use Rattle.smv_instances.specs.Plain.{plain_module}
use Rattle.smv_instances.specs.Entries.{Entry, entries}
use Rattle.smv_instances.specs.Declarations.{is_instance, one_if}
use Rattle.smv_instances.specs.Numbered.{plain_entry}

-- no name stood before
abbrev pub IsFresh : List Name → Type 0
IsFresh names
    = (k : ℕ) (x : Name) → k < length names
    → list_any (bytes_eq (slice_index_or names k x)) (take k names) ≡ false

-- the names before the first that stood before
pub record IsFront (all front : List Name) : Type 0 where
  pub begins : front ≡ take (length front) all
  pub distinct : IsFresh front
  pub ends : (x : Name) → length front < length all
      → list_any (bytes_eq (slice_index_or all (length front) x)) front ≡ true

-- how many instances stand before each entry, n of them before the first
abbrev pub counts_from : ℕ → List Entry → List ℕ
counts_from n [] = []
counts_from n (e ∷ es) = n ∷ counts_from (n + one_if (is_instance e.entity)) es

pub record IsTable (t : Table) (m : Module) : Type 0 where
  pub read : plain_module t.source.now ≡ m
  pub declares : map plain_entry t.entries.items ≡ entries m
  pub ordered : t.ordinals.items ≡ counts_from 0 (entries m)
  pub front : IsFront (map (λ e. e.name) (entries m)) t.names

-- the modules of the program, each name once
pub record AreModules (m : Modules) (p : Program) : Type 0 where
  pub each : AllZip IsTable m.tables.items p
  pub named : m.names ≡ map (λ q. q.name) p

-- they are the modules of some program
abbrev pub IsKnown : Modules → Type 0
IsKnown ms = (p : Program) × AreModules ms p
