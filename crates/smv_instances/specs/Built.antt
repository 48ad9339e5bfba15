-- All instances of a program as the code keeps them.
use Rattle.std.specs.Prelude.{◌≡◌, ℕ, ◌<◌, Some, length, filter, slice_get}
use Rattle.kripke_model.specs.Refusing.{Silent}
use Rattle.smv_instances.specs.declared.instances.Instances.{Instances}
use Rattle.smv_instances.specs.Program.{Name, Module, Program}
use Rattle.smv_instances.specs.Entries.{Entry, entries, entity_in}
use Rattle.smv_instances.specs.Instances as tree
use Rattle.smv_instances.specs.Declarations.{refused_declarations}
use Rattle.smv_instances.specs.Tables.{AreModules}
use Rattle.std.specs.List.{AllZip}
use Rattle.smv_instances.specs.Walk.{AreRows, AreLinked}

-- those of the program p, which is not refused for its declarations
pub record AreInstances (p : Program) (all : Instances) : Type 0 where
  pub known : AreModules all.modules p
  pub are : AreRows all.modules all.rows.items (tree.instances p)
  pub linked : AreLinked p all.rows.items (tree.instances p) 0
  pub entered : AllZip (λ n c. slice_get (tree.instances p) n ≡ Some c) all.processes.items
      (filter tree.is_process (tree.instances p))
  pub selected : all.selector ≡ tree.has_selector p
  pub named : all.symbols ≡ tree.symbols p
  pub silent : Silent (refused_declarations p)

-- one of them has this number
abbrev pub HasInstance : Instances → ℕ → Type 0
HasInstance all i = (p : Program) × AreInstances p all × (i < length (tree.instances p))

-- one of them has this number, and its module an entry at this place
abbrev pub HasEntry : Instances → ℕ → ℕ → Type 0
HasEntry all i place
    = (p : Program) × (s : tree.Scope) × AreInstances p all
    × (slice_get (tree.instances p) i ≡ Some s) × (place < length (entries (tree.module_of s)))

-- the entry at this place declares the name
pub record IsEntryOf (m : Module) (x : Name) (place : ℕ) : Type 0 where
  pub entry : Entry
  pub stands : slice_get (entries m) place ≡ Some entry
  pub named : entry.name ≡ x
  pub declared : entity_in m x ≡ Some entry.entity
