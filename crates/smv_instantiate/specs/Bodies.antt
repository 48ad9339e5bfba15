-- The instances of a program as the code keeps them, and what their entries declare.
use Rattle.std.specs.Prelude.{◌≡◌, ℕ, zero, suc, List, [], length, take, Some, slice_get, ◌∷◌, ◌++◌}
use Rattle.std.specs.List.{filter_map}
use Rattle.kripke_model.specs.Refusing.{Silent}
use Rattle.kripke_model.specs.System.{Variable}
use Rattle.smv_instances.specs.declared.modules.Modules.{Modules}
use Rattle.smv_instances.specs.declared.rows.Row.{Row}
use Rattle.smv_instances.specs.Program.{Name, Program}
use Rattle.smv_instances.specs.Entries.{Entry, entries}
use Rattle.smv_instances.specs.Instances.{Scope, module_of, instances, child, spelled, symbols, variables_from}
use Rattle.smv_instances.specs.Declarations.{refused_declarations}
use Rattle.smv_instances.specs.Tables.{AreModules}
use Rattle.smv_instances.specs.Walk.{AreRows, AreLinked}
use Rattle.smv_instantiate.specs.Written.{IsWritten}

pub record AreBodies (p : Program) (ms : Modules) (rows : List Row)
    (names : List Name) : Type 0 where
  pub known : AreModules ms p
  pub are : AreRows ms rows (instances p)
  pub linked : AreLinked p rows (instances p) 0
  pub named : names ≡ symbols p
  pub written : IsWritten p
  pub silent : Silent (refused_declarations p)

-- what the flat names of what the instance declares begin with
abbrev pub front : Scope → Name
front (Scope.Main m) = []
front (Scope.Inside around name process actuals m) = spelled around name ++ (46 ∷ [])

-- an entry of s, before which so many instances are declared
pub record IsEntry (p : Program) (s : Scope) (e : Entry) (before : ℕ) : Type 0 where
  pub k : ℕ
  pub stands : slice_get (entries (module_of s)) k ≡ Some e
  pub after : before ≡ length (filter_map (child p s) (take k (entries (module_of s))))

-- the flat variables of an instance that another declares, which may have so many levels inside it
abbrev pub inner_variables : Program → ℕ → Scope → List Variable
inner_variables p zero c = []
inner_variables p (suc n) c = variables_from p n c
