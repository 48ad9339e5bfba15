-- The instances as the code keeps them, against those of the program.
use Rattle.std.specs.Prelude.{◌≡◌, ℕ, zero, suc, ◌+◌, ◌<◌, ◌≤◌, Bool, List, [], ◌∷◌, ◌++◌, length, map, flat_map, filter, take, Option, Some, None, slice_get, MatchResult, Result}
use Rattle.kripke_model.specs.Refusing.{Silent, First}
use Rattle.smv_instances.specs.declared.counts.Counts.{Counts}
use Rattle.smv_instances.specs.declared.modules.Table.{Table}
use Rattle.smv_instances.specs.declared.modules.Modules.{Modules}
use Rattle.smv_instances.specs.declared.rows.Step.{Step}
use Rattle.smv_instances.specs.declared.rows.Row.{Row}
use Rattle.smv_instances.specs.declared.rows.Walk.{Walk}
use Rattle.kripke_model.specs.declared.refusals.FlatRefusal.{FlatRefusal}
use Rattle.smv_instances.specs.Program.{Name, Expr, Module, Program}
use Rattle.smv_instances.specs.Plain.{plain_expr}
use Rattle.smv_instances.specs.Instances.{Scope, module_of, depth, main_name, is_process, process_of, child, children, instances_from}
use Rattle.smv_instances.specs.Entries.{Entry, module_named}
use Rattle.smv_instances.specs.Declarations.{entries_of, declaration, body}
use Rattle.smv_instances.specs.Counting.{IsCounts}
use Rattle.smv_instances.specs.Tables.{IsTable, AreModules}
use Rattle.std.specs.List.{AllZip}
use Rattle.smv_instances.specs.Answers.{Refused}

-- the table at this place is that of the module
pub record Stands (ms : Modules) (place : ℕ) (m : Module) : Type 0 where
  pub table : Table
  pub at_place : slice_get ms.tables.items place ≡ Some table
  pub is_table : IsTable table m

-- the step is the declaration of an instance of this name in `around`, which has a number below k
pub record Comes (numbering : List Scope) (k : ℕ) (step : Step) (around : Scope) (name : Name)
    (process : Bool) (actuals : List Expr) : Type 0 where
  pub earlier : step.around < k
  pub numbered : slice_get numbering step.around ≡ Some around
  pub named : step.name.now ≡ name
  pub process_is : step.process ≡ process
  pub actuals_are : map plain_expr step.actuals.now ≡ actuals

-- the step leads to the instance s
abbrev pub IsStep : List Scope → ℕ → Option Step → Scope → Type 0
IsStep numbering k None (Scope.Main m) = Unit {0}
IsStep numbering k None (Scope.Inside around name process actuals m) = ⊥
IsStep numbering k (Some step) (Scope.Main m) = ⊥
IsStep numbering k (Some step) (Scope.Inside around name process actuals m)
    = Comes numbering k step around name process actuals

-- the row k is that of the instance s
pub record IsRow (ms : Modules) (numbering : List Scope) (k : ℕ) (row : Row)
    (s : Scope) : Type 0 where
  pub table : Stands ms row.table (module_of s)
  pub depth_is : row.depth ≡ depth s
  pub process_is : slice_get (filter is_process numbering) row.process ≡ Some (process_of s)
  pub step : IsStep numbering k row.step s

pub record AreRows (ms : Modules) (rows : List Row) (numbering : List Scope) : Type 0 where
  pub lengths : length rows ≡ length numbering
  pub each : (k : ℕ) (row : Row) (s : Scope) → slice_get rows k ≡ Some row
      → slice_get numbering k ≡ Some s → IsRow ms numbering k row s

-- the walk has come to these instances, and has counted the bodies of some of them
pub record HasWalked (ms : Modules) (w : Walk) (done counted : List Scope) : Type 0 where
  pub rows : AreRows ms w.rows.items done
  pub processes : AllZip (λ n c. slice_get done n ≡ Some c) w.processes.items
      (filter is_process done)
  pub counts : IsCounts w.counts (entries_of counted)

-- the numbers in each row from this one on are those of its children
abbrev pub AreLinked : Program → List Row → List Scope → ℕ → Type 0
AreLinked p rows numbering from
    = (k : ℕ) (row : Row) (s : Scope) → from ≤ k → slice_get rows k ≡ Some row
    → slice_get numbering k ≡ Some s
    → AllZip (λ n c. slice_get numbering n ≡ Some c) row.children.items (children p s)

-- the list with its member at k changed
abbrev pub updated : {A : Type 0} → List A → ℕ → (A → A) → List A
updated [] k f = []
updated (x ∷ xs) zero f = f x ∷ xs
updated (x ∷ xs) (suc k) f = x ∷ updated xs k f

-- one instance more, with this number
pub record Adds (ms : Modules) (old new : Walk) (done counted : List Scope) (s : Scope)
    (number : ℕ) : Type 0 where
  pub numbered : number ≡ length done
  pub reaches : HasWalked ms new (done ++ (s ∷ [])) counted
  pub row : Row
  pub kept : new.rows.items ≡ old.rows.items ++ (row ∷ [])

-- the walk went on over these instances, with the rows from this one on
pub record Visited (ms : Modules) (p : Program) (old new : Walk) (before added : List Scope)
    (from : ℕ) : Type 0 where
  pub reaches : HasWalked ms new (before ++ added) (before ++ added)
  pub linked : AreLinked p new.rows.items (before ++ added) from
  pub kept : take from new.rows.items ≡ take from old.rows.items
  pub silent : Silent (First (body p) before added)

-- the instances inside s, at most so many levels deeper
abbrev pub inside : Program → ℕ → Scope → List Scope
inside p zero s = []
inside p (suc n) s = flat_map (instances_from p n) (children p s)

-- the number is that of a row
abbrev pub IsInside : Modules → List Row → ℕ → Type 0
IsInside ms rows number = (done : List Scope) × AreRows ms rows done × (number < length rows)

-- the answer to the first entries of the body s: new counts, or the first refusal among them
abbrev pub CountsBody : Program → List Scope → Scope → List Entry → Result Counts FlatRefusal
    → Type 0
CountsBody p before s es result =
    MatchResult result
    (λ c. IsCounts c (entries_of before ++ es) × Silent (First (declaration p before s) [] es))
    (Refused (First (declaration p before s) [] es))

-- the answer to the body s
abbrev pub ChecksBody : Program → List Scope → Scope → Result Counts FlatRefusal → Type 0
ChecksBody p before s result =
    MatchResult result
    (λ c. IsCounts c (entries_of (before ++ (s ∷ []))) × Silent (body p before s))
    (Refused (body p before s))

-- the entry of s is an instance of the module at this place, and the step is its declaration
pub record Leads (ms : Modules) (p : Program) (s : Scope) (e : Entry) (number : ℕ) (step : Step)
    (table : ℕ) : Type 0 where
  pub m : Module
  pub is : child p s e
      ≡ Some (Scope.Inside s step.name.now step.process (map plain_expr step.actuals.now) m)
  pub from : step.around ≡ number
  pub stands : Stands ms table m

-- the walk has come to these instances; one that s declares comes next, and may have so many levels inside it
pub record Enters (ms : Modules) (p : Program) (w : Walk) (done : List Scope) (s : Scope)
    (m : Module) (around table left : ℕ) : Type 0 where
  pub mods : AreModules ms p
  pub reaches : HasWalked ms w done done
  pub numbered : slice_get done around ≡ Some s
  pub stands : Stands ms table m
  pub deep : depth s + 1 + left ≡ 32

-- the walk has come to these instances, s among them; those inside s come next
pub record Goes (ms : Modules) (p : Program) (w : Walk) (done : List Scope) (s : Scope)
    (number left : ℕ) : Type 0 where
  pub mods : AreModules ms p
  pub reaches : HasWalked ms w done done
  pub numbered : slice_get done number ≡ Some s
  pub deep : depth s + left ≡ 32
  pub bottom : left ≡ 0 → children p s ≡ []

-- the walk has come to these instances and to s, whose body comes next
pub record Begins (ms : Modules) (p : Program) (w : Walk) (before : List Scope) (s : Scope)
    (number left : ℕ) : Type 0 where
  pub mods : AreModules ms p
  pub reaches : HasWalked ms w (before ++ (s ∷ [])) before
  pub numbered : number ≡ length before
  pub deep : depth s + left ≡ 32

-- `main` stands at this place, and has no formal parameters
pub record Starts (ms : Modules) (p : Program) (place : ℕ) : Type 0 where
  pub mods : AreModules ms p
  pub m : Module
  pub is : module_named p main_name ≡ Some m
  pub stands : Stands ms place m
  pub bare : m.formals ≡ []
