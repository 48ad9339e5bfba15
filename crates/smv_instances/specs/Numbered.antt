-- Instances by their numbers: their places in instantiation order, from 0 for `main`.
use Rattle.std.specs.Prelude.{◌≡◌, ℕ, ◌<◌, Bool, List, [], length, map, filter, Option, Some, slice_get}
use Rattle.smv_instances.specs.declared.entries.Entity.{Entity as Held}
use Rattle.smv_instances.specs.declared.entries.Entity.TheVariants as held
use Rattle.smv_instances.specs.declared.entries.Entry.{Entry as Line}
use Rattle.smv_instances.specs.declared.found.Found.{Found}
use Rattle.smv_instances.specs.declared.found.Found.TheVariants as found
use Rattle.smv_instances.specs.Program.{Name, Expr, Formal, Module, Program}
use Rattle.smv_instances.specs.Plain.{plain_expr, plain_type}
use Rattle.smv_instances.specs.Entries.{Entity, Entry, entity_in, module_named}
use Rattle.smv_instances.specs.Instances.{Scope, module_of, instances, is_process, process_of, place_of}

abbrev pub scope_at : Program → ℕ → Option Scope
scope_at p i = slice_get (instances p) i

-- ---- entries

abbrev pub plain_entity : Held → Entity
plain_entity held.Parameter = Entity.Parameter
plain_entity (held.Stored type) = Entity.Stored (plain_type type.now)
plain_entity (held.Instance process module_name actuals)
    = Entity.Instance process module_name.now (map plain_expr actuals.now)
plain_entity (held.Defined right) = Entity.Defined (plain_expr right.now)

abbrev pub plain_entry : Line → Entry
plain_entry e = record { name = e.name.now; line = e.line; entity = plain_entity e.entity }

-- ---- what a name stands for

-- the place of the formal parameter x
abbrev pub IsFormal : List Formal → Name → ℕ → Type 0
IsFormal formals x place
    = (place < length formals) × (place_of (map (λ f. f.name) formals) x ≡ place)

-- the child of s that is declared under the name x has this number
pub record IsChild (p : Program) (s : Scope) (x : Name) (number : ℕ) : Type 0 where
  pub process : Bool
  pub module_name : Name
  pub actuals : List Expr
  pub m : Module
  pub declared : entity_in (module_of s) x ≡ Some (Entity.Instance process module_name actuals)
  pub named : module_named p module_name ≡ Some m
  pub numbered : scope_at p number ≡ Some (Scope.Inside s x process actuals m)

-- what the module of s declares under the name x
abbrev pub IsFound : Program → Scope → Name → Found → Type 0
IsFound p s x (found.Parameter place)
    = (entity_in (module_of s) x ≡ Some Entity.Parameter) × IsFormal (module_of s).formals x place
IsFound p s x (found.Stored type)
    = entity_in (module_of s) x ≡ Some (Entity.Stored (plain_type type.now))
IsFound p s x (found.Instance number) = IsChild p s x number
IsFound p s x (found.Defined right)
    = entity_in (module_of s) x ≡ Some (Entity.Defined (plain_expr right.now))

-- ---- around an instance

-- s is an instance of the one with this number, with the expression as its actual parameter at the place
pub record IsActual (p : Program) (s : Scope) (place : ℕ) (caller : ℕ) (e : Expr) : Type 0 where
  pub around : Scope
  pub name : Name
  pub process : Bool
  pub actuals : List Expr
  pub m : Module
  pub is : s ≡ Scope.Inside around name process actuals m
  pub numbered : scope_at p caller ≡ Some around
  pub stands : slice_get actuals place ≡ Some e

-- its actual parameters
abbrev pub actuals_of : Scope → List Expr
actuals_of (Scope.Main m) = []
actuals_of (Scope.Inside around name process actuals m) = actuals

-- the process that s belongs to is the one at this place among the processes
abbrev pub IsProcess : Program → Scope → ℕ → Type 0
IsProcess p s place = slice_get (filter is_process (instances p)) place ≡ Some (process_of s)
