-- How far the counts of the declarations go.
use Rattle.std.specs.Prelude.{◌≡◌, ◌≢◌, ℕ, ◌≤◌, Bool, List, [], ◌∷◌, ◌++◌, length, sum_by, Contains, Some, None, Result, MatchResult}
use Rattle.std.specs.List.{list_any}
use Rattle.kripke_model.specs.Refusing.{Silent}
use Rattle.smv_instances.specs.declared.counts.Counts.{Counts}
use Rattle.kripke_model.specs.declared.refusals.FlatRefusal.{FlatRefusal}
use Rattle.smv_instances.specs.Program.{Name, Expr, Module, Program}
use Rattle.smv_instances.specs.Entries.{Entity, Entry, module_named}
use Rattle.smv_instances.specs.Instances.{Scope, modules_to, declares_process}
use Rattle.smv_instances.specs.Declarations.{entry_variable_count, instances_in, declaration_rows}
use Rattle.smv_instances.specs.Answers.{Refused}

-- what these entries declare
pub record IsCounts (c : Counts) (es : List Entry) : Type 0 where
  pub variables : c.variables ≡ sum_by (λ e. entry_variable_count e.entity) es
  pub process : c.process ≡ list_any (λ e. declares_process e.entity) es
  pub instances : c.instances ≡ instances_in es
  pub few : c.variables ≤ 256
  pub some : c.instances ≤ 1023

-- the answer to the entry e, which comes after es: new counts, or why it is refused
abbrev pub Counted : Program → Scope → List Entry → Entry → ℕ → Result Counts FlatRefusal → Type 0
Counted p s es e line result =
    MatchResult result
    (λ c. IsCounts c (es ++ (e ∷ []))
    × Silent (declaration_rows p (es ++ (e ∷ [])) s line e.entity))
    (Refused (declaration_rows p (es ++ (e ∷ [])) s line e.entity))

-- the entry is an instance of a module that is there, is not on the way, and takes as many parameters
pub record IsNamed (p : Program) (s : Scope) (e : Entry) (process : Bool) : Type 0 where
  pub module_name : Name
  pub actuals : List Expr
  pub is : e.entity ≡ Entity.Instance process module_name actuals
  pub found : module_named p module_name ≡ None → ⊥
  pub apart : Contains (modules_to s) module_name → ⊥
  pub enough : (m : Module) × (module_named p module_name ≡ Some m)
      × (length actuals ≢ length m.formals) → ⊥
