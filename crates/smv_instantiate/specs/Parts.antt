-- The items of the flat model, by their kinds.
use Rattle.std.specs.Prelude.{List, filter}
use Rattle.smv_instances.specs.Program.{Kind, Program}
use Rattle.smv_instantiate.specs.declared.parts.FlatParts.{FlatParts}
use Rattle.smv_instantiate.specs.Flattens.{Placed, IsAssignment, IsCondition, is_assignment, is_of}
use Rattle.std.specs.List.{AllZip}

-- they are those of these items, in order
pub record AreParts (p : Program) (items : List Placed) (parts : FlatParts) : Type 0 where
  pub assigns : AllZip (IsAssignment p) (filter (λ i. is_assignment i.1) items) parts.assigns.items
  pub inits : AllZip (IsCondition p) (filter (λ i. is_of Kind.Init i.1) items) parts.inits.items
  pub invars : AllZip (IsCondition p) (filter (λ i. is_of Kind.Invar i.1) items) parts.invars.items
  pub trans : AllZip (IsCondition p) (filter (λ i. is_of Kind.Trans i.1) items) parts.trans.items
  pub constraints : AllZip (IsCondition p)
      (filter (λ i. is_of Kind.Fairness i.1) items) parts.constraints.items
  pub specs : AllZip (IsCondition p) (filter (λ i. is_of Kind.Spec i.1) items) parts.specs.items
