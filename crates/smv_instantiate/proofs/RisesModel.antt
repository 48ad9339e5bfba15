-- x rises when go is 1: the flat model, with its derivation.
use Rattle.std.proofs.Common.{refl, ℕ, zero, suc, List, [], ◌∷◌, false}
use Rattle.std.specs.Prelude.{pos}
use Rattle.std.specs.Fmt.{digits}
use Rattle.kripke_model.specs.declared.expressions.PathOp.{PathOp}
use Rattle.kripke_model.specs.declared.expressions.Value.TheVariants.{Number}
use Rattle.kripke_model.specs.declared.models.Part.{Part}
use Rattle.kripke_model.specs.Term.{Term, Arms}
use Rattle.kripke_model.specs.System.{System}
use Rattle.smv_instances.specs.Program.{Name, Expr, Exprs, Path, Constant, Plain, Form, Declaration, Definition, Assigned, Kind, Stated, Section, Formal, Module, Program}
use Rattle.smv_instances.specs.Program as tree
use Rattle.smv_instances.specs.Instances.{Scope, instances}
use Rattle.smv_names.specs.Denotes.{Denotes, Finds}
use Rattle.smv_names.specs.Expands.{Expands, ExpandArms, Selects, AreIndexes}
use Rattle.smv_instantiate.specs.Flattens.{Flattens}

-- the k-th of a list of instances
abbrev scope_at : ℕ → List Scope → Scope
scope_at k [] = Scope.Main (record { name = []; line = 0; formals = []; sections = [] })
scope_at zero (s ∷ ss) = s
scope_at (suc k) (s ∷ ss) = scope_at k ss

abbrev name_go : Name
name_go = 103 ∷ 111 ∷ []

abbrev name_main : Name
name_main = 109 ∷ 97 ∷ 105 ∷ 110 ∷ []

abbrev name_x : Name
name_x = 120 ∷ []

-- MODULE main
-- VAR x : boolean; go : boolean;
-- ASSIGN
--   init(x) := 0;
--   next(x) := case go : 1; 1 : x; esac;
-- FAIRNESS go
-- FAIRNESS 1
-- SPEC AF x
abbrev rises : Program
rises =
    record {
      name = name_main;
      line = 1;
      formals = ([]);
      sections =
          (Section.Vars (record { name = name_x; line = 2; form = Form.Stored Plain.Boolean } ∷ record { name = name_go; line = 2; form = Form.Stored Plain.Boolean } ∷ []) ∷
          Section.Assigns (record { part = Part.Init; left = (Path.Here 4 name_x); left_line = 4; right = (Expr.Number 0); line = 4 } ∷ record { part = Part.Next; left = (Path.Here 5 name_x); left_line = 5; right = (Expr.Case (tree.Arms.arm (Expr.At (Path.Here 5 name_go)) (Expr.Number 1) (tree.Arms.arm (Expr.Number 1) (Expr.At (Path.Here 5 name_x)) tree.Arms.esac))); line = 5 } ∷ []) ∷
          Section.States (record { kind = Kind.Fairness; expr = (Expr.At (Path.Here 6 name_go)); line = 6 }) ∷
          Section.States (record { kind = Kind.Fairness; expr = (Expr.Number 1); line = 7 }) ∷
          Section.States (record { kind = Kind.Spec; expr = (Expr.Quant PathOp.AF (Expr.At (Path.Here 8 name_x))); line = 8 }) ∷ []);
    } ∷
    []

abbrev rises_scope : ℕ → Scope
rises_scope k = scope_at k (instances rises)

abbrev rises_flat : System
rises_flat = record {
  symbols = ([]);
  vars = (record { name = (120 ∷ []); values = (Number (pos 0) ∷ Number (pos 1) ∷ []); line = 2 } ∷ record { name = (103 ∷ 111 ∷ []); values = (Number (pos 0) ∷ Number (pos 1) ∷ []); line = 2 } ∷ []);
  selector = false;
  processes = ((109 ∷ 97 ∷ 105 ∷ 110 ∷ []) ∷ []);
  assigns = (record { part = Part.Init; var = 0; process = 0; right = (Term.Const (Number (pos 0))); line = 4 } ∷ record { part = Part.Next; var = 0; process = 0; right = (Term.Case (Arms.arm (Term.Var 1) (Term.Const (Number (pos 1))) (Arms.arm (Term.Const (Number (pos 1))) (Term.Var 0) Arms.esac))); line = 5 } ∷ []);
  inits = ([]);
  invars = ([]);
  trans = ([]);
  constraints = (record { expr = (Term.Var 1); line = 6 } ∷ record { expr = (Term.Const (Number (pos 1))); line = 7 } ∷ []);
  specs = (record { expr = (Term.Quant PathOp.AF (Term.Var 0)); line = 8 } ∷ []);
}

rises_flattens : Flattens rises rises_flat
unfolding digits
rises_flattens = record {
  symbols = refl;
  vars = refl;
  selector = refl;
  processes = refl;
  assigns = (
    (refl, (Selects.cell {home = (rises_scope 0)} {x = name_x} {type = Plain.Boolean} {indexes = ([])} {ns = ([])} (Denotes.here (Finds.direct refl)) refl AreIndexes.last_index), refl, Expands.number, refl),
    (
      (refl, (Selects.cell {home = (rises_scope 0)} {x = name_x} {type = Plain.Boolean} {indexes = ([])} {ns = ([])} (Denotes.here (Finds.direct refl)) refl AreIndexes.last_index), refl, (Expands.cases (ExpandArms.arm (Expands.variable (Selects.cell {home = (rises_scope 0)} {x = name_go} {type = Plain.Boolean} {indexes = ([])} {ns = ([])} (Denotes.here (Finds.direct refl)) refl AreIndexes.last_index)) Expands.number (ExpandArms.arm Expands.number (Expands.variable (Selects.cell {home = (rises_scope 0)} {x = name_x} {type = Plain.Boolean} {indexes = ([])} {ns = ([])} (Denotes.here (Finds.direct refl)) refl AreIndexes.last_index)) ExpandArms.last_arm))), refl),
      tt,
    ),
  );
  inits = tt;
  invars = tt;
  trans = tt;
  constraints = (
    ((Expands.variable (Selects.cell {home = (rises_scope 0)} {x = name_go} {type = Plain.Boolean} {indexes = ([])} {ns = ([])} (Denotes.here (Finds.direct refl)) refl AreIndexes.last_index)), refl),
    (
      (Expands.number, refl),
      tt,
    ),
  );
  specs = (
    ((Expands.quantified (Expands.variable (Selects.cell {home = (rises_scope 0)} {x = name_x} {type = Plain.Boolean} {indexes = ([])} {ns = ([])} (Denotes.here (Finds.direct refl)) refl AreIndexes.last_index))), refl),
    tt,
  );
}
