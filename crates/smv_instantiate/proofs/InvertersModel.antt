-- A ring of three inverter processes: the flat model, with its derivation.
use Rattle.std.proofs.Common.{refl, ℕ, zero, suc, List, [], ◌∷◌, true}
use Rattle.std.specs.Prelude.{pos}
use Rattle.std.specs.Fmt.{digits}
use Rattle.kripke_model.specs.declared.expressions.BinOp.{BinOp}
use Rattle.kripke_model.specs.declared.expressions.PathOp.{PathOp}
use Rattle.kripke_model.specs.declared.expressions.Value.TheVariants.{Number}
use Rattle.kripke_model.specs.declared.models.Part.{Part}
use Rattle.kripke_model.specs.Term.{Term}
use Rattle.kripke_model.specs.System.{System}
use Rattle.smv_instances.specs.Program.{Name, Expr, Path, Plain, Form, Kind, Section, Program}
use Rattle.smv_instances.specs.Instances.{Scope, instances}
use Rattle.smv_names.specs.Denotes.{Denotes, Finds}
use Rattle.smv_names.specs.Expands.{Expands, Selects, AreIndexes}
use Rattle.smv_instantiate.specs.Flattens.{Flattens}

-- the k-th of a list of instances
abbrev scope_at : ℕ → List Scope → Scope
scope_at k [] = Scope.Main (record { name = []; line = 0; formals = []; sections = [] })
scope_at zero (s ∷ ss) = s
scope_at (suc k) (s ∷ ss) = scope_at k ss

abbrev name_gate1 : Name
name_gate1 = 103 ∷ 97 ∷ 116 ∷ 101 ∷ 49 ∷ []

abbrev name_gate2 : Name
name_gate2 = 103 ∷ 97 ∷ 116 ∷ 101 ∷ 50 ∷ []

abbrev name_gate3 : Name
name_gate3 = 103 ∷ 97 ∷ 116 ∷ 101 ∷ 51 ∷ []

abbrev name_input : Name
name_input = 105 ∷ 110 ∷ 112 ∷ 117 ∷ 116 ∷ []

abbrev name_inverter : Name
name_inverter = 105 ∷ 110 ∷ 118 ∷ 101 ∷ 114 ∷ 116 ∷ 101 ∷ 114 ∷ []

abbrev name_main : Name
name_main = 109 ∷ 97 ∷ 105 ∷ 110 ∷ []

abbrev name_output : Name
name_output = 111 ∷ 117 ∷ 116 ∷ 112 ∷ 117 ∷ 116 ∷ []

-- MODULE main
-- VAR
--   gate1 : process inverter(gate3.output);
--   gate2 : process inverter(gate1.output);
--   gate3 : process inverter(gate2.output);
-- SPEC (AG AF gate1.output) & (AG AF !gate1.output)
-- MODULE inverter(input)
-- VAR
--   output : boolean;
-- ASSIGN
--   init(output) := 0;
--   next(output) := !input;
-- FAIRNESS running
abbrev inverters : Program
inverters =
    record {
      name = name_main;
      line = 1;
      formals = ([]);
      sections =
          (Section.Vars (record { name = name_gate1; line = 3; form = Form.Instance true name_inverter ((Expr.At (Path.Field (Path.Here 3 name_gate3) name_output)) ∷ []) } ∷ record { name = name_gate2; line = 4; form = Form.Instance true name_inverter ((Expr.At (Path.Field (Path.Here 4 name_gate1) name_output)) ∷ []) } ∷ record { name = name_gate3; line = 5; form = Form.Instance true name_inverter ((Expr.At (Path.Field (Path.Here 5 name_gate2) name_output)) ∷ []) } ∷ []) ∷
          Section.States (record { kind = Kind.Spec; expr = (Expr.Binary BinOp.And (Expr.Parens (Expr.Quant PathOp.AG (Expr.Quant PathOp.AF (Expr.At (Path.Field (Path.Here 6 name_gate1) name_output))))) (Expr.Parens (Expr.Quant PathOp.AG (Expr.Quant PathOp.AF (Expr.Not (Expr.At (Path.Field (Path.Here 6 name_gate1) name_output))))))); line = 6 }) ∷ []);
    } ∷
    record {
      name = name_inverter;
      line = 7;
      formals = (record { name = name_input; line = 7 } ∷ []);
      sections =
          (Section.Vars (record { name = name_output; line = 9; form = Form.Stored Plain.Boolean } ∷ []) ∷
          Section.Assigns (record { part = Part.Init; left = (Path.Here 11 name_output); left_line = 11; right = (Expr.Number 0); line = 11 } ∷ record { part = Part.Next; left = (Path.Here 12 name_output); left_line = 12; right = (Expr.Not (Expr.At (Path.Here 12 name_input))); line = 12 } ∷ []) ∷
          Section.States (record { kind = Kind.Fairness; expr = Expr.Running; line = 13 }) ∷ []);
    } ∷
    []

abbrev inverters_scope : ℕ → Scope
inverters_scope k = scope_at k (instances inverters)

abbrev inverters_flat : System
inverters_flat = record {
  symbols = ([]);
  vars = (record { name = (114 ∷ 117 ∷ 110 ∷ 110 ∷ 105 ∷ 110 ∷ 103 ∷ []); values = (Number (pos 0) ∷ Number (pos 1) ∷ Number (pos 2) ∷ Number (pos 3) ∷ []); line = 3 } ∷ record { name = (103 ∷ 97 ∷ 116 ∷ 101 ∷ 49 ∷ 46 ∷ 111 ∷ 117 ∷ 116 ∷ 112 ∷ 117 ∷ 116 ∷ []); values = (Number (pos 0) ∷ Number (pos 1) ∷ []); line = 9 } ∷ record { name = (103 ∷ 97 ∷ 116 ∷ 101 ∷ 50 ∷ 46 ∷ 111 ∷ 117 ∷ 116 ∷ 112 ∷ 117 ∷ 116 ∷ []); values = (Number (pos 0) ∷ Number (pos 1) ∷ []); line = 9 } ∷ record { name = (103 ∷ 97 ∷ 116 ∷ 101 ∷ 51 ∷ 46 ∷ 111 ∷ 117 ∷ 116 ∷ 112 ∷ 117 ∷ 116 ∷ []); values = (Number (pos 0) ∷ Number (pos 1) ∷ []); line = 9 } ∷ []);
  selector = true;
  processes = ((109 ∷ 97 ∷ 105 ∷ 110 ∷ []) ∷ (103 ∷ 97 ∷ 116 ∷ 101 ∷ 49 ∷ []) ∷ (103 ∷ 97 ∷ 116 ∷ 101 ∷ 50 ∷ []) ∷ (103 ∷ 97 ∷ 116 ∷ 101 ∷ 51 ∷ []) ∷ []);
  assigns = (record { part = Part.Init; var = 1; process = 1; right = (Term.Const (Number (pos 0))); line = 11 } ∷ record { part = Part.Next; var = 1; process = 1; right = (Term.Not (Term.Var 3)); line = 12 } ∷ record { part = Part.Init; var = 2; process = 2; right = (Term.Const (Number (pos 0))); line = 11 } ∷ record { part = Part.Next; var = 2; process = 2; right = (Term.Not (Term.Var 1)); line = 12 } ∷ record { part = Part.Init; var = 3; process = 3; right = (Term.Const (Number (pos 0))); line = 11 } ∷ record { part = Part.Next; var = 3; process = 3; right = (Term.Not (Term.Var 2)); line = 12 } ∷ []);
  inits = ([]);
  invars = ([]);
  trans = ([]);
  constraints = (record { expr = (Term.Running 1); line = 13 } ∷ record { expr = (Term.Running 2); line = 13 } ∷ record { expr = (Term.Running 3); line = 13 } ∷ []);
  specs = (record { expr = (Term.Binary BinOp.And (Term.Quant PathOp.AG (Term.Quant PathOp.AF (Term.Var 1))) (Term.Quant PathOp.AG (Term.Quant PathOp.AF (Term.Not (Term.Var 1))))); line = 6 } ∷ []);
}

inverters_flattens : Flattens inverters inverters_flat
unfolding digits
inverters_flattens = record {
  symbols = refl;
  vars = refl;
  selector = refl;
  processes = refl;
  assigns = (
    (refl, (Selects.cell {home = (inverters_scope 1)} {x = name_output} {type = Plain.Boolean} {indexes = ([])} {ns = ([])} (Denotes.here (Finds.direct refl)) refl AreIndexes.last_index), refl, Expands.number, refl),
    (
      (refl, (Selects.cell {home = (inverters_scope 1)} {x = name_output} {type = Plain.Boolean} {indexes = ([])} {ns = ([])} (Denotes.here (Finds.direct refl)) refl AreIndexes.last_index), refl, (Expands.negation (Expands.variable (Selects.cell {home = (inverters_scope 3)} {x = name_output} {type = Plain.Boolean} {indexes = ([])} {ns = ([])} (Denotes.here (Finds.passed_on refl (Denotes.field {i = (inverters_scope 3)} (Denotes.here (Finds.direct refl)) (Finds.direct refl)))) refl AreIndexes.last_index))), refl),
      (
        (refl, (Selects.cell {home = (inverters_scope 2)} {x = name_output} {type = Plain.Boolean} {indexes = ([])} {ns = ([])} (Denotes.here (Finds.direct refl)) refl AreIndexes.last_index), refl, Expands.number, refl),
        (
          (refl, (Selects.cell {home = (inverters_scope 2)} {x = name_output} {type = Plain.Boolean} {indexes = ([])} {ns = ([])} (Denotes.here (Finds.direct refl)) refl AreIndexes.last_index), refl, (Expands.negation (Expands.variable (Selects.cell {home = (inverters_scope 1)} {x = name_output} {type = Plain.Boolean} {indexes = ([])} {ns = ([])} (Denotes.here (Finds.passed_on refl (Denotes.field {i = (inverters_scope 1)} (Denotes.here (Finds.direct refl)) (Finds.direct refl)))) refl AreIndexes.last_index))), refl),
          (
            (refl, (Selects.cell {home = (inverters_scope 3)} {x = name_output} {type = Plain.Boolean} {indexes = ([])} {ns = ([])} (Denotes.here (Finds.direct refl)) refl AreIndexes.last_index), refl, Expands.number, refl),
            (
              (refl, (Selects.cell {home = (inverters_scope 3)} {x = name_output} {type = Plain.Boolean} {indexes = ([])} {ns = ([])} (Denotes.here (Finds.direct refl)) refl AreIndexes.last_index), refl, (Expands.negation (Expands.variable (Selects.cell {home = (inverters_scope 2)} {x = name_output} {type = Plain.Boolean} {indexes = ([])} {ns = ([])} (Denotes.here (Finds.passed_on refl (Denotes.field {i = (inverters_scope 2)} (Denotes.here (Finds.direct refl)) (Finds.direct refl)))) refl AreIndexes.last_index))), refl),
              tt,
            ),
          ),
        ),
      ),
    ),
  );
  inits = tt;
  invars = tt;
  trans = tt;
  constraints = (
    (Expands.running, refl),
    (
      (Expands.running, refl),
      (
        (Expands.running, refl),
        tt,
      ),
    ),
  );
  specs = (
    ((Expands.binary (Expands.parens (Expands.quantified (Expands.quantified (Expands.variable (Selects.cell {home = (inverters_scope 1)} {x = name_output} {type = Plain.Boolean} {indexes = ([])} {ns = ([])} (Denotes.field {i = (inverters_scope 1)} (Denotes.here (Finds.direct refl)) (Finds.direct refl)) refl AreIndexes.last_index))))) (Expands.parens (Expands.quantified (Expands.quantified (Expands.negation (Expands.variable (Selects.cell {home = (inverters_scope 1)} {x = name_output} {type = Plain.Boolean} {indexes = ([])} {ns = ([])} (Denotes.field {i = (inverters_scope 1)} (Denotes.here (Finds.direct refl)) (Finds.direct refl)) refl AreIndexes.last_index))))))), refl),
    tt,
  );
}
