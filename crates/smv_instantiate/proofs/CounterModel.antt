-- A counter of three cells: the flat model, with its derivation.
use Rattle.std.proofs.Common.{refl, ℕ, zero, suc, List, [], ◌∷◌, false}
use Rattle.std.specs.Prelude.{pos}
use Rattle.std.specs.Fmt.{digits}
use Rattle.kripke_model.specs.declared.expressions.BinOp.{BinOp}
use Rattle.kripke_model.specs.declared.expressions.PathOp.{PathOp}
use Rattle.kripke_model.specs.declared.expressions.Value.TheVariants.{Number}
use Rattle.kripke_model.specs.declared.models.Part.{Part}
use Rattle.kripke_model.specs.Term.{Term}
use Rattle.kripke_model.specs.System.{System}
use Rattle.smv_instances.specs.Program.{Name, Expr, Path, Plain, Form, Kind, Section, Program}
use Rattle.smv_instances.specs.Instances.{Scope, instances}
use Rattle.smv_names.specs.Denotes.{Denotes, Finds}
use Rattle.smv_names.specs.Expands.{Expands, Selects, AreIndexes}
use Rattle.smv_instantiate.specs.Flattens.{Flattens}

-- the k-th of a list of instances
abbrev scope_at : ℕ → List Scope → Scope
scope_at k [] = Scope.Main (record { name = []; line = 0; formals = []; sections = [] })
scope_at zero (s ∷ ss) = s
scope_at (suc k) (s ∷ ss) = scope_at k ss

abbrev name_bit0 : Name
name_bit0 = 98 ∷ 105 ∷ 116 ∷ 48 ∷ []

abbrev name_bit1 : Name
name_bit1 = 98 ∷ 105 ∷ 116 ∷ 49 ∷ []

abbrev name_bit2 : Name
name_bit2 = 98 ∷ 105 ∷ 116 ∷ 50 ∷ []

abbrev name_carry_in : Name
name_carry_in = 99 ∷ 97 ∷ 114 ∷ 114 ∷ 121 ∷ 95 ∷ 105 ∷ 110 ∷ []

abbrev name_carry_out : Name
name_carry_out = 99 ∷ 97 ∷ 114 ∷ 114 ∷ 121 ∷ 95 ∷ 111 ∷ 117 ∷ 116 ∷ []

abbrev name_counter_cell : Name
name_counter_cell = 99 ∷ 111 ∷ 117 ∷ 110 ∷ 116 ∷ 101 ∷ 114 ∷ 95 ∷ 99 ∷ 101 ∷ 108 ∷ 108 ∷ []

abbrev name_main : Name
name_main = 109 ∷ 97 ∷ 105 ∷ 110 ∷ []

abbrev name_value : Name
name_value = 118 ∷ 97 ∷ 108 ∷ 117 ∷ 101 ∷ []

-- MODULE main
-- VAR
--   bit0 : counter_cell(1);
--   bit1 : counter_cell(bit0.carry_out);
--   bit2 : counter_cell(bit1.carry_out);
-- SPEC AG AF bit2.carry_out
-- MODULE counter_cell(carry_in)
-- VAR
--   value : boolean;
-- ASSIGN
--   init(value) := 0;
--   next(value) := value + carry_in mod 2;
-- DEFINE
--   carry_out := value & carry_in;
abbrev counter : Program
counter =
    record {
      name = name_main;
      line = 1;
      formals = ([]);
      sections =
          (Section.Vars (record { name = name_bit0; line = 3; form = Form.Instance false name_counter_cell ((Expr.Number 1) ∷ []) } ∷ record { name = name_bit1; line = 4; form = Form.Instance false name_counter_cell ((Expr.At (Path.Field (Path.Here 4 name_bit0) name_carry_out)) ∷ []) } ∷ record { name = name_bit2; line = 5; form = Form.Instance false name_counter_cell ((Expr.At (Path.Field (Path.Here 5 name_bit1) name_carry_out)) ∷ []) } ∷ []) ∷
          Section.States (record { kind = Kind.Spec; expr = (Expr.Quant PathOp.AG (Expr.Quant PathOp.AF (Expr.At (Path.Field (Path.Here 6 name_bit2) name_carry_out)))); line = 6 }) ∷ []);
    } ∷
    record {
      name = name_counter_cell;
      line = 7;
      formals = (record { name = name_carry_in; line = 7 } ∷ []);
      sections =
          (Section.Vars (record { name = name_value; line = 9; form = Form.Stored Plain.Boolean } ∷ []) ∷
          Section.Assigns (record { part = Part.Init; left = (Path.Here 11 name_value); left_line = 11; right = (Expr.Number 0); line = 11 } ∷ record { part = Part.Next; left = (Path.Here 12 name_value); left_line = 12; right = (Expr.Binary BinOp.Mod (Expr.Binary BinOp.Add (Expr.At (Path.Here 12 name_value)) (Expr.At (Path.Here 12 name_carry_in))) (Expr.Number 2)); line = 12 } ∷ []) ∷
          Section.Defines (record { name = name_carry_out; line = 14; body = (Expr.Binary BinOp.And (Expr.At (Path.Here 14 name_value)) (Expr.At (Path.Here 14 name_carry_in))) } ∷ []) ∷ []);
    } ∷
    []

abbrev counter_scope : ℕ → Scope
counter_scope k = scope_at k (instances counter)

abbrev counter_flat : System
counter_flat = record {
  symbols = ([]);
  vars = (record { name = (98 ∷ 105 ∷ 116 ∷ 48 ∷ 46 ∷ 118 ∷ 97 ∷ 108 ∷ 117 ∷ 101 ∷ []); values = (Number (pos 0) ∷ Number (pos 1) ∷ []); line = 9 } ∷ record { name = (98 ∷ 105 ∷ 116 ∷ 49 ∷ 46 ∷ 118 ∷ 97 ∷ 108 ∷ 117 ∷ 101 ∷ []); values = (Number (pos 0) ∷ Number (pos 1) ∷ []); line = 9 } ∷ record { name = (98 ∷ 105 ∷ 116 ∷ 50 ∷ 46 ∷ 118 ∷ 97 ∷ 108 ∷ 117 ∷ 101 ∷ []); values = (Number (pos 0) ∷ Number (pos 1) ∷ []); line = 9 } ∷ []);
  selector = false;
  processes = ((109 ∷ 97 ∷ 105 ∷ 110 ∷ []) ∷ []);
  assigns = (record { part = Part.Init; var = 0; process = 0; right = (Term.Const (Number (pos 0))); line = 11 } ∷ record { part = Part.Next; var = 0; process = 0; right = (Term.Binary BinOp.Mod (Term.Binary BinOp.Add (Term.Var 0) (Term.Const (Number (pos 1)))) (Term.Const (Number (pos 2)))); line = 12 } ∷ record { part = Part.Init; var = 1; process = 0; right = (Term.Const (Number (pos 0))); line = 11 } ∷ record { part = Part.Next; var = 1; process = 0; right = (Term.Binary BinOp.Mod (Term.Binary BinOp.Add (Term.Var 1) (Term.Binary BinOp.And (Term.Var 0) (Term.Const (Number (pos 1))))) (Term.Const (Number (pos 2)))); line = 12 } ∷ record { part = Part.Init; var = 2; process = 0; right = (Term.Const (Number (pos 0))); line = 11 } ∷ record { part = Part.Next; var = 2; process = 0; right = (Term.Binary BinOp.Mod (Term.Binary BinOp.Add (Term.Var 2) (Term.Binary BinOp.And (Term.Var 1) (Term.Binary BinOp.And (Term.Var 0) (Term.Const (Number (pos 1)))))) (Term.Const (Number (pos 2)))); line = 12 } ∷ []);
  inits = ([]);
  invars = ([]);
  trans = ([]);
  constraints = ([]);
  specs = (record { expr = (Term.Quant PathOp.AG (Term.Quant PathOp.AF (Term.Binary BinOp.And (Term.Var 2) (Term.Binary BinOp.And (Term.Var 1) (Term.Binary BinOp.And (Term.Var 0) (Term.Const (Number (pos 1)))))))); line = 6 } ∷ []);
}

counter_flattens : Flattens counter counter_flat
unfolding digits
counter_flattens = record {
  symbols = refl;
  vars = refl;
  selector = refl;
  processes = refl;
  assigns = (
    (refl, (Selects.cell {home = (counter_scope 1)} {x = name_value} {type = Plain.Boolean} {indexes = ([])} {ns = ([])} (Denotes.here (Finds.direct refl)) refl AreIndexes.last_index), refl, Expands.number, refl),
    (
      (refl, (Selects.cell {home = (counter_scope 1)} {x = name_value} {type = Plain.Boolean} {indexes = ([])} {ns = ([])} (Denotes.here (Finds.direct refl)) refl AreIndexes.last_index), refl, (Expands.binary (Expands.binary (Expands.variable (Selects.cell {home = (counter_scope 1)} {x = name_value} {type = Plain.Boolean} {indexes = ([])} {ns = ([])} (Denotes.here (Finds.direct refl)) refl AreIndexes.last_index)) (Expands.read {home = (counter_scope 0)} {e = (Expr.Number 1)} (Denotes.here (Finds.direct refl)) Expands.number)) Expands.number), refl),
      (
        (refl, (Selects.cell {home = (counter_scope 2)} {x = name_value} {type = Plain.Boolean} {indexes = ([])} {ns = ([])} (Denotes.here (Finds.direct refl)) refl AreIndexes.last_index), refl, Expands.number, refl),
        (
          (refl, (Selects.cell {home = (counter_scope 2)} {x = name_value} {type = Plain.Boolean} {indexes = ([])} {ns = ([])} (Denotes.here (Finds.direct refl)) refl AreIndexes.last_index), refl, (Expands.binary (Expands.binary (Expands.variable (Selects.cell {home = (counter_scope 2)} {x = name_value} {type = Plain.Boolean} {indexes = ([])} {ns = ([])} (Denotes.here (Finds.direct refl)) refl AreIndexes.last_index)) (Expands.read {home = (counter_scope 1)} {e = (Expr.Binary BinOp.And (Expr.At (Path.Here 14 name_value)) (Expr.At (Path.Here 14 name_carry_in)))} (Denotes.here (Finds.passed_on refl (Denotes.field {i = (counter_scope 1)} (Denotes.here (Finds.direct refl)) (Finds.direct refl)))) (Expands.binary (Expands.variable (Selects.cell {home = (counter_scope 1)} {x = name_value} {type = Plain.Boolean} {indexes = ([])} {ns = ([])} (Denotes.here (Finds.direct refl)) refl AreIndexes.last_index)) (Expands.read {home = (counter_scope 0)} {e = (Expr.Number 1)} (Denotes.here (Finds.direct refl)) Expands.number)))) Expands.number), refl),
          (
            (refl, (Selects.cell {home = (counter_scope 3)} {x = name_value} {type = Plain.Boolean} {indexes = ([])} {ns = ([])} (Denotes.here (Finds.direct refl)) refl AreIndexes.last_index), refl, Expands.number, refl),
            (
              (refl, (Selects.cell {home = (counter_scope 3)} {x = name_value} {type = Plain.Boolean} {indexes = ([])} {ns = ([])} (Denotes.here (Finds.direct refl)) refl AreIndexes.last_index), refl, (Expands.binary (Expands.binary (Expands.variable (Selects.cell {home = (counter_scope 3)} {x = name_value} {type = Plain.Boolean} {indexes = ([])} {ns = ([])} (Denotes.here (Finds.direct refl)) refl AreIndexes.last_index)) (Expands.read {home = (counter_scope 2)} {e = (Expr.Binary BinOp.And (Expr.At (Path.Here 14 name_value)) (Expr.At (Path.Here 14 name_carry_in)))} (Denotes.here (Finds.passed_on refl (Denotes.field {i = (counter_scope 2)} (Denotes.here (Finds.direct refl)) (Finds.direct refl)))) (Expands.binary (Expands.variable (Selects.cell {home = (counter_scope 2)} {x = name_value} {type = Plain.Boolean} {indexes = ([])} {ns = ([])} (Denotes.here (Finds.direct refl)) refl AreIndexes.last_index)) (Expands.read {home = (counter_scope 1)} {e = (Expr.Binary BinOp.And (Expr.At (Path.Here 14 name_value)) (Expr.At (Path.Here 14 name_carry_in)))} (Denotes.here (Finds.passed_on refl (Denotes.field {i = (counter_scope 1)} (Denotes.here (Finds.direct refl)) (Finds.direct refl)))) (Expands.binary (Expands.variable (Selects.cell {home = (counter_scope 1)} {x = name_value} {type = Plain.Boolean} {indexes = ([])} {ns = ([])} (Denotes.here (Finds.direct refl)) refl AreIndexes.last_index)) (Expands.read {home = (counter_scope 0)} {e = (Expr.Number 1)} (Denotes.here (Finds.direct refl)) Expands.number)))))) Expands.number), refl),
              tt,
            ),
          ),
        ),
      ),
    ),
  );
  inits = tt;
  invars = tt;
  trans = tt;
  constraints = tt;
  specs = (
    ((Expands.quantified (Expands.quantified (Expands.read {home = (counter_scope 3)} {e = (Expr.Binary BinOp.And (Expr.At (Path.Here 14 name_value)) (Expr.At (Path.Here 14 name_carry_in)))} (Denotes.field {i = (counter_scope 3)} (Denotes.here (Finds.direct refl)) (Finds.direct refl)) (Expands.binary (Expands.variable (Selects.cell {home = (counter_scope 3)} {x = name_value} {type = Plain.Boolean} {indexes = ([])} {ns = ([])} (Denotes.here (Finds.direct refl)) refl AreIndexes.last_index)) (Expands.read {home = (counter_scope 2)} {e = (Expr.Binary BinOp.And (Expr.At (Path.Here 14 name_value)) (Expr.At (Path.Here 14 name_carry_in)))} (Denotes.here (Finds.passed_on refl (Denotes.field {i = (counter_scope 2)} (Denotes.here (Finds.direct refl)) (Finds.direct refl)))) (Expands.binary (Expands.variable (Selects.cell {home = (counter_scope 2)} {x = name_value} {type = Plain.Boolean} {indexes = ([])} {ns = ([])} (Denotes.here (Finds.direct refl)) refl AreIndexes.last_index)) (Expands.read {home = (counter_scope 1)} {e = (Expr.Binary BinOp.And (Expr.At (Path.Here 14 name_value)) (Expr.At (Path.Here 14 name_carry_in)))} (Denotes.here (Finds.passed_on refl (Denotes.field {i = (counter_scope 1)} (Denotes.here (Finds.direct refl)) (Finds.direct refl)))) (Expands.binary (Expands.variable (Selects.cell {home = (counter_scope 1)} {x = name_value} {type = Plain.Boolean} {indexes = ([])} {ns = ([])} (Denotes.here (Finds.direct refl)) refl AreIndexes.last_index)) (Expands.read {home = (counter_scope 0)} {e = (Expr.Number 1)} (Denotes.here (Finds.direct refl)) Expands.number))))))))), refl),
    tt,
  );
}
