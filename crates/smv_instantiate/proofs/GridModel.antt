-- An array of arrays, with indexes through definitions: the flat model, with its derivation.
use Rattle.std.proofs.Common.{refl, ℕ, zero, suc, arith, List, [], ◌∷◌, false}
use Rattle.std.specs.Prelude.{pos}
use Rattle.std.specs.Fmt.{digits}
use Rattle.kripke_model.specs.declared.expressions.BinOp.{BinOp}
use Rattle.kripke_model.specs.declared.expressions.PathOp.{PathOp}
use Rattle.kripke_model.specs.declared.expressions.Value.TheVariants.{Number}
use Rattle.kripke_model.specs.declared.models.Part.{Part}
use Rattle.kripke_model.specs.Term.{Term}
use Rattle.kripke_model.specs.System.{System}
use Rattle.smv_instances.specs.Program.{Name, Expr, Path, Plain, Form, Kind, Section, Program}
use Rattle.smv_instances.specs.Instances.{Scope, instances}
use Rattle.smv_names.specs.Denotes.{Denotes, Finds}
use Rattle.smv_names.specs.Expands.{Expands, Selects, IsIndex, AreIndexes}
use Rattle.smv_instantiate.specs.Flattens.{Flattens}

-- the k-th of a list of instances
abbrev scope_at : ℕ → List Scope → Scope
scope_at k [] = Scope.Main (record { name = []; line = 0; formals = []; sections = [] })
scope_at zero (s ∷ ss) = s
scope_at (suc k) (s ∷ ss) = scope_at k ss

abbrev name_d : Name
name_d = 100 ∷ []

abbrev name_g : Name
name_g = 103 ∷ []

abbrev name_main : Name
name_main = 109 ∷ 97 ∷ 105 ∷ 110 ∷ []

abbrev name_one : Name
name_one = 111 ∷ 110 ∷ 101 ∷ []

abbrev name_x : Name
name_x = 120 ∷ []

-- MODULE main VAR g : array 0..1 of array 2..3 of boolean; x : 1..2; DEFINE one := 3 - 2;
-- ASSIGN next(g[one][2 + d]) := g[0][one + 1]; DEFINE d := one; INIT x = one SPEC AG g[one * 1][3]
abbrev grid : Program
grid =
    record {
      name = name_main;
      line = 1;
      formals = ([]);
      sections =
          (Section.Vars (record { name = name_g; line = 1; form = Form.Stored (Plain.Array 0 1 (Plain.Array 2 3 Plain.Boolean)) } ∷ record { name = name_x; line = 1; form = Form.Stored (Plain.Range (pos 1) (pos 2)) } ∷ []) ∷
          Section.Defines (record { name = name_one; line = 1; body = (Expr.Binary BinOp.Sub (Expr.Number 3) (Expr.Number 2)) } ∷ []) ∷
          Section.Assigns (record { part = Part.Next; left = (Path.Index (Path.Index (Path.Here 2 name_g) (Expr.At (Path.Here 2 name_one))) (Expr.Binary BinOp.Add (Expr.Number 2) (Expr.At (Path.Here 2 name_d)))); left_line = 2; right = (Expr.At (Path.Index (Path.Index (Path.Here 2 name_g) (Expr.Number 0)) (Expr.Binary BinOp.Add (Expr.At (Path.Here 2 name_one)) (Expr.Number 1)))); line = 2 } ∷ []) ∷
          Section.Defines (record { name = name_d; line = 2; body = (Expr.At (Path.Here 2 name_one)) } ∷ []) ∷
          Section.States (record { kind = Kind.Init; expr = (Expr.Binary BinOp.Eq (Expr.At (Path.Here 2 name_x)) (Expr.At (Path.Here 2 name_one))); line = 2 }) ∷
          Section.States (record { kind = Kind.Spec; expr = (Expr.Quant PathOp.AG (Expr.At (Path.Index (Path.Index (Path.Here 2 name_g) (Expr.Binary BinOp.Mul (Expr.At (Path.Here 2 name_one)) (Expr.Number 1))) (Expr.Number 3)))); line = 2 }) ∷ []);
    } ∷
    []

abbrev grid_scope : ℕ → Scope
grid_scope k = scope_at k (instances grid)

abbrev grid_flat : System
grid_flat = record {
  symbols = ([]);
  vars = (record { name = (103 ∷ 91 ∷ 48 ∷ 93 ∷ 91 ∷ 50 ∷ 93 ∷ []); values = (Number (pos 0) ∷ Number (pos 1) ∷ []); line = 1 } ∷ record { name = (103 ∷ 91 ∷ 48 ∷ 93 ∷ 91 ∷ 51 ∷ 93 ∷ []); values = (Number (pos 0) ∷ Number (pos 1) ∷ []); line = 1 } ∷ record { name = (103 ∷ 91 ∷ 49 ∷ 93 ∷ 91 ∷ 50 ∷ 93 ∷ []); values = (Number (pos 0) ∷ Number (pos 1) ∷ []); line = 1 } ∷ record { name = (103 ∷ 91 ∷ 49 ∷ 93 ∷ 91 ∷ 51 ∷ 93 ∷ []); values = (Number (pos 0) ∷ Number (pos 1) ∷ []); line = 1 } ∷ record { name = (120 ∷ []); values = (Number (pos 1) ∷ Number (pos 2) ∷ []); line = 1 } ∷ []);
  selector = false;
  processes = ((109 ∷ 97 ∷ 105 ∷ 110 ∷ []) ∷ []);
  assigns = (record { part = Part.Next; var = 3; process = 0; right = (Term.Var 0); line = 2 } ∷ []);
  inits = (record { expr = (Term.Binary BinOp.Eq (Term.Var 4) (Term.Binary BinOp.Sub (Term.Const (Number (pos 3))) (Term.Const (Number (pos 2))))); line = 2 } ∷ []);
  invars = ([]);
  trans = ([]);
  constraints = ([]);
  specs = (record { expr = (Term.Quant PathOp.AG (Term.Var 3)); line = 2 } ∷ []);
}

grid_flattens : Flattens grid grid_flat
unfolding digits
grid_flattens = record {
  symbols = refl;
  vars = refl;
  selector = refl;
  processes = refl;
  assigns = (
    (refl, (Selects.cell {home = (grid_scope 0)} {x = name_g} {type = Plain.Boolean} {indexes = (record { low = 2; high = 3; scope = (grid_scope 0); index = (Expr.Binary BinOp.Add (Expr.Number 2) (Expr.At (Path.Here 2 name_d))) } ∷ record { low = 0; high = 1; scope = (grid_scope 0); index = (Expr.At (Path.Here 2 name_one)) } ∷ [])} {ns = (3 ∷ 1 ∷ [])} (Denotes.index (Denotes.index (Denotes.here (Finds.direct refl)))) refl (AreIndexes.index {n = 3} (IsIndex.value (Expands.binary Expands.number (Expands.read {home = (grid_scope 0)} {e = (Expr.At (Path.Here 2 name_one))} (Denotes.here (Finds.direct refl)) (Expands.read {home = (grid_scope 0)} {e = (Expr.Binary BinOp.Sub (Expr.Number 3) (Expr.Number 2))} (Denotes.here (Finds.direct refl)) (Expands.binary Expands.number Expands.number)))) refl refl (omega arith) (omega arith)) (AreIndexes.index {n = 1} (IsIndex.value (Expands.read {home = (grid_scope 0)} {e = (Expr.Binary BinOp.Sub (Expr.Number 3) (Expr.Number 2))} (Denotes.here (Finds.direct refl)) (Expands.binary Expands.number Expands.number)) refl refl (omega arith) (omega arith)) AreIndexes.last_index))), refl, (Expands.variable (Selects.cell {home = (grid_scope 0)} {x = name_g} {type = Plain.Boolean} {indexes = (record { low = 2; high = 3; scope = (grid_scope 0); index = (Expr.Binary BinOp.Add (Expr.At (Path.Here 2 name_one)) (Expr.Number 1)) } ∷ record { low = 0; high = 1; scope = (grid_scope 0); index = (Expr.Number 0) } ∷ [])} {ns = (2 ∷ 0 ∷ [])} (Denotes.index (Denotes.index (Denotes.here (Finds.direct refl)))) refl (AreIndexes.index {n = 2} (IsIndex.value (Expands.binary (Expands.read {home = (grid_scope 0)} {e = (Expr.Binary BinOp.Sub (Expr.Number 3) (Expr.Number 2))} (Denotes.here (Finds.direct refl)) (Expands.binary Expands.number Expands.number)) Expands.number) refl refl (omega arith) (omega arith)) (AreIndexes.index {n = 0} (IsIndex.value Expands.number refl refl (omega arith) (omega arith)) AreIndexes.last_index)))), refl),
    tt,
  );
  inits = (
    ((Expands.binary (Expands.variable (Selects.cell {home = (grid_scope 0)} {x = name_x} {type = (Plain.Range (pos 1) (pos 2))} {indexes = ([])} {ns = ([])} (Denotes.here (Finds.direct refl)) refl AreIndexes.last_index)) (Expands.read {home = (grid_scope 0)} {e = (Expr.Binary BinOp.Sub (Expr.Number 3) (Expr.Number 2))} (Denotes.here (Finds.direct refl)) (Expands.binary Expands.number Expands.number))), refl),
    tt,
  );
  invars = tt;
  trans = tt;
  constraints = tt;
  specs = (
    ((Expands.quantified (Expands.variable (Selects.cell {home = (grid_scope 0)} {x = name_g} {type = Plain.Boolean} {indexes = (record { low = 2; high = 3; scope = (grid_scope 0); index = (Expr.Number 3) } ∷ record { low = 0; high = 1; scope = (grid_scope 0); index = (Expr.Binary BinOp.Mul (Expr.At (Path.Here 2 name_one)) (Expr.Number 1)) } ∷ [])} {ns = (3 ∷ 1 ∷ [])} (Denotes.index (Denotes.index (Denotes.here (Finds.direct refl)))) refl (AreIndexes.index {n = 3} (IsIndex.value Expands.number refl refl (omega arith) (omega arith)) (AreIndexes.index {n = 1} (IsIndex.value (Expands.binary (Expands.read {home = (grid_scope 0)} {e = (Expr.Binary BinOp.Sub (Expr.Number 3) (Expr.Number 2))} (Denotes.here (Finds.direct refl)) (Expands.binary Expands.number Expands.number)) Expands.number) refl refl (omega arith) (omega arith)) AreIndexes.last_index))))), refl),
    tt,
  );
}
