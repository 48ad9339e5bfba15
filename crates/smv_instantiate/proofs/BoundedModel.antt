-- An `INIT`, an `INVAR`, a `TRANS` and a range with a negative end: the flat model, with its derivation.
use Rattle.std.proofs.Common.{refl, ℕ, zero, suc, List, [], ◌∷◌, false}
use Rattle.std.specs.Prelude.{pos, negsuc}
use Rattle.std.specs.Fmt.{digits}
use Rattle.kripke_model.specs.declared.expressions.BinOp.{BinOp}
use Rattle.kripke_model.specs.declared.expressions.PathOp.{PathOp}
use Rattle.kripke_model.specs.declared.expressions.Value.TheVariants.{Number}
use Rattle.kripke_model.specs.declared.models.Part.{Part}
use Rattle.kripke_model.specs.Term.{Term}
use Rattle.kripke_model.specs.System.{System}
use Rattle.smv_instances.specs.Program.{Name, Expr, Path, Plain, Form, Kind, Section, Program}
use Rattle.smv_instances.specs.Instances.{Scope, instances}
use Rattle.smv_names.specs.Denotes.{Denotes, Finds}
use Rattle.smv_names.specs.Expands.{Expands, Selects, AreIndexes}
use Rattle.smv_instantiate.specs.Flattens.{Flattens}

-- the k-th of a list of instances
abbrev scope_at : ℕ → List Scope → Scope
scope_at k [] = Scope.Main (record { name = []; line = 0; formals = []; sections = [] })
scope_at zero (s ∷ ss) = s
scope_at (suc k) (s ∷ ss) = scope_at k ss

abbrev name_main : Name
name_main = 109 ∷ 97 ∷ 105 ∷ 110 ∷ []

abbrev name_x : Name
name_x = 120 ∷ []

-- MODULE main
-- VAR x : -1..3;
-- ASSIGN next(x) := x + 1;
-- INIT x = 0
-- TRANS next(x) < 3
-- INVAR x < 3
-- SPEC AG x < 3
abbrev bounded : Program
bounded =
    record {
      name = name_main;
      line = 1;
      formals = ([]);
      sections =
          (Section.Vars (record { name = name_x; line = 2; form = Form.Stored (Plain.Range (negsuc 0) (pos 3)) } ∷ []) ∷
          Section.Assigns (record { part = Part.Next; left = (Path.Here 3 name_x); left_line = 3; right = (Expr.Binary BinOp.Add (Expr.At (Path.Here 3 name_x)) (Expr.Number 1)); line = 3 } ∷ []) ∷
          Section.States (record { kind = Kind.Init; expr = (Expr.Binary BinOp.Eq (Expr.At (Path.Here 4 name_x)) (Expr.Number 0)); line = 4 }) ∷
          Section.States (record { kind = Kind.Trans; expr = (Expr.Binary BinOp.Lt (Expr.Next (Expr.At (Path.Here 5 name_x))) (Expr.Number 3)); line = 5 }) ∷
          Section.States (record { kind = Kind.Invar; expr = (Expr.Binary BinOp.Lt (Expr.At (Path.Here 6 name_x)) (Expr.Number 3)); line = 6 }) ∷
          Section.States (record { kind = Kind.Spec; expr = (Expr.Quant PathOp.AG (Expr.Binary BinOp.Lt (Expr.At (Path.Here 7 name_x)) (Expr.Number 3))); line = 7 }) ∷ []);
    } ∷
    []

abbrev bounded_scope : ℕ → Scope
bounded_scope k = scope_at k (instances bounded)

abbrev bounded_flat : System
bounded_flat = record {
  symbols = ([]);
  vars = (record { name = (120 ∷ []); values = (Number (negsuc 0) ∷ Number (pos 0) ∷ Number (pos 1) ∷ Number (pos 2) ∷ Number (pos 3) ∷ []); line = 2 } ∷ []);
  selector = false;
  processes = ((109 ∷ 97 ∷ 105 ∷ 110 ∷ []) ∷ []);
  assigns = (record { part = Part.Next; var = 0; process = 0; right = (Term.Binary BinOp.Add (Term.Var 0) (Term.Const (Number (pos 1)))); line = 3 } ∷ []);
  inits = (record { expr = (Term.Binary BinOp.Eq (Term.Var 0) (Term.Const (Number (pos 0)))); line = 4 } ∷ []);
  invars = (record { expr = (Term.Binary BinOp.Lt (Term.Var 0) (Term.Const (Number (pos 3)))); line = 6 } ∷ []);
  trans = (record { expr = (Term.Binary BinOp.Lt (Term.Next (Term.Var 0)) (Term.Const (Number (pos 3)))); line = 5 } ∷ []);
  constraints = ([]);
  specs = (record { expr = (Term.Quant PathOp.AG (Term.Binary BinOp.Lt (Term.Var 0) (Term.Const (Number (pos 3))))); line = 7 } ∷ []);
}

bounded_flattens : Flattens bounded bounded_flat
unfolding digits
bounded_flattens = record {
  symbols = refl;
  vars = refl;
  selector = refl;
  processes = refl;
  assigns = (
    (refl, (Selects.cell {home = (bounded_scope 0)} {x = name_x} {type = (Plain.Range (negsuc 0) (pos 3))} {indexes = ([])} {ns = ([])} (Denotes.here (Finds.direct refl)) refl AreIndexes.last_index), refl, (Expands.binary (Expands.variable (Selects.cell {home = (bounded_scope 0)} {x = name_x} {type = (Plain.Range (negsuc 0) (pos 3))} {indexes = ([])} {ns = ([])} (Denotes.here (Finds.direct refl)) refl AreIndexes.last_index)) Expands.number), refl),
    tt,
  );
  inits = (
    ((Expands.binary (Expands.variable (Selects.cell {home = (bounded_scope 0)} {x = name_x} {type = (Plain.Range (negsuc 0) (pos 3))} {indexes = ([])} {ns = ([])} (Denotes.here (Finds.direct refl)) refl AreIndexes.last_index)) Expands.number), refl),
    tt,
  );
  invars = (
    ((Expands.binary (Expands.variable (Selects.cell {home = (bounded_scope 0)} {x = name_x} {type = (Plain.Range (negsuc 0) (pos 3))} {indexes = ([])} {ns = ([])} (Denotes.here (Finds.direct refl)) refl AreIndexes.last_index)) Expands.number), refl),
    tt,
  );
  trans = (
    ((Expands.binary (Expands.next (Expands.variable (Selects.cell {home = (bounded_scope 0)} {x = name_x} {type = (Plain.Range (negsuc 0) (pos 3))} {indexes = ([])} {ns = ([])} (Denotes.here (Finds.direct refl)) refl AreIndexes.last_index))) Expands.number), refl),
    tt,
  );
  constraints = tt;
  specs = (
    ((Expands.quantified (Expands.binary (Expands.variable (Selects.cell {home = (bounded_scope 0)} {x = name_x} {type = (Plain.Range (negsuc 0) (pos 3))} {indexes = ([])} {ns = ([])} (Denotes.here (Finds.direct refl)) refl AreIndexes.last_index)) Expands.number)), refl),
    tt,
  );
}
