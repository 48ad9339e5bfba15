-- Two variables that swap their values: the flat model, with its derivation.
use Rattle.std.proofs.Common.{refl, ℕ, zero, suc, List, [], ◌∷◌, false}
use Rattle.std.specs.Prelude.{pos}
use Rattle.std.specs.Fmt.{digits}
use Rattle.kripke_model.specs.declared.expressions.BinOp.{BinOp}
use Rattle.kripke_model.specs.declared.expressions.PathOp.{PathOp}
use Rattle.kripke_model.specs.declared.expressions.Value.TheVariants.{Number}
use Rattle.kripke_model.specs.declared.models.Part.{Part}
use Rattle.kripke_model.specs.Term.{Term}
use Rattle.kripke_model.specs.System.{System}
use Rattle.smv_instances.specs.Program.{Name, Expr, Path, Plain, Form, Kind, Section, Program}
use Rattle.smv_instances.specs.Instances.{Scope, instances}
use Rattle.smv_names.specs.Denotes.{Denotes, Finds}
use Rattle.smv_names.specs.Expands.{Expands, Selects, AreIndexes}
use Rattle.smv_instantiate.specs.Flattens.{Flattens}

-- the k-th of a list of instances
abbrev scope_at : ℕ → List Scope → Scope
scope_at k [] = Scope.Main (record { name = []; line = 0; formals = []; sections = [] })
scope_at zero (s ∷ ss) = s
scope_at (suc k) (s ∷ ss) = scope_at k ss

abbrev name_a : Name
name_a = 97 ∷ []

abbrev name_b : Name
name_b = 98 ∷ []

abbrev name_main : Name
name_main = 109 ∷ 97 ∷ 105 ∷ 110 ∷ []

-- MODULE main
-- VAR
--   a : boolean;
--   b : boolean;
-- ASSIGN
--   init(a) := 0;
--   init(b) := 1;
--   next(a) := b;
--   next(b) := a;
-- SPEC AG (a | b)
abbrev swap : Program
swap =
    record {
      name = name_main;
      line = 1;
      formals = ([]);
      sections =
          (Section.Vars (record { name = name_a; line = 3; form = Form.Stored Plain.Boolean } ∷ record { name = name_b; line = 4; form = Form.Stored Plain.Boolean } ∷ []) ∷
          Section.Assigns (record { part = Part.Init; left = (Path.Here 6 name_a); left_line = 6; right = (Expr.Number 0); line = 6 } ∷ record { part = Part.Init; left = (Path.Here 7 name_b); left_line = 7; right = (Expr.Number 1); line = 7 } ∷ record { part = Part.Next; left = (Path.Here 8 name_a); left_line = 8; right = (Expr.At (Path.Here 8 name_b)); line = 8 } ∷ record { part = Part.Next; left = (Path.Here 9 name_b); left_line = 9; right = (Expr.At (Path.Here 9 name_a)); line = 9 } ∷ []) ∷
          Section.States (record { kind = Kind.Spec; expr = (Expr.Quant PathOp.AG (Expr.Parens (Expr.Binary BinOp.Or (Expr.At (Path.Here 10 name_a)) (Expr.At (Path.Here 10 name_b))))); line = 10 }) ∷ []);
    } ∷
    []

abbrev swap_scope : ℕ → Scope
swap_scope k = scope_at k (instances swap)

abbrev swap_flat : System
swap_flat = record {
  symbols = ([]);
  vars = (record { name = (97 ∷ []); values = (Number (pos 0) ∷ Number (pos 1) ∷ []); line = 3 } ∷ record { name = (98 ∷ []); values = (Number (pos 0) ∷ Number (pos 1) ∷ []); line = 4 } ∷ []);
  selector = false;
  processes = ((109 ∷ 97 ∷ 105 ∷ 110 ∷ []) ∷ []);
  assigns = (record { part = Part.Init; var = 0; process = 0; right = (Term.Const (Number (pos 0))); line = 6 } ∷ record { part = Part.Init; var = 1; process = 0; right = (Term.Const (Number (pos 1))); line = 7 } ∷ record { part = Part.Next; var = 0; process = 0; right = (Term.Var 1); line = 8 } ∷ record { part = Part.Next; var = 1; process = 0; right = (Term.Var 0); line = 9 } ∷ []);
  inits = ([]);
  invars = ([]);
  trans = ([]);
  constraints = ([]);
  specs = (record { expr = (Term.Quant PathOp.AG (Term.Binary BinOp.Or (Term.Var 0) (Term.Var 1))); line = 10 } ∷ []);
}

swap_flattens : Flattens swap swap_flat
unfolding digits
swap_flattens = record {
  symbols = refl;
  vars = refl;
  selector = refl;
  processes = refl;
  assigns = (
    (refl, (Selects.cell {home = (swap_scope 0)} {x = name_a} {type = Plain.Boolean} {indexes = ([])} {ns = ([])} (Denotes.here (Finds.direct refl)) refl AreIndexes.last_index), refl, Expands.number, refl),
    (
      (refl, (Selects.cell {home = (swap_scope 0)} {x = name_b} {type = Plain.Boolean} {indexes = ([])} {ns = ([])} (Denotes.here (Finds.direct refl)) refl AreIndexes.last_index), refl, Expands.number, refl),
      (
        (refl, (Selects.cell {home = (swap_scope 0)} {x = name_a} {type = Plain.Boolean} {indexes = ([])} {ns = ([])} (Denotes.here (Finds.direct refl)) refl AreIndexes.last_index), refl, (Expands.variable (Selects.cell {home = (swap_scope 0)} {x = name_b} {type = Plain.Boolean} {indexes = ([])} {ns = ([])} (Denotes.here (Finds.direct refl)) refl AreIndexes.last_index)), refl),
        (
          (refl, (Selects.cell {home = (swap_scope 0)} {x = name_b} {type = Plain.Boolean} {indexes = ([])} {ns = ([])} (Denotes.here (Finds.direct refl)) refl AreIndexes.last_index), refl, (Expands.variable (Selects.cell {home = (swap_scope 0)} {x = name_a} {type = Plain.Boolean} {indexes = ([])} {ns = ([])} (Denotes.here (Finds.direct refl)) refl AreIndexes.last_index)), refl),
          tt,
        ),
      ),
    ),
  );
  inits = tt;
  invars = tt;
  trans = tt;
  constraints = tt;
  specs = (
    ((Expands.quantified (Expands.parens (Expands.binary (Expands.variable (Selects.cell {home = (swap_scope 0)} {x = name_a} {type = Plain.Boolean} {indexes = ([])} {ns = ([])} (Denotes.here (Finds.direct refl)) refl AreIndexes.last_index)) (Expands.variable (Selects.cell {home = (swap_scope 0)} {x = name_b} {type = Plain.Boolean} {indexes = ([])} {ns = ([])} (Denotes.here (Finds.direct refl)) refl AreIndexes.last_index))))), refl),
    tt,
  );
}
