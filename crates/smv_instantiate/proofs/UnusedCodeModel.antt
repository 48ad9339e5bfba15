-- A type whose last code is unused, and a type of one value: the flat model, with its derivation.
use Rattle.std.proofs.Common.{refl, ℕ, zero, suc, List, [], ◌∷◌, false}
use Rattle.std.specs.Fmt.{digits}
use Rattle.kripke_model.specs.declared.expressions.BinOp.{BinOp}
use Rattle.kripke_model.specs.declared.expressions.PathOp.{PathOp}
use Rattle.kripke_model.specs.declared.expressions.Value.TheVariants.{Symbol}
use Rattle.kripke_model.specs.Term.{Term, Terms}
use Rattle.kripke_model.specs.System.{System}
use Rattle.smv_instances.specs.Program.{Name, Expr, Exprs, Path, Constant, Plain, Form, Kind, Section, Program}
use Rattle.smv_instances.specs.Instances.{Scope, instances}
use Rattle.smv_names.specs.Denotes.{Denotes, Finds}
use Rattle.smv_names.specs.Expands.{Expands, ExpandElements, Selects, AreIndexes}
use Rattle.smv_instantiate.specs.Flattens.{Flattens}

-- the k-th of a list of instances
abbrev scope_at : ℕ → List Scope → Scope
scope_at k [] = Scope.Main (record { name = []; line = 0; formals = []; sections = [] })
scope_at zero (s ∷ ss) = s
scope_at (suc k) (s ∷ ss) = scope_at k ss

abbrev name_a : Name
name_a = 97 ∷ []

abbrev name_b : Name
name_b = 98 ∷ []

abbrev name_c : Name
name_c = 99 ∷ []

abbrev name_main : Name
name_main = 109 ∷ 97 ∷ 105 ∷ 110 ∷ []

abbrev name_only : Name
name_only = 111 ∷ 110 ∷ 108 ∷ 121 ∷ []

abbrev name_x : Name
name_x = 120 ∷ []

abbrev name_y : Name
name_y = 121 ∷ []

-- MODULE main
-- VAR x : {a, b, c}; y : {only};
-- SPEC AG (x in {a, b} union {c})
-- SPEC EG y = only
abbrev unused_code : Program
unused_code =
    record {
      name = name_main;
      line = 1;
      formals = ([]);
      sections =
          (Section.Vars (record { name = name_x; line = 2; form = Form.Stored (Plain.Enumeration ((Constant.Atom name_a) ∷ (Constant.Atom name_b) ∷ (Constant.Atom name_c) ∷ [])) } ∷ record { name = name_y; line = 2; form = Form.Stored (Plain.Enumeration ((Constant.Atom name_only) ∷ [])) } ∷ []) ∷
          Section.States (record { kind = Kind.Spec; expr = (Expr.Quant PathOp.AG (Expr.Parens (Expr.Binary BinOp.Member (Expr.At (Path.Here 3 name_x)) (Expr.Binary BinOp.Union (Expr.Braces (Exprs.more (Expr.At (Path.Here 3 name_a)) (Exprs.more (Expr.At (Path.Here 3 name_b)) Exprs.none))) (Expr.Braces (Exprs.more (Expr.At (Path.Here 3 name_c)) Exprs.none)))))); line = 3 }) ∷
          Section.States (record { kind = Kind.Spec; expr = (Expr.Quant PathOp.EG (Expr.Binary BinOp.Eq (Expr.At (Path.Here 4 name_y)) (Expr.At (Path.Here 4 name_only)))); line = 4 }) ∷ []);
    } ∷
    []

abbrev unused_code_scope : ℕ → Scope
unused_code_scope k = scope_at k (instances unused_code)

abbrev unused_code_flat : System
unused_code_flat = record {
  symbols = ((97 ∷ []) ∷ (98 ∷ []) ∷ (99 ∷ []) ∷ (111 ∷ 110 ∷ 108 ∷ 121 ∷ []) ∷ []);
  vars = (record { name = (120 ∷ []); values = (Symbol 0 ∷ Symbol 1 ∷ Symbol 2 ∷ []); line = 2 } ∷ record { name = (121 ∷ []); values = (Symbol 3 ∷ []); line = 2 } ∷ []);
  selector = false;
  processes = ((109 ∷ 97 ∷ 105 ∷ 110 ∷ []) ∷ []);
  assigns = ([]);
  inits = ([]);
  invars = ([]);
  trans = ([]);
  constraints = ([]);
  specs = (record { expr = (Term.Quant PathOp.AG (Term.Binary BinOp.Member (Term.Var 0) (Term.Binary BinOp.Union (Term.Braces (Terms.more (Term.Const (Symbol 0)) (Terms.more (Term.Const (Symbol 1)) Terms.none))) (Term.Braces (Terms.more (Term.Const (Symbol 2)) Terms.none))))); line = 3 } ∷ record { expr = (Term.Quant PathOp.EG (Term.Binary BinOp.Eq (Term.Var 1) (Term.Const (Symbol 3)))); line = 4 } ∷ []);
}

unused_code_flattens : Flattens unused_code unused_code_flat
unfolding digits
unused_code_flattens = record {
  symbols = refl;
  vars = refl;
  selector = refl;
  processes = refl;
  assigns = tt;
  inits = tt;
  invars = tt;
  trans = tt;
  constraints = tt;
  specs = (
    ((Expands.quantified (Expands.parens (Expands.binary (Expands.variable (Selects.cell {home = (unused_code_scope 0)} {x = name_x} {type = (Plain.Enumeration ((Constant.Atom name_a) ∷ (Constant.Atom name_b) ∷ (Constant.Atom name_c) ∷ []))} {indexes = ([])} {ns = ([])} (Denotes.here (Finds.direct refl)) refl AreIndexes.last_index)) (Expands.binary (Expands.braces (ExpandElements.element (Expands.constant {x = name_a} (Denotes.constant refl refl)) (ExpandElements.element (Expands.constant {x = name_b} (Denotes.constant refl refl)) ExpandElements.last_element))) (Expands.braces (ExpandElements.element (Expands.constant {x = name_c} (Denotes.constant refl refl)) ExpandElements.last_element)))))), refl),
    (
      ((Expands.quantified (Expands.binary (Expands.variable (Selects.cell {home = (unused_code_scope 0)} {x = name_y} {type = (Plain.Enumeration ((Constant.Atom name_only) ∷ []))} {indexes = ([])} {ns = ([])} (Denotes.here (Finds.direct refl)) refl AreIndexes.last_index)) (Expands.constant {x = name_only} (Denotes.constant refl refl)))), refl),
      tt,
    ),
  );
}
