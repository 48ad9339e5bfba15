-- The two users of the semaphore, without processes: the flat model, with its derivation.
use Rattle.std.proofs.Common.{refl, ℕ, zero, suc, List, [], ◌∷◌, false}
use Rattle.std.specs.Prelude.{pos}
use Rattle.std.specs.Fmt.{digits}
use Rattle.kripke_model.specs.declared.expressions.BinOp.{BinOp}
use Rattle.kripke_model.specs.declared.expressions.PathOp.{PathOp}
use Rattle.kripke_model.specs.declared.expressions.Value.TheVariants.{Number, Symbol}
use Rattle.kripke_model.specs.declared.models.Part.{Part}
use Rattle.kripke_model.specs.Term.{Term, Terms, Arms}
use Rattle.kripke_model.specs.System.{System}
use Rattle.smv_instances.specs.Program.{Name, Expr, Exprs, Path, Constant, Plain, Form, Declaration, Definition, Assigned, Kind, Stated, Section, Formal, Module, Program}
use Rattle.smv_instances.specs.Program as tree
use Rattle.smv_instances.specs.Instances.{Scope, instances}
use Rattle.smv_names.specs.Denotes.{Denotes, Finds}
use Rattle.smv_names.specs.Expands.{Expands, ExpandElements, ExpandArms, Selects, AreIndexes}
use Rattle.smv_instantiate.specs.Flattens.{Flattens}

-- the k-th of a list of instances
abbrev scope_at : ℕ → List Scope → Scope
scope_at k [] = Scope.Main (record { name = []; line = 0; formals = []; sections = [] })
scope_at zero (s ∷ ss) = s
scope_at (suc k) (s ∷ ss) = scope_at k ss

abbrev name_critical : Name
name_critical = 99 ∷ 114 ∷ 105 ∷ 116 ∷ 105 ∷ 99 ∷ 97 ∷ 108 ∷ []

abbrev name_entering : Name
name_entering = 101 ∷ 110 ∷ 116 ∷ 101 ∷ 114 ∷ 105 ∷ 110 ∷ 103 ∷ []

abbrev name_exiting : Name
name_exiting = 101 ∷ 120 ∷ 105 ∷ 116 ∷ 105 ∷ 110 ∷ 103 ∷ []

abbrev name_idle : Name
name_idle = 105 ∷ 100 ∷ 108 ∷ 101 ∷ []

abbrev name_main : Name
name_main = 109 ∷ 97 ∷ 105 ∷ 110 ∷ []

abbrev name_proc1 : Name
name_proc1 = 112 ∷ 114 ∷ 111 ∷ 99 ∷ 49 ∷ []

abbrev name_proc2 : Name
name_proc2 = 112 ∷ 114 ∷ 111 ∷ 99 ∷ 50 ∷ []

abbrev name_semaphore : Name
name_semaphore = 115 ∷ 101 ∷ 109 ∷ 97 ∷ 112 ∷ 104 ∷ 111 ∷ 114 ∷ 101 ∷ []

abbrev name_state : Name
name_state = 115 ∷ 116 ∷ 97 ∷ 116 ∷ 101 ∷ []

abbrev name_user : Name
name_user = 117 ∷ 115 ∷ 101 ∷ 114 ∷ []

-- MODULE main
-- VAR
--   semaphore : boolean;
--   proc1 : user(semaphore);
--   proc2 : user(semaphore);
-- ASSIGN
--   init(semaphore) := 0;
-- SPEC AG !(proc1.state = critical & proc2.state = critical)
-- SPEC AG (proc1.state = entering -> AF proc1.state = critical)
-- MODULE user(semaphore)
-- VAR
--   state : {idle, entering, critical, exiting};
-- ASSIGN
--   init(state) := idle;
--   next(state) := case
--     state = idle : {idle, entering};
--     state = entering & !semaphore : critical;
--     state = critical : {critical, exiting};
--     state = exiting : idle;
--     1 : state;
--   esac;
--   next(semaphore) := case
--     state = entering : 1;
--     state = exiting : 0;
--     1 : semaphore;
--   esac;
-- FAIRNESS running
abbrev pub plain_users : Program
plain_users =
    record {
      name = name_main;
      line = 1;
      formals = ([]);
      sections =
          (Section.Vars (record { name = name_semaphore; line = 3; form = Form.Stored Plain.Boolean } ∷ record { name = name_proc1; line = 4; form = Form.Instance false name_user ((Expr.At (Path.Here 4 name_semaphore)) ∷ []) } ∷ record { name = name_proc2; line = 5; form = Form.Instance false name_user ((Expr.At (Path.Here 5 name_semaphore)) ∷ []) } ∷ []) ∷
          Section.Assigns (record { part = Part.Init; left = (Path.Here 7 name_semaphore); left_line = 7; right = (Expr.Number 0); line = 7 } ∷ []) ∷
          Section.States (record { kind = Kind.Spec; expr = (Expr.Quant PathOp.AG (Expr.Not (Expr.Parens (Expr.Binary BinOp.And (Expr.Binary BinOp.Eq (Expr.At (Path.Field (Path.Here 8 name_proc1) name_state)) (Expr.At (Path.Here 8 name_critical))) (Expr.Binary BinOp.Eq (Expr.At (Path.Field (Path.Here 8 name_proc2) name_state)) (Expr.At (Path.Here 8 name_critical))))))); line = 8 }) ∷
          Section.States (record { kind = Kind.Spec; expr = (Expr.Quant PathOp.AG (Expr.Parens (Expr.Binary BinOp.Implies (Expr.Binary BinOp.Eq (Expr.At (Path.Field (Path.Here 9 name_proc1) name_state)) (Expr.At (Path.Here 9 name_entering))) (Expr.Quant PathOp.AF (Expr.Binary BinOp.Eq (Expr.At (Path.Field (Path.Here 9 name_proc1) name_state)) (Expr.At (Path.Here 9 name_critical))))))); line = 9 }) ∷ []);
    } ∷
    record {
      name = name_user;
      line = 10;
      formals = (record { name = name_semaphore; line = 10 } ∷ []);
      sections =
          (Section.Vars (record { name = name_state; line = 12; form = Form.Stored (Plain.Enumeration ((Constant.Atom name_idle) ∷ (Constant.Atom name_entering) ∷ (Constant.Atom name_critical) ∷ (Constant.Atom name_exiting) ∷ [])) } ∷ []) ∷
          Section.Assigns (record { part = Part.Init; left = (Path.Here 14 name_state); left_line = 14; right = (Expr.At (Path.Here 14 name_idle)); line = 14 } ∷ record { part = Part.Next; left = (Path.Here 15 name_state); left_line = 15; right = (Expr.Case (tree.Arms.arm (Expr.Binary BinOp.Eq (Expr.At (Path.Here 16 name_state)) (Expr.At (Path.Here 16 name_idle))) (Expr.Braces (Exprs.more (Expr.At (Path.Here 16 name_idle)) (Exprs.more (Expr.At (Path.Here 16 name_entering)) Exprs.none))) (tree.Arms.arm (Expr.Binary BinOp.And (Expr.Binary BinOp.Eq (Expr.At (Path.Here 17 name_state)) (Expr.At (Path.Here 17 name_entering))) (Expr.Not (Expr.At (Path.Here 17 name_semaphore)))) (Expr.At (Path.Here 17 name_critical)) (tree.Arms.arm (Expr.Binary BinOp.Eq (Expr.At (Path.Here 18 name_state)) (Expr.At (Path.Here 18 name_critical))) (Expr.Braces (Exprs.more (Expr.At (Path.Here 18 name_critical)) (Exprs.more (Expr.At (Path.Here 18 name_exiting)) Exprs.none))) (tree.Arms.arm (Expr.Binary BinOp.Eq (Expr.At (Path.Here 19 name_state)) (Expr.At (Path.Here 19 name_exiting))) (Expr.At (Path.Here 19 name_idle)) (tree.Arms.arm (Expr.Number 1) (Expr.At (Path.Here 20 name_state)) tree.Arms.esac)))))); line = 15 } ∷ record { part = Part.Next; left = (Path.Here 22 name_semaphore); left_line = 22; right = (Expr.Case (tree.Arms.arm (Expr.Binary BinOp.Eq (Expr.At (Path.Here 23 name_state)) (Expr.At (Path.Here 23 name_entering))) (Expr.Number 1) (tree.Arms.arm (Expr.Binary BinOp.Eq (Expr.At (Path.Here 24 name_state)) (Expr.At (Path.Here 24 name_exiting))) (Expr.Number 0) (tree.Arms.arm (Expr.Number 1) (Expr.At (Path.Here 25 name_semaphore)) tree.Arms.esac)))); line = 22 } ∷ []) ∷
          Section.States (record { kind = Kind.Fairness; expr = Expr.Running; line = 27 }) ∷ []);
    } ∷
    []

abbrev plain_users_scope : ℕ → Scope
plain_users_scope k = scope_at k (instances plain_users)

abbrev pub plain_users_flat : System
plain_users_flat = record {
  symbols = ((105 ∷ 100 ∷ 108 ∷ 101 ∷ []) ∷ (101 ∷ 110 ∷ 116 ∷ 101 ∷ 114 ∷ 105 ∷ 110 ∷ 103 ∷ []) ∷ (99 ∷ 114 ∷ 105 ∷ 116 ∷ 105 ∷ 99 ∷ 97 ∷ 108 ∷ []) ∷ (101 ∷ 120 ∷ 105 ∷ 116 ∷ 105 ∷ 110 ∷ 103 ∷ []) ∷ []);
  vars = (record { name = (115 ∷ 101 ∷ 109 ∷ 97 ∷ 112 ∷ 104 ∷ 111 ∷ 114 ∷ 101 ∷ []); values = (Number (pos 0) ∷ Number (pos 1) ∷ []); line = 3 } ∷ record { name = (112 ∷ 114 ∷ 111 ∷ 99 ∷ 49 ∷ 46 ∷ 115 ∷ 116 ∷ 97 ∷ 116 ∷ 101 ∷ []); values = (Symbol 0 ∷ Symbol 1 ∷ Symbol 2 ∷ Symbol 3 ∷ []); line = 12 } ∷ record { name = (112 ∷ 114 ∷ 111 ∷ 99 ∷ 50 ∷ 46 ∷ 115 ∷ 116 ∷ 97 ∷ 116 ∷ 101 ∷ []); values = (Symbol 0 ∷ Symbol 1 ∷ Symbol 2 ∷ Symbol 3 ∷ []); line = 12 } ∷ []);
  selector = false;
  processes = ((109 ∷ 97 ∷ 105 ∷ 110 ∷ []) ∷ []);
  assigns = (record { part = Part.Init; var = 0; process = 0; right = (Term.Const (Number (pos 0))); line = 7 } ∷ record { part = Part.Init; var = 1; process = 0; right = (Term.Const (Symbol 0)); line = 14 } ∷ record { part = Part.Next; var = 1; process = 0; right = (Term.Case (Arms.arm (Term.Binary BinOp.Eq (Term.Var 1) (Term.Const (Symbol 0))) (Term.Braces (Terms.more (Term.Const (Symbol 0)) (Terms.more (Term.Const (Symbol 1)) Terms.none))) (Arms.arm (Term.Binary BinOp.And (Term.Binary BinOp.Eq (Term.Var 1) (Term.Const (Symbol 1))) (Term.Not (Term.Var 0))) (Term.Const (Symbol 2)) (Arms.arm (Term.Binary BinOp.Eq (Term.Var 1) (Term.Const (Symbol 2))) (Term.Braces (Terms.more (Term.Const (Symbol 2)) (Terms.more (Term.Const (Symbol 3)) Terms.none))) (Arms.arm (Term.Binary BinOp.Eq (Term.Var 1) (Term.Const (Symbol 3))) (Term.Const (Symbol 0)) (Arms.arm (Term.Const (Number (pos 1))) (Term.Var 1) Arms.esac)))))); line = 15 } ∷ record { part = Part.Next; var = 0; process = 0; right = (Term.Case (Arms.arm (Term.Binary BinOp.Eq (Term.Var 1) (Term.Const (Symbol 1))) (Term.Const (Number (pos 1))) (Arms.arm (Term.Binary BinOp.Eq (Term.Var 1) (Term.Const (Symbol 3))) (Term.Const (Number (pos 0))) (Arms.arm (Term.Const (Number (pos 1))) (Term.Var 0) Arms.esac)))); line = 22 } ∷ record { part = Part.Init; var = 2; process = 0; right = (Term.Const (Symbol 0)); line = 14 } ∷ record { part = Part.Next; var = 2; process = 0; right = (Term.Case (Arms.arm (Term.Binary BinOp.Eq (Term.Var 2) (Term.Const (Symbol 0))) (Term.Braces (Terms.more (Term.Const (Symbol 0)) (Terms.more (Term.Const (Symbol 1)) Terms.none))) (Arms.arm (Term.Binary BinOp.And (Term.Binary BinOp.Eq (Term.Var 2) (Term.Const (Symbol 1))) (Term.Not (Term.Var 0))) (Term.Const (Symbol 2)) (Arms.arm (Term.Binary BinOp.Eq (Term.Var 2) (Term.Const (Symbol 2))) (Term.Braces (Terms.more (Term.Const (Symbol 2)) (Terms.more (Term.Const (Symbol 3)) Terms.none))) (Arms.arm (Term.Binary BinOp.Eq (Term.Var 2) (Term.Const (Symbol 3))) (Term.Const (Symbol 0)) (Arms.arm (Term.Const (Number (pos 1))) (Term.Var 2) Arms.esac)))))); line = 15 } ∷ record { part = Part.Next; var = 0; process = 0; right = (Term.Case (Arms.arm (Term.Binary BinOp.Eq (Term.Var 2) (Term.Const (Symbol 1))) (Term.Const (Number (pos 1))) (Arms.arm (Term.Binary BinOp.Eq (Term.Var 2) (Term.Const (Symbol 3))) (Term.Const (Number (pos 0))) (Arms.arm (Term.Const (Number (pos 1))) (Term.Var 0) Arms.esac)))); line = 22 } ∷ []);
  inits = ([]);
  invars = ([]);
  trans = ([]);
  constraints = (record { expr = (Term.Running 0); line = 27 } ∷ record { expr = (Term.Running 0); line = 27 } ∷ []);
  specs = (record { expr = (Term.Quant PathOp.AG (Term.Not (Term.Binary BinOp.And (Term.Binary BinOp.Eq (Term.Var 1) (Term.Const (Symbol 2))) (Term.Binary BinOp.Eq (Term.Var 2) (Term.Const (Symbol 2)))))); line = 8 } ∷ record { expr = (Term.Quant PathOp.AG (Term.Binary BinOp.Implies (Term.Binary BinOp.Eq (Term.Var 1) (Term.Const (Symbol 1))) (Term.Quant PathOp.AF (Term.Binary BinOp.Eq (Term.Var 1) (Term.Const (Symbol 2)))))); line = 9 } ∷ []);
}

pub plain_users_flattens : Flattens plain_users plain_users_flat
unfolding digits
plain_users_flattens = record {
  symbols = refl;
  vars = refl;
  selector = refl;
  processes = refl;
  assigns = (
    (refl, (Selects.cell {home = (plain_users_scope 0)} {x = name_semaphore} {type = Plain.Boolean} {indexes = ([])} {ns = ([])} (Denotes.here (Finds.direct refl)) refl AreIndexes.last_index), refl, Expands.number, refl),
    (
      (refl, (Selects.cell {home = (plain_users_scope 1)} {x = name_state} {type = (Plain.Enumeration ((Constant.Atom name_idle) ∷ (Constant.Atom name_entering) ∷ (Constant.Atom name_critical) ∷ (Constant.Atom name_exiting) ∷ []))} {indexes = ([])} {ns = ([])} (Denotes.here (Finds.direct refl)) refl AreIndexes.last_index), refl, (Expands.constant {x = name_idle} (Denotes.constant refl refl)), refl),
      (
        (refl, (Selects.cell {home = (plain_users_scope 1)} {x = name_state} {type = (Plain.Enumeration ((Constant.Atom name_idle) ∷ (Constant.Atom name_entering) ∷ (Constant.Atom name_critical) ∷ (Constant.Atom name_exiting) ∷ []))} {indexes = ([])} {ns = ([])} (Denotes.here (Finds.direct refl)) refl AreIndexes.last_index), refl, (Expands.cases (ExpandArms.arm (Expands.binary (Expands.variable (Selects.cell {home = (plain_users_scope 1)} {x = name_state} {type = (Plain.Enumeration ((Constant.Atom name_idle) ∷ (Constant.Atom name_entering) ∷ (Constant.Atom name_critical) ∷ (Constant.Atom name_exiting) ∷ []))} {indexes = ([])} {ns = ([])} (Denotes.here (Finds.direct refl)) refl AreIndexes.last_index)) (Expands.constant {x = name_idle} (Denotes.constant refl refl))) (Expands.braces (ExpandElements.element (Expands.constant {x = name_idle} (Denotes.constant refl refl)) (ExpandElements.element (Expands.constant {x = name_entering} (Denotes.constant refl refl)) ExpandElements.last_element))) (ExpandArms.arm (Expands.binary (Expands.binary (Expands.variable (Selects.cell {home = (plain_users_scope 1)} {x = name_state} {type = (Plain.Enumeration ((Constant.Atom name_idle) ∷ (Constant.Atom name_entering) ∷ (Constant.Atom name_critical) ∷ (Constant.Atom name_exiting) ∷ []))} {indexes = ([])} {ns = ([])} (Denotes.here (Finds.direct refl)) refl AreIndexes.last_index)) (Expands.constant {x = name_entering} (Denotes.constant refl refl))) (Expands.negation (Expands.variable (Selects.cell {home = (plain_users_scope 0)} {x = name_semaphore} {type = Plain.Boolean} {indexes = ([])} {ns = ([])} (Denotes.here (Finds.passed_on refl (Denotes.here (Finds.direct refl)))) refl AreIndexes.last_index)))) (Expands.constant {x = name_critical} (Denotes.constant refl refl)) (ExpandArms.arm (Expands.binary (Expands.variable (Selects.cell {home = (plain_users_scope 1)} {x = name_state} {type = (Plain.Enumeration ((Constant.Atom name_idle) ∷ (Constant.Atom name_entering) ∷ (Constant.Atom name_critical) ∷ (Constant.Atom name_exiting) ∷ []))} {indexes = ([])} {ns = ([])} (Denotes.here (Finds.direct refl)) refl AreIndexes.last_index)) (Expands.constant {x = name_critical} (Denotes.constant refl refl))) (Expands.braces (ExpandElements.element (Expands.constant {x = name_critical} (Denotes.constant refl refl)) (ExpandElements.element (Expands.constant {x = name_exiting} (Denotes.constant refl refl)) ExpandElements.last_element))) (ExpandArms.arm (Expands.binary (Expands.variable (Selects.cell {home = (plain_users_scope 1)} {x = name_state} {type = (Plain.Enumeration ((Constant.Atom name_idle) ∷ (Constant.Atom name_entering) ∷ (Constant.Atom name_critical) ∷ (Constant.Atom name_exiting) ∷ []))} {indexes = ([])} {ns = ([])} (Denotes.here (Finds.direct refl)) refl AreIndexes.last_index)) (Expands.constant {x = name_exiting} (Denotes.constant refl refl))) (Expands.constant {x = name_idle} (Denotes.constant refl refl)) (ExpandArms.arm Expands.number (Expands.variable (Selects.cell {home = (plain_users_scope 1)} {x = name_state} {type = (Plain.Enumeration ((Constant.Atom name_idle) ∷ (Constant.Atom name_entering) ∷ (Constant.Atom name_critical) ∷ (Constant.Atom name_exiting) ∷ []))} {indexes = ([])} {ns = ([])} (Denotes.here (Finds.direct refl)) refl AreIndexes.last_index)) ExpandArms.last_arm)))))), refl),
        (
          (refl, (Selects.cell {home = (plain_users_scope 0)} {x = name_semaphore} {type = Plain.Boolean} {indexes = ([])} {ns = ([])} (Denotes.here (Finds.passed_on refl (Denotes.here (Finds.direct refl)))) refl AreIndexes.last_index), refl, (Expands.cases (ExpandArms.arm (Expands.binary (Expands.variable (Selects.cell {home = (plain_users_scope 1)} {x = name_state} {type = (Plain.Enumeration ((Constant.Atom name_idle) ∷ (Constant.Atom name_entering) ∷ (Constant.Atom name_critical) ∷ (Constant.Atom name_exiting) ∷ []))} {indexes = ([])} {ns = ([])} (Denotes.here (Finds.direct refl)) refl AreIndexes.last_index)) (Expands.constant {x = name_entering} (Denotes.constant refl refl))) Expands.number (ExpandArms.arm (Expands.binary (Expands.variable (Selects.cell {home = (plain_users_scope 1)} {x = name_state} {type = (Plain.Enumeration ((Constant.Atom name_idle) ∷ (Constant.Atom name_entering) ∷ (Constant.Atom name_critical) ∷ (Constant.Atom name_exiting) ∷ []))} {indexes = ([])} {ns = ([])} (Denotes.here (Finds.direct refl)) refl AreIndexes.last_index)) (Expands.constant {x = name_exiting} (Denotes.constant refl refl))) Expands.number (ExpandArms.arm Expands.number (Expands.variable (Selects.cell {home = (plain_users_scope 0)} {x = name_semaphore} {type = Plain.Boolean} {indexes = ([])} {ns = ([])} (Denotes.here (Finds.passed_on refl (Denotes.here (Finds.direct refl)))) refl AreIndexes.last_index)) ExpandArms.last_arm)))), refl),
          (
            (refl, (Selects.cell {home = (plain_users_scope 2)} {x = name_state} {type = (Plain.Enumeration ((Constant.Atom name_idle) ∷ (Constant.Atom name_entering) ∷ (Constant.Atom name_critical) ∷ (Constant.Atom name_exiting) ∷ []))} {indexes = ([])} {ns = ([])} (Denotes.here (Finds.direct refl)) refl AreIndexes.last_index), refl, (Expands.constant {x = name_idle} (Denotes.constant refl refl)), refl),
            (
              (refl, (Selects.cell {home = (plain_users_scope 2)} {x = name_state} {type = (Plain.Enumeration ((Constant.Atom name_idle) ∷ (Constant.Atom name_entering) ∷ (Constant.Atom name_critical) ∷ (Constant.Atom name_exiting) ∷ []))} {indexes = ([])} {ns = ([])} (Denotes.here (Finds.direct refl)) refl AreIndexes.last_index), refl, (Expands.cases (ExpandArms.arm (Expands.binary (Expands.variable (Selects.cell {home = (plain_users_scope 2)} {x = name_state} {type = (Plain.Enumeration ((Constant.Atom name_idle) ∷ (Constant.Atom name_entering) ∷ (Constant.Atom name_critical) ∷ (Constant.Atom name_exiting) ∷ []))} {indexes = ([])} {ns = ([])} (Denotes.here (Finds.direct refl)) refl AreIndexes.last_index)) (Expands.constant {x = name_idle} (Denotes.constant refl refl))) (Expands.braces (ExpandElements.element (Expands.constant {x = name_idle} (Denotes.constant refl refl)) (ExpandElements.element (Expands.constant {x = name_entering} (Denotes.constant refl refl)) ExpandElements.last_element))) (ExpandArms.arm (Expands.binary (Expands.binary (Expands.variable (Selects.cell {home = (plain_users_scope 2)} {x = name_state} {type = (Plain.Enumeration ((Constant.Atom name_idle) ∷ (Constant.Atom name_entering) ∷ (Constant.Atom name_critical) ∷ (Constant.Atom name_exiting) ∷ []))} {indexes = ([])} {ns = ([])} (Denotes.here (Finds.direct refl)) refl AreIndexes.last_index)) (Expands.constant {x = name_entering} (Denotes.constant refl refl))) (Expands.negation (Expands.variable (Selects.cell {home = (plain_users_scope 0)} {x = name_semaphore} {type = Plain.Boolean} {indexes = ([])} {ns = ([])} (Denotes.here (Finds.passed_on refl (Denotes.here (Finds.direct refl)))) refl AreIndexes.last_index)))) (Expands.constant {x = name_critical} (Denotes.constant refl refl)) (ExpandArms.arm (Expands.binary (Expands.variable (Selects.cell {home = (plain_users_scope 2)} {x = name_state} {type = (Plain.Enumeration ((Constant.Atom name_idle) ∷ (Constant.Atom name_entering) ∷ (Constant.Atom name_critical) ∷ (Constant.Atom name_exiting) ∷ []))} {indexes = ([])} {ns = ([])} (Denotes.here (Finds.direct refl)) refl AreIndexes.last_index)) (Expands.constant {x = name_critical} (Denotes.constant refl refl))) (Expands.braces (ExpandElements.element (Expands.constant {x = name_critical} (Denotes.constant refl refl)) (ExpandElements.element (Expands.constant {x = name_exiting} (Denotes.constant refl refl)) ExpandElements.last_element))) (ExpandArms.arm (Expands.binary (Expands.variable (Selects.cell {home = (plain_users_scope 2)} {x = name_state} {type = (Plain.Enumeration ((Constant.Atom name_idle) ∷ (Constant.Atom name_entering) ∷ (Constant.Atom name_critical) ∷ (Constant.Atom name_exiting) ∷ []))} {indexes = ([])} {ns = ([])} (Denotes.here (Finds.direct refl)) refl AreIndexes.last_index)) (Expands.constant {x = name_exiting} (Denotes.constant refl refl))) (Expands.constant {x = name_idle} (Denotes.constant refl refl)) (ExpandArms.arm Expands.number (Expands.variable (Selects.cell {home = (plain_users_scope 2)} {x = name_state} {type = (Plain.Enumeration ((Constant.Atom name_idle) ∷ (Constant.Atom name_entering) ∷ (Constant.Atom name_critical) ∷ (Constant.Atom name_exiting) ∷ []))} {indexes = ([])} {ns = ([])} (Denotes.here (Finds.direct refl)) refl AreIndexes.last_index)) ExpandArms.last_arm)))))), refl),
              (
                (refl, (Selects.cell {home = (plain_users_scope 0)} {x = name_semaphore} {type = Plain.Boolean} {indexes = ([])} {ns = ([])} (Denotes.here (Finds.passed_on refl (Denotes.here (Finds.direct refl)))) refl AreIndexes.last_index), refl, (Expands.cases (ExpandArms.arm (Expands.binary (Expands.variable (Selects.cell {home = (plain_users_scope 2)} {x = name_state} {type = (Plain.Enumeration ((Constant.Atom name_idle) ∷ (Constant.Atom name_entering) ∷ (Constant.Atom name_critical) ∷ (Constant.Atom name_exiting) ∷ []))} {indexes = ([])} {ns = ([])} (Denotes.here (Finds.direct refl)) refl AreIndexes.last_index)) (Expands.constant {x = name_entering} (Denotes.constant refl refl))) Expands.number (ExpandArms.arm (Expands.binary (Expands.variable (Selects.cell {home = (plain_users_scope 2)} {x = name_state} {type = (Plain.Enumeration ((Constant.Atom name_idle) ∷ (Constant.Atom name_entering) ∷ (Constant.Atom name_critical) ∷ (Constant.Atom name_exiting) ∷ []))} {indexes = ([])} {ns = ([])} (Denotes.here (Finds.direct refl)) refl AreIndexes.last_index)) (Expands.constant {x = name_exiting} (Denotes.constant refl refl))) Expands.number (ExpandArms.arm Expands.number (Expands.variable (Selects.cell {home = (plain_users_scope 0)} {x = name_semaphore} {type = Plain.Boolean} {indexes = ([])} {ns = ([])} (Denotes.here (Finds.passed_on refl (Denotes.here (Finds.direct refl)))) refl AreIndexes.last_index)) ExpandArms.last_arm)))), refl),
                tt,
              ),
            ),
          ),
        ),
      ),
    ),
  );
  inits = tt;
  invars = tt;
  trans = tt;
  constraints = (
    (Expands.running, refl),
    (
      (Expands.running, refl),
      tt,
    ),
  );
  specs = (
    ((Expands.quantified (Expands.negation (Expands.parens (Expands.binary (Expands.binary (Expands.variable (Selects.cell {home = (plain_users_scope 1)} {x = name_state} {type = (Plain.Enumeration ((Constant.Atom name_idle) ∷ (Constant.Atom name_entering) ∷ (Constant.Atom name_critical) ∷ (Constant.Atom name_exiting) ∷ []))} {indexes = ([])} {ns = ([])} (Denotes.field {i = (plain_users_scope 1)} (Denotes.here (Finds.direct refl)) (Finds.direct refl)) refl AreIndexes.last_index)) (Expands.constant {x = name_critical} (Denotes.constant refl refl))) (Expands.binary (Expands.variable (Selects.cell {home = (plain_users_scope 2)} {x = name_state} {type = (Plain.Enumeration ((Constant.Atom name_idle) ∷ (Constant.Atom name_entering) ∷ (Constant.Atom name_critical) ∷ (Constant.Atom name_exiting) ∷ []))} {indexes = ([])} {ns = ([])} (Denotes.field {i = (plain_users_scope 2)} (Denotes.here (Finds.direct refl)) (Finds.direct refl)) refl AreIndexes.last_index)) (Expands.constant {x = name_critical} (Denotes.constant refl refl))))))), refl),
    (
      ((Expands.quantified (Expands.parens (Expands.binary (Expands.binary (Expands.variable (Selects.cell {home = (plain_users_scope 1)} {x = name_state} {type = (Plain.Enumeration ((Constant.Atom name_idle) ∷ (Constant.Atom name_entering) ∷ (Constant.Atom name_critical) ∷ (Constant.Atom name_exiting) ∷ []))} {indexes = ([])} {ns = ([])} (Denotes.field {i = (plain_users_scope 1)} (Denotes.here (Finds.direct refl)) (Finds.direct refl)) refl AreIndexes.last_index)) (Expands.constant {x = name_entering} (Denotes.constant refl refl))) (Expands.quantified (Expands.binary (Expands.variable (Selects.cell {home = (plain_users_scope 1)} {x = name_state} {type = (Plain.Enumeration ((Constant.Atom name_idle) ∷ (Constant.Atom name_entering) ∷ (Constant.Atom name_critical) ∷ (Constant.Atom name_exiting) ∷ []))} {indexes = ([])} {ns = ([])} (Denotes.field {i = (plain_users_scope 1)} (Denotes.here (Finds.direct refl)) (Finds.direct refl)) refl AreIndexes.last_index)) (Expands.constant {x = name_critical} (Denotes.constant refl refl))))))), refl),
      tt,
    ),
  );
}
