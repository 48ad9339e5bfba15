-- Two cells that pass their values to each other: the flat model, by the definitions.
use Rattle.std.proofs.Common.{refl, ℕ, zero, suc, List, [], ◌∷◌, false}
use Rattle.std.specs.Prelude.{pos}
use Rattle.kripke_model.specs.declared.expressions.Value.TheVariants.{Number}
use Rattle.kripke_model.specs.declared.expressions.BinOp.{BinOp}
use Rattle.kripke_model.specs.declared.expressions.PathOp.{PathOp}
use Rattle.kripke_model.specs.declared.models.Part.{Part}
use Rattle.kripke_model.specs.Term.{Term}
use Rattle.kripke_model.specs.System.{System}
use Rattle.smv_instances.specs.Program.{Path, Plain}
use Rattle.smv_instances.specs.Instances.{Scope, instances}
use Rattle.smv_names.specs.Denotes.{Target, Denotes, Finds}
use Rattle.smv_names.specs.Expands.{Expands, Selects, AreIndexes}
use Rattle.smv_instantiate.specs.Flattens.{Flattens}
use Rattle.smv_instantiate.proofs.Samples.{cells, name_p, name_q, name_v, name_main, name_other}

abbrev flat_cells : System
flat_cells = record {
  symbols = [];
  vars = record { name = 112 ∷ 46 ∷ 118 ∷ []; values = Number (pos 0) ∷ Number (pos 1) ∷ []; line = 4 }
      ∷ record { name = 113 ∷ 46 ∷ 118 ∷ []; values = Number (pos 0) ∷ Number (pos 1) ∷ []; line = 4 } ∷ [];
  selector = false;
  processes = name_main ∷ [];
  assigns = record { part = Part.Init; var = 0; process = 0; right = Term.Const (Number (pos 0)); line = 5 }
      ∷ record { part = Part.Next; var = 0; process = 0; right = Term.Not (Term.Var 1); line = 5 }
      ∷ record { part = Part.Init; var = 1; process = 0; right = Term.Const (Number (pos 0)); line = 5 }
      ∷ record { part = Part.Next; var = 1; process = 0; right = Term.Not (Term.Var 0); line = 5 } ∷ [];
  inits = [];
  invars = [];
  trans = [];
  constraints = [];
  specs = record { expr = Term.Quant PathOp.AG (Term.Binary BinOp.Iff (Term.Var 0) (Term.Var 1)); line = 3 } ∷ [];
}

-- the k-th instance, in instantiation order
abbrev scope : ℕ → Scope
scope k = at k (instances cells)
  where
    at : ℕ → List Scope → Scope
    at k [] = Scope.Main (record { name = []; line = 0; formals = []; sections = [] })
    at zero (s ∷ ss) = s
    at (suc k) (s ∷ ss) = at k ss

abbrev v_of : ℕ → Target
v_of k = Target.Stored (scope k) name_v Plain.Boolean []

-- v in its own cell, the other one's v by the parameter, and both in `main`
own_p : Denotes cells (scope 1) (Path.Here 5 name_v) (v_of 1)
own_p = Denotes.here (Finds.direct refl)

own_q : Denotes cells (scope 2) (Path.Here 5 name_v) (v_of 2)
own_q = Denotes.here (Finds.direct refl)

other_p : Denotes cells (scope 1) (Path.Here 5 name_other) (v_of 2)
other_p = Denotes.here (Finds.passed_on refl (Denotes.field (Denotes.here (Finds.direct refl)) (Finds.direct refl)))

other_q : Denotes cells (scope 2) (Path.Here 5 name_other) (v_of 1)
other_q = Denotes.here (Finds.passed_on refl (Denotes.field (Denotes.here (Finds.direct refl)) (Finds.direct refl)))

p_v : Denotes cells (scope 0) (Path.Field (Path.Here 3 name_p) name_v) (v_of 1)
p_v = Denotes.field (Denotes.here (Finds.direct refl)) (Finds.direct refl)

q_v : Denotes cells (scope 0) (Path.Field (Path.Here 3 name_q) name_v) (v_of 2)
q_v = Denotes.field (Denotes.here (Finds.direct refl)) (Finds.direct refl)

flattens : Flattens cells flat_cells
flattens = record {
  symbols = refl;
  vars = refl;
  selector = refl;
  processes = refl;
  assigns = (
    (refl, Selects.cell own_p refl AreIndexes.last_index, refl, Expands.number, refl),
    (
      (refl, Selects.cell own_p refl AreIndexes.last_index, refl, Expands.negation (Expands.variable (Selects.cell other_p refl AreIndexes.last_index)), refl),
      (
        (refl, Selects.cell own_q refl AreIndexes.last_index, refl, Expands.number, refl),
        (
          (refl, Selects.cell own_q refl AreIndexes.last_index, refl, Expands.negation (Expands.variable (Selects.cell other_q refl AreIndexes.last_index)), refl),
          tt,
        ),
      ),
    ),
  );
  inits = tt;
  invars = tt;
  trans = tt;
  constraints = tt;
  specs = ((Expands.quantified (Expands.parens (Expands.binary (Expands.variable (Selects.cell p_v refl AreIndexes.last_index)) (Expands.variable (Selects.cell q_v refl AreIndexes.last_index)))), refl), tt);
}
