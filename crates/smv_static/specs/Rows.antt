-- Small models for the static rules, of which the tests speak: variables 1 and 2 are Boolean, and there are two
-- processes.
use Rattle.std.specs.Prelude.{ℕ, true, List, [], ◌∷◌, pos}
use Rattle.kripke_model.specs.declared.expressions.Value.TheVariants.{Number}
use Rattle.kripke_model.specs.declared.expressions.BinOp.{BinOp}
use Rattle.kripke_model.specs.declared.expressions.PathOp.{PathOp}
use Rattle.kripke_model.specs.declared.models.Part.{Part}
use Rattle.kripke_model.specs.Term.{Term}
use Rattle.kripke_model.specs.System.{System, Variable, Assignment, Condition}
use Rattle.kripke_model.specs.Flat.{main_name}

abbrev pub boolean : List ℕ → Variable
boolean name = record { name = name; values = Number (pos 0) ∷ Number (pos 1) ∷ []; line = 1 }

-- the selector `running`, a and b
abbrev pub variables : List Variable
variables = boolean (114 ∷ 117 ∷ 110 ∷ 110 ∷ 105 ∷ 110 ∷ 103 ∷ []) ∷ boolean (97 ∷ [])
    ∷ boolean (98 ∷ []) ∷ []

-- two processes, main and p
abbrev pub two_processes : List Assignment → List Condition → System
two_processes assigns specs = record {
  symbols = [];
  vars = variables;
  selector = true;
  processes = main_name ∷ (112 ∷ []) ∷ [];
  assigns = assigns;
  inits = [];
  invars = [];
  trans = [];
  constraints = [];
  specs = specs;
}

abbrev pub assigned : Part → ℕ → ℕ → Term → ℕ → Assignment
assigned part var process right line
    = record { part = part; var = var; process = process; right = right; line = line }

-- a := 1; init(a) := b;
abbrev pub beside_row : System
beside_row = two_processes
    (assigned Part.Now 1 0 (Term.Const (Number (pos 1))) 3 ∷ assigned Part.Init 1 0 (Term.Var 2) 4
    ∷ []) []

-- a := b; and in main next(b) := next(a);
abbrev pub circular_row : System
circular_row
    = two_processes
    (assigned Part.Now 1 0 (Term.Var 2) 3
    ∷ assigned Part.Next 2 0 (Term.Next (Term.Var 1)) 4 ∷ []) []

-- next(a) := next(b); in main and next(b) := next(a); in p; AX a & !b
abbrev pub apart_row : System
apart_row = two_processes
    (assigned Part.Next 1 0 (Term.Next (Term.Var 2)) 3
    ∷ assigned Part.Next 2 1 (Term.Next (Term.Var 1)) 4 ∷ [])
    (record {
      expr = Term.Binary BinOp.And (Term.Quant PathOp.AX (Term.Var 1)) (Term.Not (Term.Var 2));
      line = 5;
    } ∷ [])
