-- A small model, of which tests and theorems speak: x is set once go was 1, and go is free.
use Rattle.std.specs.Prelude.{ℕ, List, [], ◌∷◌, false, pos}
use Rattle.kripke_model.specs.declared.expressions.Value.{Value}
use Rattle.kripke_model.specs.declared.expressions.Value.TheVariants.{Number}
use Rattle.kripke_model.specs.declared.expressions.PathOp.{PathOp}
use Rattle.kripke_model.specs.declared.models.Part.{Part}
use Rattle.kripke_model.specs.Term.{Term, esac, arm}
use Rattle.kripke_model.specs.System.{System, Assignment, Condition}

abbrev pub num : ℕ → Value
num n = Number (pos n)

abbrev pub bit : List Value
bit = num 0 ∷ num 1 ∷ []

abbrev pub x_term : Term
x_term = Term.Var 0

abbrev pub go_term : Term
go_term = Term.Var 1

abbrev pub latched : Term
latched = Term.Case (arm go_term (Term.Const (num 1)) (arm (Term.Const (num 1)) x_term esac))

abbrev pub init_x : Assignment
init_x = record { part = Part.Init; var = 0; process = 0; right = Term.Const (num 0); line = 4 }

abbrev pub next_x : Assignment
next_x = record { part = Part.Next; var = 0; process = 0; right = latched; line = 5 }

abbrev pub go_fair : Condition
go_fair = record { expr = go_term; line = 6 }

abbrev pub one_fair : Condition
one_fair = record { expr = Term.Const (num 1); line = 7 }

abbrev pub latch : System
latch = record {
  symbols = [];
  vars = record { name = 120 ∷ []; values = bit; line = 2 } ∷ record {
    name = 103 ∷ 111 ∷ [];
    values = bit;
    line = 2;
  } ∷ [];
  selector = false;
  processes = (109 ∷ 97 ∷ 105 ∷ 110 ∷ []) ∷ [];
  assigns = init_x ∷ next_x ∷ [];
  inits = [];
  invars = [];
  trans = [];
  constraints = go_fair ∷ one_fair ∷ [];
  specs = record { expr = Term.Quant PathOp.AF x_term; line = 8 } ∷ [];
}
