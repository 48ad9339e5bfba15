-- Right sides with a value that the variable's type lacks.
use Rattle.std.proofs.Common.{◌≡◌, ℕ, zero, suc, ◌<◌, List, [], ◌∷◌, refl, Bool, true, false, arith, ap, lit<, get_or}
use Rattle.std.specs.Prelude.{Contains, Some, None, Option}
use Rattle.kripke_model.specs.declared.expressions.Value.{Value}
use Rattle.kripke_model.specs.declared.expressions.Value.TheVariants.{Symbol}
use Rattle.kripke_model.specs.declared.expressions.BinOp.{BinOp}
use Rattle.kripke_model.specs.declared.expressions.PathOp.{PathOp}
use Rattle.kripke_model.specs.declared.expressions.FaultKind.{FaultKind}
use Rattle.kripke_model.specs.declared.models.Part.{Part}
use Rattle.kripke_model.specs.Term.{Term, esac, arm}
use Rattle.kripke_model.specs.System.{System, Variable, Assignment, State, value_in}
use Rattle.kripke_model.specs.Step.{IsState}
use Rattle.kripke_model.specs.Faults.{IsFaultless, item_fault, RightSide}
use Rattle.kripke_model.proofs.Latch.{num, bit}
use Rattle.kripke_model.proofs.Examples.{constant, symbol, main_name, not_true}

abbrev x_of : List Value → Variable
x_of type = record { name = 120 ∷ []; values = type; line = 2 }

abbrev assigning : Term → Assignment
assigning e = record { part = Part.Next; var = 0; process = 0; right = e; line = 3 }

-- ---- a number that goes on rising: `x : 0..3`, `next(x) := x + 1`, where x = 3 is never reached

abbrev pub raised : Assignment
raised = assigning (Term.Binary BinOp.Add (Term.Var 0) (constant 1))

abbrev pub rising : System
rising = record {
  symbols = [];
  vars = x_of (num 0 ∷ num 1 ∷ num 2 ∷ num 3 ∷ []) ∷ [];
  selector = false;
  processes = main_name ∷ [];
  assigns = raised ∷ [];
  inits = record { expr = Term.Binary BinOp.Eq (Term.Var 0) (constant 0); line = 4 } ∷ [];
  invars = [];
  trans = record { expr = Term.Binary BinOp.Lt (Term.Next (Term.Var 0)) (constant 3); line = 5 } ∷ [];
  constraints = [];
  specs = record { expr = Term.Quant PathOp.AG (Term.Binary BinOp.Lt (Term.Var 0) (constant 3)); line = 6 } ∷ [];
}

pub fault_at_3 : (t : State) → item_fault rising (RightSide raised) (num 3 ∷ []) t ≡ Some FaultKind.OutOfType
fault_at_3 t = refl

pub no_fault_at_0 : (t : State) → item_fault rising (RightSide raised) (num 0 ∷ []) t ≡ None
no_fault_at_0 t = refl

pub no_fault_at_1 : (t : State) → item_fault rising (RightSide raised) (num 1 ∷ []) t ≡ None
no_fault_at_1 t = refl

pub no_fault_at_2 : (t : State) → item_fault rising (RightSide raised) (num 2 ∷ []) t ≡ None
no_fault_at_2 t = refl

state_3 : IsState rising (num 3 ∷ [])
state_3 = record { each = refl; typed = typed }
  where
    typed : (k : ℕ) (v : Variable) → k < 1 → Contains (get_or rising.vars k v).values (value_in (num 3 ∷ []) k)
    typed zero v h = (3, lit< tt, refl)
    typed (suc k) v h = absurd (omega arith)

-- the model has a fault, though none at a state that is reached
pub rising_faults : IsFaultless rising → ⊥
rising_faults h =
    let e : item_fault rising (RightSide raised) (num 3 ∷ []) (num 3 ∷ []) ≡ None = h 0 (RightSide raised) (lit< tt) (num 3 ∷ []) (num 3 ∷ []) state_3 state_3 in
    not_true (ap (λ o. if_none o) e)
  where
    if_none : Option FaultKind → Bool
    if_none None = true
    if_none (Some kind) = false

-- ---- a `case` that falls through: `x : {a, b}`, `next(x) := case x = a : b; esac`

abbrev pub falling : Assignment
falling = assigning (Term.Case (arm (Term.Binary BinOp.Eq (Term.Var 0) (symbol 0)) (symbol 1) esac))

abbrev pub symbols_only : System
symbols_only = record {
  symbols = (97 ∷ []) ∷ (98 ∷ []) ∷ [];
  vars = x_of (Symbol 0 ∷ Symbol 1 ∷ []) ∷ [];
  selector = false;
  processes = main_name ∷ [];
  assigns = falling ∷ [];
  inits = [];
  invars = [];
  trans = [];
  constraints = [];
  specs = record { expr = Term.Quant PathOp.AG (Term.Binary BinOp.Eq (Term.Var 0) (symbol 0)); line = 4 } ∷ [];
}

-- at b the value is the number 1, which is no symbol
pub fault_at_b : (t : State) → item_fault symbols_only (RightSide falling) (Symbol 1 ∷ []) t ≡ Some FaultKind.OutOfType
fault_at_b t = refl

pub no_fault_at_a : (t : State) → item_fault symbols_only (RightSide falling) (Symbol 0 ∷ []) t ≡ None
no_fault_at_a t = refl

-- the same over a boolean, which has the value 1: `next(y) := case y : 0; esac`
abbrev pub turning : Assignment
turning = assigning (Term.Case (arm (Term.Var 0) (constant 0) esac))

abbrev pub boolean_only : System
boolean_only = record symbols_only { symbols = []; vars = x_of bit ∷ []; assigns = turning ∷ []; specs = record { expr = Term.Quant PathOp.AG (Term.Quant PathOp.AF (Term.Var 0)); line = 4 } ∷ [] }

pub no_fault_at_zero : (t : State) → item_fault boolean_only (RightSide turning) (num 0 ∷ []) t ≡ None
no_fault_at_zero t = refl

pub no_fault_at_one : (t : State) → item_fault boolean_only (RightSide turning) (num 1 ∷ []) t ≡ None
no_fault_at_one t = refl
