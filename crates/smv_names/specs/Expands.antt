-- The expressions of a program with their paths replaced by what they denote.
use Rattle.std.specs.Prelude.{◌≡◌, ℕ, ◌≤◌, Bool, true, false, ◌&&◌, List, [], ◌∷◌, pos, Ok, IsTrue, IsFalse}
use Rattle.kripke_model.specs.declared.expressions.Value.{Value}
use Rattle.kripke_model.specs.declared.expressions.Value.TheVariants.{Number, Symbol}
use Rattle.kripke_model.specs.declared.expressions.BinOp.{BinOp}
use Rattle.kripke_model.specs.declared.expressions.PathOp.{PathOp}
use Rattle.kripke_model.specs.Term.{Term, Terms, Arms}
use Rattle.kripke_model.specs.System.{System}
use Rattle.kripke_model.specs.Evaluation.{eval, truth_value}
use Rattle.smv_instances.specs.Program.{Name, Expr, Exprs, Path, Plain, Program}
use Rattle.smv_instances.specs.Program
use Rattle.smv_instances.specs.Instances.{Scope, process_name, processes, spelled, indexed, place_of, symbols, variable_names}
use Rattle.smv_names.specs.Denotes.{Bracket, Target, Denotes}

abbrev pub is_array : Plain → Bool
is_array (Plain.Array low high element) = true
is_array Plain.Boolean = false
is_array (Plain.Enumeration constants) = false
is_array (Plain.Range low high) = false

-- ---- indexes

abbrev pub is_number : Value → Bool
is_number (Number i) = true
is_number (Symbol c) = false

abbrev pub is_sum_or_product : BinOp → Bool
is_sum_or_product BinOp.Mul = true
is_sum_or_product BinOp.Div = true
is_sum_or_product BinOp.Add = true
is_sum_or_product BinOp.Sub = true
is_sum_or_product BinOp.Mod = true
is_sum_or_product op = false

-- it holds numbers and `+ - * / mod` alone
abbrev pub is_arithmetic : Term → Bool
is_arithmetic (Term.Const v) = is_number v
is_arithmetic (Term.Binary op a b) = is_sum_or_product op && is_arithmetic a && is_arithmetic b
is_arithmetic e = false

abbrev pub no_system : System
no_system = record {
  symbols = [];
  vars = [];
  selector = false;
  processes = [];
  assigns = [];
  inits = [];
  invars = [];
  trans = [];
  constraints = [];
  specs = [];
}

-- the one value of an expression that asks for no state
abbrev pub HasValue : Term → ℕ → Type 0
HasValue e n = eval no_system e [] [] ≡ Ok (Number (pos n) ∷ [])

-- the name of an element: the indexes stand last one first
abbrev pub element_name : Name → List ℕ → Name
element_name x [] = x
element_name x (n ∷ ns) = indexed (element_name x ns) n

-- ---- expressions

mutual
  -- in the scope s the expression stands for the term
  pub data Expands (p : Program) : Scope → Expr → Term → Type 0 where
    number : {s : Scope} {n : ℕ} → Expands p s (Expr.Number n) (Term.Const (Number (pos n)))
    truth : {s : Scope} {b : Bool} → Expands p s (Expr.Truth b) (Term.Const (truth_value b))
    running : {s : Scope}
        → Expands p s Expr.Running (Term.Running (place_of (processes p) (process_name s)))
    variable : {s : Scope} {q : Path} {x : ℕ} → Selects p s q x
        → Expands p s (Expr.At q) (Term.Var x)
    constant : {s : Scope} {q : Path} {x : Name} → Denotes p s q (Target.Constant x)
        → Expands p s (Expr.At q) (Term.Const (Symbol (place_of (symbols p) x)))
    read : {s : Scope} {q : Path} {home : Scope} {e : Expr} {t : Term}
        → Denotes p s q (Target.Reading home e) → Expands p home e t → Expands p s (Expr.At q) t
    next : {s : Scope} {e : Expr} {t : Term} → Expands p s e t
        → Expands p s (Expr.Next e) (Term.Next t)
    parens : {s : Scope} {e : Expr} {t : Term} → Expands p s e t → Expands p s (Expr.Parens e) t
    braces : {s : Scope} {es : Exprs} {ts : Terms} → ExpandElements p s es ts
        → Expands p s (Expr.Braces es) (Term.Braces ts)
    cases : {s : Scope} {arms : Program.Arms} {ts : Arms} → ExpandArms p s arms ts
        → Expands p s (Expr.Case arms) (Term.Case ts)
    negation : {s : Scope} {e : Expr} {t : Term} → Expands p s e t
        → Expands p s (Expr.Not e) (Term.Not t)
    binary : {s : Scope} {op : BinOp} {a b : Expr} {t u : Term} → Expands p s a t → Expands p s b u
        → Expands p s (Expr.Binary op a b) (Term.Binary op t u)
    quantified : {s : Scope} {op : PathOp} {e : Expr} {t : Term} → Expands p s e t
        → Expands p s (Expr.Quant op e) (Term.Quant op t)
    until : {s : Scope} {all : Bool} {a b : Expr} {t u : Term} → Expands p s a t → Expands p s b u
        → Expands p s (Expr.Until all a b) (Term.Until all t u)

  pub data ExpandElements (p : Program) : Scope → Exprs → Terms → Type 0 where
    last_element : {s : Scope} → ExpandElements p s Exprs.none Terms.none
    element : {s : Scope} {e : Expr} {es : Exprs} {t : Term} {ts : Terms} → Expands p s e t
        → ExpandElements p s es ts → ExpandElements p s (Exprs.more e es) (Terms.more t ts)

  pub data ExpandArms (p : Program) : Scope → Program.Arms → Arms → Type 0 where
    last_arm : {s : Scope} → ExpandArms p s Program.Arms.esac Arms.esac
    arm : {s : Scope} {guard right : Expr} {rest : Program.Arms} {t u : Term} {ts : Arms}
        → Expands p s guard t → Expands p s right u → ExpandArms p s rest ts
        → ExpandArms p s (Program.Arms.arm guard right rest) (Arms.arm t u ts)

  -- the path denotes the flat variable of this number
  pub data Selects (p : Program) : Scope → Path → ℕ → Type 0 where
    cell : {s : Scope} {q : Path} {home : Scope} {x : Name} {type : Plain} {indexes : List Bracket}
        {ns : List ℕ}
        → Denotes p s q (Target.Stored home x type indexes) → IsFalse (is_array type)
        → AreIndexes p indexes ns
        → Selects p s q (place_of (variable_names p) (element_name (spelled home x) ns))

  -- the value of an index
  pub data IsIndex (p : Program) : Bracket → ℕ → Type 0 where
    value : {i : Bracket} {t : Term} {n : ℕ} → Expands p i.scope i.index t
        → IsTrue (is_arithmetic t) → HasValue t n → i.low ≤ n → n ≤ i.high → IsIndex p i n

  pub data AreIndexes (p : Program) : List Bracket → List ℕ → Type 0 where
    last_index : AreIndexes p [] []
    index : {i : Bracket} {indexes : List Bracket} {n : ℕ} {ns : List ℕ} → IsIndex p i n
        → AreIndexes p indexes ns → AreIndexes p (i ∷ indexes) (n ∷ ns)
