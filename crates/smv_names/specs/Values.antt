-- The numbers that expressions stand for, and how large their terms are.
use Rattle.std.specs.Prelude.{◌≡◌, ℕ, ◌+◌, ℤ, pos, negsuc, int_le, ◌&&◌, if◌then◌else◌, List, [], ◌∷◌, min, max, Ok, Option, Some, None, IsTrue, MatchOption}
use Rattle.std.specs.Ordering.{int_eq}
use Rattle.kripke_model.specs.declared.expressions.Value.{Value}
use Rattle.kripke_model.specs.declared.expressions.Value.TheVariants.{Number}
use Rattle.kripke_model.specs.declared.expressions.BinOp.{BinOp}
use Rattle.kripke_model.specs.Term.{Term, Terms, Arms}
use Rattle.kripke_model.specs.Size.{term_nodes, nesting, element_nodes, element_nesting, arm_nodes, arm_nesting}
use Rattle.kripke_model.specs.Evaluation.{Checked, eval, binary}
use Rattle.smv_instances.specs.Program.{Expr, Exprs, Program}
use Rattle.smv_instances.specs.Program
use Rattle.smv_instances.specs.Instances.{Scope}
use Rattle.smv_names.specs.declared.sizes.Size.{Size}
use Rattle.smv_names.specs.Expands.{is_arithmetic, is_sum_or_product, no_system, Expands, ExpandElements, ExpandArms}

-- ---- numbers

-- the expression, read in s, stands for an arithmetic term with this one number
pub record HasNumber (p : Program) (s : Scope) (e : Expr) (n : ℤ) : Type 0 where
  pub term : Term
  pub expands : Expands p s e term
  pub arithmetic : IsTrue (is_arithmetic term)
  pub value : eval no_system term [] [] ≡ Ok (Number n ∷ [])

-- the number of the expression, or none where it has none
abbrev pub IsNumber : Program → Scope → Expr → Option ℤ → Type 0
IsNumber p s e found = MatchOption found ((n : ℤ) → HasNumber p s e n → ⊥) (λ n. HasNumber p s e n)

-- an operation on two numbers comes to n
abbrev pub Gives : BinOp → ℤ → ℤ → ℤ → Type 0
Gives op i j n
    = IsTrue (is_sum_or_product op)
    × (binary op (Ok (Number i ∷ [])) (Ok (Number j ∷ [])) ≡ Ok (Number n ∷ []))

-- what a computation's one number is, or none where it has none
abbrev pub ComesTo : Checked (List Value) → Option ℤ → Type 0
ComesTo c found
    = MatchOption found ((n : ℤ) → c ≡ Ok (Number n ∷ []) → ⊥) (λ n. c ≡ Ok (Number n ∷ []))

-- the number, if it lies in 32 bits
abbrev pub bounded_number : ℤ → Option ℤ
bounded_number z
    = if int_le (negsuc 2147483647) z && int_le z (pos 2147483647) then Some z else None

-- the quotient or the remainder, if it lies in 32 bits
abbrev pub quotient_number : (ℤ → ℤ → ℤ) → ℤ → ℤ → Option ℤ
quotient_number f i j = if int_eq j (pos 0) then None else bounded_number (f i j)

abbrev pub OperationComesTo : BinOp → ℤ → ℤ → Option ℤ → Type 0
OperationComesTo op i j found
    = MatchOption found ((n : ℤ) → Gives op i j n → ⊥) (λ n. Gives op i j n)

-- the number of an abbreviation with this text
abbrev pub IsNumberOf : Program → Option (Scope × Expr) → Option ℤ → Type 0
IsNumberOf p None found = found ≡ None
IsNumberOf p (Some r) found = IsNumber p r.0 r.1 found

-- ---- sizes

abbrev pub most_nodes : ℕ
most_nodes = 200001

abbrev pub most_nesting : ℕ
most_nesting = 1025

-- so many nodes, so deep
pub record IsSize (size : Size) (nodes deep : ℕ) : Type 0 where
  pub nodes_are : size.nodes ≡ min nodes most_nodes
  pub nesting_is : size.nesting ≡ min deep most_nesting

-- the size of the term, if the expression stands for one
abbrev pub IsSizeOf : Program → Scope → Expr → Size → Type 0
IsSizeOf p s e size = (t : Term) → Expands p s e t → IsSize size (term_nodes t) (nesting t)

-- that of an expression with these two parts
abbrev pub BothSizeOf : Program → Scope → Expr → Expr → Size → Type 0
BothSizeOf p s a b size
    = (t u : Term) → Expands p s a t → Expands p s b u
    → IsSize size (1 + term_nodes t + term_nodes u) (1 + max (nesting t) (nesting u))

abbrev pub AreSizesOf : Program → Scope → Exprs → Size → Type 0
AreSizesOf p s es size
    = (ts : Terms) → ExpandElements p s es ts → IsSize size (element_nodes ts) (element_nesting ts)

abbrev pub AreArmSizesOf : Program → Scope → Program.Arms → Size → Type 0
AreArmSizesOf p s arms size
    = (ts : Arms) → ExpandArms p s arms ts → IsSize size (arm_nodes ts) (arm_nesting ts)

-- that of an abbreviation with this text; what has none is a variable or a constant
abbrev pub IsSizeOfText : Program → Option (Scope × Expr) → Size → Type 0
IsSizeOfText p None size = IsSize size 1 1
IsSizeOfText p (Some r) size = IsSizeOf p r.0 r.1 size
