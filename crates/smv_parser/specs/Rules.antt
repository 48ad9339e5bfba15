-- The rules of expressions one by one, each level by itself. `specs/Grammar.antt` has them in one; the law `rules` says
-- that these are the same.
use Rattle.std.specs.Prelude.{◌≡◌, ℕ, ◌+◌, ◌≤◌, true, List, ◌∷◌, ◌++◌}
use Rattle.smv_lexer.specs.Text.{Placed}
use Rattle.smv_parser.specs.declared.expressions.BinaryOperator.{BinaryOperator}
use Rattle.smv_parser.specs.declared.expressions.PrefixOperator.{PrefixOperator}
use Rattle.smv_parser.specs.Grammar.{Derives}
use Rattle.smv_parser.specs.Tree.{Tree, Form, on_line}
use Rattle.smv_parser.specs.Words.{binary_word, level_of, prefix_word, Is, BeginsOn}

-- the tree x of an operator of level k, with what stands left and right of it
pub record IsNode (k : ℕ) (ts a : List Placed) (e : Tree) (b : List Placed)
    (f x : Tree) : Type 0 where
  pub operator : BinaryOperator
  pub token : Placed
  pub line : ℕ
  pub of_level : level_of operator ≡ k
  pub split : ts ≡ a ++ token ∷ b
  pub is_operator : Is (binary_word operator) token
  pub begins : BeginsOn line ts
  pub tree : x ≡ on_line line (Form.binary operator e f)

-- the tree x of a prefix operator, with what stands after it
pub record IsPrefix (ts a : List Placed) (e x : Tree) : Type 0 where
  pub operator : PrefixOperator
  pub token : Placed
  pub split : ts ≡ token ∷ a
  pub is_operator : Is (prefix_word operator) token
  pub tree : x ≡ on_line token.line (Form.prefix operator e)

-- without a prefix operator outside brackets: operands at level 11, below it chains of operands by operators
pub data Chain : ℕ → List Placed → Tree → Type 0 where
  operand : (ts : List Placed) (x : Tree) → Derives true 11 ts x → Chain 11 ts x
  alone : (k : ℕ) (ts : List Placed) (x : Tree) → 5 ≤ k → k ≤ 10 → Chain (k + 1) ts x → Chain k ts x
  node : (k : ℕ) (ts a : List Placed) (e : Tree) (b : List Placed) (f x : Tree) → 5 ≤ k → k ≤ 10
      → IsNode k ts a e b f x → Chain k a e → Chain (k + 1) b f → Chain k ts x

mutual
  -- a prefix operator, and then level 4
  pub data Prefixed : List Placed → Tree → Type 0 where
    prefixed : (ts a : List Placed) (e x : Tree) → IsPrefix ts a e x → Level 4 a e → Prefixed ts x

  -- a chain of level k, an operator of its level, and then a prefix operator, or the same of a higher level
  pub data Open : ℕ → List Placed → Tree → Type 0 where
    ends : (k : ℕ) (ts a : List Placed) (e : Tree) (b : List Placed) (f x : Tree) → 5 ≤ k → k ≤ 10
        → IsNode k ts a e b f x → Chain k a e → Prefixed b f → Open k ts x
    goes_on : (k : ℕ) (ts a : List Placed) (e : Tree) (b : List Placed) (f x : Tree) → 5 ≤ k → k ≤ 9
        → IsNode k ts a e b f x → Chain k a e → Open (k + 1) b f → Open k ts x
    above : (k : ℕ) (ts : List Placed) (x : Tree) → 5 ≤ k → k ≤ 9 → Open (k + 1) ts x → Open k ts x

  -- level 4, and below it chains by `&`, by `|`, and by `->` and `<->`
  pub data Level : ℕ → List Placed → Tree → Type 0 where
    with_prefix : (ts : List Placed) (x : Tree) → Prefixed ts x → Level 4 ts x
    chain : (ts : List Placed) (x : Tree) → Chain 5 ts x → Level 4 ts x
    open_chain : (ts : List Placed) (x : Tree) → Open 5 ts x → Level 4 ts x
    lone : (k : ℕ) (ts : List Placed) (x : Tree) → 1 ≤ k → k ≤ 3 → Level (k + 1) ts x → Level k ts x
    joined : (k : ℕ) (ts a : List Placed) (e : Tree) (b : List Placed) (f x : Tree) → 1 ≤ k → k ≤ 3
        → IsNode k ts a e b f x → Level k a e → Level (k + 1) b f → Level k ts x
