-- The reader of expressions reads exactly the grammar's expressions.
use Rattle.std.proofs.Common.{◌≡◌, ℕ, zero, suc, ◌-◌, ◌≤◌, ◌<◌, max, leb, ◌⊎◌, inl, inr, true, false, List, [], ◌∷◌, length, refl, arith}
use Rattle.std.proofs.lemmas.Bool.Decides.{leb_tells}
use Rattle.reader_laws.specs.Reading.{◌>>=◌, switch, after_first, many, enclosed, both, expect}
use Rattle.reader_laws.specs.Reading.Reading.{found, syntax_error, too_deep}
use Rattle.reader_laws.specs.Places.{IsSyntaxPlace, IsTooDeepPlace}
use Rattle.reader_laws.proofs.Places as places
use Rattle.reader_laws.proofs.Places.{one_tree}
use Rattle.smv_lexer.specs.declared.keyword.Keyword.{Keyword}
use Rattle.smv_lexer.specs.declared.sign.Sign.{Sign}
use Rattle.smv_lexer.specs.Text.{Kind}
use Rattle.smv_lexer.specs.Text.Kind.{word, key, mark}
use Rattle.smv_parser.specs.declared.expressions.PrefixOperator.{PrefixOperator}
use Rattle.smv_parser.specs.Tests.{sign_number}
use Rattle.reader_laws.proofs.Readers.{Reads}
use Rattle.smv_lexer.specs.Text.{Placed}
use Rattle.smv_parser.specs.Tree.{Tree, Form, on_line, path_on, no_parts, depth, path_depth}
use Rattle.smv_parser.specs.Grammar.{Derives, DerivesPath}
use Rattle.smv_parser.specs.Reading.{read, operand, operand_by, with_room, tail, more, operator_step, read_parts, read_path, read_arm}
use Rattle.smv_parser.proofs.Follow.{Ends, PathEnds, depth_pos}
use Rattle.smv_parser.proofs.Operators.{level_reads}
use Rattle.smv_parser.proofs.Shapes.{operand_reads, path_derives}

pub expression_reads : (b : ℕ) → 1 ≤ b → (k : ℕ) → Reads (Derives false k) (λ e. depth e ≤ b) (Ends k) (read b k)
unfolding read
expression_reads zero h k = absurd (omega arith)
expression_reads (suc b) h k = level_reads (read b) b (operand_reads (read b) b (λ pos. expression_reads b pos)) (λ pos. expression_reads b pos) k

-- paths whose indexes have at most depth b
pub path_reads : (b : ℕ) → Reads DerivesPath (λ p. path_depth p ≤ suc b) PathEnds (read_path (read b) b)
path_reads b = path_derives (read b) b (λ pos. expression_reads b pos)

no_more : (e : Tree) → Ends 1 e []
no_more e = (((λ o i. absurd cc), λ z. refl), λ o i. absurd cc)

decide : (b : ℕ) (e : Tree) → (depth e ≤ b) ⊎ (depth e ≤ b → ⊥)
decide b e = by_tests (leb_tells (depth e) b)
  where
    by_tests : ((leb (depth e) b ≡ true) × (depth e ≤ b)) ⊎ ((leb (depth e) b ≡ false) × (b < depth e)) → (depth e ≤ b) ⊎ (depth e ≤ b → ⊥)
    by_tests (inl p) = inl p.1
    by_tests (inr p) = inr (λ h. let q = p.1 in omega arith)

-- the grammar of expressions is unambiguous
pub one_expression : (s : List Placed) (e f : Tree) → Derives false 1 s e → Derives false 1 s f → e ≡ f
one_expression s e f d d' =
    let b : ℕ = max (depth e) (depth f) in
    one_tree (Derives false 1) (λ x. depth x ≤ b) (Ends 1) (read b 1) (expression_reads b (omega (arith, depth_pos e)) 1) no_more (decide b) s e f d d' (omega arith) (omega arith)

module _ (b : ℕ) (some : 1 ≤ b) where
  pub syntax_place : (s rest : List Placed) → read b 1 s ≡ syntax_error rest → IsSyntaxPlace (Derives false 1) (λ e. depth e ≤ b) s (length s - length rest)
  syntax_place s rest h = places.syntax_place (Derives false 1) (λ e. depth e ≤ b) (Ends 1) (read b 1) (expression_reads b some 1) no_more (decide b) s rest (read b 1 s) refl ((expression_reads b some 1).outcome s) h

  pub deep_place : (s rest : List Placed) → read b 1 s ≡ too_deep rest → IsTooDeepPlace (Derives false 1) (λ e. depth e ≤ b) s (length s - length rest)
  deep_place s rest h = places.deep_place (Derives false 1) (λ e. depth e ≤ b) (Ends 1) (read b 1) (expression_reads b some 1) no_more (decide b) s rest (read b 1 s) ((expression_reads b some 1).outcome s) h

  pub derived : (s : List Placed) (e : Tree) → read b 1 s ≡ found e [] → Derives false 1 s e × (depth e ≤ b)
  derived s e h = places.whole_found (Derives false 1) (λ e. depth e ≤ b) (Ends 1) (read b 1) (expression_reads b some 1) no_more (decide b) s e (read b 1 s) ((expression_reads b some 1).outcome s) h

-- 256 signs of negation and a name: too deep at the last sign; with one less it is an expression
abbrev token : Kind → Placed
token k = record { kind = k; at = 0; end = 0; line = 1 }

abbrev nots : ℕ → List Placed → List Placed
nots zero s = s
nots (suc n) s = token (mark Sign.Not) ∷ nots n s

abbrev x : Placed
x = token (word (120 ∷ []))

too_many : read 256 1 (nots 256 (x ∷ [])) ≡ too_deep (token (mark Sign.Not) ∷ x ∷ [])
unfolding read operand switch operand_by with_room after_first tail more operator_step ◌>>=◌ read_parts many
too_many = refl

pub too_many_at : IsTooDeepPlace (Derives false 1) (λ e. depth e ≤ 256) (nots 256 (x ∷ [])) 255
too_many_at = deep_place 256 (omega arith) (nots 256 (x ∷ [])) (token (mark Sign.Not) ∷ x ∷ []) too_many

abbrev nested : ℕ → Tree
nested zero = on_line 1 (Form.path (path_on 1 (120 ∷ []) no_parts))
nested (suc n) = on_line 1 (Form.prefix PrefixOperator.Not (nested n))

pub just_enough : read 256 1 (nots 255 (x ∷ [])) ≡ found (nested 255) []
unfolding read operand switch operand_by with_room after_first tail more operator_step ◌>>=◌ read_parts many
just_enough = refl

-- case x : ends too early
abbrev early : List Placed
early = token (key Keyword.Case) ∷ x ∷ token (mark Sign.Colon) ∷ []

early_read : read 256 1 early ≡ syntax_error []
unfolding read operand switch operand_by with_room after_first tail more operator_step ◌>>=◌ read_parts many read_arm enclosed both expect sign_number
early_read = refl

pub early_at : IsSyntaxPlace (Derives false 1) (λ e. depth e ≤ 256) early 3
early_at = syntax_place 256 (omega arith) early [] early_read
