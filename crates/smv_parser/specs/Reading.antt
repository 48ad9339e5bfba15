-- Reading an expression from left to right, within a depth.
use Rattle.std.specs.Prelude.{◌≡◌, ◌<◌, ℕ, zero, suc, ◌+◌, cond, nat_le, Bool, true, false, length, List, [], ◌∷◌, Option, Some, None}
use Rattle.reader_laws.specs.Reading.{Reading, ◌>>=◌, accept, switch, many, first_line, after_first, headed, enclosed, both}
use Rattle.reader_laws.specs.Reading.Reading.{found, syntax_error, too_deep}
use Rattle.smv_lexer.specs.declared.keyword.Keyword.{Keyword}
use Rattle.smv_lexer.specs.declared.sign.Sign.{Sign}
use Rattle.smv_lexer.specs.Text.{Placed}
use Rattle.smv_parser.specs.declared.expressions.BinaryOperator.{BinaryOperator}
use Rattle.smv_parser.specs.declared.tokens.Lead.{Lead}
use Rattle.smv_parser.specs.Tree.{Tree, Form, PathTree, Part, on_line, path_on, field_part, index_part, depth, parts_of, trees_of, arms_of}
use Rattle.smv_parser.specs.Words.{level_of, prefix_level}
use Rattle.smv_parser.specs.Tests.{is_sign, is_key, lead_of, operator_of, name_of, number_of}

abbrev pub line_of : Tree → ℕ
line_of (on_line line form) = line

abbrev pub path_line : PathTree → ℕ
path_line (path_on line first parts) = line

-- the line of the first token
abbrev pub front_line : List Placed → ℕ
front_line s = first_line (λ (t : Placed). t.line) s

abbrev pub binary : BinaryOperator → Tree → Tree → Tree
binary o e f = on_line (line_of e) (Form.binary o e f)

-- the text of a name, the value of a number
abbrev pub some_or : {A : Type 0} → A → Option A → A
some_or d None = d
some_or d (Some x) = x

abbrev pub text_of : Placed → List ℕ
text_of t = some_or [] (name_of t)

abbrev pub value_of : Placed → ℕ
value_of t = some_or 0 (number_of t)

abbrev pub begins_part : Placed → Bool
begins_part t = cond (is_sign Sign.Dot t) true (is_sign Sign.OpenBracket t)

-- true for a dot
abbrev pub is_dot : Placed → Bool
is_dot t = is_sign Sign.Dot t

abbrev pub is_bracket : Placed → Bool
is_bracket t = is_sign Sign.OpenBracket t

pub data PartLead : Type 0 where
  dot : PartLead
  bracket : PartLead
  neither : PartLead

abbrev pub part_lead : Placed → PartLead
part_lead t = cond (is_dot t) dot (cond (is_bracket t) bracket neither)

abbrev pub leads : Lead → Bool
leads Lead.Other = false
leads _ = true

-- expressions stand after it
abbrev pub opens : Lead → Bool
opens Lead.Next = true
opens Lead.Parens = true
opens Lead.Braces = true
opens Lead.Case = true
opens (Lead.Until q) = true
opens (Lead.Prefix o) = true
opens _ = false

-- the form of an operand that is this one token
abbrev pub constant_by : Lead → Placed → Option Form
constant_by Lead.Number t = Some (Form.number (value_of t))
constant_by (Lead.Truth v) t = Some (Form.truth v)
constant_by Lead.Running t = Some Form.running
constant_by _ t = None

abbrev pub constant_form : Placed → Option Form
constant_form t = constant_by (lead_of t) t

abbrev pub begins_expression : Placed → Bool
begins_expression t = leads (lead_of t)

abbrev pub operator_at : List Placed → Option BinaryOperator
operator_at [] = None
operator_at (t ∷ s) = operator_of t

-- no operator of the level or above comes next
abbrev pub Stops : ℕ → List Placed → Type 0
Stops k r = (o : BinaryOperator) → operator_at r ≡ Some o → level_of o < k

-- where there is room for one level more
unfoldable pub with_room : {A : Type 0} → ℕ → (List Placed → Reading Placed A) → List Placed
    → Reading Placed A
with_room b run s = cond (nat_le 1 b) (run s) (too_deep s)

-- reader reads the expressions inside, which have at most depth b
module _ (reader : ℕ → List Placed → Reading Placed Tree) (b : ℕ) where
  unfoldable pub part_tail : List Placed → Reading Placed Part
  part_tail s = accept name_of s >>= λ n r. found (field_part n) r

  unfoldable pub index_tail : List Placed → Reading Placed Part
  index_tail s = enclosed (is_sign Sign.CloseBracket) (reader 1) s >>= λ e r. found (index_part e) r

  unfoldable pub part_by : PartLead → List Placed → Reading Placed Part
  part_by dot s = after_first (λ _. part_tail) s
  part_by bracket s = with_room b (after_first (λ _. index_tail)) s
  part_by neither s = syntax_error s

  unfoldable pub read_part : List Placed → Reading Placed Part
  read_part s = switch part_lead part_by s

  unfoldable pub read_parts : List Placed → Reading Placed (List Part)
  read_parts s = many begins_part read_part (length s) s

  -- a path whose indexes are read by reader
  unfoldable pub read_path : List Placed → Reading Placed PathTree
  read_path s = both (accept name_of) read_parts s >>= λ z r. found
      (path_on (front_line s) z.0 (parts_of z.1)) r

  unfoldable pub read_others : List Placed → Reading Placed (List Tree)
  read_others s = many (is_sign Sign.Comma) (headed (is_sign Sign.Comma) (reader 1)) (length s) s

  unfoldable pub read_list : List Placed → Reading Placed (Tree × List Tree)
  read_list s = both (reader 1) read_others s

  unfoldable pub read_arm : List Placed → Reading Placed (Tree × Tree)
  read_arm s = both (enclosed (is_sign Sign.Colon) (reader 1))
      (enclosed (is_sign Sign.Semicolon) (reader 1)) s

  unfoldable pub read_arms : List Placed → Reading Placed (List (Tree × Tree))
  read_arms s = many begins_expression read_arm (length s) s

  unfoldable pub read_until : List Placed → Reading Placed (Tree × Tree)
  read_until s
      = both (enclosed (is_key Keyword.Until) (reader 1))
      (enclosed (is_sign Sign.CloseBracket) (reader 1)) s

  -- what stands after the first token of an operand
  unfoldable pub tail : Lead → Placed → List Placed → Reading Placed Tree
  tail Lead.Name t s
      = read_parts s >>= λ ps r. found
      (on_line t.line (Form.path (path_on t.line (text_of t) (parts_of ps)))) r
  tail Lead.Number t s = found (on_line t.line (Form.number (value_of t))) s
  tail (Lead.Truth v) t s = found (on_line t.line (Form.truth v)) s
  tail Lead.Running t s = found (on_line t.line Form.running) s
  tail Lead.Next t s
      = headed (is_sign Sign.OpenParen)
      (enclosed (is_sign Sign.CloseParen) (reader 1)) s >>= λ e r. found
      (on_line t.line (Form.next e)) r
  tail Lead.Parens t s
      = enclosed (is_sign Sign.CloseParen) (reader 1) s >>= λ e r. found
      (on_line t.line (Form.parens e)) r
  tail Lead.Braces t s
      = enclosed (is_sign Sign.CloseBrace) read_list s >>= λ es r. found
      (on_line t.line (Form.braces (trees_of (es.0 ∷ es.1)))) r
  tail Lead.Case t s
      = enclosed (is_key Keyword.Esac) (both read_arm read_arms) s >>= λ arms r. found
      (on_line t.line (Form.cases (arms_of (arms.0 ∷ arms.1)))) r
  tail (Lead.Until q) t s
      = headed (is_sign Sign.OpenBracket) read_until s >>= λ es r. found
      (on_line t.line (Form.until q es.0 es.1)) r
  tail (Lead.Prefix o) t s
      = reader prefix_level s >>= λ e r. found (on_line t.line (Form.prefix o e)) r
  tail Lead.Other t s = syntax_error (t ∷ s)

  unfoldable pub operand_by : Lead → List Placed → Reading Placed Tree
  operand_by Lead.Name s = after_first (tail Lead.Name) s
  operand_by Lead.Number s = after_first (tail Lead.Number) s
  operand_by (Lead.Truth v) s = after_first (tail (Lead.Truth v)) s
  operand_by Lead.Running s = after_first (tail Lead.Running) s
  operand_by Lead.Other s = syntax_error s
  operand_by lead s = with_room b (after_first (tail lead)) s

  unfoldable pub operand : List Placed → Reading Placed Tree
  operand s = switch lead_of operand_by s

  -- the next token t is the operator, or is none; next reads on after the operator's node
  unfoldable pub operator_step : ℕ → Tree → Placed → List Placed
      → (Tree → List Placed → Reading Placed Tree) → Option BinaryOperator → Reading Placed Tree
  operator_step k e t s next None = found e (t ∷ s)
  operator_step k e t s next (Some o) =
      cond (nat_le k (level_of o))
      (cond (nat_le (depth e) b) (reader (level_of o + 1) s >>= λ f r. next (binary o e f) r)
      (too_deep (t ∷ s)))
      (found e (t ∷ s))

  -- the operators of level k and above after the left operand e; fuel is at least the number of tokens
  unfoldable pub more : ℕ → ℕ → Tree → List Placed → Reading Placed Tree
  more zero k e s = found e s
  more (suc fuel) k e [] = found e []
  more (suc fuel) k e (t ∷ s) = operator_step k e t s (more fuel k) (operator_of t)

-- an expression of level k and of at most this depth
unfoldable pub read : ℕ → ℕ → List Placed → Reading Placed Tree
read zero k s = too_deep s
read (suc b) k s = operand (read b) b s >>= more (read b) b (length s) k

-- a list that isn't empty, as its first member and the others
abbrev pub pair_of : List Tree → Tree × List Tree
pair_of [] = (on_line 0 Form.running, [])
pair_of (e ∷ es) = (e, es)

abbrev pub arms_pair_of : List (Tree × Tree) → (Tree × Tree) × List (Tree × Tree)
arms_pair_of [] = ((on_line 0 Form.running, on_line 0 Form.running), [])
arms_pair_of (a ∷ rest) = (a, rest)
