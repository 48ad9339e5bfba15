-- The plain program of a parsed one.
use Rattle.std.specs.Prelude.{ℕ, Bool, true, false, List, map}
use Rattle.kripke_model.specs.declared.expressions.BinOp.{BinOp}
use Rattle.kripke_model.specs.declared.expressions.PathOp.{PathOp}
use Rattle.kripke_model.specs.declared.models.Part.{Part}
use Rattle.smv_parser.specs.declared.expressions.BinaryOperator.{BinaryOperator}
use Rattle.smv_parser.specs.declared.expressions.PrefixOperator.{PrefixOperator}
use Rattle.smv_parser.specs.declared.expressions.PathQuantifier.{PathQuantifier}
use Rattle.smv_parser.specs.declared.program.Condition.{Condition}
use Rattle.smv_parser.specs.declared.program.LeftKind.{LeftKind}
use Rattle.smv_parser.specs.Tree as tree
use Rattle.smv_parser.specs.Program as parsed
use Rattle.smv_instances.specs.Program.{Expr, Exprs, Arms, Path, Constant, Plain, Form, Declaration, Definition, Assigned, Kind, Stated, Section, Formal, Module, Program}

-- ---- expressions

abbrev pub operator : BinaryOperator → BinOp
operator BinaryOperator.Implies = BinOp.Implies
operator BinaryOperator.Iff = BinOp.Iff
operator BinaryOperator.Or = BinOp.Or
operator BinaryOperator.And = BinOp.And
operator BinaryOperator.Equal = BinOp.Eq
operator BinaryOperator.Less = BinOp.Lt
operator BinaryOperator.Greater = BinOp.Gt
operator BinaryOperator.LessOrEqual = BinOp.Le
operator BinaryOperator.GreaterOrEqual = BinOp.Ge
operator BinaryOperator.In = BinOp.Member
operator BinaryOperator.Union = BinOp.Union
operator BinaryOperator.Mod = BinOp.Mod
operator BinaryOperator.Add = BinOp.Add
operator BinaryOperator.Subtract = BinOp.Sub
operator BinaryOperator.Multiply = BinOp.Mul
operator BinaryOperator.Divide = BinOp.Div

abbrev pub prefixed : PrefixOperator → Expr → Expr
prefixed PrefixOperator.Not e = Expr.Not e
prefixed PrefixOperator.ExistsNext e = Expr.Quant PathOp.EX e
prefixed PrefixOperator.AllNext e = Expr.Quant PathOp.AX e
prefixed PrefixOperator.ExistsFinally e = Expr.Quant PathOp.EF e
prefixed PrefixOperator.AllFinally e = Expr.Quant PathOp.AF e
prefixed PrefixOperator.ExistsGlobally e = Expr.Quant PathOp.EG e
prefixed PrefixOperator.AllGlobally e = Expr.Quant PathOp.AG e

abbrev pub is_all : PathQuantifier → Bool
is_all PathQuantifier.All = true
is_all PathQuantifier.Exists = false

abbrev mutual
  pub expr : tree.Tree → Expr
  expr (tree.Tree.on_line line form) = form_expr form

  pub form_expr : tree.Form → Expr
  form_expr (tree.Form.number n) = Expr.Number n
  form_expr (tree.Form.truth b) = Expr.Truth b
  form_expr tree.Form.running = Expr.Running
  form_expr (tree.Form.path q) = Expr.At (path q)
  form_expr (tree.Form.next e) = Expr.Next (expr e)
  form_expr (tree.Form.parens e) = Expr.Parens (expr e)
  form_expr (tree.Form.braces es) = Expr.Braces (exprs es)
  form_expr (tree.Form.cases as') = Expr.Case (arms as')
  form_expr (tree.Form.until q a b) = Expr.Until (is_all q) (expr a) (expr b)
  form_expr (tree.Form.prefix op e) = prefixed op (expr e)
  form_expr (tree.Form.binary op a b) = Expr.Binary (operator op) (expr a) (expr b)

  pub path : tree.PathTree → Path
  path (tree.PathTree.path_on line first parts) = followed (Path.Here line first) parts

  -- the path q with what follows it
  pub followed : Path → tree.PathTail → Path
  followed q tree.PathTail.no_parts = q
  followed q (tree.PathTail.field x parts) = followed (Path.Field q x) parts
  followed q (tree.PathTail.index e parts) = followed (Path.Index q (expr e)) parts

  pub exprs : tree.Trees → Exprs
  exprs tree.Trees.no_trees = Exprs.none
  exprs (tree.Trees.tree e es) = Exprs.more (expr e) (exprs es)

  pub arms : tree.Arms → Arms
  arms tree.Arms.no_arms = Arms.esac
  arms (tree.Arms.arm guard right rest) = Arms.arm (expr guard) (expr right) (arms rest)

abbrev pub line_of : tree.Tree → ℕ
line_of (tree.Tree.on_line line form) = line

-- ---- types

abbrev pub constant : parsed.Lined parsed.Constant → Constant
constant c = of_form c.form
  where
    of_form : parsed.Constant → Constant
    of_form (parsed.Constant.name x) = Constant.Atom x
    of_form (parsed.Constant.number n) = Constant.Digits n
    of_form (parsed.Constant.truth b) = Constant.Truth b

abbrev mutual
  pub plain : parsed.Plain → Plain
  plain (parsed.Plain.plain_on line form) = plain_form form

  pub plain_form : parsed.PlainForm → Plain
  plain_form parsed.PlainForm.boolean = Plain.Boolean
  plain_form (parsed.PlainForm.enumeration constants) = Plain.Enumeration (map constant constants)
  plain_form (parsed.PlainForm.range low high) = Plain.Range low high
  plain_form (parsed.PlainForm.array low high element) = Plain.Array low high (plain element)

abbrev pub form : parsed.TypeForm → Form
form (parsed.TypeForm.plain type) = Form.Stored (plain type)
form (parsed.TypeForm.instance process module_name actuals)
    = Form.Instance process module_name (map expr actuals)

-- ---- modules

abbrev pub declaration : parsed.Lined parsed.Declaration → Declaration
declaration d = record { name = d.form.name; line = d.line; form = form d.form.form.form }

abbrev pub definition : parsed.Lined parsed.Definition → Definition
definition d = record { name = d.form.name; line = d.line; body = expr d.form.right }

abbrev pub part : LeftKind → Part
part LeftKind.Current = Part.Now
part LeftKind.Init = Part.Init
part LeftKind.Next = Part.Next

abbrev pub assigned : parsed.Lined parsed.Assignment → Assigned
assigned a = record {
  part = part a.form.left.form.kind;
  left = path a.form.left.form.path;
  left_line = a.form.left.line;
  right = expr a.form.right;
  line = line_of a.form.right;
}

-- a specification's line is that of its word, any other section's that of its expression
abbrev pub stated : Condition → ℕ → tree.Tree → Stated
stated Condition.Init line e = record { kind = Kind.Init; expr = expr e; line = line_of e }
stated Condition.Invar line e = record { kind = Kind.Invar; expr = expr e; line = line_of e }
stated Condition.Trans line e = record { kind = Kind.Trans; expr = expr e; line = line_of e }
stated Condition.Spec line e = record { kind = Kind.Spec; expr = expr e; line = line }
stated Condition.Fairness line e = record { kind = Kind.Fairness; expr = expr e; line = line_of e }

abbrev pub section : parsed.Lined parsed.Section → Section
section s = of_form s.form
  where
    of_form : parsed.Section → Section
    of_form (parsed.Section.variables ds) = Section.Vars (map declaration ds)
    of_form (parsed.Section.assignments items) = Section.Assigns (map assigned items)
    of_form (parsed.Section.definitions ds) = Section.Defines (map definition ds)
    of_form (parsed.Section.condition c e) = Section.States (stated c s.line e)

abbrev pub formal : parsed.Lined (List ℕ) → Formal
formal f = record { name = f.form; line = f.line }

abbrev pub module_of : parsed.Lined parsed.Module → Module
module_of m = record {
  name = m.form.name;
  line = m.line;
  formals = map formal m.form.formals;
  sections = map section m.form.sections;
}

abbrev pub program : parsed.Program → Program
program modules = map module_of modules
