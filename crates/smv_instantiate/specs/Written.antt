-- What every parsed program keeps: its names are atoms, its numbers end at 2,147,483,647 and ends of ranges begin at -2,147,483,647, no braces, no types and no `case` are empty.
use Rattle.std.specs.Prelude.{ℕ, ℤ, ◌<◌, ◌≤◌, unsigned_abs, length, All}
use Rattle.kripke_model.specs.Names.{IsAtom}
use Rattle.smv_instances.specs.Program.{Expr, Exprs, Path, Constant, Plain, Form, Declaration, Definition, Assigned, Stated, Section, Formal, Module, Program}
use Rattle.smv_instances.specs.Program

abbrev pub IsWrittenNumber : ℕ → Type 0
IsWrittenNumber n = n ≤ 2147483647

-- an end of a range
abbrev pub IsWrittenEnd : ℤ → Type 0
IsWrittenEnd z = unsigned_abs z ≤ 2147483647

-- ---- expressions and paths

abbrev mutual
  pub IsWrittenExpr : Expr → Type 0
  IsWrittenExpr (Expr.Number n) = IsWrittenNumber n
  IsWrittenExpr (Expr.Truth b) = Unit {0}
  IsWrittenExpr Expr.Running = Unit {0}
  IsWrittenExpr (Expr.At q) = IsWrittenPath q
  IsWrittenExpr (Expr.Next e) = IsWrittenExpr e
  IsWrittenExpr (Expr.Parens e) = IsWrittenExpr e
  IsWrittenExpr (Expr.Braces Exprs.none) = ⊥
  IsWrittenExpr (Expr.Braces (Exprs.more e es)) = IsWrittenExpr e × AreWritten es
  IsWrittenExpr (Expr.Case Program.Arms.esac) = ⊥
  IsWrittenExpr (Expr.Case (Program.Arms.arm guard right rest))
      = IsWrittenExpr guard × IsWrittenExpr right × AreWrittenArms rest
  IsWrittenExpr (Expr.Not e) = IsWrittenExpr e
  IsWrittenExpr (Expr.Binary op a b) = IsWrittenExpr a × IsWrittenExpr b
  IsWrittenExpr (Expr.Quant op e) = IsWrittenExpr e
  IsWrittenExpr (Expr.Until all a b) = IsWrittenExpr a × IsWrittenExpr b

  pub AreWritten : Exprs → Type 0
  AreWritten Exprs.none = Unit {0}
  AreWritten (Exprs.more e es) = IsWrittenExpr e × AreWritten es

  pub AreWrittenArms : Program.Arms → Type 0
  AreWrittenArms Program.Arms.esac = Unit {0}
  AreWrittenArms (Program.Arms.arm guard right rest)
      = IsWrittenExpr guard × IsWrittenExpr right × AreWrittenArms rest

  pub IsWrittenPath : Path → Type 0
  IsWrittenPath (Path.Here line x) = IsAtom x
  IsWrittenPath (Path.Field q x) = IsWrittenPath q × IsAtom x
  IsWrittenPath (Path.Index q e) = IsWrittenPath q × IsWrittenExpr e

-- ---- types

abbrev pub IsWrittenConstant : Constant → Type 0
IsWrittenConstant (Constant.Atom x) = IsAtom x
IsWrittenConstant (Constant.Digits n) = IsWrittenNumber n
IsWrittenConstant (Constant.Truth b) = Unit {0}

abbrev pub IsWrittenType : Plain → Type 0
IsWrittenType Plain.Boolean = Unit {0}
IsWrittenType (Plain.Enumeration constants)
    = (0 < length constants) × All IsWrittenConstant constants
IsWrittenType (Plain.Range low high) = IsWrittenEnd low × IsWrittenEnd high
IsWrittenType (Plain.Array low high element)
    = IsWrittenNumber low × IsWrittenNumber high × IsWrittenType element

abbrev pub IsWrittenForm : Form → Type 0
IsWrittenForm (Form.Stored type) = IsWrittenType type
IsWrittenForm (Form.Instance process module_name actuals)
    = IsAtom module_name × All IsWrittenExpr actuals

-- ---- modules

pub record IsWrittenDeclaration (d : Declaration) : Type 0 where
  pub name : IsAtom d.name
  pub form : IsWrittenForm d.form

pub record IsWrittenDefinition (d : Definition) : Type 0 where
  pub name : IsAtom d.name
  pub body : IsWrittenExpr d.body

pub record IsWrittenAssignment (a : Assigned) : Type 0 where
  pub left : IsWrittenPath a.left
  pub right : IsWrittenExpr a.right

abbrev pub IsWrittenSection : Section → Type 0
IsWrittenSection (Section.Vars ds) = All IsWrittenDeclaration ds
IsWrittenSection (Section.Defines ds) = All IsWrittenDefinition ds
IsWrittenSection (Section.Assigns items) = All IsWrittenAssignment items
IsWrittenSection (Section.States item) = IsWrittenExpr item.expr

pub record IsWrittenModule (m : Module) : Type 0 where
  pub name : IsAtom m.name
  pub formals : All (λ (f : Formal). IsAtom f.name) m.formals
  pub sections : All IsWrittenSection m.sections

abbrev pub IsWritten : Program → Type 0
IsWritten p = All IsWrittenModule p
