-- The plain trees of what the program's types hold in memory.
use Rattle.smv_parser.specs.declared.expressions.Expr as declared_expr
use Rattle.smv_parser.specs.declared.program.Constant as declared_constant
use Rattle.smv_parser.specs.declared.program.Plain as declared_plain
use Rattle.smv_parser.specs.declared.program.TypeForm as declared_form
use Rattle.smv_parser.specs.declared.program.Declaration as declared_declaration
use Rattle.smv_parser.specs.declared.program.Definition as declared_definition
use Rattle.smv_parser.specs.declared.program.Section as declared_section
use Rattle.smv_parser.specs.declared.program.Formal as declared_formal
use Rattle.smv_parser.specs.declared.program.Module as declared_module
use Rattle.smv_parser.specs.declared.program.Program as declared_program
use Rattle.smv_parser.specs.View as view
use Rattle.smv_parser.specs.ProgramView as programs
use Rattle.smv_instances.specs.Program.{Expr, Constant, Plain, Form, Declaration, Definition, Section, Formal, Module, Program}
use Rattle.smv_instances.specs.Abstract as plain

abbrev pub plain_expr : declared_expr.Expr → Expr
plain_expr e = plain.expr (view.tree_of e)

abbrev pub plain_constant : declared_constant.Constant → Constant
plain_constant c = plain.constant (programs.constant c)

abbrev pub plain_type : declared_plain.Plain → Plain
plain_type t = plain.plain (programs.plain t)

abbrev pub plain_form : declared_form.TypeForm → Form
plain_form f = plain.form (programs.type_form f).form

abbrev pub plain_declaration : declared_declaration.Declaration → Declaration
plain_declaration d = plain.declaration (programs.declaration d)

abbrev pub plain_definition : declared_definition.Definition → Definition
plain_definition d = plain.definition (programs.definition d)

abbrev pub plain_section : declared_section.Section → Section
plain_section s = plain.section (programs.section s)

abbrev pub plain_formal : declared_formal.Formal → Formal
plain_formal f = plain.formal (programs.formal f)

abbrev pub plain_module : declared_module.Module → Module
plain_module m = plain.module_of (programs.module_of m)

-- the program as the definitions see it
abbrev pub plain_program : declared_program.Program → Program
plain_program p = plain.program (programs.program p)
