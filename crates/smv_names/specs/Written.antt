-- Paths as they are written: their parts, one after the other.
use Rattle.std.specs.Prelude.{Bool, true, false, List, map}
use Rattle.smv_parser.specs.declared.expressions.Path.{Path as Written}
use Rattle.smv_parser.specs.declared.expressions.PathPart.{PathPart, Field, Index'}
use Rattle.smv_parser.specs.Tree.{on_line, parts_of}
use Rattle.smv_parser.specs.View.{form, part_of, path_of}
use Rattle.smv_instances.specs.Abstract as abstract
use Rattle.smv_instances.specs.Program.{Expr, Path}

abbrev pub plain_path : Written → Path
plain_path q = abstract.path (path_of q)

-- the path q with one part more
abbrev pub extended : Path → PathPart → Path
extended q (Field name) = Path.Field q name
extended q (Index' kind line) = Path.Index q (abstract.expr (on_line line (form kind)))

abbrev pub is_index : PathPart → Bool
is_index (Field name) = false
is_index (Index' kind line) = true

-- the path q with the parts
abbrev pub followed : Path → List PathPart → Path
followed q parts = abstract.followed q (parts_of (map part_of parts))

abbrev pub is_path : Expr → Bool
is_path (Expr.At q) = true
is_path (Expr.Number n) = false
is_path (Expr.Truth b) = false
is_path Expr.Running = false
is_path (Expr.Next e) = false
is_path (Expr.Parens e) = false
is_path (Expr.Braces es) = false
is_path (Expr.Case arms) = false
is_path (Expr.Not e) = false
is_path (Expr.Binary op a b) = false
is_path (Expr.Quant op e) = false
is_path (Expr.Until all a b) = false
