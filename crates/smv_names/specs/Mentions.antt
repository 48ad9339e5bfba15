-- The paths that the code finds in an expression.
use Rattle.std.specs.Prelude.{List, []}
use Rattle.smv_parser.specs.declared.expressions.PathPart.{PathPart, Field, Index'}
use Rattle.smv_parser.specs.Tree.{on_line}
use Rattle.smv_parser.specs.View.{form}
use Rattle.smv_instances.specs.Abstract as abstract
use Rattle.smv_instances.specs.Program.{Path}
use Rattle.smv_names.specs.Written.{plain_path}
use Rattle.smv_names.specs.declared.mentions.Mention.{Mention as Held}
use Rattle.smv_names.specs.Abbreviations.{Mention, mentions}

abbrev pub plain_mention : Held → Mention
plain_mention m = record { path = plain_path m.path.now; wanted = m.wanted }

-- those in the index, if the part is one
abbrev pub part_mentions : PathPart → List Mention
part_mentions (Field name) = []
part_mentions (Index' kind line) = mentions (abstract.expr (on_line line (form kind)))

-- the path's first name alone
abbrev pub first_mention : Held → Mention
first_mention m = record { path = Path.Here m.path.now.line m.path.now.first; wanted = m.wanted }
