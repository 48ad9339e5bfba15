-- The plain items of what lies in memory, and their parts.
use Rattle.std.specs.Prelude.{ℕ, List, ◌∷◌, ◌++◌, false}
use Rattle.smv_parser.specs.declared.program.Assignment.{Assignment}
use Rattle.smv_parser.specs.declared.program.Condition.{Condition}
use Rattle.smv_parser.specs.ProgramView as programs
use Rattle.smv_parser.specs.View.{tree_of}
use Rattle.smv_instances.specs.Abstract as plain
use Rattle.smv_instances.specs.Program.{Assigned, Kind, Path}
use Rattle.smv_names.specs.Abbreviations.{Mention, mentions, index_mentions}
use Rattle.smv_instantiate.specs.declared.items.Item.{Item as Held}
use Rattle.smv_instantiate.specs.declared.items.Item.TheVariants as held
use Rattle.smv_instantiate.specs.Flattens.{Item}

abbrev pub plain_assigned : Assignment → Assigned
plain_assigned a = plain.assigned (programs.assignment a)

abbrev pub plain_item : Held → Item
plain_item (held.Assigns a) = Item.Assigns (plain_assigned a.now)
plain_item (held.States condition expr line)
    = Item.States (plain.stated condition line (tree_of expr.now))

-- the line of a condition, of the lines of its expression and of its section
abbrev pub stated_line : Condition → ℕ → ℕ → ℕ
stated_line Condition.Init expr section = expr
stated_line Condition.Invar expr section = expr
stated_line Condition.Trans expr section = expr
stated_line Condition.Spec expr section = section
stated_line Condition.Fairness expr section = expr

abbrev pub kind_of : Condition → Kind
kind_of Condition.Init = Kind.Init
kind_of Condition.Invar = Kind.Invar
kind_of Condition.Trans = Kind.Trans
kind_of Condition.Spec = Kind.Spec
kind_of Condition.Fairness = Kind.Fairness

-- the path of a left side, and those in its indexes
abbrev pub left_mentions : Path → List Mention
left_mentions q = record { path = q; wanted = false } ∷ index_mentions q

-- the paths of an item, in text order
abbrev pub item_mentions : Item → List Mention
item_mentions (Item.Assigns a) = left_mentions a.left ++ mentions a.right
item_mentions (Item.States c) = mentions c.expr
