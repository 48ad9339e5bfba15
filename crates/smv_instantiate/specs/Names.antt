-- The numbers of the flat variables, by their names.
use Rattle.std.specs.Prelude.{◌≡◌, List}
use Rattle.smv_instances.specs.Program.{Name, Program}
use Rattle.smv_instances.specs.Instances.{variable_names}

-- those of the program
abbrev pub AreVariableNames : Program → List Name → Type 0
AreVariableNames p names = names ≡ variable_names p
