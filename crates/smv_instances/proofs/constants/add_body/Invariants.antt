use Rattle.std.proofs.Common.{◌≡◌, ◌++◌, List, map, take}
use Rattle.smv_instances.specs.Program.{Name}
use Rattle.smv_instances.specs.Instances.{distinct_names}
use Rattle.smv_instances.specs.Numbered.{plain_entry}
use Rattle.smv_instances.specs.Symbols.{entry_atoms}
use Rattle.smv_instances.proofs.constants.add_body.Given as goal

abbrev pub invariant-loop-entry : goal.invariant-loop-entry
invariant-loop-entry l = (seen : List Name) → l.initial.symbols ≡ distinct_names seen → l.symbols ≡ distinct_names (seen ++ entry_atoms (map plain_entry (take l.entry-index l.entries)))
