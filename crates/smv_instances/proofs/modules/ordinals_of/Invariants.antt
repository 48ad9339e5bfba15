use Rattle.std.proofs.Common.{◌≡◌, ◌≤◌, map, take}
use Rattle.smv_instances.specs.Declarations.{instances_in}
use Rattle.smv_instances.specs.Numbered.{plain_entry}
use Rattle.smv_instances.specs.Tables.{counts_from}
use Rattle.smv_instances.proofs.modules.ordinals_of.Given as goal

abbrev pub invariant-loop-entry : goal.invariant-loop-entry
invariant-loop-entry l =
    record {
      few : l.count ≤ l.entry-index;
      counted : l.count ≡ instances_in (take l.entry-index (map plain_entry l.entries));
      made : l.ordinals.items ≡ counts_from 0 (take l.entry-index (map plain_entry l.entries));
    }
