use Rattle.std.proofs.Common.{◌≡◌, List, [], ◌++◌, Some, map, take}
use Rattle.std.specs.Prelude.{slice_get}
use Rattle.kripke_model.specs.Refusing.{Silent, First}
use Rattle.smv_instances.specs.Program.{Program}
use Rattle.smv_instances.specs.Entries.{Entry}
use Rattle.smv_instances.specs.Instances.{Scope}
use Rattle.smv_instances.specs.Declarations.{declaration, entries_of}
use Rattle.smv_instances.specs.Counting.{IsCounts}
use Rattle.smv_instances.specs.Numbered.{plain_entry}
use Rattle.smv_instances.specs.Tables.{AreModules, IsFresh}
use Rattle.smv_instances.specs.Walk.{AreRows}
use Rattle.smv_instances.proofs.body.count_entries.Given as goal

abbrev pub invariant-loop-entry : goal.invariant-loop-entry
invariant-loop-entry l =
    (p : Program) (done before : List Scope) (s : Scope) → AreModules l.modules p → AreRows l.modules l.rows done → slice_get done l.number ≡ Some s → IsCounts l.counts (entries_of before) → IsFresh (map (λ (e : Entry). e.name) (map plain_entry l.entries))
    → IsCounts l.so_far (entries_of before ++ take l.entry-index (map plain_entry l.entries)) × Silent (First (declaration p before s) [] (take l.entry-index (map plain_entry l.entries)))
