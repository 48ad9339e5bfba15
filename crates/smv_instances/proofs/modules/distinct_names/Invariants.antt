use Rattle.std.proofs.Common.{◌≡◌, map, take}
use Rattle.smv_instances.specs.Tables.{IsFresh}
use Rattle.smv_instances.proofs.modules.distinct_names.Given as goal

abbrev pub invariant-loop-entry : goal.invariant-loop-entry
invariant-loop-entry l = record { taken : l.names ≡ map (λ e. e.name.now) (take l.entry-index l.entries); fresh : IsFresh l.names }
