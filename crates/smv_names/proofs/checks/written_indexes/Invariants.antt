use Rattle.std.proofs.Common.{◌≡◌, ◌≤◌, take}
use Rattle.smv_instances.specs.Program.{Path}
use Rattle.smv_names.specs.Written.{followed}
use Rattle.smv_names.specs.Known.{index_count}
use Rattle.smv_names.proofs.checks.written_indexes.Given as goal

abbrev pub invariant-loop-part : goal.invariant-loop-part
invariant-loop-part l = (l.count ≤ l.part-index) × (l.count ≡ index_count (followed (Path.Here l.path.line l.path.first) (take l.part-index l.path.parts.items)))
