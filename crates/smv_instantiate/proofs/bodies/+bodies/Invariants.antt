use Rattle.std.proofs.Common.{◌≡◌, ◌+◌, ◌*◌, ◌++◌, length, map, flat_map, take, Some}
use Rattle.std.specs.List.{filter_map}
use Rattle.smv_instances.specs.Program.{Program}
use Rattle.smv_instances.specs.Entries.{entries}
use Rattle.smv_instances.specs.Instances.{Scope, module_of, child, entry_variables}
use Rattle.smv_instances.specs.Numbered.{plain_entry, scope_at}
use Rattle.smv_instantiate.specs.Bodies.{AreBodies, front, inner_variables}
use Rattle.smv_instantiate.proofs.bodies.+bodies.Given as goal

abbrev pub decreases-push_body : goal.decreases-push_body
decreases-push_body l = 3 * l.left + 2

abbrev pub decreases-push_entry : goal.decreases-push_entry
decreases-push_entry l = 3 * l.left + 1

abbrev pub decreases-push_inside : goal.decreases-push_inside
decreases-push_inside l = 3 * l.left

-- the variables and the instances of the entries so far
abbrev pub invariant-push_body-loop-entry : goal.invariant-push_body-loop-entry
invariant-push_body-loop-entry l =
    (p : Program) (s : Scope) → AreBodies p l.modules l.rows l.symbols → scope_at p l.number ≡ Some s
    → (map plain_entry l.entry-items ≡ entries (module_of s))
    × (l.before ≡ length (filter_map (child p s) (take l.entry-index (entries (module_of s)))))
    × (l.front ≡ front s → l.variables.items ≡ l.fn.variables.items ++ flat_map (entry_variables p (inner_variables p l.left) s) (take l.entry-index (entries (module_of s))))
