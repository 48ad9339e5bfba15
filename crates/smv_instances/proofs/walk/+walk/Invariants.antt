use Rattle.std.proofs.Common.{◌≡◌, ◌+◌, ◌-◌, ◌*◌, List, ◌++◌, Some, length, map, flat_map}
use Rattle.std.specs.Prelude.{slice_get}
use Rattle.smv_instances.specs.Program.{Program}
use Rattle.smv_instances.specs.Entries.{entries}
use Rattle.smv_instances.specs.Instances.{Scope, module_of, instances_from}
use Rattle.smv_instances.specs.Numbered.{plain_entry}
use Rattle.std.specs.List.{AllZip}
use Rattle.smv_instances.specs.Walk.{Goes, Visited}
use Rattle.smv_instances.proofs.InsideLemmas.{front_children}
use Rattle.smv_instances.proofs.walk.+walk.Given as goal

abbrev pub decreases-visit_body : goal.decreases-visit_body
decreases-visit_body l = 3 * l.left + 1

abbrev pub decreases-visit_inside : goal.decreases-visit_inside
decreases-visit_inside l = 3 * l.left

abbrev pub decreases-visit_child : goal.decreases-visit_child
decreases-visit_child l = 3 * l.left + 2

-- what the entries so far declare was walked over
abbrev pub invariant-visit_inside-loop-entry : goal.invariant-visit_inside-loop-entry
invariant-visit_inside-loop-entry l =
    (p : Program) (done : List Scope) (s : Scope) → Goes l.modules p l.fn.walk done s l.number l.left
    → (map plain_entry l.entry-items ≡ entries (module_of s))
    × Visited l.modules p l.fn.walk l.walk done (flat_map (instances_from p (l.left - 1)) (front_children p s l.entry-index)) (length done)
    × AllZip (λ n c. slice_get (done ++ flat_map (instances_from p (l.left - 1)) (front_children p s l.entry-index)) n ≡ Some c) l.children.items (front_children p s l.entry-index)
