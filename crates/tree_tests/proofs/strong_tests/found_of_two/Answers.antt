use Rattle.std.proofs.Common.{◌∷◌, []}
use Rattle.std.proofs.lemmas.List.Elements.{All-cons, All-nil}
use Rattle.kripke_model.specs.Leaves.{IsModelLeaf}
use Rattle.strong_fair.specs.Strong.{Pair}
use Rattle.tree_tests.proofs.strong_tests.found_of_two.Goals as goal

pub found_over-requires-clause-leaves : goal.found_over-requires-clause-leaves
found_over-requires-clause-leaves c =
    let model = c.args.model.now in
    let are = λ (pair : Pair). IsModelLeaf model pair.p × IsModelLeaf model pair.q in
    let first = rw c.in-Some.is at c.requires.first in
    let second = rw c.in-Some-second.is at c.requires.second in
    All-cons are c.in-Some.first (c.in-Some-second.second ∷ []) first
    (All-cons are c.in-Some-second.second [] second (All-nil are))
