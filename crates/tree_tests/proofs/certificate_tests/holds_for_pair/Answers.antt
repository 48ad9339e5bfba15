use Rattle.std.proofs.Common.{List, sym, subst}
use Rattle.std.specs.Prelude.{All}
use Rattle.kripke_model.specs.Leaves.{IsModelLeaf}
use Rattle.strong_fair.specs.Strong.{Pair}
use Rattle.trace_loop.proofs.Trails.{all_one}
use Rattle.tree_tests.proofs.certificate_tests.holds_for_pair.Goals as goal

pub holds-requires-clause-pairs : goal.holds-requires-clause-pairs
holds-requires-clause-pairs c =
    let m = c.args.model.now in
    subst (λ (pairs : List Pair). All (λ pair. IsModelLeaf m pair.p × IsModelLeaf m pair.q) pairs) (sym c.from_ref.ensures.value)
    (all_one (λ pair. IsModelLeaf m pair.p × IsModelLeaf m pair.q) _ c.in_ok-pair.ensures)
