use Rattle.std.proofs.Common.{sym, subst}
use Rattle.std.specs.Prelude.{IfOk, IsSomeAnd, Option}
use Rattle.kripke_model.specs.Leaves.{IsModelLeaf}
use Rattle.region_sets.specs.Sets.{In}
use Rattle.state_reach.specs.States.{HoldsAt}
use Rattle.strong_fair.specs.Shows.{HasNone, Stays}
use Rattle.strong_fair.specs.Strong.{Pair}
use Rattle.strong_fair.specs.Tests.{IsLeft}
use Rattle.strong_fair.proofs.Pairs.{pair_there}
use Rattle.strong_fair.proofs.rows.behind_pair_at.Goals as goal

pub behind_pair-requires-clause-p : goal.behind_pair-requires-clause-p
behind_pair-requires-clause-p g c =
    let pair = c.index-pairs-place.result in
    subst (λ (d : Pair). IsModelLeaf (g.S.StateSets.seen c.args.sets.now).over d.p) (sym c.index-pairs-place.is) (c.requires.leaves c.in-Some.place pair c.in-Some.ensures.1).0

pub behind_pair-requires-clause-q : goal.behind_pair-requires-clause-q
behind_pair-requires-clause-q g c =
    let pair = c.index-pairs-place.result in
    subst (λ (d : Pair). IsModelLeaf (g.S.StateSets.seen c.args.sets.now).over d.q) (sym c.index-pairs-place.is) (c.requires.leaves c.in-Some.place pair c.in-Some.ensures.1).1

pub returns-clause-left : goal.returns-clause-left
returns-clause-left g c =
    let s0 = g.S.StateSets.seen c.args.sets.now in
    let here = In s0 c.args.here.now.slot in
    let left = In s0 c.args.left.now.slot in
    subst
    (λ (o : Option Pair). IfOk c.behind_pair.result (IsLeft (Stays s0.over here left × IsSomeAnd o (λ pair. HasNone s0.over here (HoldsAt s0.over pair.q)))
    (λ s. left s × ¬ (here s × IsSomeAnd o (λ pair. HoldsAt s0.over pair.p s))) (g.S.StateSets.seen c.behind_pair.new.sets)))
    (sym (pair_there c.args.pairs.now c.args.i c.in-Some.place c.index-pairs-place.result c.in-Some.ensures.0 c.in-Some.ensures.1 c.index-pairs-place.is)) c.behind_pair.ensures.left
