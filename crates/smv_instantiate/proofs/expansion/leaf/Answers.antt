use Rattle.std.proofs.Common.{subst, Option}
use Rattle.smv_names.specs.declared.targets.Target.{Target}
use Rattle.smv_names.specs.Targets.{Resolves}
use Rattle.smv_names.specs.Written.{plain_path}
use Rattle.smv_instantiate.proofs.PathSteps.{nothing_stands}
use Rattle.smv_instantiate.proofs.expansion.leaf.Goals as goal

pub target_leaf-requires : goal.target_leaf-requires
target_leaf-requires c =
    let h = c.requires in
    let q = plain_path c.args.path.now in
    (h.0, h.1, q, c.args.i, h.2, h.3, h.4, subst (λ (o : Option Target). Resolves h.0 h.1 q o) c.in-Some.is (c.in_ok-target.ensures h.0 h.1 h.3.paths_are.targets_are h.4), h.5, h.6)

pub unreachable-requires : goal.unreachable-requires
unreachable-requires c =
    let h = c.requires in
    let q = plain_path c.args.path.now in
    nothing_stands h.0 h.1 q (subst (λ (o : Option Target). Resolves h.0 h.1 q o) c.in-None.is (c.in_ok-target.ensures h.0 h.1 h.3.paths_are.targets_are h.4)) h.5

pub returns : goal.returns
returns c = λ p s t can at x none.
    let q = plain_path c.args.path.now in
    c.target_leaf.ensures p s q c.args.i t can at (subst (λ (o : Option Target). Resolves p s q o) c.in-Some.is (c.in_ok-target.ensures p s can.paths_are.targets_are at)) x none
