use Rattle.std.proofs.Common.{subst, Option}
use Rattle.smv_names.specs.declared.targets.Target.{Target}
use Rattle.smv_names.specs.Targets.{Resolves}
use Rattle.smv_names.specs.Written.{plain_path}
use Rattle.smv_instantiate.proofs.PathSteps.{nothing_selects}
use Rattle.smv_instantiate.proofs.expansion.selected.Goals as goal

pub cell-requires : goal.cell-requires
cell-requires c =
    let h = c.requires in
    let q = plain_path c.args.path.now in
    (h.0, h.1, q, c.args.i, h.2, h.3, subst (λ (o : Option Target). Resolves h.0 h.1 q o) c.in-Some.is (c.in_ok-target.ensures h.0 h.1 h.2.paths_are.targets_are h.3))

pub returns-in-Some : goal.returns-in-Some
returns-in-Some c = λ p s can at.
    let q = plain_path c.args.path.now in
    c.cell.ensures p s q c.args.i can at (subst (λ (o : Option Target). Resolves p s q o) c.in-Some.is (c.in_ok-target.ensures p s can.paths_are.targets_are at))

pub returns-in-None : goal.returns-in-None
returns-in-None c = λ p s can at.
    let q = plain_path c.args.path.now in
    nothing_selects p s q (subst (λ (o : Option Target). Resolves p s q o) c.in-None.is (c.in_ok-target.ensures p s can.paths_are.targets_are at))
