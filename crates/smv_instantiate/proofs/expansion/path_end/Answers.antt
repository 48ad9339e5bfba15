use Rattle.std.proofs.Common.{subst, Option}
use Rattle.smv_names.specs.declared.targets.Target.{Target}
use Rattle.smv_names.specs.Targets.{Resolves}
use Rattle.smv_names.specs.Written.{plain_path}
use Rattle.smv_instantiate.proofs.expansion.path_end.Goals as goal

pub target_end-requires : goal.target_end-requires
target_end-requires c =
    let h = c.requires in
    let q = plain_path c.args.path.now in
    (h.0, h.1, q, h.2, subst (λ (o : Option Target). Resolves h.0 h.1 q o) c.in-Some.is (c.in_ok-target.ensures h.0 h.1 h.2.targets_are h.3))

pub returns-in-Some : goal.returns-in-Some
returns-in-Some c = λ p s paths at.
    let q = plain_path c.args.path.now in
    c.target_end.ensures p s q paths (subst (λ (o : Option Target). Resolves p s q o) c.in-Some.is (c.in_ok-target.ensures p s paths.targets_are at))
