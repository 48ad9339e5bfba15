use Rattle.std.proofs.Common.{sym, ◌∙◌, ap, ◌≤◌, ◌++◌, arith, length}
use Rattle.smv_instances.specs.Instances.{Scope, greatest_depth, processes, variables_from}
use Rattle.smv_instantiate.proofs.BodySteps.{root_first, variables_root}
use Rattle.smv_instantiate.proofs.DeclaredLemmas.{process_count, root_module}
use Rattle.smv_instantiate.proofs.bodies.variables_of.Goals as goal

pub selectors-requires-clause-few : goal.selectors-requires-clause-few
selectors-requires-clause-few c =
    let b = c.requires.1 in
    let few : length (processes c.requires.0) ≤ 1024 = process_count c.requires.0 b.silent b.written in
    omega (arith, few, c.requires.2)

pub push_body-requires : goal.push_body-requires
push_body-requires c =
    let p = c.requires.0 in let b = c.requires.1 in
    let root = root_module p b.silent b.written in
    (p, Scope.Main root.0, b, root_first p root.0 root.1)

pub returns : goal.returns
returns c = λ p b count.
    let root = root_module p b.silent b.written in
    c.in_ok-push_body.ensures p (Scope.Main root.0) b (root_first p root.0 root.1) (c.new-front.ensures ∙ c.new.ensures.bytes)
    ∙ ap (λ vs. vs ++ variables_from p greatest_depth (Scope.Main root.0)) (c.in_ok-variables.ensures p b.are count)
    ∙ sym (variables_root p root.0 root.1)
