use Rattle.std.proofs.Common.{refl, sym, ◌∙◌, ap, subst, Option}
use Rattle.std.proofs.lemmas.Bool.{false≢true}
use Rattle.smv_instances.specs.Plain.{plain_expr}
use Rattle.smv_names.specs.Written.{is_path, plain_path}
use Rattle.smv_instantiate.specs.declared.expansion.End.{End}
use Rattle.smv_instantiate.specs.Expansion.{EndsPath}
use Rattle.smv_instantiate.proofs.PathSteps.{node_here, node_there, same_path}
use Rattle.smv_instantiate.proofs.expansion.node_of.Goals as goal

pub returns-in-None : goal.returns-in-None
returns-in-None c = λ p s paths at.
    let end : End = record { home = c.args.i; right = c.bare_of-right.result } in
    node_here p s (plain_expr c.args.expr.now) end at c.bare_of-right.ensures (λ q is h f d. false≢true (sym c.in-None.ensures.none ∙ ap is_path (c.bare_of-right.ensures ∙ is)))

pub returns-in-None-2 : goal.returns-in-None-2
returns-in-None-2 c = λ p s paths at.
    let end : End = record { home = c.args.i; right = c.bare_of-right.result } in
    let q = plain_path c.in-Some.path.now in
    node_here p s (plain_expr c.args.expr.now) end at c.bare_of-right.ensures
    (same_path q (sym c.bare_of-right.ensures ∙ c.in-Some.ensures.some) (subst (λ (o : Option End). EndsPath p s q o) c.in-None-2.is (c.in_ok-path_end-in-Some.ensures p s paths at)))

pub returns-in-Some-2 : goal.returns-in-Some-2
returns-in-Some-2 c = λ p s paths at.
    let end : End = record { home = c.in-Some-2.end.home; right = c.bare_of.result } in
    let q = plain_path c.in-Some.path.now in
    node_there p s (plain_expr c.args.expr.now) q c.in-Some-2.end end (sym c.bare_of-right.ensures ∙ c.in-Some.ensures.some)
    (subst (λ (o : Option End). EndsPath p s q o) c.in-Some-2.is (c.in_ok-path_end-in-Some.ensures p s paths at)) refl c.bare_of.ensures
