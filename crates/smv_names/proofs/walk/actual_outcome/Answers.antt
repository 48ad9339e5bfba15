use Rattle.std.proofs.Common.{◌≡◌, sym, ◌∙◌, ap, false}
use Rattle.std.proofs.lemmas.Option.{slice_get_within}
use Rattle.smv_instances.specs.Program.{Expr}
use Rattle.smv_instances.specs.Plain.{plain_expr}
use Rattle.smv_instances.specs.Instances.{instances, module_of}
use Rattle.smv_names.specs.declared.targets.Target.TheVariants as held
use Rattle.smv_names.specs.Denotes.{bare}
use Rattle.smv_names.specs.Written.{is_path, plain_path}
use Rattle.smv_names.proofs.ActualLemmas.{formal_stands}
use Rattle.smv_names.proofs.FoundLemmas.{decided_expr, decided_nothing, passed_for}
use Rattle.smv_names.proofs.ResolveLemmas.{path_result}
use Rattle.smv_names.proofs.StateLemmas.{scope_of}
use Rattle.smv_names.proofs.walk.actual_outcome.Goals as goal

pub returns-in_default : goal.returns-in_default
returns-in_default c p started =
    let s = scope_of p c.args.targets.now.states c.args.at c.requires.1 started.states_are c.requires.3 in
    decided_nothing p c.args.at s.0 s.1 (c.in_default.ensures.none p s.0 started.instances_are s.1)

pub walk-requires : goal.walk-requires
walk-requires c =
    let s = scope_of c.requires.0 c.args.targets.now.states c.args.at c.requires.1 c.requires.2.states_are c.requires.3 in
    let a = c.in-Some.ensures.some c.requires.0 s.0 c.requires.2.instances_are s.1 in
    (c.requires.0, c.requires.2, slice_get_within (instances c.requires.0) c.in-Some.around a.around a.numbered)

pub node-requires : goal.node-requires
node-requires c =
    let s = scope_of c.requires.0 c.args.targets.now.states c.args.at c.requires.1 c.requires.2.states_are c.requires.3 in
    let e = formal_stands (module_of s.0) c.args.at.place (c.requires.2.states_are.formal c.args.at s.0 c.requires.1 s.1 c.requires.3) in
    (c.requires.0, s.0, e.0, c.requires.2.nodes_are, s.1, e.1)

pub returns-in-Some-path_of : goal.returns-in-Some-path_of
returns-in-Some-path_of c p started =
    let s = scope_of p c.args.targets.now.states c.args.at c.requires.1 started.states_are c.requires.3 in
    let a = c.in-Some.ensures.some p s.0 started.instances_are s.1 in
    let is : bare (plain_expr c.in-Some.actual.now) ≡ Expr.At (plain_path c.in-Some-path_of.path.now) = sym c.bare_of-right.ensures ∙ c.in-Some-path_of.ensures.some in
    path_result p c.args.targets.now.states c.args.at a.around (plain_path c.in-Some-path_of.path.now) c.walk.result
    (passed_for p c.args.at s.0 s.1 c.in-Some.around (plain_expr c.in-Some.actual.now) (plain_path c.in-Some-path_of.path.now) a is)
    (c.walk.ensures p a.around started a.numbered)

pub returns-in-None : goal.returns-in-None
returns-in-None c p started =
    let s = scope_of p c.args.targets.now.states c.args.at c.requires.1 started.states_are c.requires.3 in
    let a = c.in-Some.ensures.some p s.0 started.instances_are s.1 in
    let other : is_path (bare (plain_expr c.in-Some.actual.now)) ≡ false = ap is_path (sym c.bare_of-right.ensures) ∙ c.in-None.ensures.none in
    decided_expr p c.args.at s.0 s.1 c.in-Some.around c.node.result (plain_expr c.in-Some.actual.now) (held.Reading c.in-Some.around c.bare_of-right.result c.node.result) a other (c.node.ensures p s.0 started.nodes_are s.1)
    (λ text. (a.numbered, c.bare_of-right.ensures, text))
