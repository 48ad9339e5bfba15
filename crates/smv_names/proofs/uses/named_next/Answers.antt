use Rattle.std.proofs.Common.{sym, subst, ℕ, Option, None}
use Rattle.std.proofs.lemmas.Option.{slice_get_within}
use Rattle.smv_parser.specs.declared.expressions.PathPart.{PathPart}
use Rattle.smv_instances.specs.Instances.{instances}
use Rattle.smv_names.specs.declared.walk.Outcome.{Outcome}
use Rattle.smv_names.specs.Written.{extended}
use Rattle.smv_names.specs.Passed.{Walking}
use Rattle.smv_names.specs.Ready.{LeadsInto, NamesNode}
use Rattle.smv_names.proofs.NameNodes.{named_field, named_nothing}
use Rattle.smv_names.proofs.UseLemmas.{walked_nowhere}
use Rattle.smv_names.proofs.uses.named_next.Goals as goal

pub returns-in_default-front : goal.returns-in_default-front
returns-in_default-front c p s q are walked =
    subst (λ (part : PathPart). NamesNode p s (extended q part) None) (sym c.in-Field.is)
    (named_nothing p s q c.in-Field.name (walked_nowhere p c.args.targets.now.states s q c.args.front.now are.decided (λ t is. c.in_default-front.not-Found t is) walked))

pub entry_node-requires : goal.entry_node-requires
entry_node-requires c =
    let p = c.requires.0 in
    let s = c.requires.1 in
    let q = c.requires.2 in
    let front = subst (λ (o : Outcome). Walking p c.args.targets.now.states s q o) c.in-Found.is c.requires.4 in
    let into = subst (λ (o : Option ℕ). LeadsInto p s q o) c.in-Some.is (c.instance_number.ensures p s q front) in
    (p, c.requires.3.started, slice_get_within (instances p) c.in-Some.number into.0 into.1)

pub returns-in-Some : goal.returns-in-Some
returns-in-Some c p s q are walked =
    let front = subst (λ (o : Outcome). Walking p c.args.targets.now.states s q o) c.in-Found.is walked in
    let into = subst (λ (o : Option ℕ). LeadsInto p s q o) c.in-Some.is (c.instance_number.ensures p s q front) in
    subst (λ (part : PathPart). NamesNode p s (extended q part) c.entry_node.result) (sym c.in-Field.is)
    (named_field p s q c.in-Field.name c.in-Some.number c.entry_node.result into (c.entry_node.ensures p into.0 are.started into.1))
