use Rattle.std.proofs.Common.{subst, Some}
use Rattle.std.proofs.lemmas.Option.{slice_get_within}
use Rattle.smv_instances.specs.Instances.{instances}
use Rattle.smv_names.specs.declared.targets.Target.{Target as Held}
use Rattle.smv_names.specs.declared.walk.Outcome.TheVariants as outcome
use Rattle.smv_names.specs.Targets.{Resolves}
use Rattle.smv_names.proofs.NameNodes.{into_instance}
use Rattle.smv_names.proofs.ResolveLemmas.{field_found, field_other, field_result, finding_nothing}
use Rattle.smv_names.proofs.walk.field.Goals as goal

pub returns-in_default : goal.returns-in_default
returns-in_default c p s q started front = field_other p c.args.targets.now.states s q c.args.name.now c.args.front front (λ number is. c.in_default.not-Instance number is)

pub found_at-requires : goal.found_at-requires
found_at-requires c =
    let at = into_instance c.requires.0 c.requires.1 c.requires.2 c.in-Instance.number (subst (λ (t : Held). Resolves c.requires.0 c.requires.1 c.requires.2 (Some t)) c.in-Instance.is c.requires.4) in
    (c.requires.0, c.requires.3.instances_are, slice_get_within (instances c.requires.0) c.in-Instance.number at.0 at.1)

pub outcome_of-requires : goal.outcome_of-requires
outcome_of-requires c =
    let p = c.requires.0 in
    let started = c.requires.3 in
    let at = into_instance p c.requires.1 c.requires.2 c.in-Instance.number (subst (λ (t : Held). Resolves p c.requires.1 c.requires.2 (Some t)) c.in-Instance.is c.requires.4) in
    let found = c.in-Some.ensures.some p at.0 started.instances_are at.1 in
    (p, at.0, started.nodes_are, started.states_are, at.1, found.0, found.1)

pub returns-in-Some : goal.returns-in-Some
returns-in-Some c p s q started front =
    let at = subst (λ (t : Held). Resolves p s q (Some t)) c.in-Instance.is front in
    field_result p c.args.targets.now.states s q c.args.name.now c.in-Instance.number c.outcome_of.result at
    (λ i numbered.
    let found = c.in-Some.ensures.some p i started.instances_are numbered in
    c.outcome_of.ensures p i started.nodes_are started.states_are numbered found.0 found.1)

pub returns-in-None : goal.returns-in-None
returns-in-None c p s q started front =
    let at = subst (λ (t : Held). Resolves p s q (Some t)) c.in-Instance.is front in
    field_found p c.args.targets.now.states s q c.args.name.now c.in-Instance.number outcome.Nothing at
    (λ i numbered. finding_nothing p c.args.targets.now.states i c.args.name.now (c.in-None.ensures.none p i started.instances_are numbered))
