use Rattle.smv_instances.specs.Instances.{instances}
use Rattle.smv_names.proofs.ResolveLemmas.{here_constant, here_result}
use Rattle.smv_names.proofs.WaitLemmas.{member_at}
use Rattle.smv_names.proofs.walk.first.Goals as goal

pub outcome_of-requires : goal.outcome_of-requires
outcome_of-requires c =
    let started = c.requires.1 in
    let s = member_at (instances c.requires.0) c.args.i c.requires.2 in
    let found = c.in-Some.ensures.some c.requires.0 s.0 started.instances_are s.1 in
    (c.requires.0, s.0, started.nodes_are, started.states_are, s.1, found.0, found.1)

pub returns-in-Some : goal.returns-in-Some
returns-in-Some c p s line started at =
    let found = c.in-Some.ensures.some p s started.instances_are at in
    here_result p c.args.targets.now.states s line c.args.name.now found.2.0 c.outcome_of.result found.2.1
    (c.outcome_of.ensures p s started.nodes_are started.states_are at found.0 found.1)

pub returns-in-Some-symbol : goal.returns-in-Some-symbol
returns-in-Some-symbol c p s line started at =
    let known = c.in-Some-symbol.ensures.some p started.instances_are in
    here_constant p c.args.targets.now.states s line c.args.name.now c.in-Some-symbol.place (c.in-None.ensures.none p s started.instances_are at) known.0 known.1
