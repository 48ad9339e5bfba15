use Rattle.std.proofs.Common.{subst}
use Rattle.smv_instances.specs.Program.{Path}
use Rattle.smv_names.specs.declared.walk.Outcome.{Outcome}
use Rattle.smv_names.specs.Written.{followed}
use Rattle.smv_names.specs.Passed.{Walking}
use Rattle.smv_names.proofs.NameNodes.{into_nothing}
use Rattle.smv_names.proofs.ResolveLemmas.{open_nothing}
use Rattle.smv_names.proofs.walk.instance_by.Goals as goal

pub returns-in-Found : goal.returns-in-Found
returns-in-Found c p s line all at =
    let q : Path = followed (Path.Here line c.args.name.now) c.args.parts.now in
    c.instance_number.ensures p s q (subst (λ (o : Outcome). Walking p c.args.targets.now.states s q o) c.in-Found.is (c.in_ok-target.ensures p s line all.started at))

pub returns-in-Nothing : goal.returns-in-Nothing
returns-in-Nothing c p s line all at =
    let q : Path = followed (Path.Here line c.args.name.now) c.args.parts.now in
    into_nothing p s q (subst (λ (o : Outcome). Walking p c.args.targets.now.states s q o) c.in-Nothing.is (c.in_ok-target.ensures p s line all.started at))

pub returns-in-Needs : goal.returns-in-Needs
returns-in-Needs c p s line all at =
    let q : Path = followed (Path.Here line c.args.name.now) c.args.parts.now in
    into_nothing p s q (open_nothing p c.args.targets.now.states s q c.in-Needs.field-0 all.decided (subst (λ (o : Outcome). Walking p c.args.targets.now.states s q o) c.in-Needs.is (c.in_ok-target.ensures p s line all.started at)))
