use Rattle.std.proofs.Common.{◌≡◌, sym, subst, take}
use Rattle.smv_instances.specs.Program.{Path}
use Rattle.smv_instances.specs.Instances.{instances}
use Rattle.smv_instances.proofs.ListSteps.{take_whole}
use Rattle.smv_names.specs.Written.{followed}
use Rattle.smv_names.specs.Passed.{Walking}
use Rattle.smv_names.proofs.WaitLemmas.{member_at}
use Rattle.smv_names.proofs.WrittenLemmas.{followed_next}
use Rattle.smv_names.proofs.walk.walk_parts.Goals as goal

pub loop-part-init : goal.loop-part-init
loop-part-init c p s line started read = c.in_ok-outcome.ensures p s line started read

pub follow-requires : goal.follow-requires
follow-requires c =
    let s = member_at (instances c.requires.0) c.args.i c.requires.2 in
    (c.requires.0, s.0, followed (Path.Here 0 c.args.name.now) (take c.loop-part.part-index c.args.parts.now), c.requires.1, s.1, c.loop-part.invariant c.requires.0 s.0 0 c.requires.1 s.1)

pub loop-part-preserved : goal.loop-part-preserved
loop-part-preserved c p s line started read =
    subst (λ q. Walking p c.args.targets.now.states s q c.in_ok-outcome-2.outcome) (sym (followed_next (Path.Here line c.args.name.now) c.args.parts.now c.loop-part.part-index c.part-item.result c.loop-part-test.true c.part-item.is))
    (c.in_ok-outcome-2.ensures p s (followed (Path.Here line c.args.name.now) (take c.loop-part.part-index c.args.parts.now)) started read (c.loop-part.invariant p s line started read))

pub returns : goal.returns
returns c p s line started read =
    let all : take c.loop-part.part-index c.args.parts.now ≡ c.args.parts.now = take_whole c.args.parts.now c.loop-part.part-index c.loop-part-test.false in
    subst (λ parts. Walking p c.args.targets.now.states s (followed (Path.Here line c.args.name.now) parts) c.loop-part.outcome) all (c.loop-part.invariant p s line started read)
