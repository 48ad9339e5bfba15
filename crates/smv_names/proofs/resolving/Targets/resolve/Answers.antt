use Rattle.std.proofs.Common.{subst}
use Rattle.smv_names.specs.declared.walk.Outcome.{Outcome}
use Rattle.smv_names.specs.Written.{plain_path}
use Rattle.smv_names.specs.Passed.{Walking}
use Rattle.smv_names.proofs.ResolveLemmas.{open_nothing}
use Rattle.smv_names.proofs.resolving.Targets.resolve.Goals as goal

pub returns-in-Needs : goal.returns-in-Needs
returns-in-Needs c p s all at =
    open_nothing p c.args.self.now.states s (plain_path c.args.path.now) c.in-Needs.field-0 all.decided
    (subst (λ (o : Outcome). Walking p c.args.self.now.states s (plain_path c.args.path.now) o) c.in-Needs.is (c.in_ok-target.ensures p s all.started at))
