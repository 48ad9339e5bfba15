use Rattle.std.proofs.Common.{◌≡◌, subst, arith, length, ℕ}
use Rattle.smv_instances.specs.Program.{Program}
use Rattle.smv_instances.specs.Instances.{instances}
use Rattle.smv_instances.specs.Built.{AreInstances}
use Rattle.smv_names.proofs.BeginLemmas.{AreUnseen, unseen_states, unseen_idle}
use Rattle.smv_names.proofs.states.States.unseen.Goals as goal

all_unseen : (c : goal.After-loop-i) (p : Program) → AreInstances p c.args.instances.now → AreUnseen p c.loop-i.rows.items (length (instances p))
all_unseen c p are =
    let all : c.loop-i.i ≡ length (instances p) = omega (arith, c.loop-i-test.false, c.loop-i.auto.i-end, c.len-i-end.ensures p are) in
    subst (λ (n : ℕ). AreUnseen p c.loop-i.rows.items n) all (c.loop-i.invariant p are)

pub returns-clause-states : goal.returns-clause-states
returns-clause-states c p are = unseen_states p (record { rows = c.loop-i.rows }) (all_unseen c p are)

pub returns-clause-idle : goal.returns-clause-idle
returns-clause-idle c = unseen_idle c.requires.0 (record { rows = c.loop-i.rows }) (all_unseen c c.requires.0 c.requires.1)
