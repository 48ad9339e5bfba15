use Rattle.kripke_model.specs.WellFormed.{ctl_of}
use Rattle.proof_form.specs.Pinned.{over_states}
use Rattle.proof_lines.proofs.WholeTests.{sound_result, spec_proved}
use Rattle.proof_lines.proofs.testing.obligations.Goals as goal

pub returns-in-Some-clause-answer : goal.returns-in-Some-clause-answer
returns-in-Some-clause-answer g c =
    spec_proved c.args.model.now c.args.spec (over_states (g.S.StateSets.seen c.args.sets.now) c.args.proof.now) (ctl_of c.in-Some.formula.now) c.in-Some.ensures c.proves.result c.proves.ensures.answer

pub returns-in-Some-clause-sound : goal.returns-in-Some-clause-sound
returns-in-Some-clause-sound g c =
    sound_result c.args.model.now c.args.spec (over_states (g.S.StateSets.seen c.args.sets.now) c.args.proof.now) c.proofs_law.ensures c.proves.result
    (spec_proved c.args.model.now c.args.spec (over_states (g.S.StateSets.seen c.args.sets.now) c.args.proof.now) (ctl_of c.in-Some.formula.now) c.in-Some.ensures c.proves.result c.proves.ensures.answer)
