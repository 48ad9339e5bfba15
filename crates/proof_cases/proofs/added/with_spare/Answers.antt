use Rattle.proof_form.specs.Pinned.{proof_slots}
use Rattle.proof_cases.proofs.Spare.{spare_gone}
use Rattle.proof_cases.proofs.added.with_spare.Goals as goal

pub returns-in_default : goal.returns-in_default
returns-in_default g c = spare_gone c.args.spare.slot (proof_slots c.args.proof) c.release.ensures.pins
