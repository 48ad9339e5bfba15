use Rattle.region_sets.specs.Ranks.{slots}
use Rattle.proof_form.specs.Form.{free_sets_of}
use Rattle.proof_cases.proofs.Lessened.{released}
use Rattle.proof_cases.proofs.wrong.changed_free.Goals as goal

pub returns-in-NoFreePart : goal.returns-in-NoFreePart
returns-in-NoFreePart g c = released (slots (free_sets_of c.args.free)) c.release_free_part.ensures.pins
