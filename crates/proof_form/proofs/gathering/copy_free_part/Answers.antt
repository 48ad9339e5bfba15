use Rattle.std.proofs.Common.{Option, subst}
use Rattle.region_sets.specs.declared.pins.Pin.{Pin}
use Rattle.region_sets.specs.Ranks.{slots, AreLive}
use Rattle.proof_form.specs.Form.{FreePart, free_sets_of}
use Rattle.proof_form.proofs.gathering.copy_free_part.Goals as goal

pub copy_free-requires : goal.copy_free-requires
copy_free-requires g c = subst (λ (o : Option (FreePart Pin)). AreLive (g.S.StateSets.seen c.args.sets.now) (slots (free_sets_of o))) c.in-Some.is c.requires
