use Rattle.std.proofs.Common.{Option, subst, length}
use Rattle.region_sets.specs.declared.pins.Pin.{Pin}
use Rattle.std.specs.Prelude.{◌+◌, ◌≤◌}
use Rattle.proof_form.specs.Form.{FreePart, free_sets_of}
use Rattle.proof_form.proofs.numbering.number_free_part.Goals as goal

pub number_free-requires : goal.number_free-requires
number_free-requires c = subst (λ (o : Option (FreePart Pin)). c.args.next.now + length (free_sets_of o) ≤ length c.args.numbers.now) c.in-Some.is c.requires
