use Rattle.std.proofs.Common.{◌≡◌, take}
use Rattle.kripke_model.proofs.model_copies.copy_all.Given as goal

-- the members so far
abbrev pub invariant-loop-member : goal.invariant-loop-member
invariant-loop-member g l = l.copies.items ≡ take l.member-index l.members
