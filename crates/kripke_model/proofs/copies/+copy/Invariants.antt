use Rattle.std.proofs.Common.{◌≡◌, map, take}
use Rattle.kripke_model.specs.Reading.{term_of, arm_of}
use Rattle.kripke_model.proofs.copies.+copy.Given as goal

-- the elements so far
abbrev pub invariant-copy_elements-loop-e : goal.invariant-copy_elements-loop-e
invariant-copy_elements-loop-e l = map term_of l.copies.items ≡ map term_of (take l.e-index l.elements)

-- the arms so far
abbrev pub invariant-copy_arms-loop-arm : goal.invariant-copy_arms-loop-arm
invariant-copy_arms-loop-arm l = map arm_of l.copies.items ≡ map arm_of (take l.arm-index l.arms)
