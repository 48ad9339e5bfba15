use Rattle.std.proofs.Common.{◌≡◌, length}
use Rattle.smv_instantiate.proofs.FirstLemmas.{offset_so_far}
use Rattle.smv_instantiate.proofs.firsts.offset.Given as goal

-- the elements that stand before, by the indexes so far
abbrev pub invariant-loop-bracket : goal.invariant-loop-bracket
invariant-loop-bracket l = l.before ≡ offset_so_far l.brackets l.values (length l.yielded)
