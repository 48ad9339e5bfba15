use Rattle.std.proofs.Common.{◌≡◌, take}
use Rattle.smv_instantiate.proofs.models.copied_symbols.Given as goal

-- the first of them
abbrev pub invariant-loop-place : goal.invariant-loop-place
invariant-loop-place l = l.names.items ≡ take l.place l.symbols
