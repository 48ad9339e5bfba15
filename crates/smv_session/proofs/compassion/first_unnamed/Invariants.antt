use Rattle.command_words.specs.Listed.{pairs_in}
use Rattle.std.proofs.Common.{take}
use Rattle.std.specs.Prelude.{All, flat_map}
use Rattle.smv_session.specs.Jobs.{both_of}
use Rattle.spec_leaves.specs.Named.{NamesLeaf}
use Rattle.smv_session.proofs.compassion.first_unnamed.Given as goal

-- the pairs before name leaves
abbrev pub invariant-loop-place : goal.invariant-loop-place
invariant-loop-place l = All (NamesLeaf l.model) (flat_map both_of (take l.place (pairs_in l.pairs)))
