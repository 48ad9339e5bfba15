use Rattle.command_words.specs.Listed.{pairs_in}
use Rattle.std.proofs.Common.{take}
use Rattle.std.specs.Prelude.{All}
use Rattle.kripke_model.specs.Leaves.{IsModelLeaf}
use Rattle.command_replies.specs.Strong.{ArePairs}
use Rattle.strong_fair.specs.Strong.{Pair}
use Rattle.smv_session.proofs.compassion.pairs_of.Given as goal

-- the pairs of the numbers before, which are leaves
abbrev pub invariant-loop-place : goal.invariant-loop-place
invariant-loop-place l =
    ArePairs l.model (take l.place (pairs_in l.numbers)) l.pairs.items
    × All (λ (pair : Pair). IsModelLeaf l.model pair.p × IsModelLeaf l.model pair.q) l.pairs.items
