use Rattle.std.proofs.Common.{◌≡◌, ◌≤◌, drop, length, map}
use Rattle.clap.specs.Words.{first_value, found_of}
use Rattle.command_words.specs.Given.{operands_with}
use Rattle.command_words.specs.Listed.{pairs_in}
use Rattle.command_words.specs.Words.{spec_pairs}
use Rattle.command_words.proofs.PairWords.{with_more}
use Rattle.command_words.proofs.strong.given_pairs.Given as goal

abbrev pub invariant-loop-name : goal.invariant-loop-name
invariant-loop-name l = record {
  few : length (pairs_in l.pairs) ≤ l.name-index;
  rest : spec_pairs (operands_with (map (λ s. s.now) l.names) (first_value (found_of l.matches)))
      ≡ with_more (pairs_in l.pairs) (spec_pairs (operands_with
      (map (λ s. s.now) (drop l.name-index l.names)) (first_value (found_of l.matches))));
}
