use Rattle.std.proofs.Common.{◌∙◌, ◌∷◌, [], length, ap, arith, map, sym, drop, ◌+◌}
use Rattle.std.proofs.lemmas.List.{length-append}
use Rattle.clap.specs.Words.{first_value, found_of}
use Rattle.command_words.specs.Listed.{pairs_in}
use Rattle.command_words.proofs.PairWords.{before, one_more}
use Rattle.command_words.proofs.strong.given_pairs.Goals as goal

pub loop-name-preserved : goal.loop-name-preserved
loop-name-preserved c = record {
  few = omega (arith, ap length c.push.ensures, length-append (pairs_in c.loop-name.pairs) (c.in_ok-read_pair.field-0 ∷ []));
  rest = c.loop-name.invariant.rest
      ∙ one_more (first_value (found_of c.args.matches.now)) (pairs_in c.loop-name.pairs) c.args.names.now
      c.loop-name.name-index _ c.in-Some.word.now c.in_ok-read_pair.field-0 c.loop-name-test.true
      (sym c.in-Some.ensures) (sym c.in_ok-read_pair.ensures)
      ∙ ap (λ pairs. before (first_value (found_of c.args.matches.now)) pairs
      (map (λ s. s.now) (drop (c.loop-name.name-index + 1) c.args.names.now)))
      (sym c.push.ensures);
}
