use Rattle.smv_parser.proofs.Levels.{chain-from, chain-to, level-from, level-to}
use Rattle.smv_parser.proofs.Whole.{one_expression}
use Rattle.smv_parser.proofs.laws.rules.Goals as goal

pub returns : goal.returns
returns c = record {
  levels = λ k ts e h h' d. level-to k ts e d;
  levels_all = λ k ts e h h' d. level-from k ts e h h' d;
  chains = λ k ts e h h' d. chain-to k ts e d;
  chains_all = λ k ts e h h' d. chain-from k ts e h h' d;
  one_tree = λ ts e f d d'. one_expression ts e f d d';
}
