use Rattle.smv_parser.proofs.ParseCodes.{deep_or_program, one_deep_place, one_kind_of_place, one_program, one_syntax_place, syntax_or_program}
use Rattle.smv_parser.proofs.laws.one_answer.Goals as goal

pub returns : goal.returns
returns c = record {
  tree = one_program;
  syntax_or_tree = syntax_or_program;
  deep_or_tree = deep_or_program;
  syntax = one_syntax_place;
  deep = one_deep_place;
  syntax_or_deep = one_kind_of_place;
}
