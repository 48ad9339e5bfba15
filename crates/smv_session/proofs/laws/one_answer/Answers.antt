use Rattle.std.proofs.Common.{None}
use Rattle.command_words.specs.Words.{Decide}
use Rattle.smv_session.proofs.OneAnswer.{Laws, one_model, one_refusal, model_or_refusal, accepted_or_refusal}
use Rattle.smv_session.proofs.laws.one_answer.Goals as goal

pub returns : goal.returns
returns c =
    let laws : Laws = record {
      list = c.one_answer.ensures.list;
      list_or_bad = c.one_answer.ensures.list_or_bad;
      list_or_large = c.one_answer.ensures.list_or_large;
      bad = c.one_answer.ensures.bad;
      large = c.one_answer.ensures.large;
      bad_or_large = c.one_answer.ensures.bad_or_large;
      one_tree = c.one_answer-2.ensures.tree;
      syntax_or_tree = c.one_answer-2.ensures.syntax_or_tree;
      deep_or_tree = c.one_answer-2.ensures.deep_or_tree;
      syntax_place = c.one_answer-2.ensures.syntax;
      deep = c.one_answer-2.ensures.deep;
      syntax_or_deep = c.one_answer-2.ensures.syntax_or_deep;
      one_flat = c.one_answer-3.ensures.flat;
      one_flat_refusal = c.one_answer-3.ensures.refused;
      one_static_refusal = c.one_refusal.ensures;
    } in
    record {
      model = λ bytes m n h k. one_model laws (Decide None) bytes m n h k;
      refusal = one_refusal laws;
      model_or_refusal = model_or_refusal laws;
      accepted_or_refusal = accepted_or_refusal laws;
    }
