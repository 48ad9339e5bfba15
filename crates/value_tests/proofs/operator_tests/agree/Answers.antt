use Rattle.kripke_model.specs.Reading.{term_of}
use Rattle.single_states.proofs.BracesLemmas.{evaluable_filled}
use Rattle.value_tests.proofs.operator_tests.agree.Goals as goal

pub agree_from-requires : goal.agree_from-requires
agree_from-requires g c = evaluable_filled c.args.model.now (term_of c.args.expr.now) c.requires.evaluable
