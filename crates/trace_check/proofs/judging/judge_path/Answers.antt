use Rattle.std.proofs.Common.{sym, ◌∙◌}
use Rattle.std.proofs.lemmas.Bool.{false≢true}
use Rattle.fair_fixpoint.proofs.FairOver.{cycle_states}
use Rattle.trace_check.proofs.Verdicts.{fair_of}
use Rattle.trace_check.proofs.judging.judge_path.Goals as goal

pub first_unmet-requires-clause-states : goal.first_unmet-requires-clause-states
first_unmet-requires-clause-states g c = cycle_states c.args.model.now c.args.lasso.now c.requires.path

pub returns-then-falsifies : goal.returns-then-falsifies
returns-then-falsifies g c = record {
  traceable = c.requires.traceable;
  initial = c.requires.initial;
  fair = fair_of c.args.model.now c.args.lasso.now c.requires.path c.in_default.ensures;
  falsifies = c.falsifies.ensures.0 c.if-falsifies.true;
}

pub returns-else-falsifies : goal.returns-else-falsifies
returns-else-falsifies g c = (
  c.requires.traceable,
  c.requires.initial,
  fair_of c.args.model.now c.args.lasso.now c.requires.path c.in_default.ensures,
  λ h. false≢true (sym c.if-falsifies.false ∙ c.falsifies.ensures.1 h),
)
