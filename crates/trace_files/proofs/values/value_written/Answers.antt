use Rattle.std.proofs.Common.{ap, sym, ◌∙◌, arith}
use Rattle.kripke_model.specs.Shown.{value_text}
use Rattle.trace_files.proofs.values.value_written.Goals as goal

pub returns : goal.returns
returns c = λ v has e. c.loop-value.invariant has.0 v (omega (arith, has.1)) (e ∙ ap (value_text c.args.model.now c.args.x) (sym has.2))
