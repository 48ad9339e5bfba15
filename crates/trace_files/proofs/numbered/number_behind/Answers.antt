use Rattle.std.proofs.Common.{decimal, sym, ◌∙◌}
use Rattle.std.proofs.lemmas.List.{append_cancel_left}
use Rattle.trace_files.proofs.numbered.number_behind.Goals as goal

pub returns-clause-none : goal.returns-clause-none
returns-clause-none c = λ none n small e. c.number.ensures.none none n small (append_cancel_left c.args.front.now c.in_ok-behind.field-0.now (decimal n) (sym c.in_ok-behind.ensures ∙ e))
