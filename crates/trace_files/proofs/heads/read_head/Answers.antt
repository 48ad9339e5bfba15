use Rattle.std.proofs.Common.{sym, ◌∙◌}
use Rattle.std.proofs.lemmas.Bool.{false≢true}
use Rattle.trace_files.specs.Trace.{state_line}
use Rattle.trace_files.proofs.FoundLines.{line_missing, line_other}
use Rattle.trace_files.proofs.heads.read_head.Goals as goal

pub returns-in_default : goal.returns-in_default
returns-in_default c = line_missing (λ (u : Unit {0}). Unit {0}) (λ u. state_line c.args.k) (tt, tt) c.in_default.ensures

pub returns-else-is_numbered : goal.returns-else-is_numbered
returns-else-is_numbered c =
    line_other (λ (u : Unit {0}). Unit {0}) (λ u. state_line c.args.k) (tt, tt) c.in-Some.ensures c.line-line.ensures
    (λ u fits e. false≢true (sym c.if-is_numbered.false ∙ c.is_numbered.ensures.1 (sym e)))
