use Rattle.std.proofs.Common.{codes, length, ap, arith}
use Rattle.trace_files.proofs.FoundLines.{other_number}
use Rattle.trace_files.proofs.heads.spec_in.Goals.{else-spec-ge1-via-then-spec-ge1+else-spec-specs, else-spec-ge1-via-else-spec-ge1}
use Rattle.trace_files.proofs.heads.spec_in.Goals as goal

pub returns-else-spec-ge1 : goal.returns-else-spec-ge1
returns-else-spec-ge1 c = λ j is e.
    other_number (codes "trace ") c.args.text.now c.in_ok-spec.spec j (omega arith) (omega (arith, is.1, c.rules_law.ensures.flat.limits.specifications))
    (λ same. elim c.else-spec-ge1.branch [
      | else-spec-ge1-via-then-spec-ge1+else-spec-specs w ↦ omega (arith, same, is.1, w.if-spec-specs.false, ap length w.specs.ensures)
      | else-spec-ge1-via-else-spec-ge1 w ↦ omega (arith, same, is.0, w.if-spec-ge1.false)
    ]) c.in_ok-spec.ensures.some e
