use Rattle.std.proofs.Common.{◌≡◌, ◌≤◌, inr, length, ap, arith}
use Rattle.trace_files.specs.Spells.{most_bytes}
use Rattle.trace_files.specs.Told.{IsNextRefused}
use Rattle.trace_files.proofs.RefusedTexts.{from_start, no_spec}
use Rattle.trace_files.proofs.reading.read_trace.Goals as goal

pub returns-then-is_empty-clause-refused : goal.returns-then-is_empty-clause-refused
returns-then-is_empty-clause-refused c =
    let m = c.args.model.now in
    let short : length c.args.bytes.now ≤ most_bytes = omega (arith, c.if-bytes-gt-MAX_BYTES.false) in
    let empty : length c.specs.result.now ≡ 0 = search (arith, c.is_empty.ensures, c.if-is_empty.true) in
    let none : length m.specs ≡ 0 = omega (arith, empty, ap length c.specs.ensures) in
    inr (no_spec m c.args.bytes.now short none c.refuse_next.result (from_start m c.args.bytes.now short (λ p. IsNextRefused p c.refuse_next.result) c.new.result c.new.ensures.left c.new.ensures.line c.refuse_next.ensures))
