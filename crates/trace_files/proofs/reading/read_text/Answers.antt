use Rattle.std.proofs.Common.{inr, Ok, Err, sym, ◌∙◌}
use Rattle.std.proofs.lemmas.Bool.{false≢true}
use Rattle.trace_files.specs.Parts.{Finds}
use Rattle.trace_files.specs.Spells.{IsTrace}
use Rattle.trace_files.specs.Trace.{trace_lines}
use Rattle.trace_files.proofs.Prints.{prints_apart}
use Rattle.trace_files.proofs.RefusedTexts.{from_start, fault_refused, spelled, left_refused}
use Rattle.trace_files.proofs.reading.read_text.Goals as goal

pub returns-then-is_done-clause-file : goal.returns-then-is_done-clause-file
returns-then-is_done-clause-file c =
    let m = c.args.model.now in
    let found = from_start m c.args.bytes.now c.requires.short (λ p. Finds (IsTrace m) (trace_lines m) p (Ok c.in-Ok.file) c.read_lines.new.cursor) c.new-cursor.result c.new-cursor.ensures.left c.new-cursor.ensures.line
    c.in-Ok.ensures in
    spelled m c.args.bytes.now c.requires.short (prints_apart m c.rules_law.ensures.flat c.look_at_types.ensures) c.in-Ok.file c.read_lines.new.cursor found (c.is_done.ensures.0 c.if-is_done.true)

pub returns-else-is_done-clause-refused : goal.returns-else-is_done-clause-refused
returns-else-is_done-clause-refused c =
    let m = c.args.model.now in
    let found = from_start m c.args.bytes.now c.requires.short (λ p. Finds (IsTrace m) (trace_lines m) p (Ok c.in-Ok.file) c.read_lines.new.cursor) c.new-cursor.result c.new-cursor.ensures.left c.new-cursor.ensures.line
    c.in-Ok.ensures in
    inr (left_refused m c.args.bytes.now c.requires.short (prints_apart m c.rules_law.ensures.flat c.look_at_types.ensures) c.in-Ok.file c.read_lines.new.cursor found
    (λ none. false≢true (sym c.if-is_done.false ∙ c.is_done.ensures.1 none)) c.refuse_next.result c.refuse_next.ensures)

pub returns-in-Err-clause-refused : goal.returns-in-Err-clause-refused
returns-in-Err-clause-refused c =
    let m = c.args.model.now in
    let found = from_start m c.args.bytes.now c.requires.short (λ p. Finds (IsTrace m) (trace_lines m) p (Err c.in-Err.fault) c.read_lines.new.cursor) c.new-cursor.result c.new-cursor.ensures.left c.new-cursor.ensures.line
    c.in-Err.ensures in
    fault_refused m c.args.bytes.now c.requires.short (prints_apart m c.rules_law.ensures.flat c.look_at_types.ensures) c.in-Err.fault c.read_lines.new.cursor c.line.result c.line.ensures found
    c.refuse_fault.result c.refuse_fault.ensures
