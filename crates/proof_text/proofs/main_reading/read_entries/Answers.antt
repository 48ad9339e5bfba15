use Rattle.std.proofs.Common.{codes, arith}
use Rattle.std.proofs.lemmas.Result.{err_from_is_err_and}
use Rattle.kripke_model.specs.WellFormed.{ctl_of}
use Rattle.proof_text.specs.Lines.{entry_lines}
use Rattle.proof_text.proofs.FirstWords.{starts_some, entry_starts}
use Rattle.proof_text.proofs.FoundEntries.{entries_rise, entry_read, entry_fault}
use Rattle.proof_text.proofs.FoundUntilLast.{fewer_left, line_there, none_read}
use Rattle.proof_text.proofs.Joined.{memory_found, room_of}
use Rattle.proof_text.proofs.main_reading.read_entries.Goals as goal

pub loop-alloc-init : goal.loop-alloc-init
loop-alloc-init c = rw c.new-entries.ensures.items (none_read _ (λ _. entry_lines) _)

pub read_entry-requires-clause-room : goal.read_entry-requires-clause-room
read_entry-requires-clause-room c = omega (arith, c.requires.room, room_of c.loop-alloc.invariant)

pub read_entry-requires-clause-line : goal.read_entry-requires-clause-line
read_entry-requires-clause-line c = line_there (codes "entry") c.loop-alloc.cursor (c.begins_with.ensures.yes c.loop-alloc-test.true)

pub read_entry-requires-clause-rising : goal.read_entry-requires-clause-rising
read_entry-requires-clause-rising c = rw c.deref.ensures.value (entries_rise c.args.model.now (ctl_of c.args.formula.now) c.args.most c.loop-alloc.invariant)

pub returns-in_err-entry-clause-fault : goal.returns-in_err-entry-clause-fault
returns-in_err-entry-clause-fault c =
    let p = err_from_is_err_and c.from_residual.result c.from_residual.ensures.1 in
    rw (p.1, p.2) (λ claim. entry_fault _ _ _ _ c.constraint_count-count.ensures.is c.loop-alloc.invariant c.rules_law.ensures.flat c.requires.few_nodes claim c.deref.ensures.value (c.begins_with.ensures.yes c.loop-alloc-test.true) c.in_err-entry.ensures)

pub returns-in_default-clause-fault : goal.returns-in_default-clause-fault
returns-in_default-clause-fault c = λ claim. memory_found (omega (arith, room_of c.loop-alloc.invariant, room_of c.in_ok-entry.ensures))

pub loop-alloc-preserved : goal.loop-alloc-preserved
loop-alloc-preserved c = rw c.in-Ok.ensures.items (entry_read c.args.model.now (ctl_of c.args.formula.now) c.args.most _ c.constraint_count-count.ensures.is c.loop-alloc.invariant c.deref.ensures.value c.in_ok-entry.ensures)

pub loop-alloc-smaller : goal.loop-alloc-smaller
loop-alloc-smaller c = fewer_left (starts_some (codes "entry") _ (entry_starts _)) c.in_ok-entry.ensures

pub returns-clause-all : goal.returns-clause-all
returns-clause-all c = (c.loop-alloc.invariant, c.begins_with.ensures.no c.loop-alloc-test.false)
