use Rattle.std.proofs.Common.{Ok, Err, subst}
use Rattle.std.specs.Prelude.{All}
use Rattle.std.proofs.lemmas.Result.{err_from_is_err_and}
use Rattle.proof_text.specs.SmallNumbers.{HasSmallNumbers, IsSmallValue}
use Rattle.proof_text.proofs.ReadFiles.{header_read, one_more, all_read, no_header, no_block, next_found}
use Rattle.proof_text.proofs.file_reading.read_all.Goals as goal

pub returns-in_err-order : goal.returns-in_err-order
returns-in_err-order c =
    let p = err_from_is_err_and c.from_residual.result c.from_residual.ensures.1 in
    rw (p.1, p.2) (no_header c.args.model.now c.args.cursor.now c.requires.line c.rules_law.ensures.flat c.in_err-order.ensures)

pub loop-alloc-init : goal.loop-alloc-init
loop-alloc-init c = rw c.new-blocks.ensures.items (header_read c.args.model.now c.args.cursor.now c.requires.line c.in_ok-order.ensures)

pub returns-in_err-block : goal.returns-in_err-block
returns-in_err-block c =
    let p = err_from_is_err_and c.from_residual-in_err-block.result c.from_residual-in_err-block.ensures.1 in
    let small : HasSmallNumbers c.args.model.now = subst (λ vs. All (λ v. All IsSmallValue v.values) vs) c.vars.ensures c.variables_law.ensures in
    rw (p.1, p.2) (no_block c.args.model.now c.args.cursor.now c.requires.line c.rules_law.ensures.flat small {f = record { order = c.in_ok-order.order.items; blocks = c.loop-alloc.blocks.items }} c.loop-alloc.invariant
    (λ e. let done = c.is_done.ensures.1 e in cc) (next_found c.args.model.now c.args.cursor.now c.requires.line _ _ (Err _) c.state_bits-levels.ensures c.deref.ensures.value c.in_err-block.ensures))

pub loop-alloc-preserved : goal.loop-alloc-preserved
loop-alloc-preserved c =
    rw c.in-Ok.ensures.items (one_more c.args.model.now c.args.cursor.now c.requires.line {f = record { order = c.in_ok-order.order.items; blocks = c.loop-alloc.blocks.items }} c.loop-alloc.invariant
    (next_found c.args.model.now c.args.cursor.now c.requires.line _ _ (Ok _) c.state_bits-levels.ensures c.deref.ensures.value c.in_ok-block.ensures))

pub returns : goal.returns
returns c =
    all_read c.args.model.now c.args.cursor.now c.requires.line {f = record { order = c.in_ok-order.order.items; blocks = c.loop-alloc.blocks.items }} c.loop-alloc.invariant (c.is_done.ensures.0 cc) c.requires.short
