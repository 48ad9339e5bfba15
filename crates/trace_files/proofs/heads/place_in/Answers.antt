use Rattle.std.proofs.Common.{codes, arith}
use Rattle.trace_files.proofs.FoundLines.{other_number}
use Rattle.trace_files.proofs.heads.place_in.Goals as goal

pub returns-else-place-others : goal.returns-else-place-others
returns-else-place-others c = λ i within e.
    other_number (codes "loop ") c.args.text.now c.in_ok-place.place i (omega arith) (omega (arith, within, c.requires)) (λ same. omega (arith, same, within, c.if-place-others.false)) c.in_ok-place.ensures.some e
