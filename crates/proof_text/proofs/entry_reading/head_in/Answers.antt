use Rattle.std.proofs.Common.{refl}
use Rattle.proof_text.proofs.EntryForms.{no_head, other_head}
use Rattle.proof_text.proofs.entry_reading.head_in.Goals as goal

pub returns-in_err-head : goal.returns-in_err-head
returns-in_err-head c = rw c.from_residual.ensures (no_head _ _ _ c.requires.few_nodes (c.in_err-head.ensures.none refl))

pub returns-then-not-fits_head : goal.returns-then-not-fits_head
returns-then-not-fits_head c =
    let found = c.in_ok-head.ensures.some in
    other_head _ _ _ _ c.requires.few_nodes found.0 found.1 (λ rule last. let yes = c.fits_head.ensures.fits rule last in cc)
