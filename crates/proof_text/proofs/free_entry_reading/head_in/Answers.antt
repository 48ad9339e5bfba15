use Rattle.std.proofs.Common.{refl}
use Rattle.proof_text.proofs.FreeForms.{no_free_head, other_free_head}
use Rattle.proof_text.proofs.free_entry_reading.head_in.Goals as goal

pub returns-in_err-head : goal.returns-in_err-head
returns-in_err-head c = rw c.from_residual.ensures (no_free_head _ c.rules_law.ensures.flat _ _ (c.in_err-head.ensures.none refl))

pub returns-then-not-fits_head : goal.returns-then-not-fits_head
returns-then-not-fits_head c =
    let found = c.in_ok-head.ensures.some in
    other_free_head _ c.rules_law.ensures.flat _ _ _ found.0 found.1 (λ rule last. let yes = c.fits_head.ensures.fits rule last in cc)
