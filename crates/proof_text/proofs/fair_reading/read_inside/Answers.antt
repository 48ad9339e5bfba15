use Rattle.std.proofs.Common.{[], ◌∷◌, length, codes, decimal, ap, arith}
use Rattle.proof_text.proofs.JudgedLines.{judged_found}
use Rattle.proof_text.proofs.PlainLines.{number}
use Rattle.proof_text.proofs.SetForms.{some_set}
use Rattle.proof_text.proofs.fair_reading.read_inside.Goals as goal

pub returns : goal.returns
returns c = rw c.ok_or.ensures.value (judged_found (λ s. codes "fair" ∷ decimal s ∷ []) (some_set _ c.requires.some) (λ n. (number n, λ e. omega (arith, ap length e))) c.in-Some.ensures _ c.set_in.ensures c.line-line.ensures)
