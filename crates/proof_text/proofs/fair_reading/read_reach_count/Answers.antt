use Rattle.std.proofs.Common.{[], ◌∷◌, length, codes, decimal, ap, arith}
use Rattle.proof_text.proofs.JudgedLines.{judged_found}
use Rattle.proof_text.proofs.PlainLines.{number, number_and}
use Rattle.proof_text.proofs.fair_reading.read_reach_count.Goals as goal

pub returns : goal.returns
returns c = rw c.ok_or.ensures.value (judged_found (λ n. codes "reach" ∷ decimal c.args.k ∷ decimal n ∷ []) (0, omega arith) (λ n. (number_and c.args.k (decimal n ∷ []) (number n), λ e. omega (arith, ap length e))) c.in-Some.ensures _ c.reach_in.ensures c.line-line.ensures)
