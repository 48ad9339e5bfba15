use Rattle.std.proofs.Common.{[], ◌∷◌, length, codes, decimal, ap, arith}
use Rattle.proof_text.proofs.JudgedLines.{judged_found}
use Rattle.proof_text.proofs.PlainLines.{number}
use Rattle.proof_text.proofs.block_reading.read_node_count.Goals as goal

pub returns : goal.returns
returns c = rw c.ok_or.ensures.value (judged_found (λ n. codes "nodes" ∷ decimal n ∷ []) (0, omega arith) (λ n. (number n, λ e. omega (arith, ap length e))) c.in-Some.ensures _ c.count_in.ensures c.line-line.ensures)
