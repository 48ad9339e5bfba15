use Rattle.std.proofs.Common.{[], ◌∷◌, codes, decimal}
use Rattle.proof_text.proofs.JudgedLines.{judged_found}
use Rattle.proof_text.proofs.PlainLines.{set_plain}
use Rattle.proof_text.proofs.SetForms.{some_set}
use Rattle.proof_text.proofs.set_reading.read_set.Goals as goal

pub returns : goal.returns
returns c = rw c.ok_or.ensures.value (judged_found (λ s. codes "set" ∷ decimal s ∷ []) (some_set _ c.requires.some) set_plain c.in-Some.ensures _ c.set_in.ensures c.line-line.ensures)
