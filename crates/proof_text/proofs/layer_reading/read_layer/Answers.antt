use Rattle.std.proofs.Common.{[], ◌∷◌, codes, decimal}
use Rattle.proof_text.proofs.JudgedLines.{ended_found, judged_found}
use Rattle.proof_text.proofs.PlainLines.{layer_plain}
use Rattle.proof_text.proofs.SetForms.{some_layer}
use Rattle.proof_text.proofs.layer_reading.read_layer.Goals as goal

pub returns-in_default : goal.returns-in_default
returns-in_default c = ended_found (λ l. codes "layer" ∷ decimal l.avoid ∷ decimal l.set ∷ []) (some_layer _ _ c.requires.one c.requires.some) c.in_default.ensures

pub returns : goal.returns
returns c = rw c.ok_or.ensures.value (judged_found (λ l. codes "layer" ∷ decimal l.avoid ∷ decimal l.set ∷ []) (some_layer _ _ c.requires.one c.requires.some) layer_plain c.in-Some.ensures _ c.layer_in.ensures c.line-line.ensures)
