use Rattle.std.proofs.Common.{◌∷◌, codes}
use Rattle.proof_text.specs.FreeHeads.{free_words}
use Rattle.proof_text.proofs.FreeForms.{free_head_plain}
use Rattle.proof_text.proofs.JudgedLines.{judged_next}
use Rattle.proof_text.proofs.free_entry_reading.read_head.Goals as goal

pub returns-in_default : goal.returns-in_default
returns-in_default c = absurd (c.requires.line c.in_default.ensures.none)

pub returns : goal.returns
returns c = rw c.ok_or.ensures.value (judged_next _ (λ h. codes "centry" ∷ free_words h) free_head_plain c.in-Some.ensures _ c.head_in.ensures c.line-line.ensures)
