use Rattle.std.proofs.Common.{◌∷◌, codes}
use Rattle.proof_text.specs.EntryHeads.{signed_words}
use Rattle.proof_text.proofs.EntryForms.{entry_head_plain}
use Rattle.proof_text.proofs.JudgedLines.{judged_next}
use Rattle.proof_text.proofs.entry_reading.read_head.Goals as goal

pub returns-in_default : goal.returns-in_default
returns-in_default c = absurd (c.requires.line c.in_default.ensures.none)

pub returns : goal.returns
returns c = rw c.ok_or.ensures.value (judged_next _ (λ h. codes "entry" ∷ signed_words h) entry_head_plain c.in-Some.ensures _ c.head_in.ensures c.line-line.ensures)
