use Rattle.std.proofs.Common.{[], ◌∷◌, codes}
use Rattle.proof_text.specs.BlockReading.{claimed_words}
use Rattle.proof_text.specs.FileParts.{head_line}
use Rattle.proof_text.proofs.BlockForms.{first_of_next, head_is_plain}
use Rattle.proof_text.proofs.JudgedLines.{judged_next}
use Rattle.proof_text.proofs.block_heads.read_head.Goals as goal

pub returns : goal.returns
returns c = λ levels.
    first_of_next _ (λ h. head_line h ∷ []) levels _ _ c.ok_or.result
    (rw c.ok_or.ensures.value (judged_next _ (λ h. codes "spec" ∷ claimed_words h) head_is_plain c.in-Some.ensures _ c.head_in.ensures c.line-line.ensures))
