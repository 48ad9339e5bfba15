-- The refusals of the code, where they apply.
use Rattle.std.specs.Prelude.{ℕ, List, IfSome}
use Rattle.command_words.specs.Words.{Job}
use Rattle.smv_session.specs.Refuses.{Refuses}
use Rattle.smv_texts.specs.Told.{told}
use Rattle.smv_texts.specs.declared.refusal.Refusal.{Refusal}

-- it applies to the text whatever the job is, or memory ran out
abbrev pub Applies : List ℕ → Refusal → Type 0
Applies bytes r = (job : Job) → IfSome (told r) (Refuses job bytes)
