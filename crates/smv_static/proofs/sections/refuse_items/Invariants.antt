use Rattle.std.proofs.Common.{ℕ, ◌<◌, get_or}
use Rattle.kripke_model.specs.System.{Condition}
use Rattle.smv_static.specs.Sections.{IsWrong}
use Rattle.smv_static.proofs.sections.refuse_items.Given as goal

-- none so far is refused
abbrev pub invariant-loop-item : goal.invariant-loop-item
invariant-loop-item l = (k : ℕ) → k < l.item-index → (d : Condition) → IsWrong l.rule l.section (get_or l.items k d).expr → ⊥
