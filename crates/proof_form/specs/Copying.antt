-- Copies of pins that are added to a list.
use Rattle.std.specs.Prelude.{◌≡◌, List, ◌++◌, length, Result, IfOk}
use Rattle.region_sets.specs.declared.pins.Pin.{Pin}
use Rattle.region_sets.specs.declared.pins.SetRefusal.{SetRefusal}
use Rattle.region_sets.specs.Sets.{Sets, IsCall}
use Rattle.region_sets.specs.Ranks.{slots}
use Rattle.proof_form.specs.Pinned.{AreCopies}

-- a list had these pins and has more of them: a copy of each pin in turn, or of the first ones where there was no room
pub record AreCopied {T : Type 0} (before after : Sets) (pins old new : List Pin)
    (result : Result T SetRefusal) : Type 0 where
  pub added : List Pin
  pub longer : new ≡ old ++ added
  pub call : IsCall (length pins) before after (slots added) result
  pub copies : IfOk result (λ _. AreCopies before after pins added)
