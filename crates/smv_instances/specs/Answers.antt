-- The answers of the tests that refuse.
use Rattle.std.specs.Prelude.{◌≡◌, Result, MatchResult, ◌⊎◌}
use Rattle.kripke_model.specs.Refusing.{Silent}
use Rattle.kripke_model.specs.declared.refusals.FlatRefusal.{FlatRefusal}
use Rattle.smv_instances.specs.Declarations.{Refusal}

-- want of memory, or a refusal that applies
abbrev pub Refused : Refusal → FlatRefusal → Type 0
Refused rule r = (r ≡ FlatRefusal.Memory) ⊎ rule r

-- Ok exactly where no refusal applies; else the one that does, or want of memory
abbrev pub Answers : {A : Type 0} → Refusal → Result A FlatRefusal → Type 0
Answers rule result = MatchResult result (λ _. Silent rule) (Refused rule)
