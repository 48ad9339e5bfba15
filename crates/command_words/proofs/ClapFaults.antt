-- The faults that clap finds.
use Rattle.std.proofs.Common.{◌≡◌, [], ◌∷◌, refl}
use Rattle.clap.specs.Kinds.{Kinds, or_else}

abbrev pub IsFault : Kinds → Type 0
IsFault [] = ⊥
IsFault (kind ∷ kinds) = Unit {0}

pub first_fails : (first next : Kinds) → IsFault first → IsFault (or_else first next)
first_fails [] next fails = absurd fails
first_fails (kind ∷ kinds) next fails = fails

pub next_fails : (first next : Kinds) → IsFault next → IsFault (or_else first next)
next_fails [] next fails = fails
next_fails (kind ∷ kinds) next fails = tt

pub or_else_assoc : (a b c : Kinds) → or_else (or_else a b) c ≡ or_else a (or_else b c)
or_else_assoc [] b c = refl
or_else_assoc (kind ∷ kinds) b c = refl
