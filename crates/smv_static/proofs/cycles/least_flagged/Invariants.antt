use Rattle.std.proofs.Common.{◌≡◌, ℕ, ◌<◌, ◌≤◌, ◌⊎◌}
use Rattle.std.specs.Prelude.{Contains, slice_index}
use Rattle.smv_static.specs.Sides.{IsFlagged}
use Rattle.smv_static.specs.Circles.{HoldsOf}
use Rattle.smv_static.proofs.cycles.least_flagged.Given as goal

-- the least so far
abbrev pub invariant-loop-place : goal.invariant-loop-place
invariant-loop-place l = record {
  at_most : l.least ≤ l.bound;
  holds : (l.least ≡ l.bound) ⊎ Contains l.places l.least × HoldsOf (IsFlagged l.flags) l.assigns l.least;
  none : (i : ℕ) → i < l.place-index → slice_index l.places i < l.least → HoldsOf (λ a. IsFlagged l.flags a → ⊥) l.assigns (slice_index l.places i);
}
