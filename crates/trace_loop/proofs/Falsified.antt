-- What falsifies a path operator, by the places that stand for all later ones.
use Rattle.std.proofs.Common.{ℕ, ◌<◌, ◌≤◌}
use Rattle.std.specs.Prelude.{◌↔◌}
use Rattle.kripke_model.specs.declared.expressions.PathOp.{PathOp}
use Rattle.kripke_model.specs.Ctl.{Ctl}
use Rattle.kripke_model.specs.Evaluation.{Holds}
use Rattle.kripke_model.specs.Falsifies.{FalsifiesFrom}
use Rattle.kripke_model.specs.System.{System, State}
use Rattle.kripke_model.specs.Term.{Term}
use Rattle.trace_loop.specs.Places.{IsFirst}
use Rattle.trace_loop.proofs.Suffixes.{holds_same, falsified_same}

module _ (m : System) (w : ℕ → State) (count i first : ℕ) (stands : IsFirst w count i first) where
  pub globally_falsified : (f : Ctl) → ((j : ℕ) × (first ≤ j) × (j < count) × FalsifiesFrom m w f j) ↔ FalsifiesFrom m w (Ctl.Quant PathOp.AG f) i
  globally_falsified f = (
    (λ h. let k = stands.unfolded h.0 h.1 h.2 in (k.0, k.1, falsified_same m w f h.0 k.0 k.2 h.3)),
    (λ h. let k = stands.folded h.0 h.1 in (k.0, k.1, k.2, falsified_same m w f h.0 k.0 k.3 h.2)),
  )

  pub finally_falsified : (e : Term) → (((j : ℕ) × (first ≤ j) × (j < count) × Holds m e (w j) (w j)) → ⊥) ↔ FalsifiesFrom m w (Ctl.Quant PathOp.AF (Ctl.Leaf e)) i
  finally_falsified e = (
    (λ never j le h. let k = stands.folded j le in never (k.0, k.1, k.2, holds_same m w e j k.0 k.3 h)),
    (λ fails h. let k = stands.unfolded h.0 h.1 h.2 in fails k.0 k.1 (holds_same m w e h.0 k.0 k.2 h.3)),
  )
