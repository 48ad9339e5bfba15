-- The infinite sequence of a fair path is a fair walk.
use Rattle.std.proofs.Common.{◌≡◌, ℕ, zero, suc, ◌+◌, ◌*◌, ◌%◌, ◌<◌, ◌≤◌, [], length, get_or, sym, ◌∙◌, ap, subst, arith, Any}
use Rattle.std.proofs.Math.Nat.{add-mul-mod_self_right}
use Rattle.kripke_model.specs.System.{System, State}
use Rattle.kripke_model.specs.Path.{Lasso, at}
use Rattle.kripke_model.proofs.Lassos.{at_cycle, at_member, all_states, all_steps}
use Rattle.path_laws.specs.Fairness.{IsFairOver, IsWalkOver}

-- after n more turns of the cycle the same state comes
later : (p : Lasso) (k n : ℕ) → at p (length p.stem + k + n * length p.cycle) ≡ at p (length p.stem + k)
later p k n =
    at_cycle p (length p.stem + k + n * length p.cycle) (omega arith)
    ∙ ap (λ i. get_or p.cycle i []) (ap (λ i. i % length p.cycle) (omega arith) ∙ add-mul-mod_self_right k n (length p.cycle) ∙ ap (λ i. i % length p.cycle) (omega arith))
    ∙ sym (at_cycle p (length p.stem + k) (omega arith))

far : (n c : ℕ) → 0 < c → n ≤ n * c
far n zero h = absurd (omega arith)
far n (suc c) h = omega arith

pub walk_over : (m : System) (n : ℕ) (C : ℕ → State → Type 0) (p : Lasso) → IsFairOver m n C p → IsWalkOver m n C (at p)
walk_over m n C p fair = record { states = all_states fair.path; steps = all_steps fair.path; met = met }
  where
    met : (k : ℕ) → k < n → (i : ℕ) → (j : ℕ) × (i ≤ j) × C k (at p j)
    met k h i =
        let w : Any (C k) p.cycle = fair.met k h in
        let there : at p (length p.stem + w.0 + i * length p.cycle) ≡ w.1 = later p w.0 i ∙ at_member p w.0 w.1 w.2 w.3 in
        (length p.stem + w.0 + i * length p.cycle, omega (arith, far i (length p.cycle) fair.path.loops), subst (λ s. C k s) (sym there) w.4)
