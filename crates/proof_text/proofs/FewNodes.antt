-- The formulas of specifications have few nodes.
use Rattle.std.proofs.Common.{◌≡◌, ℕ, zero, suc, Some, IsSomeAnd, refl, sym, ap, subst, arith}
use Rattle.kripke_model.specs.Ctl.{Ctl, formula_of}
use Rattle.kripke_model.specs.Flat.{IsFlat}
use Rattle.kripke_model.specs.Signs.{node_count}
use Rattle.kripke_model.specs.System.{System}
use Rattle.proof_form.specs.Shape.{spec_formula}
use Rattle.proof_text.proofs.KnownFits.{IsFew, found, few_in}
use Rattle.proof_text.proofs.KnownLines.{IsSmall}

pub few_nodes : (m : System) → IsFlat m → (j : ℕ) (f : Ctl) → spec_formula m j ≡ Some f → IsSmall (node_count f)
few_nodes m flat zero f e = absurd cc
few_nodes m flat (suc j) f e =
    let r = found m.specs (λ c. formula_of c.expr) IsFew (λ g. g ≡ f) j (few_in m flat).1 (subst (λ o. IsSomeAnd o (λ g. g ≡ f)) (sym e) refl) in
    omega (arith, r.holds, ap node_count r.shown)
