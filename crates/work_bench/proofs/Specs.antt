-- The formula of a specification, by its number.
use Rattle.std.proofs.Common.{◌≡◌, ℕ, zero, suc, ◌+◌, ◌<◌, List, [], ◌∷◌, get_or, length, map, Some, All, sym, subst, ap, arith}
use Rattle.std.specs.Prelude.{option_map, slice_get}
use Rattle.kripke_model.specs.Ctl.{Ctl, formula_of}
use Rattle.kripke_model.specs.declared.expressions.Formula.{Formula}
use Rattle.kripke_model.specs.System.{System, Condition}
use Rattle.kripke_model.specs.WellFormed.{ctl_of}
use Rattle.kripke_model.specs.Leaves.{HasModelLeaves}
use Rattle.proof_form.specs.Shape.{spec_formula}

spec_in : (fs : List Formula) (cs : List Condition) (k : ℕ) (d : Formula) → map ctl_of fs ≡ map (λ c. formula_of c.expr) cs → k < length fs
    → option_map (λ c. formula_of c.expr) (slice_get cs k) ≡ Some (ctl_of (get_or fs k d))
spec_in [] cs k d same lt = absurd (omega (arith, lt))
spec_in (f ∷ fs) [] k d same lt = absurd (omega (arith, ap length same))
spec_in (f ∷ fs) (c ∷ cs) zero d same lt = sym (ap (λ (xs : List Ctl). Some (get_or xs 0 (ctl_of f))) same)
spec_in (f ∷ fs) (c ∷ cs) (suc k) d same lt = spec_in fs cs k d (ap tail_of same) (omega (arith, lt))
  where
    tail_of : List Ctl → List Ctl
    tail_of [] = []
    tail_of (x ∷ xs) = xs

pub nth_spec : (m : System) (fs : List Formula) (k : ℕ) (d : Formula) → map ctl_of fs ≡ map (λ c. formula_of c.expr) m.specs → k < length fs
    → spec_formula m (k + 1) ≡ Some (ctl_of (get_or fs k d))
nth_spec m fs k d same lt =
    let next : suc k ≡ k + 1 = omega arith in
    subst (λ n. spec_formula m n ≡ Some (ctl_of (get_or fs k d))) next (spec_in fs m.specs k d same lt)

-- the formula at a place, as a name for it has it
pub named_spec : (m : System) (fs : List Formula) (k : ℕ) (f : Formula) → map ctl_of fs ≡ map (λ c. formula_of c.expr) m.specs → k < length fs → f ≡ get_or fs k f
    → spec_formula m (k + 1) ≡ Some (ctl_of f)
named_spec m fs k f same lt is = subst (λ (x : Formula). spec_formula m (k + 1) ≡ Some (ctl_of x)) (sym is) (nth_spec m fs k f same lt)

pub named_leaves : (m : System) (fs : List Formula) (k : ℕ) (f : Formula) → All (λ x. HasModelLeaves m (ctl_of x)) fs → k < length fs → f ≡ get_or fs k f → HasModelLeaves m (ctl_of f)
named_leaves m fs k f all lt is = subst (λ (x : Formula). HasModelLeaves m (ctl_of x)) (sym is) (all k f lt)
