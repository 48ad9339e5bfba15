-- The formula of a specification, by its number.
use Rattle.std.proofs.Common.{◌≡◌, ℕ, zero, suc, ◌-◌, ◌<◌, ◌≤◌, List, [], ◌∷◌, length, map, get_or, Option, Some, refl, sym, ◌∙◌, ap, subst, arith}
use Rattle.std.specs.Prelude.{IsSome, IsSomeAnd, option_map, slice_get}
use Rattle.std.proofs.lemmas.Bool.{false≢true}
use Rattle.std.proofs.lemmas.List.{get_or-map, length-map}
use Rattle.kripke_model.specs.declared.expressions.Formula.{Formula}
use Rattle.kripke_model.specs.Ctl.{Ctl, formula_of}
use Rattle.kripke_model.specs.Flat.{IsFlat}
use Rattle.kripke_model.specs.Signs.{node_count}
use Rattle.kripke_model.specs.System.{System, Condition}
use Rattle.kripke_model.specs.Term.{Term}
use Rattle.kripke_model.specs.WellFormed.{ctl_of}
use Rattle.proof_form.specs.Pinned.{spec_nodes}
use Rattle.proof_form.specs.Shape.{spec_formula}
use Rattle.rank_extract.proofs.Counts.{spec_nodes_few}

-- one that there is
pub on_some : {A : Type 0} (P : A → Type 0) (o : Option A) (x : A) → o ≡ Some x → P x → IsSomeAnd o P
on_some P o x is p = subst (λ q. IsSomeAnd q P) (sym is) p

pub of_some : {A : Type 0} (P : A → Type 0) (o : Option A) (x : A) → o ≡ Some x → IsSomeAnd o P → P x
of_some P o x is p = subst (λ q. IsSomeAnd q P) is p

-- past the end of a list of conditions
abbrev no_condition : Condition
no_condition = record { expr = Term.Running 0; line = 0 }

abbrev spec_at : List Condition → ℕ → Option Ctl
spec_at cs k = option_map (λ (c : Condition). formula_of c.expr) (slice_get cs k)

at_place : (cs : List Condition) (k : ℕ) → IsSome (spec_at cs k) → k < length cs
at_place [] k h = absurd (false≢true h)
at_place (c ∷ cs) zero h = omega arith
at_place (c ∷ cs) (suc k) h = omega (arith, at_place cs k h)

at_formula : (cs : List Condition) (k : ℕ) (d : Condition) → k < length cs → spec_at cs k ≡ Some (formula_of (get_or cs k d).expr)
at_formula [] k d lt = absurd (omega arith)
at_formula (c ∷ cs) zero d lt = refl
at_formula (c ∷ cs) (suc k) d lt = at_formula cs k d (omega arith)

pub spec_first : (m : System) (j : ℕ) → IsSome (spec_formula m j) → 1 ≤ j
spec_first m zero h = absurd (false≢true h)
spec_first m (suc j) h = omega arith

spec_place : (m : System) (j : ℕ) → IsSome (spec_formula m j) → j - 1 < length m.specs
spec_place m zero h = absurd (false≢true h)
spec_place m (suc j) h = omega (arith, at_place m.specs j h)

spec_here : (m : System) (j : ℕ) (d : Condition) → IsSome (spec_formula m j) → spec_formula m j ≡ Some (formula_of (get_or m.specs (j - 1) d).expr)
spec_here m zero d h = absurd (false≢true h)
spec_here m (suc j) d h =
    let place : j ≡ suc j - 1 = omega arith in
    at_formula m.specs j d (at_place m.specs j h) ∙ ap (λ k. Some (formula_of (get_or m.specs k d).expr)) place

module _ (m : System) (j : ℕ) (fs : List Formula) (are : map ctl_of fs ≡ map (λ (c : Condition). formula_of c.expr) m.specs) (some : IsSome (spec_formula m j)) where
  pub formula_place : j - 1 < length fs
  formula_place = omega (arith, spec_place m j some, ap length are, length-map fs ctl_of, length-map m.specs (λ (c : Condition). formula_of c.expr))

  pub formula_is : (f : Formula) → f ≡ get_or fs (j - 1) f → spec_formula m j ≡ Some (ctl_of f)
  formula_is f is =
      spec_here m j no_condition some
      ∙ ap Some (sym (get_or-map (λ (c : Condition). formula_of c.expr) m.specs (j - 1) no_condition (ctl_of f) (spec_place m j some))
      ∙ ap (λ ts. get_or ts (j - 1) (ctl_of f)) (sym are)
      ∙ get_or-map ctl_of fs (j - 1) f (ctl_of f) formula_place
      ∙ ap ctl_of (sym is))

-- ---- how many nodes it has

pub nodes_are : (m : System) (j : ℕ) (f : Ctl) → spec_formula m j ≡ Some f → spec_nodes m j ≡ node_count f
nodes_are m j f is = rw is refl

pub formula_few : (m : System) → IsFlat m → (j : ℕ) (f : Ctl) → spec_formula m j ≡ Some f → node_count f ≤ 200000
formula_few m flat j f is =
    let some : IsSome (spec_formula m j) = subst (λ (o : Option Ctl). IsSome o) (sym is) refl in
    let here : formula_of (get_or m.specs (j - 1) no_condition).expr ≡ f = some_same (sym (spec_here m j no_condition some) ∙ is) in
    subst (λ g. node_count g ≤ 200000) here (spec_nodes_few m flat (j - 1) no_condition (spec_place m j some))
  where
    some_same : {A : Type 0} {x y : A} → Some x ≡ Some y → x ≡ y
    some_same e = cc
