-- The members of a path in order, and what each member of a list has, one by one.
use Rattle.std.proofs.Common.{◌≡◌, inl, inr, ℕ, zero, suc, ◌<◌, List, [], ◌∷◌, length, map, get_or, sym, ◌∙◌, ap, subst, ◌+◌, ◌-◌, refl, arith, mod-eq_of_lt, length-append}
use Rattle.std.specs.Prelude.{IsSome, IsSomeAnd, Option, None, Some, option_map, slice_get}
use Rattle.std.proofs.lemmas.Bool.{cases_lt, cases_eq}
use Rattle.std.proofs.lemmas.List.{get_or-append_right, get_or_append_left, get_or-map, length-map}
use Rattle.kripke_model.specs.Ctl.{Ctl, formula_of}
use Rattle.kripke_model.specs.Term.{Term}
use Rattle.kripke_model.specs.WellFormed.{ctl_of}
use Rattle.kripke_model.specs.declared.expressions.Formula.{Formula}
use Rattle.kripke_model.specs.System.{System, Condition}
use Rattle.kripke_model.specs.Path.{Lasso, at, member_count}
use Rattle.kripke_model.proofs.Lassos.{at_stem, at_cycle}
use Rattle.proof_form.specs.Shape.{spec_formula}
use Rattle.trace_files.specs.Spells.{IsSpec}
use Rattle.trace_files.specs.Trace.{members}

pub count_members : (p : Lasso) → length (members p) ≡ member_count p
count_members p = length-append p.stem p.cycle

-- member n is the n-th state of the path
pub member_at : (p : Lasso) (n : ℕ) → n < member_count p → get_or (members p) n [] ≡ at p n
member_at p n h = elim (cases_lt n (length p.stem)) [
  | inl l ↦ get_or_append_left p.stem p.cycle [] n l ∙ sym (at_stem p n l)
  | inr g ↦ get_or-append_right p.stem p.cycle (length p.stem) n [] (λ i. length p.stem) g
      ∙ ap (λ k. get_or p.cycle k []) (sym (mod-eq_of_lt (omega arith))) ∙ sym (at_cycle p n g)
]

pub some_map : {A : Type 0} {P Q : A → Type 0} (o : Option A) → ((a : A) → P a → Q a) → IsSomeAnd o P → IsSomeAnd o Q
some_map (Some a) f h = f a h
some_map None f h = absurd h

-- ---- formulas of specifications

none_yet : Ctl
none_yet = Ctl.Leaf (Term.Var 0)

formula_there : (cs : List Condition) (i : ℕ) (d : Ctl) → i < length cs → option_map (λ c. formula_of c.expr) (slice_get cs i) ≡ Some (get_or (map (λ c. formula_of c.expr) cs) i d)
formula_there [] i d less = absurd (omega arith)
formula_there (c ∷ cs) zero d less = refl
formula_there (c ∷ cs) (suc i) d less = formula_there cs i d (omega arith)

-- the number of a specification has its formula
pub spec_is : (m : System) (j : ℕ) (d : Ctl) → IsSpec m j → spec_formula m j ≡ Some (get_or (map (λ c. formula_of c.expr) m.specs) (j - 1) d)
spec_is m zero d is = absurd (omega (arith, is.0))
spec_is m (suc j) d is = formula_there m.specs j d (omega (arith, is.1)) ∙ ap (λ i. Some (get_or (map (λ c. formula_of c.expr) m.specs) i d)) (let e : j ≡ suc j - 1 = omega arith in e)

pub spec_there : (m : System) (j : ℕ) → IsSpec m j → IsSome (spec_formula m j)
spec_there m j is = subst IsSome (sym (spec_is m j none_yet is)) refl

-- what is true of it is true of that formula
pub spec_so : (P : Ctl → Type 0) (o : Option Ctl) (f : Ctl) → o ≡ Some f → P f → IsSomeAnd o P
spec_so P o f e h = subst (λ x. IsSomeAnd x P) (sym e) h

module _ (m : System) (fs : List Formula) (same : map ctl_of fs ≡ map (λ c. formula_of c.expr) m.specs) where
  pub as_many : length fs ≡ length m.specs
  as_many = omega (arith, length-map fs ctl_of, ap length same, length-map m.specs (λ (c : Condition). formula_of c.expr))

  -- the formula at a place of the list
  pub formula_in : (i : ℕ) (f : Formula) → f ≡ get_or fs i f → i < length m.specs → get_or (map (λ c. formula_of c.expr) m.specs) i (ctl_of f) ≡ ctl_of f
  formula_in i f is less = ap (λ cs. get_or cs i (ctl_of f)) (sym same) ∙ get_or-map ctl_of fs i f (ctl_of f) (omega (arith, less, as_many)) ∙ ap ctl_of (sym is)

  pub formula_of_spec : (j i : ℕ) (f : Formula) → IsSpec m j → i ≡ j - 1 → f ≡ get_or fs i f → spec_formula m j ≡ Some (ctl_of f)
  formula_of_spec j i f spec at is =
      spec_is m j (ctl_of f) spec ∙ ap (λ k. Some (get_or (map (λ c. formula_of c.expr) m.specs) k (ctl_of f))) (sym at) ∙ ap Some (formula_in i f is (omega (arith, at, spec.0, spec.1)))

-- ---- one number more

pub one_more : (A : ℕ → Type 0) (n : ℕ) → ((k : ℕ) → k < n → A k) → A n → (k : ℕ) → k < n + 1 → A k
one_more A n before here k less = elim (cases_eq k n) [ inl e ↦ subst A (sym e) here | inr apart ↦ before k (omega arith) ]
