-- Formulas beside specifications.
use Rattle.std.proofs.Common.{◌≡◌, ◌∙◌, ℕ, zero, suc, ◌+◌, ◌<◌, List, [], ◌∷◌, ◌++◌, length, map, take, get_or, Bool, Option, Some, None, length-take, refl, sym, ap, subst, arith}
use Rattle.std.specs.Prelude.{All, is_some, option_map, slice_get}
use Rattle.std.proofs.Math.Seq.{take-suc}
use Rattle.std.proofs.lemmas.List.{length-map}
use Rattle.std.proofs.lemmas.List.Elements.{All-get_or}
use Rattle.kripke_model.specs.Ctl.{formula_of}
use Rattle.kripke_model.specs.System.{System, Condition}
use Rattle.kripke_model.specs.Term.{Term}
use Rattle.kripke_model.specs.WellFormed.{ctl_of}
use Rattle.kripke_model.specs.declared.expressions.Formula.{Formula}
use Rattle.kripke_model.specs.Leaves.{HasModelLeaves}
use Rattle.proof_form.specs.Shape.{spec_formula}
use Rattle.smv_session.specs.Relation.{IsTried}
use Rattle.smv_session.specs.declared.trials.Tried.{Tried}
use Rattle.spec_verdicts.specs.Found.{AreFound}
use Rattle.spec_verdicts.specs.declared.findings.Findings.{Findings}

-- the formula at a place is that of the specification there
pub formula_at : (fs : List Formula) (cs : List Condition) (i : ℕ) (f : Formula) (c : Condition) → map ctl_of fs ≡ map (λ c. formula_of c.expr) cs → i < length fs → ctl_of (get_or fs i f) ≡ formula_of (get_or cs i c).expr
formula_at [] cs i f c same below = absurd (omega (arith, below))
formula_at (g ∷ fs) [] i f c same below = cc
formula_at (g ∷ fs) (d ∷ cs) zero f c same below = let e : ctl_of g ≡ formula_of d.expr = cc in e
formula_at (g ∷ fs) (d ∷ cs) (suc i) f c same below =
    let rest : map ctl_of fs ≡ map (λ c. formula_of c.expr) cs = cc in
    formula_at fs cs i f c rest (omega (arith, below))

pub as_many : (fs : List Formula) (cs : List Condition) → map ctl_of fs ≡ map (λ c. formula_of c.expr) cs → length fs ≡ length cs
as_many fs cs same = sym (length-map fs ctl_of) ∙ ap length same ∙ length-map cs (λ c. formula_of c.expr)

-- the first specifications, and one more
pub none_yet : Condition
none_yet = record { expr = Term.Var 0; line = 0 }

pub leaves_at : (m : System) (fs : List Formula) (i : ℕ) (f : Formula) → f ≡ get_or fs i f → map ctl_of fs ≡ map (λ c. formula_of c.expr) m.specs → i < length fs
    → All (λ c. HasModelLeaves m (formula_of c.expr)) m.specs → HasModelLeaves m (ctl_of f)
leaves_at m fs i f is same below leaves =
    let within : i < length m.specs = omega (arith, below, as_many fs m.specs same) in
    subst (HasModelLeaves m) (sym (ap ctl_of is ∙ formula_at fs m.specs i f none_yet same below)) (All-get_or (λ c. HasModelLeaves m (formula_of c.expr)) m.specs i none_yet within leaves)

-- a specification by its place, and by its number
there_in : (cs : List Condition) (i : ℕ) (c : Condition) → i < length cs → slice_get cs i ≡ Some (get_or cs i c)
there_in [] i c below = absurd (omega (arith, below))
there_in (d ∷ cs) zero c below = refl
there_in (d ∷ cs) (suc i) c below = there_in cs i c (omega (arith, below))

spec_there : (m : System) (i : ℕ) → i < length m.specs → spec_formula m (i + 1) ≡ Some (formula_of (get_or m.specs i none_yet).expr)
spec_there m i below =
    let next : suc i ≡ i + 1 = omega arith in
    subst (λ (n : ℕ). spec_formula m n ≡ Some (formula_of (get_or m.specs i none_yet).expr)) next
    (ap (option_map (λ (c : Condition). formula_of c.expr)) (there_in m.specs i none_yet below))

-- the specification of number i + 1 has the formula at place i
pub spec_at : (m : System) (fs : List Formula) (i j : ℕ) (f : Formula) → f ≡ get_or fs i f → map ctl_of fs ≡ map (λ c. formula_of c.expr) m.specs → i < length fs → j ≡ i + 1 → spec_formula m j ≡ Some (ctl_of f)
spec_at m fs i j f is same below next =
    let within : i < length m.specs = omega (arith, below, as_many fs m.specs same) in
    ap (spec_formula m) next ∙ spec_there m i within ∙ ap Some (sym (ap ctl_of is ∙ formula_at fs m.specs i f none_yet same below))

pub tried_at : (m : System) (limit : ℕ) (proves : Bool) (j : ℕ) (fs : List Formula) (i : ℕ) (f : Formula) (t : Tried) → f ≡ get_or fs i f → map ctl_of fs ≡ map (λ c. formula_of c.expr) m.specs → i < length fs
    → IsTried m limit proves j (ctl_of f) t → IsTried m limit proves j (formula_of (get_or m.specs i none_yet).expr) t
tried_at m limit proves j fs i f t is same below tried = subst (λ g. IsTried m limit proves j g t) (ap ctl_of is ∙ formula_at fs m.specs i f none_yet same below) tried

-- the same of the specification that is next, with its number
pub tried_in : {A : Type 0} (m : System) (limit : ℕ) (fs : List Formula) (i : ℕ) (f : Formula) (t : Tried) (now : A → List ℕ) (proofs : Option A) (proves : Bool) → f ≡ get_or fs i f → map ctl_of fs ≡ map (λ c. formula_of c.expr) m.specs → i < length fs
    → proves ≡ is_some proofs → IsTried m limit proves (i + 1) (ctl_of f) t → IsTried m limit (is_some (option_map now proofs)) (1 + length (take i m.specs)) (formula_of (get_or m.specs i none_yet).expr) t
tried_in m limit fs i f t now proofs proves is same below asked tried =
    let within : i < length m.specs = omega (arith, below, as_many fs m.specs same) in
    let size = length-take i m.specs in
    subst (λ (n : ℕ). IsTried m limit (is_some (option_map now proofs)) n (formula_of (get_or m.specs i none_yet).expr) t) (omega (arith, size, within))
    (subst (λ (b : Bool). IsTried m limit b (i + 1) (formula_of (get_or m.specs i none_yet).expr) t) (asked ∙ some_kept now proofs)
    (tried_at m limit proves (i + 1) fs i f t is same below tried))
  where
    some_kept : {A : Type 0} (now : A → List ℕ) (proofs : Option A) → is_some proofs ≡ is_some (option_map now proofs)
    some_kept now None = refl
    some_kept now (Some name) = refl

pub front_more : (m : System) (limit : ℕ) (proofs : Option (List ℕ)) (i : ℕ) (found : Findings) → i < length m.specs → AreFound m limit proofs (take i m.specs ++ get_or m.specs i none_yet ∷ []) found → AreFound m limit proofs (take (i + 1) m.specs) found
front_more m limit proofs i found below h =
    let next : i + 1 ≡ suc i = omega arith in
    subst (λ cs. AreFound m limit proofs cs found) (sym (ap (λ (n : ℕ). take n m.specs) next ∙ take-suc m.specs i none_yet below)) h
