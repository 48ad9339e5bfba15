-- The lists of nodes of the constraints' formulas.
use Rattle.std.proofs.Common.{◌≡◌, ◌⊎◌, inl, inr, ℕ, zero, suc, ◌+◌, ◌-◌, ◌<◌, ◌≤◌, List, [], ◌∷◌, ◌++◌, length, map, take, get_or, slice_get, Some, None, IsSomeAnd, option_map, ◌↔◌, refl, sym, ◌∙◌, ap, subst, arith}
use Rattle.std.specs.Global.{Vec}
use Rattle.std.proofs.lemmas.List.{length-map, get_or-map}
use Rattle.std.proofs.lemmas.Option.{slice_get_past, slice_get-get_or, slice_get-map}
use Rattle.kripke_model.specs.declared.expressions.Formula.{Formula}
use Rattle.kripke_model.specs.Ctl.{Ctl, formula_of}
use Rattle.kripke_model.specs.System.{System, Condition}
use Rattle.kripke_model.specs.WellFormed.{ctl_of}
use Rattle.proof_form.specs.declared.preorder.Node.{Node}
use Rattle.proof_form.specs.Form.{FreeEntry}
use Rattle.proof_form.specs.Preorder.{node_views, nodes_from}
use Rattle.proof_form.specs.Shape.{HasConstraintRule, HasRule, constraint_formula}
use Rattle.proof_form.specs.ShapeParts.{AreTables}
use Rattle.proof_form.proofs.Taken.{form_more}

pub one_table : (fs : List Formula) (tables : List (Vec Node)) (i : ℕ) (f : Formula) (table : Vec Node) → i < length fs → f ≡ get_or fs i f
    → node_views table.items ≡ nodes_from (ctl_of f) 0 → AreTables (take i fs) tables → AreTables (take (i + 1) fs) (tables ++ (table ∷ []))
one_table fs tables i f table lt is nodes before =
    form_more (λ (t : Vec Node). node_views t.items) (λ (g : Formula). nodes_from (ctl_of g) 0) tables table fs i f lt before (nodes ∙ ap (λ (g : Formula). nodes_from (ctl_of g) 0) is)

pub table_count : (fs : List Formula) (tables : List (Vec Node)) → AreTables fs tables → length tables ≡ length fs
table_count fs tables are = sym (length-map tables (λ table. node_views table.items)) ∙ ap length are ∙ length-map fs (λ f. nodes_from (ctl_of f) 0)

-- the table at a place is that of the formula there
pub table_at : (fs : List Formula) (tables : List (Vec Node)) (k : ℕ) (f : Formula) (table : Vec Node) → AreTables fs tables → k < length tables
    → f ≡ get_or fs k f → table ≡ get_or tables k table → node_views table.items ≡ nodes_from (ctl_of f) 0
table_at fs tables k f table are lt is there =
    let count = table_count fs tables are in
    ap (λ t. node_views t.items) there
    ∙ sym (get_or-map (λ t. node_views t.items) tables k table (node_views table.items) lt)
    ∙ ap (λ xs. get_or xs k (node_views table.items)) are
    ∙ get_or-map (λ g. nodes_from (ctl_of g) 0) fs k f (node_views table.items) (omega (arith, lt, count))
    ∙ ap (λ g. nodes_from (ctl_of g) 0) (sym is)

-- ---- the formulas of constraints

module _ (m : System) (fs : List Formula) (same : map ctl_of fs ≡ map (λ c. formula_of c.expr) m.constraints) where
  abbrev read : Condition → Ctl
  read c = formula_of c.expr

  pub formula_count : length fs ≡ length m.constraints
  formula_count = sym (length-map fs ctl_of) ∙ ap length same ∙ length-map m.constraints read

  pub formula_at : (k : ℕ) (f : Formula) → k < length fs → f ≡ get_or fs k f → constraint_formula m (suc k) ≡ Some (ctl_of f)
  formula_at k f lt is = sym (slice_get-map read m.constraints k) ∙ ap (λ xs. slice_get xs k) (sym same) ∙ slice_get-map ctl_of fs k
      ∙ ap (option_map ctl_of) (slice_get-get_or fs k f lt ∙ ap Some (sym is))

  pub formula_there : (n : ℕ) (f : Formula) → 1 ≤ n → n ≤ length fs → f ≡ get_or fs (n - 1) f → constraint_formula m n ≡ Some (ctl_of f)
  formula_there zero f some le is = absurd (omega (arith, some))
  formula_there (suc k) f some le is = formula_at k f (omega (arith, le)) (is ∙ ap (λ j. get_or fs j f) (let e : suc k - 1 ≡ k = omega arith in e))

  pub no_formula : (n : ℕ) → (n ≡ 0) ⊎ (length fs < n) → constraint_formula m n ≡ None
  no_formula zero out = refl
  no_formula (suc k) (inl e) = absurd (omega (arith, e))
  no_formula (suc k) (inr lt) = ap (option_map read) (slice_get_past m.constraints k (omega (arith, lt, formula_count)))

  module _ {A : Type 0} (e : FreeEntry A) where
    pub no_constraint : (e.constraint ≡ 0) ⊎ (length fs < e.constraint) → HasConstraintRule m e → ⊥
    no_constraint out h = subst (λ o. IsSomeAnd o (λ f. HasRule f e.entry)) (no_formula e.constraint out) h

    pub constraint_there : (f : Formula) → 1 ≤ e.constraint → e.constraint ≤ length fs → f ≡ get_or fs (e.constraint - 1) f → HasRule (ctl_of f) e.entry ↔ HasConstraintRule m e
    constraint_there f some le is =
        let there = formula_there e.constraint f some le is in
        (λ h. subst (λ o. IsSomeAnd o (λ g. HasRule g e.entry)) (sym there) h, λ h. subst (λ o. IsSomeAnd o (λ g. HasRule g e.entry)) there h)
