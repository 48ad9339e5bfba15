-- Entries in shape name nodes of their formulas.
use Rattle.std.proofs.Common.{◌≡◌, ◌⊎◌, inl, inr, ℕ, zero, suc, ◌-◌, ◌<◌, ◌≤◌, Bool, true, false, ◌==◌, List, [], ◌∷◌, length, get_or, Option, Some, None, refl, sym, ◌∙◌, ap, subst, arith}
use Rattle.std.specs.Prelude.{All, IsSomeAnd, if◌then◌else◌, option_map, slice_get}
use Rattle.std.specs.Option.{option_and_then}
use Rattle.std.specs.Global.{Vec}
use Rattle.std.proofs.lemmas.Bool.{cases_lt}
use Rattle.std.proofs.lemmas.List.Elements.{All-nil, All-cons, All-head, All-tail}
use Rattle.kripke_model.specs.Ctl.{Ctl, formula_of}
use Rattle.kripke_model.specs.Signs.{ProofRule, node_count}
use Rattle.kripke_model.specs.System.{System, Condition}
use Rattle.kripke_model.specs.Term.{Term}
use Rattle.region_sets.specs.Sets.{Sets}
use Rattle.fair_rules.specs.Claims as claims
use Rattle.fair_rules.proofs.LeafSets.{formula_is_leaf}
use Rattle.proof_form.specs.Form.{Entry, FreeEntry}
use Rattle.proof_form.specs.Shape.{HasConstraintRule, HasRule, constraint_formula, kind_of, rule_for}
use Rattle.proof_form.proofs.RuleAt.{no_node}
use Rattle.claim_sets.specs.declared.claims.Claim.{Claim}
use Rattle.claim_sets.specs.ConstraintClaims.{HasClaims, HaveClaims, claims_at}
use Rattle.claim_sets.proofs.ClaimLists.{claims_length}
use Rattle.claim_sets.proofs.ConstraintSides.{got}

all_weaker : {A : Type 0} (P Q : A → Type 0) (xs : List A) → ((x : A) → P x → Q x) → All P xs → All Q xs
all_weaker P Q [] f h = All-nil Q
all_weaker P Q (x ∷ xs) f h = All-cons Q x xs (f x (All-head P x xs h)) (all_weaker P Q xs f (All-tail P x xs h))

no_rule : {X : Type 0} {o : Option ProofRule} (r : ProofRule) → o ≡ None → o ≡ Some r → X
no_rule r n s = absurd (none_is_some r (sym n ∙ s))
  where
    none_is_some : (r : ProofRule) → None ≡ Some r → ⊥
    none_is_some r h = absurd (cc)

-- ---- of one formula

number_there : {A : Type 0} (f : Ctl) (e : Entry A) → HasRule f e → (1 ≤ e.node) × (e.node ≤ node_count f)
number_there f e h = (
  elim (cases_lt 0 e.node) [ inl lt ↦ omega (arith, lt) | inr le ↦ none (inl (omega (arith, le))) ],
  elim (cases_lt (node_count f) e.node) [ inl lt ↦ none (inr lt) | inr le ↦ le ],
)
  where
    none : {X : Type 0} → (e.node ≡ 0) ⊎ (node_count f < e.node) → X
    none out = no_rule (kind_of e.rule) (ap (option_and_then (rule_for e.plus)) (no_node f e.node out)) h

pub numbers_there : {A : Type 0} (f : Ctl) (count : ℕ) (es : List (Entry A)) → count ≡ node_count f → All (HasRule f) es → All (λ e. (1 ≤ e.node) × (e.node ≤ count)) es
numbers_there f count es is h = all_weaker (HasRule f) (λ e. (1 ≤ e.node) × (e.node ≤ count)) es (λ e rule. let there = number_there f e rule in (there.0, omega (arith, there.1, is))) h

-- ---- of the constraints' formulas

leaf_has_none : {A : Type 0} (t : Term) (e : Entry A) → HasRule (Ctl.Leaf t) e → ⊥
leaf_has_none t e h = no_rule (kind_of e.rule) (here (e.node == 1)) h
  where
    here : (b : Bool) → option_and_then (rule_for e.plus) (if b then Some (Ctl.Leaf t) else None) ≡ None
    here true = refl
    here false = refl

constraint_there : (m : System) (lists : List (Vec Claim)) (k : ℕ) (P : Ctl → Type 0) → length lists ≡ length m.constraints → IsSomeAnd (constraint_formula m k) P → (1 ≤ k) × (k ≤ length lists)
constraint_there m lists zero P count h = absurd h
constraint_there m lists (suc k) P count h = elim (cases_lt k (length m.constraints)) [
  | inl lt ↦ (omega arith, omega (arith, lt, count))
  | inr le ↦ absurd (subst (λ o. IsSomeAnd (option_map (λ (c : Condition). formula_of c.expr) o) P) (past m.constraints k le) h)
]
  where
    past : (cs : List Condition) (i : ℕ) → length cs ≤ i → slice_get cs i ≡ None
    past [] i le = refl
    past (c ∷ cs) zero le = absurd (omega (arith, le))
    past (c ∷ cs) (suc i) le = past cs i (omega (arith, le))

module _ {A : Type 0} (m : System) (s : Sets) (proofs : ℕ → claims.Proof) (lists : List (Vec Claim)) (count : length lists ≡ length m.constraints) where
  pub free_constraints_there : (es : List (FreeEntry A)) → All (HasConstraintRule m) es → All (λ e. (1 ≤ e.constraint) × (e.constraint ≤ length lists)) es
  free_constraints_there es h = all_weaker (HasConstraintRule m) (λ e. (1 ≤ e.constraint) × (e.constraint ≤ length lists)) es (λ e rule. constraint_there m lists e.constraint (λ f. HasRule f e.entry) count rule) h

  in_claims : (p : claims.Proof) (c : Condition) (cs : List Claim) (e : Entry A) → HasClaims m s p c cs → HasRule (formula_of c.expr) e → (1 ≤ e.node) × (e.node ≤ length cs)
  in_claims p c [] e leaf rule = absurd (leaf_has_none c.expr e (subst (λ f. HasRule f e) (formula_is_leaf c.expr leaf) rule))
  in_claims p c (d ∷ cs) e are rule =
      let there = number_there (formula_of c.expr) e rule in
      (there.0, omega (arith, there.1, are.count, claims_length m p (formula_of c.expr) 1 0))

  free_number : HaveClaims m s proofs lists → (k : ℕ) (e : Entry A) → IsSomeAnd (constraint_formula m k) (λ f. HasRule f e) → (1 ≤ e.node) × (e.node ≤ length (claims_at lists (k - 1)))
  free_number have zero e h = absurd h
  free_number have (suc k) e h =
      let within : suc k ≤ length lists = (constraint_there m lists (suc k) (λ f. HasRule f e) count h).1 in
      let lt : k < length m.constraints = omega (arith, within, count) in
      let c : Condition = record { expr = Term.Running 0; line = 0 } in
      let at : k ≡ suc k - 1 = omega arith in
      subst (λ j. (1 ≤ e.node) × (e.node ≤ length (claims_at lists j))) at
      (in_claims (proofs k) (get_or m.constraints k c) (claims_at lists k) e (have k c lt)
      (subst (λ o. IsSomeAnd (option_map (λ (d : Condition). formula_of d.expr) o) (λ f. HasRule f e)) (got m.constraints k c lt) h))

  pub free_numbers_there : (es : List (FreeEntry A)) → HaveClaims m s proofs lists → All (HasConstraintRule m) es → All (λ e. (1 ≤ e.entry.node) × (e.entry.node ≤ length (claims_at lists (e.constraint - 1)))) es
  free_numbers_there es have h =
      all_weaker (HasConstraintRule m) (λ e. (1 ≤ e.entry.node) × (e.entry.node ≤ length (claims_at lists (e.constraint - 1)))) es (λ e rule. free_number have e.constraint e.entry rule) h
