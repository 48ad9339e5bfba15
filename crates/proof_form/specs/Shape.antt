-- The shape of a proof: what can be seen without its sets.
use Rattle.std.specs.Prelude.{◌≡◌, ◌⊎◌, ℕ, zero, suc, ◌<◌, ◌≤◌, Bool, not, ◌&&◌, length, All, AllPairs, Option, Some, None, IfSome, IsSomeAnd, IsTrue, is_none, option_map, slice_get}
use Rattle.std.specs.Option.{option_and_then}
use Rattle.kripke_model.specs.Ctl.{Ctl, formula_of}
use Rattle.kripke_model.specs.Leaves.{HasLeafConstraints}
use Rattle.kripke_model.specs.Signs.{ProofRule, rule_of, until_rule}
use Rattle.kripke_model.specs.Step.{IsState}
use Rattle.kripke_model.specs.System.{System, constraint_count}
use Rattle.fair_rules.specs.Nodes.{node_at}
use Rattle.proof_form.specs.Form as form
use Rattle.proof_form.specs.Form.{Proof, FreePart, FreeEntry, Entry, Layer, EX, AX, AR, EU, AU, ER}

-- the formula of specification j, counted from 1
abbrev pub spec_formula : System → ℕ → Option Ctl
spec_formula m zero = None
spec_formula m (suc j) = option_map (λ c. formula_of c.expr) (slice_get m.specs j)

-- and of constraint k, counted from 1
abbrev pub constraint_formula : System → ℕ → Option Ctl
constraint_formula m zero = None
constraint_formula m (suc k) = option_map (λ c. formula_of c.expr) (slice_get m.constraints k)

-- the rule by which a temporal node is claimed true, or false
abbrev pub rule_for : Bool → Ctl → Option ProofRule
rule_for sign (Ctl.Quant op f) = Some (rule_of op sign)
rule_for sign (Ctl.Until all f g) = Some (until_rule all sign)
rule_for sign f = None

abbrev pub kind_of : {A : Type 0} → form.Rule A → ProofRule
kind_of (EX set) = ProofRule.EX
kind_of (AX set) = ProofRule.AX
kind_of (AR set) = ProofRule.AR
kind_of (EU sets) = ProofRule.EU
kind_of (AU layers) = ProofRule.AU
kind_of (ER fair untils) = ProofRule.ER

-- the entry names a temporal node of the formula, by its number in preorder from 1, and has the rule of its sign
abbrev pub HasRule : {A : Type 0} → Ctl → Entry A → Type 0
HasRule f e = option_and_then (rule_for e.plus) (node_at f 1 e.node) ≡ Some (kind_of e.rule)

-- a comes before b: by node, and `+` before `-`
abbrev pub ComesBefore : {A : Type 0} → Entry A → Entry A → Type 0
ComesBefore a b = (a.node < b.node) ⊎ ((a.node ≡ b.node) × IsTrue (a.plus && not b.plus))

-- the layer avoids one of so many constraints
abbrev pub Avoids : {A : Type 0} → ℕ → Layer A → Type 0
Avoids count l = (1 ≤ l.avoid) × (l.avoid ≤ count)

abbrev pub FitsConstraints : {A : Type 0} → ℕ → form.Rule A → Type 0
FitsConstraints count (AU layers) = All (Avoids count) layers
FitsConstraints count (ER fair untils) = length fair.reach ≡ count
FitsConstraints count rule = Unit {0}

-- ---- the free part

-- a comes before b: by constraint, by node, and `+` before `-`
abbrev pub StandsBefore : {A : Type 0} → FreeEntry A → FreeEntry A → Type 0
StandsBefore a b
    = (a.constraint < b.constraint) ⊎ ((a.constraint ≡ b.constraint) × ComesBefore a.entry b.entry)

-- the entry is one for a formula of the model's constraints
abbrev pub HasConstraintRule : {A : Type 0} → System → FreeEntry A → Type 0
HasConstraintRule m e = IsSomeAnd (constraint_formula m e.constraint) (λ f. HasRule f e.entry)

-- over all paths there is one constraint, which each state meets
pub record IsFreeInShape {A : Type 0} (m : System) (p : FreePart A) : Type 0 where
  pub rising : AllPairs StandsBefore p.entries
  pub rules : All (HasConstraintRule m) p.entries
  pub avoided : All (Avoids 1) p.nonfair
  pub reach : length p.fair.reach ≡ 1
  pub fits : All (λ e. FitsConstraints 1 e.entry.rule) p.entries

-- a free part is there exactly where some constraint holds a path operator
abbrev pub FitsFreely : {A : Type 0} → System → Option (FreePart A) → Type 0
FitsFreely m None = HasLeafConstraints m
FitsFreely m (Some part) = ¬ HasLeafConstraints m × IsFreeInShape m part

-- ---- a whole proof

-- the proof has the shape of one of the formula
pub record IsInShape {A : Type 0} (m : System) (f : Ctl) (p : Proof A) : Type 0 where
  pub free : FitsFreely m p.free
  pub rising : AllPairs ComesBefore p.entries
  pub rules : All (HasRule f) p.entries
  pub avoided : All (Avoids (constraint_count m)) p.nonfair
  pub reach : length p.fair.reach ≡ constraint_count m
  pub fits : All (λ e. FitsConstraints (constraint_count m) e.rule) p.entries
  pub claim : p.claim ≡ is_none p.at
  pub at_state : IfSome p.at (IsState m)
