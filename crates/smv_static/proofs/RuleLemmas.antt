-- The rules one after the other, and what those of a model that keeps them say.
use Rattle.std.proofs.Common.{◌≡◌, true, false, List, map, get_or, refl, inl, inr, ⊎_elim}
use Rattle.std.specs.Prelude.{Bool, IsFalse, ◌⊎◌, All}
use Rattle.kripke_model.specs.declared.expressions.Formula.{Formula}
use Rattle.kripke_model.specs.declared.refusals.StaticRefusal.{StaticRefusal}
use Rattle.kripke_model.specs.Ctl.{formula_of}
use Rattle.kripke_model.specs.System.{System, Condition}
use Rattle.kripke_model.specs.Refusing.{Silent, ◌then◌}
use Rattle.kripke_model.specs.Static.{StaticRule, KeepsRules, is_formula, refused_condition}
use Rattle.kripke_model.specs.Flat.{IsFlat}
use Rattle.kripke_model.specs.WellFormed.{IsRuled, ctl_of}
use Rattle.kripke_model.proofs.RuledLemmas.{silent_first, silent_second, never_in}

abbrev pub OrMemory : StaticRule → StaticRefusal → Type 0
OrMemory rule r = (r ≡ StaticRefusal.Memory) ⊎ rule r

pub at_first : (a b : StaticRule) (r : StaticRefusal) → OrMemory a r → OrMemory (a then b) r
at_first a b r h = ⊎_elim (λ e. inl e) (λ x. inr (inl x)) h

pub at_second : (a b : StaticRule) (r : StaticRefusal) → Silent a → OrMemory b r → OrMemory (a then b) r
at_second a b r silent h = ⊎_elim (λ e. inl e) (λ x. inr (inr (silent, x))) h

not_false : (b : Bool) → (IsFalse b → ⊥) → b ≡ true
not_false true never = refl
not_false false never = absurd (never refl)

are_formulas : (cs : List Condition) → Silent (refused_condition StaticRefusal.FormulaNotAllowed (λ e. IsFalse (is_formula e)) cs) → All (λ c. is_formula c.expr ≡ true) cs
are_formulas cs silent k d below =
    not_false (is_formula (get_or cs k d).expr)
    (never_in (λ (c : Condition). StaticRefusal.FormulaNotAllowed c.line) (λ (c : Condition). IsFalse (is_formula c.expr)) cs silent k d below)

module _ (m : System) (rules : KeepsRules m) where
  pub specs_are_formulas : All (λ c. is_formula c.expr ≡ true) m.specs
  specs_are_formulas = are_formulas m.specs
      (silent_second (silent_second (silent_second (silent_second (silent_second (silent_second (silent_second (silent_second (silent_second rules)))))))))

  pub constraints_are_formulas : All (λ c. is_formula c.expr ≡ true) m.constraints
  constraints_are_formulas = are_formulas m.constraints
      (silent_first (silent_second (silent_second (silent_second (silent_second (silent_second (silent_second (silent_second (silent_second rules)))))))))

  pub ruled : (formulas fair : List Formula) → IsFlat m → map ctl_of formulas ≡ map (λ c. formula_of c.expr) m.specs → map ctl_of fair ≡ map (λ c. formula_of c.expr) m.constraints → IsRuled m formulas fair
  ruled formulas fair flat f g = record {
    flat = flat;
    assigned_once = silent_first rules;
    current_alone = silent_first (silent_second rules);
    acyclic = silent_first (silent_second (silent_second rules));
    next_allowed = silent_first (silent_second (silent_second (silent_second rules)));
    formulas_allowed = silent_second (silent_second (silent_second (silent_second rules)));
    formulas_are = f;
    fair_are = g;
  }
