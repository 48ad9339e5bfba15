-- What the theorems on small models share.
use Rattle.std.proofs.Common.{◌≡◌, ℕ, zero, suc, ◌<◌, List, [], ◌∷◌, length, get_or, refl, subst, sym, lit<, true, false, arith, pos}
use Rattle.std.specs.Prelude.{Any, Contains, cond}
use Rattle.kripke_model.specs.declared.expressions.Value.{Value}
use Rattle.kripke_model.specs.declared.expressions.Value.TheVariants.{Number, Symbol}
use Rattle.kripke_model.specs.Term.{Term}

abbrev pub constant : ℕ → Term
constant n = Term.Const (Number (pos n))

abbrev pub symbol : ℕ → Term
symbol c = Term.Const (Symbol c)

abbrev pub main_name : List ℕ
main_name = 109 ∷ 97 ∷ 105 ∷ 110 ∷ []

abbrev pub running_name : List ℕ
running_name = 114 ∷ 117 ∷ 110 ∷ 110 ∷ 105 ∷ 110 ∷ 103 ∷ []

-- the one value of a list is in it
pub is_only : {vs : List Value} {v : Value} → vs ≡ v ∷ [] → Contains vs v
is_only {vs} {v} e = subst (λ ws. Contains ws v) (sym e) (0, lit< tt, refl)

-- no member of the list meets P
abbrev pub AllFail : {A : Type 0} → (A → Type 0) → List A → Type 0
AllFail P [] = Unit {0}
AllFail P (x ∷ xs) = (P x → ⊥) × AllFail P xs

pub none_meets : {A : Type 0} (P : A → Type 0) (xs : List A) → AllFail P xs → Any P xs → ⊥
none_meets P [] f h = omega (arith, h.2)
none_meets P (x ∷ xs) f h = go (none_meets P xs f.1) h.0 h.1 h.2 h.3 h.4
  where
    go : (Any P xs → ⊥) → (k : ℕ) (y : _) → k < length (x ∷ xs) → get_or (x ∷ xs) k y ≡ y → P y → ⊥
    go rest zero y below e p = f.0 (subst P (sym e) p)
    go rest (suc k) y below e p = rest (k, y, omega (arith, below), e, p)

pub not_true : false ≡ true → ⊥
not_true e = subst (λ b. cond b ⊥ (Unit {0})) e tt
