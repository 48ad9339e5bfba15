-- Some member of a list of none, one or two.
use Rattle.std.proofs.Common.{◌≡◌, sym, subst, ℕ, zero, suc, ◌<◌, arith, [], ◌∷◌, ◌⊎◌, inl, inr, Any}
use Rattle.std.specs.List.{slice_index_or}

pub none_in : {A : Type 0} {P : A → Type 0} → Any P [] → ⊥
none_in h = omega arith

pub any_one : {A : Type 0} (P : A → Type 0) (x : A) → Any P (x ∷ []) → P x
any_one P x h = go h.0 h.1 h.2 h.3 h.4
  where
    go : (k : ℕ) (y : _) → k < 1 → slice_index_or (x ∷ []) k y ≡ y → P y → P x
    go zero y below e holds = subst P (sym e) holds
    go (suc k) y below e holds = absurd (omega arith)

pub any_two : {A : Type 0} (P : A → Type 0) (x z : A) → Any P (x ∷ z ∷ []) → P x ⊎ P z
any_two P x z h = go h.0 h.1 h.2 h.3 h.4
  where
    go : (k : ℕ) (y : _) → k < 2 → slice_index_or (x ∷ z ∷ []) k y ≡ y → P y → P x ⊎ P z
    go zero y below e holds = inl (subst P (sym e) holds)
    go (suc zero) y below e holds = inr (subst P (sym e) holds)
    go (suc (suc k)) y below e holds = absurd (omega arith)
