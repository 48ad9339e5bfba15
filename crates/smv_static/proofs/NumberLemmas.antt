-- Members of lists, flags, and rows of tables.
use Rattle.std.proofs.Common.{◌≡◌, ◌≢◌, ℕ, zero, suc, ◌<◌, ◌⊎◌, inl, inr, ⊎_elim, true, false, List, [], ◌∷◌, ◌++◌, length, get_or, set, refl, sym, ◌∙◌, subst, arith, get_or-set_same, get_or-set_other}
use Rattle.std.specs.Prelude.{◌↔◌, Bool, All, Contains, IsTrue}
use Rattle.std.proofs.lemmas.Bool.{cases_eq}
use Rattle.std.proofs.lemmas.List.{get_or_default}
use Rattle.smv_static.specs.Numbers.{row}

pub only_member : {A : Type 0} (y z : A) → Contains (y ∷ []) z → z ≡ y
only_member y z (zero, below, e) = sym e
only_member y z (suc k, below, e) = absurd (omega arith)

pub member_at : {A : Type 0} (xs : List A) (k : ℕ) (d : A) → k < length xs → Contains xs (get_or xs k d)
member_at xs k d below = (k, below, get_or_default xs k (get_or xs k d) d below)

pub all_members : {A : Type 0} (P : A → Type 0) (xs : List A) → ((y : A) → Contains xs y → P y) → All P xs
all_members P xs f k d below = f (get_or xs k d) (member_at xs k d below)

-- ---- flags

pub flag_more : (flags : List Bool) (y x : ℕ) → y < length flags → IsTrue (get_or (set flags y true) x false) ↔ IsTrue (get_or flags x false) ⊎ (x ≡ y)
flag_more flags y x below =
    ⊎_elim (λ (same : x ≡ y). (λ h. inr same, λ h. subst (λ (z : ℕ). get_or (set flags y true) z false ≡ true) (sym same) (get_or-set_same flags y true false below)))
    (λ (other : x ≢ y). let e : get_or (set flags y true) x false ≡ get_or flags x false = get_or-set_other flags y x true false other in
    (λ h. inl (sym e ∙ h), λ h. e ∙ ⊎_elim (λ old. old) (λ same. absurd (other same)) h)) (cases_eq x y)

-- a flag that was read
pub flag_at : (flags : List Bool) (k : ℕ) (b : Bool) → k < length flags → b ≡ get_or flags k b → get_or flags k false ≡ b
flag_at flags k b below same = get_or_default flags k false b below ∙ sym same

-- ---- rows

pub row_same : (rows : List (List ℕ)) (x : ℕ) (new : List ℕ) → x < length rows → row (set rows x new) x ≡ new
row_same rows x new below = get_or-set_same rows x new [] below

pub row_other : (rows : List (List ℕ)) (x z : ℕ) (new : List ℕ) → z ≢ x → row (set rows x new) z ≡ row rows z
row_other rows x z new apart = get_or-set_other rows x z new [] apart

pub empty_more : (rows : List (List ℕ)) → ((x : ℕ) → row rows x ≡ []) → (x : ℕ) → row (rows ++ [] ∷ []) x ≡ []
empty_more [] all zero = refl
empty_more [] all (suc x) = refl
empty_more (r ∷ rows) all zero = all zero
empty_more (r ∷ rows) all (suc x) = empty_more rows (λ z. all (suc z)) x
