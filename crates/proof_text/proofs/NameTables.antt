-- Names in a table.
use Rattle.std.proofs.Common.{◌≡◌, inl, inr, ℕ, zero, suc, ◌+◌, ◌<◌, Bool, true, false, ◌||◌, List, [], ◌∷◌, ◌++◌, length, map, take, get_or, Option, Some, None, Bor, slice_get, is_some, refl, sym, ◌∙◌, ap, subst, arith, length-take-le, if◌then◌else◌}
use Rattle.std.specs.Prelude.{Contains, MatchOption, position}
use Rattle.std.specs.List.{list_any}
use Rattle.std.specs.Str.{bytes_eq}
use Rattle.std.proofs.lemmas.Bool.{cases_lt}
use Rattle.std.proofs.lemmas.List.{map-append, take_more, get_or-take, get_or_default}
use Rattle.std.proofs.lemmas.List.Quantifiers.{position-Some}
use Rattle.std.proofs.lemmas.Slice.Eq.{bytes_eq-Decides}
use Rattle.kripke_model.specs.Flat.{AreDistinct}

abbrev pub Keys : Type 0
Keys = List (Bor (List ℕ))

abbrev pub texts : Keys → List (List ℕ)
texts keys = map (λ (k : Bor (List ℕ)). k.now) keys

abbrev is_key : List ℕ → Bor (List ℕ) → Bool
is_key name k = bytes_eq name k.now

either_true : (b c : Bool) → c ≡ true → (b || c) ≡ true
either_true true c e = refl
either_true false c e = e

present : (keys : Keys) (name : List ℕ) (k : ℕ) → k < length (texts keys) → get_or (texts keys) k name ≡ name → list_any (is_key name) keys ≡ true
present [] name k lt e = absurd (omega (arith, lt))
present (x ∷ keys) name zero lt e = ap (λ b. b || list_any (is_key name) keys) ((bytes_eq-Decides name x.now).1 (sym e))
present (x ∷ keys) name (suc k) lt e = either_true (is_key name x) (list_any (is_key name) keys) (present keys name k (omega (arith, lt)) e)

absent : (keys : Keys) (name : List ℕ) → (Contains (texts keys) name → ⊥) → list_any (is_key name) keys ≡ false
absent [] name none = refl
absent (x ∷ keys) name none = by (is_key name x) refl (absent keys name (λ c. none (suc c.0, omega (arith, c.1), c.2)))
  where
    by : (b : Bool) → is_key name x ≡ b → list_any (is_key name) keys ≡ false → list_any (is_key name) (x ∷ keys) ≡ false
    by true e rest = absurd (none (zero, omega arith, sym ((bytes_eq-Decides name x.now).0 e)))
    by false e rest = ap (λ b. b || list_any (is_key name) keys) e ∙ rest

-- one more name, none of the earlier ones
pub name_added : (names : List (List ℕ)) (i : ℕ) (keys new : Keys) (r : Bor (List ℕ)) → AreDistinct names → i < length names → texts keys ≡ take i names → get_or names i [] ≡ r.now
    → new ≡ (if list_any (is_key r.now) keys then keys else keys ++ r ∷ []) → texts new ≡ take (i + 1) names
name_added names i keys new r distinct within kept here e =
    ap texts (e ∙ ap (λ b. if b then keys else keys ++ r ∷ []) (absent keys r.now none))
    ∙ map-append (λ (k : Bor (List ℕ)). k.now) keys (r ∷ [])
    ∙ ap (λ ts. ts ++ r.now ∷ []) kept ∙ ap (λ t. take i names ++ t ∷ []) (sym here) ∙ sym (take_more names i [] within)
  where
    none : Contains (texts keys) r.now → ⊥
    none c = apart (subst (λ ts. Contains ts r.now) kept c)
      where
        apart : Contains (take i names) r.now → ⊥
        apart (k, lt, same) = earlier k (below k lt) (value k lt same)
          where
            below : (k : ℕ) → k < length (take i names) → k < i
            below k lt = omega (arith, lt, length-take-le i names (omega (arith, within)))

            value : (k : ℕ) → k < length (take i names) → get_or (take i names) k r.now ≡ r.now → get_or names k r.now ≡ r.now
            value k lt same = sym (get_or-take i names k r.now (below k lt)) ∙ same

            earlier : (k : ℕ) → k < i → get_or names k r.now ≡ r.now → ⊥
            earlier k less same = distinct k i r.now less within (same ∙ sym here ∙ get_or_default names i [] r.now within)

pub name_place : (keys : Keys) (names : List (List ℕ)) (name : List ℕ) (o : Option ℕ) → texts keys ≡ names → o ≡ position (is_key name) keys → is_some o ≡ list_any (is_key name) keys
    → MatchOption o (Contains names name → ⊥) (λ x. slice_get names x ≡ Some name)
name_place keys names name o view e found = subst (λ ns. MatchOption o (Contains ns name → ⊥) (λ x. slice_get ns x ≡ Some name)) view (by o e found)
  where
    stands : (ks : Keys) (x : ℕ) (d : Bor (List ℕ)) → x < length ks → name ≡ (get_or ks x d).now → slice_get (texts ks) x ≡ Some name
    stands [] x d lt same = absurd (omega (arith, lt))
    stands (k ∷ ks) zero d lt same = ap Some (sym same)
    stands (k ∷ ks) (suc x) d lt same = stands ks x d (omega (arith, lt)) same

    at : (ks : Keys) (x : ℕ) → Some x ≡ position (is_key name) ks → slice_get (texts ks) x ≡ Some name
    at [] x e = absurd cc
    at (k ∷ ks) x e = let p = position-Some (is_key name) (k ∷ ks) x k (sym e) in stands (k ∷ ks) x k p.0 ((bytes_eq-Decides name (get_or (k ∷ ks) x k).now).0 p.1)

    by : (o : Option ℕ) → o ≡ position (is_key name) keys → is_some o ≡ list_any (is_key name) keys → MatchOption o (Contains (texts keys) name → ⊥) (λ x. slice_get (texts keys) x ≡ Some name)
    by None e found = λ c. let h : list_any (is_key name) keys ≡ true = present keys name c.0 c.1 c.2 in cc
    by (Some x) e found = at keys x e

-- ---- places

pub place_within : (names : List (List ℕ)) (x : ℕ) (name : List ℕ) → slice_get names x ≡ Some name → (x < length names) × (get_or names x name ≡ name)
place_within [] x name e = absurd cc
place_within (n ∷ names) zero name e = (omega arith, cc)
place_within (n ∷ names) (suc x) name e = let h = place_within names x name e in (omega (arith, h.0), h.1)

-- a name has one place
pub one_place : (names : List (List ℕ)) → AreDistinct names → (x y : ℕ) (name : List ℕ) → slice_get names x ≡ Some name → slice_get names y ≡ Some name → x ≡ y
one_place names distinct x y name p q =
    let h = place_within names x name p in
    let k = place_within names y name q in
    elim (cases_lt x y) [
      | inl less ↦ absurd (distinct x y name less k.0 (h.1 ∙ sym k.1))
      | inr above ↦ elim (cases_lt y x) [
        | inl less ↦ absurd (distinct y x name less h.0 (k.1 ∙ sym h.1))
        | inr same ↦ omega (arith, above, same)
      ]
    ]
