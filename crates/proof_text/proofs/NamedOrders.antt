-- An order that is read name by name.
use Rattle.std.proofs.Common.{◌≡◌, inl, inr, ℕ, zero, suc, ◌+◌, ◌<◌, Bool, true, false, List, [], ◌∷◌, ◌++◌, length, map, take, get_or, set, Some, slice_get, refl, sym, ◌∙◌, ap, subst, arith, take_all, length-append, append_assoc, append-nil}
use Rattle.std.specs.Prelude.{All}
use Rattle.std.specs.List.{slice_index_or}
use Rattle.std.proofs.lemmas.Bool.{cases_lt}
use Rattle.std.proofs.lemmas.List.{map-append, length-map}
use Rattle.std.proofs.lemmas.List.Elements.{All-head, All-tail}
use Rattle.bit_encode.specs.Code.{IsOrder}
use Rattle.bit_encode.proofs.OrderMarks.{IsMarked, mark_more, mark_twice, mark_end, mark_all}
use Rattle.kripke_model.specs.Flat.{IsFlat}
use Rattle.kripke_model.specs.System.{System, Variable, variable_name}
use Rattle.proof_text.specs.FileParts.{FitsOrder}
use Rattle.text_lines.proofs.Lists.{same_first, same_rest}

abbrev nameless : Variable
nameless = record { name = []; values = []; line = 0 }

abbrev pub names_in : List Variable → List (List ℕ)
names_in vars = map (λ (v : Variable). v.name) vars

-- ---- names at places

name_found : (vars : List Variable) (x : ℕ) → x < length vars → slice_get (names_in vars) x ≡ Some (slice_index_or vars x nameless).name
name_found [] x less = absurd (omega (arith, less))
name_found (v ∷ vars) zero less = refl
name_found (v ∷ vars) (suc x) less = name_found vars x (omega (arith, less))

found_name : (vars : List Variable) (x : ℕ) (word : List ℕ) → slice_get (names_in vars) x ≡ Some word → (x < length vars) × ((slice_index_or vars x nameless).name ≡ word)
found_name [] x word e = absurd cc
found_name (v ∷ vars) zero word e = (omega arith, cc)
found_name (v ∷ vars) (suc x) word e = let h = found_name vars x word e in (omega (arith, h.0), h.1)

name_at : (vars : List Variable) (x : ℕ) → slice_index_or (names_in vars) x [] ≡ (slice_index_or vars x nameless).name
name_at [] x = refl
name_at (v ∷ vars) zero = refl
name_at (v ∷ vars) (suc x) = name_at vars x

-- ---- lists

front_of : {A : Type 0} (xs ys : List A) → take (length xs) (xs ++ ys) ≡ xs
front_of [] ys = refl
front_of (x ∷ xs) ys = ap (λ zs. x ∷ zs) (front_of xs ys)

middle_of : (xs : List ℕ) (y : ℕ) (ys : List ℕ) → get_or (xs ++ y ∷ ys) (length xs) 0 ≡ y
middle_of [] y ys = refl
middle_of (x ∷ xs) y ys = middle_of xs y ys

-- these words were read as an order, whose variables are marked, and others are left
pub record IsNamed (m : System) (words left : List (List ℕ)) (order : List ℕ) (marks : List Bool) : Type 0 where
  pub marked : IsMarked (length m.vars) order marks
  pub words_are : words ≡ map (variable_name m) order ++ left

module _ (m : System) (flat : IsFlat m) where
  abbrev names : List ℕ → List (List ℕ)
  names order = map (variable_name m) order

  abbrev AreVariables : List ℕ → Type 0
  AreVariables order = All (λ x. x < length m.vars) order

  variable_known : (x y : ℕ) → x < length m.vars → y < length m.vars → variable_name m x ≡ variable_name m y → x ≡ y
  variable_known x y p q e =
      let same : slice_index_or (names_in m.vars) x [] ≡ slice_index_or (names_in m.vars) y [] = name_at m.vars x ∙ e ∙ sym (name_at m.vars y) in
      elim (cases_lt x y) [
        | inl less ↦ absurd (flat.distinct_variables x y [] less (omega (arith, q, length-map m.vars (λ (v : Variable). v.name))) same)
        | inr above ↦ elim (cases_lt y x) [
          | inl less ↦ absurd (flat.distinct_variables y x [] less (omega (arith, p, length-map m.vars (λ (v : Variable). v.name))) (sym same))
          | inr equal ↦ omega (arith, above, equal)
        ]
      ]

  -- a variable behind those that were read
  record Next (order whole : List ℕ) (word : List ℕ) : Type 0 where
    pub next : ℕ
    pub others : List ℕ
    pub whole_is : whole ≡ order ++ next ∷ others
    pub below : next < length m.vars
    pub named : variable_name m next ≡ word

  next_of : (order whole : List ℕ) (word : List ℕ) (left : List (List ℕ)) → AreVariables order → AreVariables whole → names whole ≡ names order ++ word ∷ left → Next order whole word
  next_of [] [] word left p q e = absurd (omega (arith, ap length e))
  next_of [] (y ∷ whole) word left p q e =
      record { next = y; others = whole; whole_is = refl; below = All-head (λ x. x < length m.vars) y whole q; named = same_first (variable_name m y) word (names whole) left e }
  next_of (x ∷ order) [] word left p q e = absurd (omega (arith, ap length e))
  next_of (x ∷ order) (y ∷ whole) word left p q e =
      let first = variable_known y x (All-head (λ x. x < length m.vars) y whole q) (All-head (λ x. x < length m.vars) x order p)
      (same_first (variable_name m y) (variable_name m x) (names whole) (names order ++ word ∷ left) e) in
      let n = next_of order whole word left (All-tail (λ x. x < length m.vars) x order p) (All-tail (λ x. x < length m.vars) y whole q)
      (same_rest (variable_name m y) (variable_name m x) (names whole) (names order ++ word ∷ left) e) in
      record { next = n.next; others = n.others; whole_is = (λ i. first i ∷ n.whole_is i); below = n.below; named = n.named }

  pub same_order : (order whole : List ℕ) → AreVariables order → AreVariables whole → names whole ≡ names order → whole ≡ order
  same_order [] [] p q e = refl
  same_order [] (y ∷ whole) p q e = absurd (omega (arith, ap length e))
  same_order (x ∷ order) [] p q e = absurd (omega (arith, ap length e))
  same_order (x ∷ order) (y ∷ whole) p q e =
      let first = variable_known y x (All-head (λ x. x < length m.vars) y whole q) (All-head (λ x. x < length m.vars) x order p)
      (same_first (variable_name m y) (variable_name m x) (names whole) (names order) e) in
      let rest = same_order order whole (All-tail (λ x. x < length m.vars) x order p) (All-tail (λ x. x < length m.vars) y whole q)
      (same_rest (variable_name m y) (variable_name m x) (names whole) (names order) e) in
      (λ i. first i ∷ rest i)

  module _ (words left : List (List ℕ)) (order : List ℕ) (marks : List Bool) where
    pub named_more : (word : List ℕ) (x : ℕ) → IsNamed m words (word ∷ left) order marks → slice_get (names_in m.vars) x ≡ Some word → get_or marks x false ≡ false → IsNamed m words left (order ++ x ∷ []) (set marks x true)
    named_more word x h at new =
        let found = found_name m.vars x word at in
        let n = length m.vars in
        let here : get_or (order ++ x ∷ []) (length order) 0 ≡ x = middle_of order x [] in
        let more = mark_more n (order ++ x ∷ []) (length order) (omega (arith, length-append order (x ∷ []))) marks (subst (λ o. IsMarked n o marks) (sym (front_of order (x ∷ []))) h.marked)
        (omega (arith, here, found.0)) (ap (λ y. get_or marks y false) here ∙ new) in
        let all : take (length order + 1) (order ++ x ∷ []) ≡ order ++ x ∷ [] = take_all (length order + 1) (order ++ x ∷ []) (omega (arith, length-append order (x ∷ []))) in
        record {
          marked = subst (λ o. IsMarked n o (set marks x true)) all (subst (λ y. IsMarked n (take (length order + 1) (order ++ x ∷ [])) (set marks y true)) here more);
          words_are = h.words_are ∙ ap (λ w. names order ++ w ∷ left) (sym found.1) ∙ sym (append_assoc (names order) (variable_name m x ∷ []) left)
              ∙ ap (λ ws. ws ++ left) (sym (map-append (variable_name m) order (x ∷ [])));
        }

    -- no order goes on with a word that names no variable, or one that is marked
    pub no_order : (word : List ℕ) → IsNamed m words (word ∷ left) order marks → ((x : ℕ) → slice_get (names_in m.vars) x ≡ Some word → get_or marks x false ≡ true)
        → (whole : List ℕ) → FitsOrder m whole → words ≡ names whole → ⊥
    no_order word h none whole fits e =
        let n = length m.vars in
        let next = next_of order whole word left h.marked.known fits.known (sym e ∙ h.words_are) in
        let here : get_or (order ++ next.next ∷ next.others) (length order) 0 ≡ next.next = middle_of order next.next next.others in
        let marked = none next.next (name_found m.vars next.next next.below ∙ ap Some next.named) in
        mark_twice n (order ++ next.next ∷ next.others) (length order) (omega (arith, length-append order (next.next ∷ next.others))) marks
        (subst (λ o. IsMarked n o marks) (sym (front_of order (next.next ∷ next.others))) h.marked) (omega (arith, here, next.below)) (ap (λ y. get_or marks y false) here ∙ marked)
        (subst (IsOrder n) next.whole_is fits)

    -- all are marked where no word is left
    pub order_read : left ≡ [] → IsNamed m words left order marks → All (λ b. b ≡ true) marks → FitsOrder m order × (words ≡ names order)
    order_read e h all = (mark_end (length m.vars) order marks h.marked all, h.words_are ∙ ap (λ ws. names order ++ ws) e ∙ append-nil (names order))

    pub order_short : left ≡ [] → IsNamed m words left order marks → (All (λ b. b ≡ true) marks → ⊥) → (whole : List ℕ) → FitsOrder m whole → words ≡ names whole → ⊥
    order_short e h some whole fits is =
        let same : whole ≡ order = same_order order whole h.marked.known fits.known (sym is ∙ h.words_are ∙ ap (λ ws. names order ++ ws) e ∙ append-nil (names order)) in
        some (mark_all (length m.vars) order marks h.marked (subst (IsOrder (length m.vars)) same fits))
