-- Lists with one element for each node of a formula: those of the last part, then of the first one, then the node's own.
use Rattle.std.proofs.Common.{◌≡◌, inl, inr, ℕ, ◌+◌, ◌-◌, ◌≤◌, List, [], ◌∷◌, ◌++◌, length, get_or, Some, sym, refl, ◌∙◌, ap, arith, ltb, length-append}
use Rattle.std.specs.Prelude.{unwrap_or}
use Rattle.std.proofs.lemmas.Bool.{cases_lt, cases_eq, lt-ltb, le-ltb, cond-true, cond-false}
use Rattle.std.proofs.lemmas.List.{get_or_append_left, get_or-append-add}
use Rattle.kripke_model.specs.Ctl.{Ctl}
use Rattle.kripke_model.specs.Signs.{node_count}
use Rattle.fair_rules.specs.Nodes.{node_at}
use Rattle.fair_rules.proofs.Nodes.{Parts, parts, OfParts, count_in, node_in, count_is, by_parts, own_node, past_own, node_range}

module _ {A : Type 0} (d : A) where
  in_last : (xs : List A) (z : A) (k : ℕ) → k ≡ length xs → get_or (xs ++ (z ∷ [])) k d ≡ z
  in_last xs z k e = ap (λ j. get_or (xs ++ (z ∷ [])) j d) (omega (arith, e)) ∙ get_or-append-add xs (z ∷ []) 0 d

  module _ (of : Ctl → ℕ → ℕ → List A) (own : Ctl → ℕ → ℕ → A) where
    abbrev pub joined : Parts → ℕ → ℕ → List A → List A
    joined Parts.Zero n b rest = rest
    joined (Parts.One f) n b rest = of f (n + 1) b ++ rest
    joined (Parts.Two f g) n b rest = of g (n + 1 + node_count f) b ++ (of f (n + 1) (b + node_count g) ++ rest)

    module _ (by : (c : Ctl) (n b : ℕ) → of c n b ≡ joined (parts c) n b (own c n b ∷ [])) where
      pub one_each : (c : Ctl) (n b : ℕ) → length (of c n b) ≡ node_count c
      one_each = by_parts Sized step
        where
          Sized : Ctl → Type 0
          Sized c = (n b : ℕ) → length (of c n b) ≡ node_count c

          size : (x : Parts) (n b : ℕ) (v : A) → OfParts (λ f k. Sized f) x 0 → length (joined x n b (v ∷ [])) ≡ count_in x
          size Parts.Zero n b v inner = refl
          size (Parts.One f) n b v inner = omega (arith, length-append (of f (n + 1) b) (v ∷ []), inner (n + 1) b)
          size (Parts.Two f g) n b v inner =
              omega (
                arith,
                length-append (of g (n + 1 + node_count f) b) (of f (n + 1) (b + node_count g) ++ (v ∷ [])),
                length-append (of f (n + 1) (b + node_count g)) (v ∷ []),
                inner.0 (n + 1) (b + node_count g),
                inner.1 (n + 1 + node_count f) b,
              )

          step : (c : Ctl) → OfParts (λ f k. Sized f) (parts c) 0 → Sized c
          step c inner n b = ap length (by c n b) ∙ size (parts c) n b (own c n b) inner ∙ sym (count_is c)

      -- the node stands as many places before the end as its number is past the first
      pub at_node : (f : Ctl) (n b i k : ℕ) (c : Ctl) → node_at f n i ≡ Some c → k + i + 1 ≡ n + node_count f
          → get_or (of f n b) k d ≡ own c i (b + k + 1 - node_count c)
      at_node f n b i k c = by_parts There step f n b k
        where
          There : Ctl → Type 0
          There f = (n b k : ℕ) → node_at f n i ≡ Some c → k + i + 1 ≡ n + node_count f → get_or (of f n b) k d ≡ own c i (b + k + 1 - node_count c)

          last : (x : Parts) (n b k : ℕ) (v : A) → k + 1 ≡ count_in x → get_or (joined x n b (v ∷ [])) k d ≡ v
          last Parts.Zero n b k v e = ap (λ j. get_or (v ∷ []) j d) {x = k} {y = 0} (omega (arith, e))
          last (Parts.One f) n b k v e = in_last (of f (n + 1) b) v k (omega (arith, e, one_each f (n + 1) b))
          last (Parts.Two f g) n b k v e =
              ap (λ j. get_or (joined (Parts.Two f g) n b (v ∷ [])) j d) (omega (arith, e, one_each g (n + 1 + node_count f) b, one_each f (n + 1) (b + node_count g)))
              ∙ get_or-append-add (of g (n + 1 + node_count f) b) (of f (n + 1) (b + node_count g) ++ (v ∷ [])) (length (of f (n + 1) (b + node_count g))) d
              ∙ in_last (of f (n + 1) (b + node_count g)) v (length (of f (n + 1) (b + node_count g))) refl

          within : (x : Parts) → OfParts (λ f k. There f) x 0 → (n b k : ℕ) (v : A) → node_in x n i ≡ Some c → n + 1 ≤ i → k + i + 1 ≡ n + count_in x
              → get_or (joined x n b (v ∷ [])) k d ≡ own c i (b + k + 1 - node_count c)
          within Parts.Zero inner n b k v at low e = absurd cc
          within (Parts.One f) inner n b k v at low e =
              get_or_append_left (of f (n + 1) b) (v ∷ []) d k (omega (arith, e, low, one_each f (n + 1) b)) ∙ inner (n + 1) b k at (omega (arith, e))
          within (Parts.Two f g) inner n b k v at low e = elim (cases_lt i (n + 1 + node_count f)) [
            | inl lt ↦
                ap (λ j. get_or (joined (Parts.Two f g) n b (v ∷ [])) j d) (omega (arith, e, lt, one_each g (n + 1 + node_count f) b))
                ∙ get_or-append-add (of g (n + 1 + node_count f) b) (of f (n + 1) (b + node_count g) ++ (v ∷ [])) (k - node_count g) d
                ∙ get_or_append_left (of f (n + 1) (b + node_count g)) (v ∷ []) d (k - node_count g) (omega (arith, e, lt, low, one_each f (n + 1) (b + node_count g)))
                ∙ inner.0 (n + 1) (b + node_count g) (k - node_count g)
                (sym (cond-true (ltb i (n + 1 + node_count f)) (node_at f (n + 1) i) (node_at g (n + 1 + node_count f) i) (lt-ltb i (n + 1 + node_count f) lt)) ∙ at) (omega (arith, e, lt))
                ∙ ap (own c i) (omega (arith, e, lt))
            | inr ge ↦
                get_or_append_left (of g (n + 1 + node_count f) b) (of f (n + 1) (b + node_count g) ++ (v ∷ [])) d k (omega (arith, e, ge, one_each g (n + 1 + node_count f) b))
                ∙ inner.1 (n + 1 + node_count f) b k
                (sym (cond-false (ltb i (n + 1 + node_count f)) (node_at f (n + 1) i) (node_at g (n + 1 + node_count f) i) (le-ltb i (n + 1 + node_count f) ge)) ∙ at) (omega (arith, e))
          ]

          step : (f : Ctl) → OfParts (λ f k. There f) (parts f) 0 → There f
          step f inner n b k at e = ap (λ xs. get_or xs k d) (by f n b) ∙ elim (cases_eq i n) [
            | inl is ↦
                let same : f ≡ c = ap (λ o. unwrap_or o f) (sym (own_node f n i is) ∙ at) in
                last (parts f) n b k (own f n b) (omega (arith, e, is, count_is f))
                ∙ ap (λ x. own x n b) same ∙ ap (λ j. own c j b) (sym is) ∙ ap (own c i) (omega (arith, e, is, ap node_count same))
            | inr ne ↦ within (parts f) inner n b k (own f n b) (sym (past_own f n i ne) ∙ at)
                (omega (arith, ne, low n at)) (omega (arith, e, count_is f))
          ]
            where
              low : (n : ℕ) → node_at f n i ≡ Some c → n ≤ i
              low n at = (node_range f n i c at).0
