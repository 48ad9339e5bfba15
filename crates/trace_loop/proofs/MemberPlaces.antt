-- Places of a path from which it goes on in the same way.
use Rattle.std.proofs.Common.{◌≡◌, inl, inr, ℕ, ◌+◌, ◌-◌, ◌%◌, ◌<◌, ◌≤◌, [], length, get_or, sym, ◌∙◌, ap, arith, refl, min}
use Rattle.std.proofs.Math.Nat.{mod-lt, mod-add-mod, add-mod_right}
use Rattle.kripke_model.specs.Path.{Lasso, at, member_count}
use Rattle.kripke_model.proofs.Lassos.{at_cycle}
use Rattle.trace_loop.specs.Places.{SameFrom, IsFirst}
use Rattle.trace_loop.proofs.Suffixes.{le_or_lt}

-- two places on the cycle that are as far along it
same_along : (p : Lasso) (x y : ℕ) → length p.stem ≤ x → length p.stem ≤ y
    → ((d : ℕ) → (x + d - length p.stem) % length p.cycle ≡ (y + d - length p.stem) % length p.cycle) → SameFrom (at p) x y
same_along p x y le le' along d =
    at_cycle p (x + d) (omega arith) ∙ ap (λ i. get_or p.cycle i []) (along d) ∙ sym (at_cycle p (y + d) (omega arith))

-- one turn later the path is where it was
pub comes_again : (p : Lasso) (x : ℕ) → length p.stem ≤ x → SameFrom (at p) x (x + length p.cycle)
comes_again p x le = same_along p x (x + length p.cycle) le (omega arith) (λ d.
    let turned : (x + d - length p.stem + length p.cycle) % length p.cycle ≡ (x + d - length p.stem) % length p.cycle = add-mod_right (x + d - length p.stem) (length p.cycle) in
    sym (ap (λ i. i % length p.cycle) (omega arith) ∙ turned))

-- after the last member the path is on the cycle's first
pub after_last : (p : Lasso) (n first : ℕ) → n ≡ member_count p → first ≡ length p.stem → SameFrom (at p) n first
after_last p n first last is d =
    ap (at p) (omega arith) ∙ sym (comes_again p (length p.stem) (omega arith) d) ∙ ap (at p) (omega arith)

-- each place on the cycle is as a member's
pub member_place : (p : Lasso) → 0 < length p.cycle → (j : ℕ) → length p.stem ≤ j
    → (k : ℕ) × (length p.stem ≤ k) × (k < member_count p) × SameFrom (at p) j k
member_place p loops j le =
    let c = length p.cycle in
    let r : ℕ = (j - length p.stem) % c in
    let small : r < c = mod-lt (j - length p.stem) loops in (
      length p.stem + r,
      omega arith,
      omega arith,
      same_along p j (length p.stem + r) le (omega arith) (λ d.
          let turned : (r + d) % c ≡ (j - length p.stem + d) % c = mod-add-mod (j - length p.stem) c d in
          ap (λ i. i % c) (omega arith) ∙ sym turned ∙ ap (λ i. i % c) (omega arith)),
    )

-- the members from the stem's end on, or from i on where i is a place of the stem, are those that stand from i on
pub first_of : (p : Lasso) → 0 < length p.cycle → (i first : ℕ) → i < member_count p → first ≡ min i (length p.stem) → IsFirst (at p) (member_count p) i first
first_of p loops i first inside is = record {
  folded = λ j le. elim (le_or_lt (length p.stem) j) [
    | inl h ↦ (let k = member_place p loops j h in (k.0, omega (arith, k.1), k.2, k.3))
    | inr h ↦ (j, omega arith, omega arith, λ d. refl)
  ];
  unfolded = λ k le lt. elim (le_or_lt i k) [
    | inl h ↦ (k, h, λ d. refl)
    | inr h ↦ (k + length p.cycle, omega arith, comes_again p k (omega arith))
  ];
}

-- as many places as there are members have all that stands from i on
pub within_turn : (p : Lasso) → 0 < length p.cycle → (i j : ℕ) → i ≤ j → (k : ℕ) × (k < member_count p) × SameFrom (at p) j (i + k)
within_turn p loops i j le = elim (le_or_lt (member_count p) (j - i)) [
  | inl h ↦ (let k = member_place p loops (j - i) (omega arith) in (
    k.0,
    k.2,
    λ d.
        let later : at p (j - i + (i + d)) ≡ at p (k.0 + (i + d)) = k.3 (i + d) in
        ap (at p) (omega arith) ∙ later ∙ ap (at p) (omega arith),
  ))
  | inr h ↦ (j - i, h, λ d. ap (at p) (omega arith))
]
