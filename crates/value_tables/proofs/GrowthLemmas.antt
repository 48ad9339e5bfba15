-- How much the parts of an expression make the store grow, and how much the whole.
use Rattle.std.proofs.Common.{◌≡◌, ℕ, zero, suc, ◌+◌, ◌*◌, ◌^◌, ◌<◌, ◌≤◌, get_or, take, length, List, [], ◌∷◌, refl, sym, ap, subst, ◌∙◌, arith}
use Rattle.std.specs.Prelude.{All, sum_by}
use Rattle.std.proofs.lemmas.List.{take_all}
use Rattle.std.proofs.lemmas.Nat.{pow_pos}
use Rattle.std.proofs.Math.Nat.{pow-suc, pow-zero}
use Rattle.std.proofs.lemmas.List.Sums.{sum_by-cons, sum_by_more, sum_by_more_le}
use Rattle.bdd_nodes.specs.declared.store.Store.{Store}
use Rattle.bdd_nodes.specs.Store.{levels_of, triples, Has, Grows}
use Rattle.kripke_model.specs.declared.expressions.Arm.{Arm}
use Rattle.kripke_model.specs.Reading.{term_of, arms_in}
use Rattle.kripke_model.specs.Size.{term_nodes, arm_nodes}
use Rattle.value_tables.specs.declared.cells.Cell.{Cell}
use Rattle.value_tables.specs.Work.{Spends, allowance, list_allowance, operator_allowance}
use Rattle.value_tables.specs.Weights.{AreApart, weights}
use Rattle.value_tables.proofs.RegionLemmas.{Spends-then}
use Rattle.value_tables.proofs.WeightLemmas.{Spends-more, AreApart-grows, weights-most}
use Rattle.value_tables.proofs.AllowanceLemmas.{allowance-next, allowance-least, allowance-not, allowance-left, allowance-both, allowance-binary, allowance-element, allowance-halves, allowance-arm, list_allowance-join, list_allowance-mono, list_allowance-whole, list_allowance-last}

-- ---- the nodes of lists

abbrev pub nodes_of_arms : List Arm → ℕ
nodes_of_arms arms = sum_by (λ (a : Arm). term_nodes (term_of a.guard) + term_nodes (term_of a.right)) arms

pub arm_nodes-are : (arms : List Arm) → nodes_of_arms arms ≡ arm_nodes (arms_in arms)
arm_nodes-are [] = refl
arm_nodes-are (a ∷ arms) = omega (arith, sum_by-cons (λ (x : Arm). term_nodes (term_of x.guard) + term_nodes (term_of x.right)) a arms, arm_nodes-are arms)

module _ (arms : List Arm) (i : ℕ) (a : Arm) (lt : i < length arms) (is : a ≡ get_or arms i a) where
  arm_here : term_nodes (term_of a.guard) + term_nodes (term_of a.right) ≡ term_nodes (term_of (get_or arms i a).guard) + term_nodes (term_of (get_or arms i a).right)
  arm_here = ap (λ (x : Arm). term_nodes (term_of x.guard) + term_nodes (term_of x.right)) is

  pub arms_more : nodes_of_arms (take (i + 1) arms) ≡ nodes_of_arms (take i arms) + (term_nodes (term_of a.guard) + term_nodes (term_of a.right))
  arms_more = omega (arith, arm_here, sum_by_more (λ (x : Arm). term_nodes (term_of x.guard) + term_nodes (term_of x.right)) arms i a lt)

  pub arms_step : nodes_of_arms (take i arms) + (term_nodes (term_of a.guard) + term_nodes (term_of a.right)) ≤ nodes_of_arms (take (i + 1) arms)
  arms_step = omega (arith, arms_more)

  pub arms_more_le : nodes_of_arms (take i arms) + (term_nodes (term_of a.guard) + term_nodes (term_of a.right)) ≤ arm_nodes (arms_in arms)
  arms_more_le = omega (arith, arm_here, arm_nodes-are arms, sum_by_more_le (λ (x : Arm). term_nodes (term_of x.guard) + term_nodes (term_of x.right)) arms i a lt)

pub arms_all : (arms : List Arm) (i : ℕ) → length arms ≤ i → nodes_of_arms (take i arms) ≡ arm_nodes (arms_in arms)
arms_all arms i le = ap nodes_of_arms (take_all i arms le) ∙ arm_nodes-are arms

-- ---- pairs of cells

-- operands that are apart take two operations for each list of bits
pub pairs_spend : (s f z : Store) → Grows s f → (left right : List Cell) → All (λ (c : Cell). Has s c.region) left → All (λ (c : Cell). Has s c.region) right → (k j : ℕ) → k + 1 + 2 * 2 ^ levels_of s ≤ j
    → Spends k s f → (AreApart f right → Spends (2 * weights f left + 1) f z) → AreApart s left → AreApart s right → Spends j s z
pairs_spend s f z g left right hl hr k j le x y al ar =
    let few = weights-most f left 1 (AreApart-grows s f g left hl al).each in
    let same = ap (λ n. 2 ^ n) g.levels in
    Spends-then s f z k (2 * weights f left + 1) j g.levels (omega (arith, few, same)) x (y (AreApart-grows s f g right hr ar))

-- ---- expressions

same_unit : (s z : Store) → Grows s z → 2 ^ levels_of z ≡ 2 ^ levels_of s
same_unit s z g = ap (λ n. 2 ^ n) g.levels

some_unit : (s : Store) → 1 ≤ 2 ^ levels_of s
some_unit s = omega (arith, pow_pos (levels_of s))

pub variable_spends : (s z : Store) (n : ℕ) → Spends (2 * 2 ^ levels_of s) s z → Spends (allowance n (2 ^ levels_of s)) s z
variable_spends s z n h = Spends-more s z (2 * 2 ^ levels_of s) (allowance n (2 ^ levels_of s)) (omega (arith, allowance-least n (2 ^ levels_of s))) h

pub running_spends : (s z : Store) (n : ℕ) → Spends 4 s z → Spends (allowance n (2 ^ levels_of s)) s z
running_spends s z n h = Spends-more s z 4 (allowance n (2 ^ levels_of s)) (omega (arith, allowance-least n (2 ^ levels_of s), some_unit s)) h

pub next_spends : (s z : Store) (n t : ℕ) → t ≡ 1 + n → Spends (allowance n (2 ^ levels_of s)) s z → Spends (allowance t (2 ^ levels_of s)) s z
next_spends s z n t e h = subst (λ m. Spends (allowance m (2 ^ levels_of s)) s z) (sym e) (Spends-more s z _ _ (allowance-next n (2 ^ levels_of s)) h)

pub not_spends : (s b z : Store) → Grows s b → (n t l : ℕ) → t ≡ 1 + n → Spends (allowance n (2 ^ levels_of s)) s b → Spends (7 * l + 4) b z → l ≤ n * 2 ^ levels_of b → Spends (allowance t (2 ^ levels_of s)) s z
not_spends s b z g n t l e x y le =
    let few : l ≤ n * 2 ^ levels_of s = subst (λ u. l ≤ n * u) (same_unit s b g) le in
    subst (λ m. Spends (allowance m (2 ^ levels_of s)) s z) (sym e)
    (Spends-then s b z (allowance n (2 ^ levels_of s)) (7 * l + 4) (allowance (1 + n) (2 ^ levels_of s)) g.levels (allowance-not n (2 ^ levels_of s) l few (some_unit s)) x y)

pub left_spends : (s z : Store) (a b t : ℕ) → t ≡ 1 + a + b → Spends (allowance a (2 ^ levels_of s)) s z → Spends (allowance t (2 ^ levels_of s)) s z
left_spends s z a b t e h = subst (λ m. Spends (allowance m (2 ^ levels_of s)) s z) (sym e) (Spends-more s z _ _ (allowance-left a b (2 ^ levels_of s)) h)

both_join : (s p z : Store) → Grows s p → (a b : ℕ) → Spends (allowance a (2 ^ levels_of s)) s p → Spends (allowance b (2 ^ levels_of p)) p z → Spends (allowance a (2 ^ levels_of s) + allowance b (2 ^ levels_of s)) s z
both_join s p z g a b x y = Spends-then s p z _ _ _ g.levels (omega arith) x (subst (λ u. Spends (allowance b u) p z) (same_unit s p g) y)

pub both_spend : (s p z : Store) → Grows s p → (a b t : ℕ) → t ≡ 1 + a + b → Spends (allowance a (2 ^ levels_of s)) s p → Spends (allowance b (2 ^ levels_of p)) p z → Spends (allowance t (2 ^ levels_of s)) s z
both_spend s p z g a b t e x y =
    subst (λ m. Spends (allowance m (2 ^ levels_of s)) s z) (sym e) (Spends-more s z _ _ (allowance-both a b (2 ^ levels_of s)) (both_join s p z g a b x y))

pub binary_spends : (s p q z : Store) → Grows s p → Grows p q → (a b t l r : ℕ) → t ≡ 1 + a + b → Spends (allowance a (2 ^ levels_of s)) s p → Spends (allowance b (2 ^ levels_of p)) p q → Spends (operator_allowance l r (2 ^ levels_of q)) q z
    → l ≤ a * 2 ^ levels_of p → r ≤ b * 2 ^ levels_of q → Spends (allowance t (2 ^ levels_of s)) s z
binary_spends s p q z g h a b t l r e x y w le ge =
    let all : 2 ^ levels_of q ≡ 2 ^ levels_of s = same_unit p q h ∙ same_unit s p g in
    subst (λ m. Spends (allowance m (2 ^ levels_of s)) s z) (sym e)
    (Spends-then s q z _ (operator_allowance l r (2 ^ levels_of s)) _ (h.levels ∙ g.levels)
    (allowance-binary a b (2 ^ levels_of s) l r (subst (λ u. l ≤ a * u) (same_unit s p g) le) (subst (λ u. r ≤ b * u) all ge) (some_unit s))
    (both_join s p q g a b x y) (subst (λ u. Spends (operator_allowance l r u) q z) all w))

-- ---- elements

pub element_spends : (s z : Store) (n t : ℕ) → 1 ≤ n → t ≡ n → Spends (allowance n (2 ^ levels_of s)) s z → Spends (list_allowance t (2 ^ levels_of s)) s z
element_spends s z n t some e h = subst (λ m. Spends (list_allowance m (2 ^ levels_of s)) s z) (sym e) (Spends-more s z _ _ (allowance-element n (2 ^ levels_of s) some) h)

pub half_spends : (s z : Store) (k t : ℕ) → k ≤ t → Spends (list_allowance k (2 ^ levels_of s)) s z → Spends (list_allowance t (2 ^ levels_of s)) s z
half_spends s z k t le h = Spends-more s z _ _ (list_allowance-mono k t (2 ^ levels_of s) le) h

lists_join : (s p z : Store) → Grows s p → (k n : ℕ) → Spends (list_allowance k (2 ^ levels_of s)) s p → Spends (list_allowance n (2 ^ levels_of p)) p z → Spends (list_allowance k (2 ^ levels_of s) + list_allowance n (2 ^ levels_of s)) s z
lists_join s p z g k n x y = Spends-then s p z _ _ _ g.levels (omega arith) x (subst (λ u. Spends (list_allowance n u) p z) (same_unit s p g) y)

pub lists_spend : (s p z : Store) → Grows s p → (k n t : ℕ) → k + n ≤ t → Spends (list_allowance k (2 ^ levels_of s)) s p → Spends (list_allowance n (2 ^ levels_of p)) p z → Spends (list_allowance t (2 ^ levels_of s)) s z
lists_spend s p z g k n t le x y = Spends-more s z _ _ (omega (arith, list_allowance-join k n (2 ^ levels_of s), list_allowance-mono (k + n) t (2 ^ levels_of s) le)) (lists_join s p z g k n x y)

pub halves_spend : (s p q z : Store) → Grows s p → Grows p q → (k n t l r : ℕ) → 1 ≤ k → 1 ≤ n → t ≡ k + n → Spends (list_allowance k (2 ^ levels_of s)) s p → Spends (list_allowance n (2 ^ levels_of p)) p q → Spends (5 * l + 5 * r + 3) q z
    → l ≤ k * 2 ^ levels_of p → r ≤ n * 2 ^ levels_of q → Spends (list_allowance t (2 ^ levels_of s)) s z
halves_spend s p q z g h k n t l r one two e x y w few more =
    let all : 2 ^ levels_of q ≡ 2 ^ levels_of s = same_unit p q h ∙ same_unit s p g in
    subst (λ m. Spends (list_allowance m (2 ^ levels_of s)) s z) (sym e)
    (Spends-then s q z _ (5 * l + 5 * r + 3) _ (h.levels ∙ g.levels)
    (allowance-halves k n (2 ^ levels_of s) l r one two (subst (λ u. l ≤ k * u) (same_unit s p g) few) (subst (λ u. r ≤ n * u) all more) (some_unit s))
    (lists_join s p q g k n x y) w)

pub list_spends : (s z : Store) (k t : ℕ) → t ≡ 1 + k → Spends (list_allowance k (2 ^ levels_of s)) s z → Spends (allowance t (2 ^ levels_of s)) s z
list_spends s z k t e h = subst (λ m. Spends (allowance m (2 ^ levels_of s)) s z) (sym e) (Spends-more s z _ _ (list_allowance-whole k (2 ^ levels_of s)) h)

-- ---- arms

module _ (s p q : Store) (g : Grows s p) (h : Grows p q) (a b : ℕ) (one : 1 ≤ a) (two : 1 ≤ b) (x : Spends (allowance a (2 ^ levels_of s)) s p) where
  within : (l r : ℕ) → l ≤ a * 2 ^ levels_of s → r ≤ b * 2 ^ levels_of s → allowance a (2 ^ levels_of s) + allowance b (2 ^ levels_of s) + (7 * l + 2 * r + 6) ≤ list_allowance (a + b) (2 ^ levels_of s)
  within l r few more = allowance-arm a b (2 ^ levels_of s) l r one two few more (some_unit s)

  pub arm_guard : Spends (list_allowance (a + b) (2 ^ levels_of s)) s p
  arm_guard = Spends-more s p _ _ (omega (arith, within 0 0 (omega arith) (omega arith))) x

  module _ (y : Spends (allowance b (2 ^ levels_of p)) p q) where
    pub arm_right : Spends (list_allowance (a + b) (2 ^ levels_of s)) s q
    arm_right = Spends-more s q _ _ (omega (arith, within 0 0 (omega arith) (omega arith))) (both_join s p q g a b x y)

    pub arm_spends : (z : Store) (l r : ℕ) → l ≤ a * 2 ^ levels_of p → r ≤ b * 2 ^ levels_of q → Spends (7 * l + 2 * r + 6) q z → Spends (list_allowance (a + b) (2 ^ levels_of s)) s z
    arm_spends z l r few more w =
        let all : 2 ^ levels_of q ≡ 2 ^ levels_of s = same_unit p q h ∙ same_unit s p g in
        Spends-then s q z _ (7 * l + 2 * r + 6) _ (h.levels ∙ g.levels) (within l r (subst (λ u. l ≤ a * u) (same_unit s p g) few) (subst (λ u. r ≤ b * u) all more)) (both_join s p q g a b x y) w

pub arms_spend : (s p z : Store) → Grows s p → (k t : ℕ) → t ≡ k → Spends (list_allowance k (2 ^ levels_of s)) s p → Spends 1 p z → Spends (allowance (1 + t) (2 ^ levels_of s)) s z
arms_spend s p z g k t e x y = subst (λ m. Spends (allowance (1 + m) (2 ^ levels_of s)) s z) (sym e) (Spends-then s p z _ 1 _ g.levels (list_allowance-last k (2 ^ levels_of s) (some_unit s)) x y)

-- ---- the whole

power_of_four : (n : ℕ) → 4 ^ n ≡ 2 ^ n * 2 ^ n
power_of_four zero = refl
power_of_four (suc n) = omega (arith, power_of_four n, pow-suc 4 n, ap (λ x. x * x) (pow-suc 2 n))

square : (n : ℕ) → n ^ 2 ≡ n * n
square n = omega (arith, pow-suc n 1, ap (λ x. x * n) (pow-suc n 0), ap (λ x. x * n * n) (pow-zero n))

pub growth : (s z : Store) (n : ℕ) → Spends (allowance n (2 ^ levels_of s)) s z → length (triples z) ≤ length (triples s) + 16 * (n + 1) ^ 2 * 4 ^ levels_of s
growth s z n h = subst (λ k. length (triples z) ≤ length (triples s) + k) same h.count
  where
    same : 16 * ((n + 1) * (n + 1)) * 2 ^ levels_of s * 2 ^ levels_of s ≡ 16 * (n + 1) ^ 2 * 4 ^ levels_of s
    same = regroup (16 * ((n + 1) * (n + 1))) (2 ^ levels_of s) ∙ (λ i. 16 * sym (square (n + 1)) i * sym (power_of_four (levels_of s)) i)
      where
        regroup : (a v : ℕ) → a * v * v ≡ a * (v * v)
        regroup a v = omega arith
