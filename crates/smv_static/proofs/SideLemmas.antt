-- Assignments that give the same have the same cell, and the other way round.
use Rattle.std.proofs.Common.{◌≡◌, ℕ, ◌+◌, ◌*◌, ◌<◌, ◌≤◌, ⊎_elim, List, length, take, get_or, refl, sym, ◌∙◌, ap, subst, arith, Any}
use Rattle.std.specs.Prelude.{All}
use Rattle.std.proofs.lemmas.List.{get_or-take, get_or_default, length-take-le}
use Rattle.std.proofs.Math.Nat.{mul-le-mul_right}
use Rattle.std.proofs.lemmas.Bool.{cases_lt}
use Rattle.kripke_model.specs.declared.models.Part.{Part}
use Rattle.kripke_model.specs.System.{Assignment}
use Rattle.kripke_model.specs.Static.{AssignsAgain}
use Rattle.smv_static.specs.Groups.{group_by, group_of}
use Rattle.smv_static.specs.Sides.{cell_of}

pub group_known : (processes process : ℕ) (part : Part) → process < processes → group_by processes part process < processes + 2
group_known processes process Part.Init l = omega arith
group_known processes process Part.Now l = omega arith
group_known processes process Part.Next l = omega arith

same_group : (P : ℕ) (part other : Part) (p q : ℕ) → other ≡ part → (part ≡ Part.Next → q ≡ p) → group_by P other q ≡ group_by P part p
same_group P Part.Init other p q e h = ap (λ (r : Part). group_by P r q) e
same_group P Part.Now other p q e h = ap (λ (r : Part). group_by P r q) e
same_group P Part.Next other p q e h = ap (λ (r : Part). group_by P r q) e ∙ h refl

pub same_part : (P : ℕ) (part other : Part) (p q : ℕ) → p < P → q < P → group_by P other q ≡ group_by P part p → (other ≡ part) × (part ≡ Part.Next → q ≡ p)
same_part P Part.Init Part.Init p q l m e = (refl, λ n. cc)
same_part P Part.Init Part.Now p q l m e = absurd (omega arith)
same_part P Part.Init Part.Next p q l m e = absurd (omega arith)
same_part P Part.Now Part.Init p q l m e = absurd (omega arith)
same_part P Part.Now Part.Now p q l m e = (refl, λ n. cc)
same_part P Part.Now Part.Next p q l m e = absurd (omega arith)
same_part P Part.Next Part.Init p q l m e = absurd (omega arith)
same_part P Part.Next Part.Now p q l m e = absurd (omega arith)
same_part P Part.Next Part.Next p q l m e = (refl, λ n. e)

-- a later row begins behind an earlier one
below_row : (n g h x y : ℕ) → x < n → g < h → g * n + x < h * n + y
below_row n g h x y l less =
    let m : (g + 1) * n ≤ h * n = mul-le-mul_right n (omega arith) in
    omega (arith, m)

same_cell : (n g h x y : ℕ) → x < n → y < n → g * n + x ≡ h * n + y → (g ≡ h) × (x ≡ y)
same_cell n g h x y l m e =
    let same : g ≡ h = ⊎_elim (λ less. absurd (let b = below_row n g h x y l less in omega (arith, b, e)))
    (λ more. ⊎_elim (λ less. absurd (let b = below_row n h g y x m less in omega (arith, b, e))) (λ other. omega (arith, more, other)) (cases_lt h g)) (cases_lt g h) in
    let rows : g * n ≡ h * n = ap (λ (k : ℕ). k * n) same in
    (same, omega (arith, rows, e))

pub cell_from_again : (P n : ℕ) (a b : Assignment) → AssignsAgain a b → cell_of P n b ≡ cell_of P n a
cell_from_again P n a b again =
    let group : group_of P b ≡ group_of P a = same_group P a.part b.part a.process b.process again.1 again.2 in
    λ i. group i * n + again.0 i

pub again_from_cell : (P n : ℕ) (a b : Assignment) → a.var < n → b.var < n → a.process < P → b.process < P → cell_of P n b ≡ cell_of P n a → AssignsAgain a b
again_from_cell P n a b va vb pa pb e =
    let c = same_cell n (group_of P b) (group_of P a) b.var a.var vb va e in
    let s = same_part P a.part b.part a.process b.process pa pb c.0 in
    (c.1, s.0, s.1)

pub cell_known : (P n : ℕ) (a : Assignment) → a.var < n → group_of P a < P + 2 → cell_of P n a < (P + 2) * n
cell_known P n a var group = let m : (group_of P a + 1) * n ≤ (P + 2) * n = mul-le-mul_right n (omega arith) in omega (arith, m)

-- ---- the cells of the assignments so far

module _ (P n : ℕ) (assigns : List Assignment) (vars : All (λ a. a.var < n) assigns) (processes : All (λ a. a.process < P) assigns) (i : ℕ) (d : Assignment) (below : i < length assigns) where
  abbrev cell_at : ℕ → Assignment → ℕ
  cell_at k e = cell_of P n (get_or assigns k e)

  -- an assignment whose cell is marked repeats an earlier one
  pub marked_again : (k : ℕ) → k < i → ((e : Assignment) → cell_of P n (get_or assigns i d) ≡ cell_of P n (get_or assigns k e)) → Any (AssignsAgain (get_or assigns i d)) (take i assigns)
  marked_again k less same =
      let a : Assignment = get_or assigns i d in
      let b : Assignment = get_or assigns k d in
      let l : k < length assigns = omega (arith, below, less) in
      let again = again_from_cell P n a b (vars i d below) (vars k d l) (processes i d below) (processes k d l) (sym (same d)) in
      let short : length (take i assigns) ≡ i = length-take-le i assigns (omega (arith, below)) in
      (k, b, omega (arith, short, less), get_or-take i assigns k b less ∙ get_or_default assigns k b d l, again)

  -- an earlier assignment that it repeats has its cell
  pub again_marked : (P' : ℕ → Type 0) → ((k : ℕ) → k < i → (e : Assignment) → P' (cell_of P n (get_or assigns k e))) → Any (AssignsAgain (get_or assigns i d)) (take i assigns) → P' (cell_of P n (get_or assigns i d))
  again_marked P' marked h =
      let short : length (take i assigns) ≡ i = length-take-le i assigns (omega (arith, below)) in
      let less : h.0 < i = omega (arith, h.2, short) in
      let same : get_or assigns h.0 h.1 ≡ h.1 = sym (get_or-take i assigns h.0 h.1 less) ∙ h.3 in
      subst P' (cell_from_again P n (get_or assigns i d) (get_or assigns h.0 h.1) (subst (λ (b : Assignment). AssignsAgain (get_or assigns i d) b) (sym same) h.4)) (marked h.0 less h.1)
