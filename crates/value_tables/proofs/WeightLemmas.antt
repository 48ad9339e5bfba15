-- For how many lists of bits regions have value 1, and how many cells there are.
use Rattle.std.proofs.Common.{◌≡◌, ◌≢◌, ℕ, zero, suc, ◌+◌, ◌*◌, ◌^◌, ◌<◌, ◌≤◌, get_or, take, Bool, true, false, cond, ◌&&◌, List, [], ◌∷◌, length, refl, sym, ap, subst, ◌∙◌, arith}
use Rattle.std.specs.Prelude.{All}
use Rattle.std.proofs.Math.Nat.{pow-suc}
use Rattle.std.proofs.lemmas.List.Elements.{All-head, All-tail}
use Rattle.std.proofs.lemmas.List.{take_all}
use Rattle.std.proofs.lemmas.List.Sums.{sum_by-cons, sum_by_more, sum_by_more_le}
use Rattle.bdd_nodes.specs.declared.store.Store.{Store}
use Rattle.bdd_nodes.specs.Store.{levels_of, Has, value_of, Grows}
use Rattle.bdd_nodes.proofs.Tables.{value_of-false}
use Rattle.bdd_nodes.proofs.Canonical.{canonical}
use Rattle.value_tables.specs.declared.cells.Cell.{Cell}
use Rattle.bdd_ops.specs.Kept.{IsRegion}
use Rattle.value_tables.specs.Work.{Spends}
use Rattle.value_tables.specs.Tables.{count_on}
use Rattle.value_tables.proofs.RegionLemmas.{Spends-same, Spends-then, has_item}
use Rattle.value_tables.specs.Weights.{sum_over, weight, weights, overlap, overlaps, AreApart}

-- ---- sums over all lists of bits

sum_over-zero : (n : ℕ) (f : List Bool → ℕ) → sum_over n f ≡ 0 → (bits : List Bool) → length bits ≡ n → f bits ≡ 0
unfolding sum_over
sum_over-zero zero f e [] len = e
sum_over-zero zero f e (b ∷ bits) len = absurd (omega arith)
sum_over-zero (suc n) f e [] len = absurd (omega arith)
sum_over-zero (suc n) f e (false ∷ bits) len = sum_over-zero n (λ xs. f (false ∷ xs)) (omega arith) bits (omega arith)
sum_over-zero (suc n) f e (true ∷ bits) len = sum_over-zero n (λ xs. f (true ∷ xs)) (omega arith) bits (omega arith)

sum_over-le : (n : ℕ) (f g : List Bool → ℕ) → ((bits : List Bool) → f bits ≤ g bits) → sum_over n f ≤ sum_over n g
unfolding sum_over
sum_over-le zero f g h = h []
sum_over-le (suc n) f g h = omega (arith, sum_over-le n (λ xs. f (false ∷ xs)) (λ xs. g (false ∷ xs)) (λ xs. h (false ∷ xs)), sum_over-le n (λ xs. f (true ∷ xs)) (λ xs. g (true ∷ xs)) (λ xs. h (true ∷ xs)))

sum_over-add : (n : ℕ) (f g : List Bool → ℕ) → sum_over n (λ bits. f bits + g bits) ≡ sum_over n f + sum_over n g
unfolding sum_over
sum_over-add zero f g = refl
sum_over-add (suc n) f g = omega (arith, sum_over-add n (λ xs. f (false ∷ xs)) (λ xs. g (false ∷ xs)), sum_over-add n (λ xs. f (true ∷ xs)) (λ xs. g (true ∷ xs)))

sum_over-constant : (n k : ℕ) → sum_over n (λ bits. k) ≡ k * 2 ^ n
unfolding sum_over
sum_over-constant zero k = omega arith
sum_over-constant (suc n) k = omega (arith, sum_over-constant n k, ap (λ x. k * x) (pow-suc 2 n))

sum_over-none : (n : ℕ) → sum_over n (λ bits. 0) ≡ 0
sum_over-none n = omega (arith, sum_over-constant n 0)

-- ---- regions that are not empty

one_bit : (b : Bool) → ◌≡◌ {A = ℕ} (cond b 1 0) 0 → b ≡ false
one_bit true e = absurd (omega arith)
one_bit false e = refl

some : (n : ℕ) → (n ≡ 0 → ⊥) → 1 ≤ n
some zero h = absurd (h refl)
some (suc n) h = omega arith

pub weight-some : (s : Store) (r : ℕ) → Has s r → r ≢ 0 → 1 ≤ weight s r
weight-some s r has filled =
    some (weight s r) (λ e. filled (canonical s.levels s.nodes.keys s.good r 0 has (omega arith) (λ bits len. one_bit (value_of s r bits) (sum_over-zero (levels_of s) (λ xs. cond (value_of s r xs) 1 0) e bits len) ∙ sym (value_of-false s.nodes.keys bits))))

-- two regions with a meet that is not empty overlap
pub overlap-some : (s z : Store) → Grows s z → (q r m : ℕ) → IsRegion z m (λ bits. value_of s q bits && value_of s r bits) → m ≢ 0 → 1 ≤ overlap s q r
overlap-some s z g q r m is filled = subst (λ n. 1 ≤ n) (λ i. sum_over (g.levels i) (λ bits. cond (is.value bits i) 1 0)) (weight-some z m is.has filled)

-- ---- stores that grow

pub overlap-grows : (s z : Store) → Grows s z → (q r : ℕ) → Has s q → Has s r → overlap z q r ≡ overlap s q r
overlap-grows s z g q r hq hr = λ i. sum_over (g.levels i) (λ bits. cond (g.value q hq bits i && g.value r hr bits i) 1 0)

pub weight-grows : (s z : Store) → Grows s z → (r : ℕ) → Has s r → weight z r ≡ weight s r
weight-grows s z g r has = λ i. sum_over (g.levels i) (λ bits. cond (g.value r has bits i) 1 0)

count_on-grows : (s z : Store) → Grows s z → (cells : List Cell) → All (λ (c : Cell). Has s c.region) cells → (bits : List Bool) → count_on (λ r. value_of z r bits) cells ≡ count_on (λ r. value_of s r bits) cells
count_on-grows s z g [] has bits = refl
count_on-grows s z g (c ∷ cells) has bits =
    sum_by-cons (λ (x : Cell). cond (value_of z x.region bits) 1 0) c cells
    ∙ (λ i. cond (g.value c.region (All-head (λ (x : Cell). Has s x.region) c cells has) bits i) 1 0 + count_on-grows s z g cells (All-tail (λ (x : Cell). Has s x.region) c cells has) bits i)
    ∙ sym (sum_by-cons (λ (x : Cell). cond (value_of s x.region bits) 1 0) c cells)

pub AreApart-grows : (s z : Store) → Grows s z → (cells : List Cell) → All (λ (c : Cell). Has s c.region) cells → AreApart s cells → AreApart z cells
AreApart-grows s z g cells has h = record { each = λ bits. subst (λ n. n ≤ 1) (sym (count_on-grows s z g cells has bits)) (h.each bits) }

-- ---- how many cells there are

count_cons : (v : ℕ → Bool) (c : Cell) (cells : List Cell) → count_on v (c ∷ cells) ≡ cond (v c.region) 1 0 + count_on v cells
count_cons v c cells = sum_by-cons (λ (x : Cell). cond (v x.region) 1 0) c cells

weights-are : (s : Store) (cells : List Cell) → weights s cells ≡ sum_over (levels_of s) (λ bits. count_on (λ r. value_of s r bits) cells)
weights-are s [] = sym (sum_over-none (levels_of s))
weights-are s (c ∷ cells) =
    sum_by-cons (λ (x : Cell). weight s x.region) c cells
    ∙ ap (λ n. weight s c.region + n) (weights-are s cells)
    ∙ sym (sum_over-add (levels_of s) (λ bits. cond (value_of s c.region bits) 1 0) (λ bits. count_on (λ r. value_of s r bits) cells))
    ∙ (λ i. sum_over (levels_of s) (λ bits. sym (count_cons (λ r. value_of s r bits) c cells) i))

pub weights-most : (s : Store) (cells : List Cell) (n : ℕ) → ((bits : List Bool) → count_on (λ r. value_of s r bits) cells ≤ n) → weights s cells ≤ n * 2 ^ levels_of s
weights-most s cells n h = omega (arith, weights-are s cells, sum_over-le (levels_of s) (λ bits. count_on (λ r. value_of s r bits) cells) (λ bits. n) h, sum_over-constant (levels_of s) n)

weights-least : (s : Store) (cells : List Cell) → All (λ (c : Cell). Has s c.region) cells → All (λ (c : Cell). c.region ≢ 0) cells → length cells ≤ weights s cells
weights-least s [] has filled = omega arith
weights-least s (c ∷ cells) has filled =
    omega (
      arith,
      sum_by-cons (λ (x : Cell). weight s x.region) c cells,
      weight-some s c.region (All-head (λ (x : Cell). Has s x.region) c cells has) (All-head (λ (x : Cell). x.region ≢ 0) c cells filled),
      weights-least s cells (All-tail (λ (x : Cell). Has s x.region) c cells has) (All-tail (λ (x : Cell). x.region ≢ 0) c cells filled),
    )

-- with at most n of them at each list of bits there are at most n cells for each list
pub cells-few : (s : Store) (cells : List Cell) (n : ℕ) → All (λ (c : Cell). Has s c.region) cells → All (λ (c : Cell). c.region ≢ 0) cells → ((bits : List Bool) → count_on (λ r. value_of s r bits) cells ≤ n) → length cells ≤ n * 2 ^ levels_of s
cells-few s cells n has filled h = omega (arith, weights-least s cells has filled, weights-most s cells n h)

-- ---- overlaps with cells that are apart

within_cons : (w b : Bool) (n : ℕ) → cond (b && w) 1 0 + cond w n 0 ≡ cond w (cond b 1 0 + n) 0
within_cons true true n = refl
within_cons true false n = refl
within_cons false true n = refl
within_cons false false n = refl

overlaps-are : (s : Store) (cells : List Cell) (r : ℕ) → overlaps s cells r ≡ sum_over (levels_of s) (λ bits. cond (value_of s r bits) (count_on (λ q. value_of s q bits) cells) 0)
overlaps-are s [] r = sym (sum_over-none (levels_of s)) ∙ (λ i. sum_over (levels_of s) (λ bits. none (value_of s r bits) i))
  where
    none : (w : Bool) → ◌≡◌ {A = ℕ} 0 (cond w 0 0)
    none true = refl
    none false = refl
overlaps-are s (c ∷ cells) r =
    sum_by-cons (λ (x : Cell). overlap s x.region r) c cells
    ∙ ap (λ n. overlap s c.region r + n) (overlaps-are s cells r)
    ∙ sym (sum_over-add (levels_of s) (λ bits. cond (value_of s c.region bits && value_of s r bits) 1 0) (λ bits. cond (value_of s r bits) (count_on (λ q. value_of s q bits) cells) 0))
    ∙ (λ i. sum_over (levels_of s) (λ bits. (within_cons (value_of s r bits) (value_of s c.region bits) (count_on (λ q. value_of s q bits) cells)
    ∙ ap (λ n. cond (value_of s r bits) n 0) (sym (count_cons (λ q. value_of s q bits) c cells))) i))

pub overlaps-most : (s : Store) (cells : List Cell) (r : ℕ) → AreApart s cells → overlaps s cells r ≤ weight s r
overlaps-most s cells r h =
    subst (λ n. n ≤ weight s r) (sym (overlaps-are s cells r))
    (sum_over-le (levels_of s) (λ bits. cond (value_of s r bits) (count_on (λ q. value_of s q bits) cells) 0) (λ bits. cond (value_of s r bits) 1 0) (λ bits. by (value_of s r bits) (count_on (λ q. value_of s q bits) cells) (h.each bits)))
  where
    by : (w : Bool) (n : ℕ) → n ≤ 1 → cond w n 0 ≤ cond w 1 0
    by true n le = le
    by false n le = omega arith

-- ---- what is spent

pub Spends-more : (a b : Store) (j k : ℕ) → j ≤ k → Spends j a b → Spends k a b
Spends-more a b j k le h = Spends-then a a b 0 j k refl (omega arith) (Spends-same a 0) h

-- a meet that is empty, and the cell that is then not added, cost nothing
pub put_spends : (s a z : Store) → Grows s a → (q w region : ℕ) → IsRegion a region (λ bits. value_of s q bits && value_of s w bits) → (region ≡ 0 → Spends 0 s a) → (region ≡ 0 → Spends 0 a z) → Spends 1 s a → Spends 1 a z
    → Spends (2 * overlap s q w) s z
put_spends s a z g q w zero is f h x y = Spends-then s a z 0 0 (2 * overlap s q w) g.levels (omega arith) (f refl) (h refl)
put_spends s a z g q w (suc n) is f h x y =
    let filled : suc n ≢ 0 = λ e. omega arith in
    Spends-then s a z 1 1 (2 * overlap s q w) g.levels (omega (arith, overlap-some s a g q w (suc n) is filled)) x y

module _ (s a : Store) (g : Grows s a) (cells : List Cell) (i : ℕ) (cell : Cell) (lt : i < length cells) (is : cell ≡ get_or cells i cell) (has : All (λ (c : Cell). Has s c.region) cells) where
  same_overlap : (w : ℕ) → Has s w → overlap a cell.region w ≡ overlap s (get_or cells i cell).region w
  same_overlap w hw = overlap-grows s a g cell.region w (has_item s a a g cells i cell lt is has) hw ∙ ap (λ (c : Cell). overlap s c.region w) is

  -- one cell more
  pub overlaps_more : (w : ℕ) → Has s w → overlaps s (take i cells) w + overlap a cell.region w ≡ overlaps s (take (i + 1) cells) w
  overlaps_more w hw = ap (λ n. overlaps s (take i cells) w + n) (same_overlap w hw) ∙ sym (sum_by_more (λ (c : Cell). overlap s c.region w) cells i cell lt)

  pub overlaps_more_le : (w : ℕ) → Has s w → overlaps s (take i cells) w + overlap a cell.region w ≤ overlaps s cells w
  overlaps_more_le w hw = subst (λ n. overlaps s (take i cells) w + n ≤ overlaps s cells w) (sym (same_overlap w hw)) (sum_by_more_le (λ (c : Cell). overlap s c.region w) cells i cell lt)

  same_weight : weight a cell.region ≡ weight s (get_or cells i cell).region
  same_weight = weight-grows s a g cell.region (has_item s a a g cells i cell lt is has) ∙ ap (λ (c : Cell). weight s c.region) is

  pub weights_more : weights s (take i cells) + weight a cell.region ≡ weights s (take (i + 1) cells)
  weights_more = ap (λ n. weights s (take i cells) + n) same_weight ∙ sym (sum_by_more (λ (c : Cell). weight s c.region) cells i cell lt)

  pub weights_more_le : weights s (take i cells) + weight a cell.region ≤ weights s cells
  weights_more_le = subst (λ n. weights s (take i cells) + n ≤ weights s cells) (sym same_weight) (sum_by_more_le (λ (c : Cell). weight s c.region) cells i cell lt)

pub overlaps_all : (s : Store) (cells : List Cell) (i w : ℕ) → length cells ≤ i → overlaps s (take i cells) w ≡ overlaps s cells w
overlaps_all s cells i w le = ap (λ xs. overlaps s xs w) (take_all i cells le)

pub weights_all : (s : Store) (cells : List Cell) (i : ℕ) → length cells ≤ i → weights s (take i cells) ≡ weights s cells
weights_all s cells i le = ap (λ xs. weights s xs) (take_all i cells le)
