-- Lemmas on the exchange of neighbouring levels.
use Rattle.std.proofs.Common.{◌≡◌, ◌≢◌, ℕ, ◌+◌, ◌-◌, ◌*◌, ◌%◌, ◌^◌, ◌<◌, ◌≤◌, inl, inr, Bool, true, false, cond, if◌then◌else◌, List, Some, length, slice_index_or, Result, Ok, Err, IfOk, sym, ap, subst, ◌∙◌, arith}
use Rattle.bdd_nodes.specs.declared.triple.Triple.{Triple}
use Rattle.bdd_nodes.specs.declared.store.Store.{Store}
use Rattle.bdd_nodes.specs.Table.{IsGoodNode}
use Rattle.bdd_nodes.specs.Store.{triples, Has, level_of, node_of, value_of, levels_of, Grows, IsNodeOf}
use Rattle.bdd_nodes.proofs.Tables.{node_of-has}
use Rattle.bdd_nodes.proofs.Canonical.{level_of-node}
use Rattle.bdd_ops.specs.declared.key.Key.TheVariants.{Rename}
use Rattle.bdd_ops.specs.Answer.{with_bit, exchanged, IsAnswer}
use Rattle.bdd_ops.specs.Kept.{IsRegion}
use Rattle.bdd_ops.specs.Independence.{DependsOnParity, DependsOnMoved}
use Rattle.bdd_quantify.specs.Exchange.{neighbour_of}
use Rattle.bdd_quantify.proofs.Counts.{half}
use Rattle.bdd_ops.proofs.Bits.{cases_parity, with_bit-commutes, exchanged-even, exchanged-odd}
use Rattle.bdd_ops.proofs.Depth.{IsAnswer-law}
use Rattle.bdd_ops.proofs.Values.{depends, value-child, value-made, value-node, value-constant}

-- a triple's own level is of the diagram's parity
abbrev HasParity : Bool → ℕ → Type 0
HasParity even level = (i : ℕ) × (level ≡ (if even then 2 * i else 2 * i + 1))

own-level : (s : Store) (f : ℕ) (t : Triple) → node_of s f ≡ Some t → (even : Bool) → DependsOnParity s even f → HasParity even t.level
own-level s f t e true p = elim (cases_parity t.level) [
  | inl h ↦ h
  | inr h ↦ absurd (depends s.levels s.nodes.keys s.good f t e (λ bits b. subst (λ l. value_of s f (with_bit bits l b) ≡ value_of s f bits) (sym h.1) (p h.0 bits b)))
]
own-level s f t e false p = elim (cases_parity t.level) [
  | inl h ↦ absurd (depends s.levels s.nodes.keys s.good f t e (λ bits b. subst (λ l. value_of s f (with_bit bits l b) ≡ value_of s f bits) (sym h.1) (p h.0 bits b)))
  | inr h ↦ h
]

-- a level of the other parity is another
other-level : (even : Bool) (level i : ℕ) → HasParity even level → (if even then 2 * i + 1 else 2 * i) ≢ level
other-level true level i h = λ e. absurd (omega (arith, h.1, e))
other-level false level i h = λ e. absurd (omega (arith, h.1, e))

-- a triple whose diagram depends on levels of one parity, where the levels come in pairs
pub record IsMoved (s : Store) (even : Bool) (f : ℕ) (t : Triple) : Type 0 where
  pub pairs : levels_of s % 2 ≡ 0
  pub node : node_of s f ≡ Some t
  pub parity : DependsOnParity s even f

-- the neighbour is a level
pub neighbour-inside : (s : Store) (even : Bool) (f : ℕ) (t : Triple) → IsMoved s even f t → neighbour_of even t.level < levels_of s
neighbour-inside s true f t a = let h = own-level s f t a.node true a.parity in omega (arith, a.pairs, h.1, (s.good.each f t a.node).inside)
neighbour-inside s false f t a = let h = own-level s f t a.node false a.parity in omega (arith, a.pairs, h.1, (s.good.each f t a.node).inside)

-- and there is one before
pub neighbour-some : (s : Store) (even : Bool) (f : ℕ) (t : Triple) → IsMoved s even f t → 0 < neighbour_of even t.level + t.level
neighbour-some s true f t a = omega arith
neighbour-some s false f t a = let h = own-level s f t a.node false a.parity in omega (arith, h.1)

-- a child is smaller, lies deeper and depends on the same levels
pub record IsChild (s : Store) (even : Bool) (f level child : ℕ) : Type 0 where
  pub has : Has s child
  pub parity : DependsOnParity s even child
  pub deeper : level < level_of s child
  pub smaller : child < f

pub child : (s : Store) (even : Bool) (f : ℕ) (t : Triple) → IsMoved s even f t → (bit : Bool) → IsChild s even f t.level (cond bit t.high t.low)
child s even f t a bit = record {
  has = by bit (λ x. Has s x) (omega (arith, g.low_earlier, has.0)) (omega (arith, g.high_earlier, has.0));
  parity = λ i bits b.
      value-child s.levels s.nodes.keys s.good f t a.node (with_bit bits (other i) b) bit
      ∙ ap (value_of s f) (with_bit-commutes bits (other i) t.level b bit (other-level even t.level i own))
      ∙ a.parity i (with_bit bits t.level bit) b
      ∙ sym (value-child s.levels s.nodes.keys s.good f t a.node bits bit);
  deeper = by bit (λ x. t.level < level_of s x) g.low_deeper g.high_deeper;
  smaller = by bit (λ x. x < f) g.low_earlier g.high_earlier;
}
  where
    g : IsGoodNode s.levels s.nodes.keys f t
    g = s.good.each f t a.node

    has : Has s f × (2 ≤ f)
    has = node_of-has s.nodes.keys f t a.node

    own : HasParity even t.level
    own = own-level s f t a.node even a.parity

    other : ℕ → ℕ
    other i = if even then 2 * i + 1 else 2 * i

    by : (b : Bool) (P : ℕ → Type 0) → P t.low → P t.high → P (cond b t.high t.low)
    by true P low high = high
    by false P low high = low

pub DependsOnParity-grows : (old new : Store) → Grows old new → (even : Bool) (f : ℕ) → Has old f → DependsOnParity old even f → DependsOnParity new even f
DependsOnParity-grows old new g even f has p = λ i bits b. g.value f has (with_bit bits (if even then 2 * i + 1 else 2 * i) b) ∙ p i bits b ∙ sym (g.value f has bits)

-- growth keeps a child
pub IsChild-grows : (old new : Store) → Grows old new → (even : Bool) (f level child : ℕ) → IsChild old even f level child → IsChild new even f level child
IsChild-grows old new g even f level child a = record {
  has = g.has child a.has;
  parity = DependsOnParity-grows old new g even child a.has a.parity;
  deeper = omega (arith, a.deeper, g.level child a.has);
  smaller = a.smaller;
}

-- the answer for a child lies deeper than the neighbour
pub deeper-answer : (s : Store) (lists : List (List ℕ)) (even : Bool) (f level child r : ℕ) → neighbour_of even level < levels_of s → 0 < neighbour_of even level + level → IsChild s even f level child → IsAnswer s lists (Rename child even) r
    → neighbour_of even level < level_of s r
deeper-answer s lists true f level child r inside some a b = omega (arith, inside, a.deeper, b.deep)
deeper-answer s lists false f level child r inside some a b = omega (arith, inside, some, a.deeper, b.deep)

-- the bit at a level before the exchange is the one at its neighbour
neighbour-bit : (even : Bool) (level : ℕ) → HasParity even level → (bits : List Bool) → slice_index_or bits (neighbour_of even level) false ≡ slice_index_or (exchanged bits) level false
neighbour-bit true level h bits =
    ap (λ l. slice_index_or bits (l + 1) false) h.1 ∙ sym (exchanged-even bits h.0) ∙ sym (ap (λ l. slice_index_or (exchanged bits) l false) h.1)
neighbour-bit false level h bits =
    let e : level - 1 ≡ 2 * h.0 = omega (arith, h.1) in
    ap (λ l. slice_index_or bits l false) e ∙ sym (exchanged-odd bits h.0) ∙ sym (ap (λ l. slice_index_or (exchanged bits) l false) h.1)

depends-moved : (s : Store) (even : Bool) (f : ℕ) → DependsOnParity s even f → DependsOnMoved s (Rename f even)
depends-moved s true f p = p
depends-moved s false f p = tt

-- a constant is its own answer
pub IsAnswer-constant : (s : Store) (lists : List (List ℕ)) (even : Bool) (f : ℕ) → Has s f → DependsOnParity s even f → f < 2 → IsAnswer s lists (Rename f even) f
IsAnswer-constant s lists even f has p h = IsAnswer-law s lists (Rename f even) f has (omega arith) has (λ bits. value-constant s.nodes.keys f h bits (exchanged bits)) (depends-moved s even f p)

-- the answer of a triple from those of its children
pub IsAnswer-whole : (old new : Store) → Grows old new → (lists : List (List ℕ)) (even : Bool) (f : ℕ) (t : Triple) → IsMoved old even f t → (low high r : ℕ)
    → IsAnswer new lists (Rename t.low even) low → IsAnswer new lists (Rename t.high even) high → Has new r → IsNodeOf new (neighbour_of even t.level) low high r → IsAnswer new lists (Rename f even) r
IsAnswer-whole old new g lists even f t m low high r a b has node =
    let there = (node_of-has old.nodes.keys f t m.node).0 in
    IsAnswer-law new lists (Rename f even) r (g.has f there) (omega arith) has (λ bits.
    value-made new.levels new.nodes.keys new.good (neighbour_of even t.level) low high r node.equal node.node bits
    ∙ (λ j. cond (neighbour-bit even t.level (own-level old f t m.node even m.parity) bits j) (b.value bits j) (a.value bits j))
    ∙ sym (value-node new.levels new.nodes.keys new.good f t (g.node f there ∙ m.node) (exchanged bits))) (depends-moved new even f (DependsOnParity-grows old new g even f there m.parity))

-- so many triples are within the bound of a call
abbrev pub IsWithin : ℕ → ℕ → Store → Type 0
IsWithin f n s = n ≤ length (triples s) + 2 ^ (levels_of s - level_of s f)

-- a triple's level, by its diagram
top : (s : Store) (f : ℕ) (t : Triple) → node_of s f ≡ Some t → (level_of s f ≡ t.level) × (level_of s f < s.levels)
top s f t e = let same = level_of-node s.levels s.nodes.keys f t e in (same, omega (arith, same, (s.good.each f t e).inside))

-- what one side added, and both
pub low-within : (s : Store) (even : Bool) (f : ℕ) (t : Triple) → IsMoved s even f t → (after : ℕ) → IsWithin t.low (after + 1) s → IsWithin f (after + 1) s
low-within s even f t a after h =
    let level = top s f t a.node in
    let two = half s.levels (level_of s f) (level_of s t.low) (omega (arith, level.0, (child s even f t a false).deeper)) level.1 in
    omega (arith, h, two)

pub both-within : (s new : Store) → Grows s new → (even : Bool) (f : ℕ) (t : Triple) → IsMoved s even f t → (after : ℕ) → IsWithin t.low (length (triples new) + 1) s → IsWithin t.high (after + 1) new → IsWithin f (after + 2) s
both-within s new g even f t a after h i =
    let level = top s f t a.node in
    let high = child s even f t a true in
    let same : 2 ^ (new.levels - level_of new t.high) ≡ 2 ^ (s.levels - level_of s t.high) = λ j. 2 ^ (g.levels j - g.level t.high high.has j) in
    let one = half s.levels (level_of s f) (level_of s t.low) (omega (arith, level.0, (child s even f t a false).deeper)) level.1 in
    let two = half s.levels (level_of s f) (level_of s t.high) (omega (arith, level.0, high.deeper)) level.1 in
    omega (arith, h, i, same, one, two)

-- the answer of the recursion, by the diagram before the call
pub renamed_region : {E : Type 0} (old new : Store) → Grows old new → (lists : List (List ℕ)) (f : ℕ) (even : Bool) → Has old f → (r : Result ℕ E) → IfOk r (IsAnswer new lists (Rename f even)) → IfOk r (λ x. IsRegion new x (λ bits. value_of old f (exchanged bits)))
renamed_region old new g lists f even there (Ok x) h = record { has = h.has; value = λ bits. h.value bits ∙ g.value f there (exchanged bits) }
renamed_region old new g lists f even there (Err e) h = tt
