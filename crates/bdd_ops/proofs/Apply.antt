-- Lemmas on the recursion of an operation.
use Rattle.std.proofs.Common.{◌≡◌, ℕ, suc, ◌+◌, ◌-◌, ◌*◌, ◌^◌, ◌<◌, ◌≤◌, ◌⊎◌, inl, inr, Bool, true, false, List, Result, Ok, Err, IfOk, sym, ap, subst, ◌∙◌, arith}
use Rattle.std.proofs.Math.Pow.{pow_mono}
use Rattle.std.proofs.Math.Nat.{pow-suc}
use Rattle.std.proofs.lemmas.Bool.{cases_eq}
use Rattle.bdd_nodes.specs.declared.triple.Triple.{Triple}
use Rattle.bdd_nodes.specs.declared.store.Store.{Store}
use Rattle.bdd_nodes.specs.Table.{level_of, value_of, Has}
use Rattle.bdd_nodes.specs.Store.{Grows, IsNodeOf}
use Rattle.bdd_nodes.proofs.Tables.{node_of-has, node_of-some, value_of-false, value_of-true, Has-grows}
use Rattle.bdd_nodes.proofs.Canonical.{level_of-node, level_of-constant, level_of-bound}
use Rattle.bdd_ops.specs.declared.operation.Operation.{Operation}
use Rattle.bdd_ops.specs.declared.operation.Operation.TheVariants.{Not, And, Or, Iff, Ite}
use Rattle.bdd_ops.specs.Operation.{IsOpen, combine, operation_of, highest_of, weight_of, top_of, with_operands, part_of, SomeOperand}
use Rattle.bdd_ops.specs.Result as store
use Rattle.bdd_ops.specs.Kept.{IsRegion}
use Rattle.bdd_ops.proofs.Parts.{part_of-le, part_of-less, part_of-deeper, highest_of-with, top_of-with, weight_of-with, top_of-bound, top_of-inside, top_of-grows, operation_of-grows}
use Rattle.bdd_ops.proofs.Results.{IsResult-made}

-- an operand is at most the highest one, and lies at the top level or deeper
operand-le : (k : Operation) (r : ℕ) → SomeOperand (λ f. f ≡ r) k → r ≤ highest_of k
operand-le (Not f) r e = omega arith
operand-le (And f g) r e = elim e [ inl a ↦ omega arith | inr a ↦ omega arith ]
operand-le (Or f g) r e = elim e [ inl a ↦ omega arith | inr a ↦ omega arith ]
operand-le (Iff f g) r e = elim e [ inl a ↦ omega arith | inr a ↦ omega arith ]
operand-le (Ite f g h) r e = elim e [ inl a ↦ omega arith | inr b ↦ elim b [ inl a ↦ omega arith | inr a ↦ omega arith ] ]

operand-deep : (levels : ℕ) (table : List Triple) (k : Operation) (r : ℕ) → SomeOperand (λ f. f ≡ r) k → top_of levels table k ≤ level_of levels table r
operand-deep levels table (Not f) r e = omega (arith, ap (level_of levels table) e)
operand-deep levels table (And f g) r e = elim e [ inl a ↦ omega (arith, ap (level_of levels table) a) | inr a ↦ omega (arith, ap (level_of levels table) a) ]
operand-deep levels table (Or f g) r e = elim e [ inl a ↦ omega (arith, ap (level_of levels table) a) | inr a ↦ omega (arith, ap (level_of levels table) a) ]
operand-deep levels table (Iff f g) r e = elim e [ inl a ↦ omega (arith, ap (level_of levels table) a) | inr a ↦ omega (arith, ap (level_of levels table) a) ]
operand-deep levels table (Ite f g h) r e = elim e [
  | inl a ↦ omega (arith, ap (level_of levels table) a)
  | inr b ↦ elim b [ inl a ↦ omega (arith, ap (level_of levels table) a) | inr a ↦ omega (arith, ap (level_of levels table) a) ]
]

-- an answer that the operands show is the result
pub IsResult-answer : (s : Store) (k : Operation) (r : ℕ) → store.HasOperands s k → ((v : ℕ → Bool) → v 0 ≡ false → v 1 ≡ true → v r ≡ combine v k) → (r < 2) ⊎ SomeOperand (λ f. f ≡ r) k → store.IsResult s k r
IsResult-answer s k r operands value among = record {
  operands = operands;
  has = elim among [ inl h ↦ omega arith | inr h ↦ omega (arith, operand-le k r h) ];
  value = λ bits. value (λ x. value_of s.nodes.keys x bits) (value_of-false s.nodes.keys bits) (value_of-true s.nodes.keys bits);
  deep = elim among [
    | inl h ↦ omega (arith, level_of-constant s.levels s.nodes.keys r h, top_of-bound s.levels s.nodes.keys k (λ x le. level_of-bound s.levels s.nodes.keys s.good x (omega arith)))
    | inr h ↦ operand-deep s.levels s.nodes.keys k r h
  ];
}

-- an operation that the operands don't answer has a level
pub top-inside : (s : Store) (k : Operation) → store.HasOperands s k → 2 ≤ highest_of k → store.top_of s k < s.levels
top-inside s k operands some = top_of-inside s.levels s.nodes.keys k (λ r le two.
    let node = node_of-some s.nodes.keys r (omega arith) two in
    omega (arith, level_of-node s.levels s.nodes.keys r node.0 node.1, (s.good.each r node.0 node.1).inside)) some

-- the parts for one bit are in the store, lie deeper and are smaller
pub record IsSide (s : Store) (k side : Operation) (level : ℕ) : Type 0 where
  pub operands : store.HasOperands s side
  pub deeper : level < store.top_of s side
  pub smaller : weight_of side < weight_of k

pub IsSide-parts : (s : Store) (k : Operation) (level : ℕ) (bit : Bool) (side : Operation) → store.HasOperands s k → 2 ≤ highest_of k → level ≡ store.top_of s k → side ≡ with_operands (part_of s.nodes.keys level bit) k → IsSide s k side level
IsSide-parts s k level bit side operands some top e = subst (λ x. IsSide s k x level) (sym e) (record {
  operands = omega (arith, highest_of-with (part_of s.nodes.keys level bit) k le);
  deeper = top_of-with s.levels s.nodes.keys (part_of s.nodes.keys level bit) k level (omega arith) (λ r h above. part_of-deeper s.levels s.nodes.keys s.good level bit r (omega arith) above inside);
  smaller = weight_of-with s.levels s.nodes.keys (part_of s.nodes.keys level bit) k le (λ r h at. part_of-less s.levels s.nodes.keys s.good level bit r (omega arith) (at ∙ sym top) inside);
})
  where
    inside : level < s.levels
    inside = omega (arith, top-inside s k operands some)

    le : (r : ℕ) → r ≤ highest_of k → part_of s.nodes.keys level bit r ≤ r
    le r h = part_of-le s.levels s.nodes.keys s.good level bit r (omega arith)

-- growth keeps the parts
pub IsSide-grows : (old new : Store) → Grows old new → (k side : Operation) (level : ℕ) → IsSide old k side level → IsSide new k side level
IsSide-grows old new g k side level a = record {
  operands = Has-grows old.nodes.keys new.nodes.keys g.triples (highest_of side) a.operands;
  deeper = subst (λ l. level < top_of l new.nodes.keys side) (sym g.levels) (rw (top_of-grows old.levels old.nodes.keys new.nodes.keys g.triples side a.operands) a.deeper);
  smaller = a.smaller;
}

-- a result of the parts lies deeper than the level, also after growth
pub deeper-result : (s : Store) (k side : Operation) (level r : ℕ) → IsSide s k side level → store.IsResult s side r → level < level_of s.levels s.nodes.keys r
deeper-result s k side level r a b = omega (arith, a.deeper, b.deep)

-- each side takes at most half of the bound
half : (levels level top whole : ℕ) → level ≡ whole → level < top → level < levels → 2 ^ (levels - top) + 2 ^ (levels - top) ≤ 2 ^ (levels - whole)
half levels level top whole same deeper inside =
    let e : 2 ^ suc (levels - top) ≡ 2 ^ (levels - top) * 2 = pow-suc 2 (levels - top) in
    let m : 2 ^ suc (levels - top) ≤ 2 ^ (levels - whole) = pow_mono (omega arith) in
    omega arith

-- what one side added is within the bound of the whole
pub count-low : (s : Store) (k side : Operation) (level before after : ℕ) → IsSide s k side level → level ≡ store.top_of s k → level < s.levels
    → after + 1 ≤ before + 2 ^ (s.levels - store.top_of s side) → after + 1 ≤ before + 2 ^ (s.levels - store.top_of s k)
count-low s k side level before after a top inside h =
    let two = half s.levels level (store.top_of s side) (store.top_of s k) top a.deeper inside in
    omega arith

-- what both sides added leaves room for one more triple
pub count-high : (s grown : Store) → Grows s grown → (k low high : Operation) (level before between after : ℕ) → IsSide s k low level → IsSide s k high level → level ≡ store.top_of s k → level < s.levels
    → between + 1 ≤ before + 2 ^ (s.levels - store.top_of s low) → after + 1 ≤ between + 2 ^ (grown.levels - store.top_of grown high)
    → after + 2 ≤ before + 2 ^ (s.levels - store.top_of s k)
count-high s grown g k low high level before between after a b top inside h i =
    let first = half s.levels level (store.top_of s low) (store.top_of s k) top a.deeper inside in
    let second = half s.levels level (store.top_of s high) (store.top_of s k) top b.deeper inside in
    let same : store.top_of grown high ≡ store.top_of s high = ap (λ l. top_of l grown.nodes.keys high) g.levels ∙ top_of-grows s.levels s.nodes.keys grown.nodes.keys g.triples high b.operands in
    let power : 2 ^ (grown.levels - store.top_of grown high) ≡ 2 ^ (s.levels - store.top_of s high) = λ j. 2 ^ (g.levels j - same j) in
    omega arith

-- the result of the whole from the results of the two sides
pub IsResult-whole : (old new : Store) → Grows old new → (k low_key high_key : Operation) → store.HasOperands old k → (level low high r : ℕ) → level ≡ store.top_of old k
    → low_key ≡ with_operands (part_of old.nodes.keys level false) k → high_key ≡ with_operands (part_of old.nodes.keys level true) k
    → store.IsResult new low_key low → store.IsResult new high_key high → level < level_of new.levels new.nodes.keys low → Has new.nodes.keys r → IsNodeOf new level low high r → store.IsResult new k r
IsResult-whole old new g k low_key high_key operands level low high r top e f a b deeper has node =
    IsResult-made new.levels old.nodes.keys new.nodes.keys new.good g.triples k operands level low high r (top ∙ ap (λ l. top_of l old.nodes.keys k) (sym g.levels))
    (subst (λ x. store.IsResult new x low) e a) (subst (λ x. store.IsResult new x high) f b) deeper has node.equal node.node

-- the triple of a made number is no constant, so an answer 0 comes of two children 0
pub false-stays : (s : Store) (level low high r : ℕ) → IsNodeOf s level low high r → r ≡ 0 → (low ≡ 0) × (high ≡ 0)
false-stays s level low high r node e = by (cases_eq low high)
  where
    by : (low ≡ high) ⊎ (low ≡ high → ⊥) → (low ≡ 0) × (high ≡ 0)
    by (inl same) = let f = node.equal same in (omega arith, omega arith)
    by (inr other) = absurd (omega (arith, (node_of-has s.nodes.keys r _ (node.node other)).1))

-- the answer, by the operands' values before the call
pub region-before : {E : Type 0} (old new : Store) → Grows old new → (k : Operation) → store.HasOperands old k → (r : Result ℕ E) → IfOk r (store.IsResult new k)
    → IfOk r (λ x. IsRegion new x (λ bits. operation_of old.nodes.keys k bits))
region-before old new g k operands (Ok x) h = record {
  has = h.has;
  value = λ bits. h.value bits ∙ operation_of-grows old.levels old.nodes.keys new.nodes.keys old.good g.triples k operands bits;
}
region-before old new g k operands (Err e) h = tt

-- the bound by all levels
pub count-whole : (levels top before after : ℕ) → after + 1 ≤ before + 2 ^ (levels - top) → after ≤ before + 2 ^ levels
count-whole levels top before after h = let m : 2 ^ (levels - top) ≤ 2 ^ levels = pow_mono (omega arith) in omega arith

-- the operands of an operation that they don't answer aren't all constants
pub open-highest : (k : Operation) → IsOpen k → 2 ≤ highest_of k
open-highest (Not f) h = h
open-highest (And f g) h = omega (arith, h.0)
open-highest (Or f g) h = omega (arith, h.0)
open-highest (Iff f g) h = h
open-highest (Ite f g h) some = omega (arith, some)
