-- Lemmas on conjunctions with quantified levels.
use Rattle.std.proofs.Common.{◌≡◌, ℕ, ◌+◌, ◌<◌, ◌≤◌, ◌⊎◌, inl, inr, min, max, Bool, true, false, ◌&&◌, ◌||◌, ◌==◌, cond, if◌then◌else◌, List, [], ◌∷◌, length, slice_index_or, refl, sym, ap, ◌∙◌, arith}
use Rattle.std.proofs.lemmas.Bool.{cases_lt, eqb-true}
use Rattle.bdd_nodes.specs.declared.store.Store.{Store}
use Rattle.bdd_nodes.specs.Store.{Has, level_of, value_of, triples, levels_of, Grows, IsNodeOf}
use Rattle.bdd_nodes.proofs.Tables.{node_of-some, value_of-false, value_of-true}
use Rattle.bdd_nodes.proofs.Canonical.{level_of-node}
use Rattle.bdd_ops.specs.declared.key.Key.TheVariants.{Exists, AndExists}
use Rattle.bdd_ops.specs.Operation.{part_of}
use Rattle.bdd_ops.specs.Answer.{some_choice, list_at, meaning_of, IsAnswer}
use Rattle.bdd_ops.proofs.AnswerLemmas.{some_choice-same}
use Rattle.bdd_ops.proofs.Depth.{IsAnswer-law}
use Rattle.bdd_ops.proofs.Parts.{part_of-grows, part_of-value, part_of-le, part_of-less, part_of-deeper}
use Rattle.bdd_ops.specs.declared.operand.Cofactors.{Cofactors}
use Rattle.bdd_quantify.specs.Product.{product_of, IsProduct, key_of}
use Rattle.bdd_ops.proofs.Values.{value-above, value-made}
use Rattle.bdd_ops.proofs.Choices.{IsAway, Rises, Ignores, IsBranch, some_choice-ignored, some_choice-branch, some_choice-named}

and-true : (b : Bool) → (b && true) ≡ b
and-true true = refl
and-true false = refl

and-false : (b : Bool) → (b && false) ≡ false
and-false true = refl
and-false false = refl

-- a true operand adds nothing to a conjunction
true-right : (s : Store) (f g : ℕ) → g ≡ 1 → (bits : List Bool) → (value_of s f bits && value_of s g bits) ≡ value_of s f bits
true-right s f g e bits = ap (λ x. value_of s f bits && value_of s x bits) e ∙ ap (λ b. value_of s f bits && b) (value_of-true s.nodes.keys bits) ∙ and-true (value_of s f bits)

true-left : (s : Store) (f g : ℕ) → f ≡ 1 → (bits : List Bool) → (value_of s f bits && value_of s g bits) ≡ value_of s g bits
true-left s f g e bits = ap (λ x. value_of s x bits && value_of s g bits) e ∙ ap (λ b. b && value_of s g bits) (value_of-true s.nodes.keys bits)

false-right : (s : Store) (f g : ℕ) → g ≡ 0 → (bits : List Bool) → (value_of s f bits && value_of s g bits) ≡ false
false-right s f g e bits = ap (λ x. value_of s f bits && value_of s x bits) e ∙ ap (λ b. value_of s f bits && b) (value_of-false s.nodes.keys bits) ∙ and-false (value_of s f bits)

false-left : (s : Store) (f g : ℕ) → f ≡ 0 → (bits : List Bool) → (value_of s f bits && value_of s g bits) ≡ false
false-left s f g e bits = ap (λ x. value_of s x bits && value_of s g bits) e ∙ ap (λ b. b && value_of s g bits) (value_of-false s.nodes.keys bits)

-- the key means the product
pub meaning-key : (s : Store) (lists : List (List ℕ)) (f g p : ℕ) (bits : List Bool) → meaning_of lists (triples s) (key_of f g p) bits ≡ product_of s (list_at lists p) f g bits
meaning-key s lists f g p bits = by (g == 1) refl (f == 1) refl
  where
    by : (x : Bool) → (g == 1) ≡ x → (y : Bool) → (f == 1) ≡ y → meaning_of lists (triples s) (if x then Exists f p else (if y then Exists g p else AndExists f g p)) bits ≡ product_of s (list_at lists p) f g bits
    by true e y d = some_choice-same (value_of s f) (λ bs. value_of s f bs && value_of s g bs) (λ bs. sym (true-right s f g (eqb-true g 1 e) bs)) (list_at lists p) bits
    by false e true d = some_choice-same (value_of s g) (λ bs. value_of s f bs && value_of s g bs) (λ bs. sym (true-left s f g (eqb-true f 1 d) bs)) (list_at lists p) bits
    by false e false d = refl

pub product-answer : (s : Store) (lists : List (List ℕ)) (f g r p : ℕ) → Has s f → Has s g → IsAnswer s lists (key_of f g p) r → IsProduct s (list_at lists p) f g r
product-answer s lists f g r p hf hg a = record {
  has_f = hf;
  has_g = hg;
  has = a.has;
  value = λ bits. a.value bits ∙ meaning-key s lists f g p bits;
}

-- growth keeps a product
product-grows : (old new : Store) → Grows old new → (ls : List ℕ) (f g : ℕ) → Has old f → Has old g → (bits : List Bool) → product_of new ls f g bits ≡ product_of old ls f g bits
product-grows old new w ls f g hf hg bits = some_choice-same (λ bs. value_of new f bs && value_of new g bs) (λ bs. value_of old f bs && value_of old g bs) (λ bs. λ j. w.value f hf bs j && w.value g hg bs j) ls bits

pub IsProduct-grows : (old new : Store) → Grows old new → (ls : List ℕ) (f g r : ℕ) → IsProduct old ls f g r → IsProduct new ls f g r
IsProduct-grows old new w ls f g r a = record {
  has_f = w.has f a.has_f;
  has_g = w.has g a.has_g;
  has = w.has r a.has;
  value = λ bits. w.value r a.has bits ∙ a.value bits ∙ sym (product-grows old new w ls f g a.has_f a.has_g bits);
}

-- the value before the call
pub product-before : (old new : Store) → Grows old new → (ls : List ℕ) (f g r : ℕ) → Has old f → Has old g → IsProduct new ls f g r → (bits : List Bool) → value_of new r bits ≡ product_of old ls f g bits
product-before old new w ls f g r hf hg a bits = a.value bits ∙ product-grows old new w ls f g hf hg bits

-- with a true operand
pub exists-before : (old new : Store) → Grows old new → (ls : List ℕ) (f r : ℕ) → Has old f → IsProduct new ls f 1 r → (bits : List Bool) → value_of new r bits ≡ some_choice (value_of old f) ls bits
exists-before old new w ls f r hf a bits =
    product-before old new w ls f 1 r hf (omega arith) a bits ∙ some_choice-same (λ bs. value_of old f bs && value_of old 1 bs) (value_of old f) (λ bs. true-right old f 1 refl bs) ls bits

-- a conjunction that is the same at every list of bits
product-constant : (s : Store) (ls : List ℕ) (f g : ℕ) (b : Bool) → ((bits : List Bool) → (value_of s f bits && value_of s g bits) ≡ b) → (bits : List Bool) → product_of s ls f g bits ≡ b
product-constant s ls f g b h bits = some_choice-same (λ bs. value_of s f bs && value_of s g bs) (λ bs. b) h ls bits ∙ some_choice-ignored (λ bs. b) ls (λ k inside bs c. refl) bits

pub IsProduct-constant : (s : Store) (ls : List ℕ) (f g r : ℕ) → Has s f → Has s g → ((r ≡ 0) × ((f ≡ 0) ⊎ (g ≡ 0))) ⊎ ((r ≡ 1) × (f ≡ 1) × (g ≡ 1)) → IsProduct s ls f g r
IsProduct-constant s ls f g r hf hg (inl h) = record {
  has_f = hf;
  has_g = hg;
  has = omega (arith, h.0);
  value = λ bits. ap (λ x. value_of s x bits) h.0 ∙ value_of-false s.nodes.keys bits ∙ sym (product-constant s ls f g false (elim h.1 [ inl e ↦ false-left s f g e | inr e ↦ false-right s f g e ]) bits);
}
IsProduct-constant s ls f g r hf hg (inr h) = record {
  has_f = hf;
  has_g = hg;
  has = omega (arith, h.0);
  value = λ bits. ap (λ x. value_of s x bits) h.0 ∙ value_of-true s.nodes.keys bits ∙ sym (product-constant s ls f g true (λ bs. true-left s f g h.1 bs ∙ ap (λ x. value_of s x bs) h.2 ∙ value_of-true s.nodes.keys bs) bits);
}

-- a product lies at the level of its operands or deeper
product-deep : (s : Store) (ls : List ℕ) (f g r : ℕ) → IsProduct s ls f g r → min (level_of s f) (level_of s g) ≤ level_of s r
product-deep s ls f g r a = (IsAnswer-law s (ls ∷ []) (AndExists f g 0) r (omega (arith, a.has_f, a.has_g)) (omega arith) a.has a.value tt).deep

-- the conjunction, where no named level is left
pub IsProduct-past : (old new : Store) → Grows old new → (ls : List ℕ) (f g level r : ℕ) → Has old f → Has old g → level ≡ min (level_of old f) (level_of old g) → ((k : ℕ) → k < length ls → slice_index_or ls k 0 < level)
    → Has new r → ((bits : List Bool) → value_of new r bits ≡ (value_of old f bits && value_of old g bits)) → IsProduct new ls f g r
IsProduct-past old new w ls f g level r hf hg top past has value = record {
  has_f = w.has f hf;
  has_g = w.has g hg;
  has = has;
  value = λ bits. value bits ∙ sym (product-grows old new w ls f g hf hg bits ∙ some_choice-ignored (λ bs. value_of old f bs && value_of old g bs) ls (λ k inside. ignores (slice_index_or ls k 0) (past k inside)) bits);
}
  where
    ignores : (l : ℕ) → l < level → Ignores (λ bs. value_of old f bs && value_of old g bs) l
    ignores l less bits b = λ j. value-above old.levels old.nodes.keys old.good f hf l (omega arith) bits b j && value-above old.levels old.nodes.keys old.good g hg l (omega arith) bits b j

-- two diagrams at their least level, and their children there
pub record AreSides (s : Store) (f g : ℕ) (n : Cofactors) : Type 0 where
  pub has_f : Has s f
  pub has_g : Has s g
  pub some : 2 ≤ max f g
  pub top : n.level ≡ min (level_of s f) (level_of s g)
  pub low_f : n.low.0 ≡ part_of (triples s) n.level false f
  pub low_g : n.low.1 ≡ part_of (triples s) n.level false g
  pub high_f : n.high.0 ≡ part_of (triples s) n.level true f
  pub high_g : n.high.1 ≡ part_of (triples s) n.level true g

pub AreSides-grows : (old new : Store) → Grows old new → (f g : ℕ) (n : Cofactors) → AreSides old f g n → AreSides new f g n
AreSides-grows old new w f g n a = record {
  has_f = w.has f a.has_f;
  has_g = w.has g a.has_g;
  some = a.some;
  top = a.top ∙ sym (λ j. min (w.level f a.has_f j) (w.level g a.has_g j));
  low_f = a.low_f ∙ sym (part_of-grows old.nodes.keys new.nodes.keys w.triples n.level false f a.has_f);
  low_g = a.low_g ∙ sym (part_of-grows old.nodes.keys new.nodes.keys w.triples n.level false g a.has_g);
  high_f = a.high_f ∙ sym (part_of-grows old.nodes.keys new.nodes.keys w.triples n.level true f a.has_f);
  high_g = a.high_g ∙ sym (part_of-grows old.nodes.keys new.nodes.keys w.triples n.level true g a.has_g);
}

-- the children on one side are smaller together and lie deeper
pub record IsSide (s : Store) (f g level x y : ℕ) : Type 0 where
  pub has_x : Has s x
  pub has_y : Has s y
  pub deep_x : level < level_of s x
  pub deep_y : level < level_of s y
  pub smaller : x + y < f + g

module _ (s : Store) (f g : ℕ) (n : Cofactors) (a : AreSides s f g n) where
  pub sides-inside : n.level < levels_of s
  sides-inside = elim (cases_lt f 2) [
    | inl constant ↦ omega (arith, a.top, inside g a.has_g (omega (arith, a.some)))
    | inr other ↦ omega (arith, a.top, inside f a.has_f other)
  ]
    where
      inside : (r : ℕ) → Has s r → 2 ≤ r → level_of s r < levels_of s
      inside r has two = let node = node_of-some s.nodes.keys r has two in omega (arith, level_of-node s.levels s.nodes.keys r node.0 node.1, (s.good.each r node.0 node.1).inside)

  side : (bit : Bool) (x y : ℕ) → x ≡ part_of (triples s) n.level bit f → y ≡ part_of (triples s) n.level bit g → IsSide s f g n.level x y
  side bit x y ex ey = record {
    has_x = omega (arith, ex, below_f, a.has_f);
    has_y = omega (arith, ey, below_g, a.has_g);
    deep_x = omega (arith, ap (level_of s) ex, part_of-deeper s.levels s.nodes.keys s.good n.level bit f a.has_f (omega (arith, a.top)) sides-inside);
    deep_y = omega (arith, ap (level_of s) ey, part_of-deeper s.levels s.nodes.keys s.good n.level bit g a.has_g (omega (arith, a.top)) sides-inside);
    smaller = elim (cases_lt (level_of s g) (level_of s f)) [
      | inl less ↦ omega (arith, ex, ey, below_f, part_of-less s.levels s.nodes.keys s.good n.level bit g a.has_g (omega (arith, a.top)) sides-inside)
      | inr more ↦ omega (arith, ex, ey, below_g, part_of-less s.levels s.nodes.keys s.good n.level bit f a.has_f (omega (arith, a.top)) sides-inside)
    ];
  }
    where
      below_f : part_of (triples s) n.level bit f ≤ f
      below_f = part_of-le s.levels s.nodes.keys s.good n.level bit f a.has_f

      below_g : part_of (triples s) n.level bit g ≤ g
      below_g = part_of-le s.levels s.nodes.keys s.good n.level bit g a.has_g

  pub sides-low : IsSide s f g n.level n.low.0 n.low.1
  sides-low = side false n.low.0 n.low.1 a.low_f a.low_g

  pub sides-high : IsSide s f g n.level n.high.0 n.high.1
  sides-high = side true n.high.0 n.high.1 a.high_f a.high_g

  -- the conjunction is that of the side which the bit chooses
  branch : IsBranch n.level (λ bs. value_of s f bs && value_of s g bs) (λ bs. value_of s n.high.0 bs && value_of s n.high.1 bs) (λ bs. value_of s n.low.0 bs && value_of s n.low.1 bs)
  branch bits = by (slice_index_or bits n.level false) refl
    where
      by : (x : Bool) → slice_index_or bits n.level false ≡ x → (value_of s f bits && value_of s g bits) ≡ cond x (value_of s n.high.0 bits && value_of s n.high.1 bits) (value_of s n.low.0 bits && value_of s n.low.1 bits)
      by true e = sym (λ j. (ap (λ x. value_of s x bits) a.high_f ∙ part_of-value s.levels s.nodes.keys s.good n.level true bits e f a.has_f) j
          && (ap (λ x. value_of s x bits) a.high_g ∙ part_of-value s.levels s.nodes.keys s.good n.level true bits e g a.has_g) j)
      by false e = sym (λ j. (ap (λ x. value_of s x bits) a.low_f ∙ part_of-value s.levels s.nodes.keys s.good n.level false bits e f a.has_f) j
          && (ap (λ x. value_of s x bits) a.low_g ∙ part_of-value s.levels s.nodes.keys s.good n.level false bits e g a.has_g) j)

  ignores : (x y : ℕ) → Has s x → Has s y → n.level < level_of s x → n.level < level_of s y → Ignores (λ bs. value_of s x bs && value_of s y bs) n.level
  ignores x y hx hy dx dy bits b = λ j. value-above s.levels s.nodes.keys s.good x hx n.level dx bits b j && value-above s.levels s.nodes.keys s.good y hy n.level dy bits b j

  module _ (ls : List ℕ) (low high : ℕ) (p : IsProduct s ls n.low.0 n.low.1 low) where
    pub low-deeper : n.level < level_of s low
    low-deeper = omega (arith, product-deep s ls n.low.0 n.low.1 low p, sides-low.deep_x, sides-low.deep_y)

    -- a named level: either side
    named-value : Rises ls → (k : ℕ) → k < length ls → slice_index_or ls k 0 ≡ n.level → (bits : List Bool) → product_of s ls f g bits ≡ (product_of s ls n.low.0 n.low.1 bits || product_of s ls n.high.0 n.high.1 bits)
    named-value rises k inside at bits =
        some_choice-named n.level (λ bs. value_of s f bs && value_of s g bs) (λ bs. value_of s n.high.0 bs && value_of s n.high.1 bs) (λ bs. value_of s n.low.0 bs && value_of s n.low.1 bs) branch
        (ignores n.high.0 n.high.1 sides-high.has_x sides-high.has_y sides-high.deep_x sides-high.deep_y)
        (ignores n.low.0 n.low.1 sides-low.has_x sides-low.has_y sides-low.deep_x sides-low.deep_y) ls rises k inside at bits

    -- one side that is true decides
    pub IsProduct-true : low ≡ 1 → Rises ls → (k : ℕ) → k < length ls → slice_index_or ls k 0 ≡ n.level → IsProduct s ls f g low
    IsProduct-true one rises k inside at = record {
      has_f = a.has_f;
      has_g = a.has_g;
      has = p.has;
      value = λ bits. is_true bits ∙ sym (named-value rises k inside at bits ∙ ap (λ x. x || product_of s ls n.high.0 n.high.1 bits) (sym (p.value bits) ∙ is_true bits));
    }
      where
        is_true : (bits : List Bool) → value_of s low bits ≡ true
        is_true bits = ap (λ x. value_of s x bits) one ∙ value_of-true s.nodes.keys bits

    module _ (q : IsProduct s ls n.high.0 n.high.1 high) where
      pub high-deeper : n.level < level_of s high
      high-deeper = omega (arith, product-deep s ls n.high.0 n.high.1 high q, sides-high.deep_x, sides-high.deep_y)

      -- the disjunction of both sides
      pub IsProduct-union : (new : Store) → Grows s new → Rises ls → (k : ℕ) → k < length ls → slice_index_or ls k 0 ≡ n.level → (r : ℕ) → Has new r → ((bits : List Bool) → value_of new r bits ≡ (value_of s low bits || value_of s high bits)) → IsProduct new ls f g r
      IsProduct-union new w rises k inside at r has value = record {
        has_f = w.has f a.has_f;
        has_g = w.has g a.has_g;
        has = has;
        value = λ bits. value bits ∙ (λ j. p.value bits j || q.value bits j) ∙ sym (product-grows s new w ls f g a.has_f a.has_g bits ∙ named-value rises k inside at bits);
      }

      -- the triple of both sides
      pub IsProduct-node : IsAway n.level ls → (r : ℕ) → Has s r → IsNodeOf s n.level low high r → IsProduct s ls f g r
      IsProduct-node away r has node = record {
        has_f = a.has_f;
        has_g = a.has_g;
        has = has;
        value = λ bits.
            value-made s.levels s.nodes.keys s.good n.level low high r node.equal node.node bits
            ∙ (λ j. cond (slice_index_or bits n.level false) (q.value bits j) (p.value bits j))
            ∙ sym (some_choice-branch n.level (λ bs. value_of s f bs && value_of s g bs) (λ bs. value_of s n.high.0 bs && value_of s n.high.1 bs) (λ bs. value_of s n.low.0 bs && value_of s n.low.1 bs) branch ls away bits);
      }
