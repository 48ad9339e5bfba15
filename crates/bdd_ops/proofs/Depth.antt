-- The law of answers: a diagram that means a key's operation lies at the key's level or deeper.
use Rattle.std.proofs.Common.{◌≡◌, ◌≢◌, ℕ, ◌+◌, ◌*◌, ◌/◌, ◌<◌, ◌≤◌, inl, inr, Bool, true, false, not, ◌&&◌, ◌||◌, cond, List, length, slice_index_or, sym, ap, subst, ◌∙◌, arith}
use Rattle.std.proofs.lemmas.Bool.{cases_lt, cases_eq}
use Rattle.bdd_nodes.specs.declared.store.Store.{Store}
use Rattle.bdd_nodes.specs.Store.{Has, level_of, value_of, triples, levels_of}
use Rattle.bdd_nodes.proofs.Tables.{node_of-some}
use Rattle.bdd_nodes.proofs.Canonical.{level_of-node, level_of-constant, level_of-bound}
use Rattle.bdd_ops.specs.declared.key.Key.{Key}
use Rattle.bdd_ops.specs.declared.key.Key.TheVariants.{Not, And, Or, Iff, Ite, Exists, AndExists, Rename}
use Rattle.bdd_ops.specs.Answer.{with_bit, exchanged, list_at, meaning_of, key_highest, key_top, lists_named, IsAnswer}
use Rattle.bdd_ops.specs.Independence.{DependsOnMoved}
use Rattle.bdd_ops.proofs.Bits.{with_bit-same, with_bit-other, cases_parity, exchanged-even, exchanged-odd}
use Rattle.bdd_ops.proofs.Values.{depends, value-agree, value-above}
use Rattle.bdd_ops.proofs.Choices.{Ignores, some_choice-ignores}

module _ (s : Store) where
  -- a diagram that doesn't depend on the levels before one lies there or deeper
  level-deep : (r d : ℕ) → Has s r → d ≤ levels_of s → ((l : ℕ) → l < d → Ignores (value_of s r) l) → d ≤ level_of s r
  level-deep r d has bound h = elim (cases_lt (level_of s r) d) [
    | inl less ↦ elim (cases_lt r 2) [
      | inl constant ↦ omega (arith, level_of-constant s.levels s.nodes.keys r constant)
      | inr some ↦
          let node = node_of-some s.nodes.keys r has some in
          absurd (depends s.levels s.nodes.keys s.good r node.0 node.1 (h node.0.level (omega (arith, level_of-node s.levels s.nodes.keys r node.0 node.1))))
    ]
    | inr more ↦ more
  ]

  above : (f : ℕ) → Has s f → (l : ℕ) → l < level_of s f → Ignores (value_of s f) l
  above f has l less = value-above s.levels s.nodes.keys s.good f has l less

  -- after the exchange the value doesn't depend on a level if before it doesn't on the neighbour
  exchange-ignores : (f : ℕ) → Has s f → (l n : ℕ) → l / 2 ≡ n / 2 → l ≢ n → Ignores (value_of s f) n → Ignores (λ bits. value_of s f (exchanged bits)) l
  exchange-ignores f has l n pair other h bits b =
      sym (h (exchanged (with_bit bits l b)) false)
      ∙ value-agree s.levels s.nodes.keys s.good f f (omega arith) has (with_bit (exchanged (with_bit bits l b)) n false) (with_bit (exchanged bits) n false) (λ m le. same m)
      ∙ h (exchanged bits) false
    where
      read : (m : ℕ) → m ≢ n → slice_index_or (exchanged (with_bit bits l b)) m false ≡ slice_index_or (exchanged bits) m false
      read m away = elim (cases_parity m) [
        | inl e ↦ subst (λ k. slice_index_or (exchanged (with_bit bits l b)) k false ≡ slice_index_or (exchanged bits) k false) (sym e.1)
            (exchanged-even (with_bit bits l b) e.0 ∙ with_bit-other bits l b (2 * e.0 + 1) (λ q. absurd (omega (arith, e.1, q))) ∙ sym (exchanged-even bits e.0))
        | inr e ↦ subst (λ k. slice_index_or (exchanged (with_bit bits l b)) k false ≡ slice_index_or (exchanged bits) k false) (sym e.1)
            (exchanged-odd (with_bit bits l b) e.0 ∙ with_bit-other bits l b (2 * e.0) (λ q. absurd (omega (arith, e.1, q))) ∙ sym (exchanged-odd bits e.0))
      ]

      same : (m : ℕ) → slice_index_or (with_bit (exchanged (with_bit bits l b)) n false) m false ≡ slice_index_or (with_bit (exchanged bits) n false) m false
      same m = elim (cases_eq m n) [
        | inl e ↦ subst (λ k. slice_index_or (with_bit (exchanged (with_bit bits l b)) n false) k false ≡ slice_index_or (with_bit (exchanged bits) n false) k false) (sym e)
            (with_bit-same (exchanged (with_bit bits l b)) n false ∙ sym (with_bit-same (exchanged bits) n false))
        | inr away ↦ with_bit-other (exchanged (with_bit bits l b)) n false m away ∙ read m away ∙ sym (with_bit-other (exchanged bits) n false m away)
      ]

  -- a key's operation doesn't depend on the levels before the key's
  key-ignores : (lists : List (List ℕ)) (k : Key) → Has s (key_highest k) → DependsOnMoved s k → (l : ℕ) → l < key_top (levels_of s) (triples s) k → Ignores (meaning_of lists (triples s) k) l
  key-ignores lists (Not f) h m l less bits b = ap not (above f h l less bits b)
  key-ignores lists (And f g) h m l less bits b = λ j. above f (omega arith) l (omega arith) bits b j && above g (omega arith) l (omega arith) bits b j
  key-ignores lists (Or f g) h m l less bits b = λ j. above f (omega arith) l (omega arith) bits b j || above g (omega arith) l (omega arith) bits b j
  key-ignores lists (Iff f g) h m l less bits b =
      let of_g = above g (omega arith) l (omega arith) bits b in
      λ j. cond (above f (omega arith) l (omega arith) bits b j) (of_g j) (not (of_g j))
  key-ignores lists (Ite f g i) h m l less bits b = λ j. cond (above f (omega arith) l (omega arith) bits b j) (above g (omega arith) l (omega arith) bits b j) (above i (omega arith) l (omega arith) bits b j)
  key-ignores lists (Exists f p) h m l less bits b = some_choice-ignores (value_of s f) l (above f h l less) (list_at lists p) bits b
  key-ignores lists (AndExists f g p) h m l less bits b =
      some_choice-ignores (λ bs. value_of s f bs && value_of s g bs) l (λ bs c. λ j. above f (omega arith) l (omega arith) bs c j && above g (omega arith) l (omega arith) bs c j) (list_at lists p) bits b
  key-ignores lists (Rename f true) h m l less bits b = elim (cases_parity l) [
    | inl e ↦ exchange-ignores f h l (2 * e.0 + 1) (omega (arith, e.1)) (λ q. absurd (omega (arith, e.1, q))) (m e.0) bits b
    | inr e ↦ exchange-ignores f h l (2 * e.0) (omega (arith, e.1)) (λ q. absurd (omega (arith, e.1, q))) (above f h (2 * e.0) (omega (arith, e.1))) bits b
  ]
  key-ignores lists (Rename f false) h m l less bits b = elim (cases_parity l) [
    | inl e ↦ exchange-ignores f h l (2 * e.0 + 1) (omega (arith, e.1)) (λ q. absurd (omega (arith, e.1, q))) (above f h (2 * e.0 + 1) (omega (arith, e.1))) bits b
    | inr e ↦ exchange-ignores f h l (2 * e.0) (omega (arith, e.1)) (λ q. absurd (omega (arith, e.1, q))) (above f h (2 * e.0) (omega (arith, e.1))) bits b
  ]

  bound : (f : ℕ) → Has s f → level_of s f ≤ levels_of s
  bound f has = level_of-bound s.levels s.nodes.keys s.good f has

  -- the key's level is at most the number of levels
  key_top-bound : (k : Key) → Has s (key_highest k) → key_top (levels_of s) (triples s) k ≤ levels_of s
  key_top-bound (Not f) h = bound f h
  key_top-bound (And f g) h = omega (arith, bound f (omega arith))
  key_top-bound (Or f g) h = omega (arith, bound f (omega arith))
  key_top-bound (Iff f g) h = omega (arith, bound f (omega arith))
  key_top-bound (Ite f g i) h = omega (arith, bound f (omega arith))
  key_top-bound (Exists f p) h = bound f h
  key_top-bound (AndExists f g p) h = omega (arith, bound f (omega arith))
  key_top-bound (Rename f true) h = omega arith
  key_top-bound (Rename f false) h = omega (arith, bound f h)

  -- so a diagram of the key's operation is the key's answer
  pub IsAnswer-law : (lists : List (List ℕ)) (k : Key) (r : ℕ) → Has s (key_highest k) → lists_named k ≤ length lists → Has s r
      → ((bits : List Bool) → value_of s r bits ≡ meaning_of lists (triples s) k bits) → DependsOnMoved s k → IsAnswer s lists k r
  IsAnswer-law lists k r operands listed has value moved = record {
    operands = operands;
    listed = listed;
    has = has;
    value = value;
    deep = level-deep r (key_top (levels_of s) (triples s) k) has (key_top-bound k operands) (λ l less bits b. value (with_bit bits l b) ∙ key-ignores lists k operands moved l less bits b ∙ sym (value bits));
  }
