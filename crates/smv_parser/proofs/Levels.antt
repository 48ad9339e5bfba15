-- The rules level by level say what the grammar says in one.
use Rattle.std.proofs.Common.{◌≡◌, ℕ, zero, suc, ◌+◌, ◌-◌, ◌≤◌, ◌<◌, nat_le, Bool, true, false, ◌||◌, ◌⊎◌, List, ◌∷◌, ◌++◌, refl, sym, ap, subst, arith, le-leb, inl, inr, ⊎_elim}
use Rattle.std.proofs.lemmas.Bool.{lt-leb}
use Rattle.std.proofs.lemmas.Bool.Decides.{leb_tells}
use Rattle.smv_lexer.specs.Text.{Placed}
use Rattle.smv_parser.specs.declared.expressions.BinaryOperator.{BinaryOperator}
use Rattle.smv_parser.specs.declared.expressions.PrefixOperator.{PrefixOperator}
use Rattle.smv_parser.specs.Grammar.{Derives}
use Rattle.smv_parser.specs.Rules.{IsNode, IsPrefix, Chain, Prefixed, Open, Level}
use Rattle.smv_parser.specs.Tree.{Tree, Form, on_line}
use Rattle.smv_parser.specs.Words.{level_of, prefix_level, prefix_word, Is, BeginsOn}
use Rattle.smv_parser.proofs.Follow.{EndsInPrefix, Derives-level, Derives-weaker, loosen, tighten}

weaker : (g : Bool) (j k : ℕ) (ts : List Placed) (x : Tree) → k ≤ j → Derives g j ts x → Derives g k ts x
weaker g j k ts x h d = Derives-weaker g j k ts x (Derives-level g j k ts x h d) d

is_tight : (k : ℕ) → 4 ≤ k → nat_le prefix_level k ≡ true
is_tight k h = le-leb prefix_level k h

is_loose : (k : ℕ) → k < 4 → nat_le prefix_level k ≡ false
is_loose k h = lt-leb prefix_level k h

-- from the rules to the grammar

node-to : (g : Bool) (k : ℕ) (ts a : List Placed) (e : Tree) (b : List Placed) (f x : Tree) → IsNode k ts a e b f x
    → Derives (g || nat_le prefix_level k) k a e → Derives g (k + 1) b f → Derives g k ts x
node-to g k ts a e b f x n d d' = subst (Derives g k ts) (sym n.tree) (
  n.begins,
  (
    n.token,
    a,
    b,
    n.split,
    n.is_operator,
    omega (arith, n.of_level),
    subst (λ (j : ℕ). Derives (g || nat_le prefix_level j) j a e) (sym n.of_level) d,
    subst (λ (j : ℕ). Derives g (j + 1) b f) (sym n.of_level) d',
  ),
)

pub chain-to : (k : ℕ) (ts : List Placed) (x : Tree) → Chain k ts x → Derives true k ts x
chain-to k ts x (Chain.operand u y d) = d
chain-to k ts x (Chain.alone j u y h h' d) = weaker true (j + 1) j u y (omega arith) (chain-to (j + 1) u y d)
chain-to k ts x (Chain.node j u a e b f y h h' n d d') = node-to true j u a e b f y n (chain-to j a e d) (chain-to (j + 1) b f d')

prefix-to : (k : ℕ) (ts a : List Placed) (e x : Tree) → IsPrefix ts a e x → Derives false 4 a e → Derives false k ts x
prefix-to k ts a e x n d = subst (Derives false k ts) (sym n.tree) (
  subst (BeginsOn n.token.line) (sym n.split) refl,
  (n.token, a, n.split, n.is_operator, refl, d),
)

mutual
  prefixed-to : (ts : List Placed) (x : Tree) → Prefixed ts x → (k : ℕ) → Derives false k ts x
  prefixed-to ts x (Prefixed.prefixed u a e y n d) k = prefix-to k u a e y n (level-to 4 a e d)

  open-to : (k : ℕ) (ts : List Placed) (x : Tree) → Open k ts x → Derives false k ts x
  open-to k ts x (Open.ends j u a e b f y h h' n d p) =
      node-to false j u a e b f y n (subst (λ (g : Bool). Derives g j a e) (sym (is_tight j (omega arith))) (chain-to j a e d)) (prefixed-to b f p (j + 1))
  open-to k ts x (Open.goes_on j u a e b f y h h' n d p) =
      node-to false j u a e b f y n (subst (λ (g : Bool). Derives g j a e) (sym (is_tight j (omega arith))) (chain-to j a e d)) (open-to (j + 1) b f p)
  open-to k ts x (Open.above j u y h h' d) = weaker false (j + 1) j u y (omega arith) (open-to (j + 1) u y d)

  pub level-to : (k : ℕ) (ts : List Placed) (x : Tree) → Level k ts x → Derives false k ts x
  level-to k ts x (Level.with_prefix u y p) = prefixed-to u y p 4
  level-to k ts x (Level.chain u y d) = weaker false 5 4 u y (omega arith) (loosen true 5 u y (chain-to 5 u y d))
  level-to k ts x (Level.open_chain u y d) = weaker false 5 4 u y (omega arith) (open-to 5 u y d)
  level-to k ts x (Level.lone j u y h h' d) = weaker false (j + 1) j u y (omega arith) (level-to (j + 1) u y d)
  level-to k ts x (Level.joined j u a e b f y h h' n d d') =
      node-to false j u a e b f y n (subst (λ (g : Bool). Derives g j a e) (sym (is_loose j (omega arith))) (level-to j a e d)) (level-to (j + 1) b f d')

-- from the grammar to the rules

most_level : (o : BinaryOperator) → level_of o ≤ 10
most_level BinaryOperator.Implies = omega arith
most_level _ = omega arith

-- no operator has level 4
above_four : (o : BinaryOperator) → 4 ≤ level_of o → 5 ≤ level_of o
above_four BinaryOperator.Implies h = absurd (omega arith)
above_four _ h = omega arith

chain-climb : (n k : ℕ) (ts : List Placed) (x : Tree) → 5 ≤ k → k + n ≤ 11 → Chain (k + n) ts x → Chain k ts x
chain-climb zero k ts x h h' d = let q : k + zero ≡ k = omega arith in subst (λ (j : ℕ). Chain j ts x) q d
chain-climb (suc n) k ts x h h' d =
    let q : k + suc n ≡ (k + 1) + n = omega arith in
    Chain.alone k ts x h (omega arith) (chain-climb n (k + 1) ts x (omega arith) (omega arith) (subst (λ (j : ℕ). Chain j ts x) q d))

chain-at : (j k : ℕ) (ts : List Placed) (x : Tree) → 5 ≤ k → k ≤ j → j ≤ 11 → Chain j ts x → Chain k ts x
chain-at j k ts x h h' h'' d = let q : j ≡ k + (j - k) = omega arith in chain-climb (j - k) k ts x h (omega arith) (subst (λ (m : ℕ). Chain m ts x) q d)

open-climb : (n k : ℕ) (ts : List Placed) (x : Tree) → 5 ≤ k → k + n ≤ 10 → Open (k + n) ts x → Open k ts x
open-climb zero k ts x h h' d = let q : k + zero ≡ k = omega arith in subst (λ (j : ℕ). Open j ts x) q d
open-climb (suc n) k ts x h h' d =
    let q : k + suc n ≡ (k + 1) + n = omega arith in
    Open.above k ts x h (omega arith) (open-climb n (k + 1) ts x (omega arith) (omega arith) (subst (λ (j : ℕ). Open j ts x) q d))

open-at : (j k : ℕ) (ts : List Placed) (x : Tree) → 5 ≤ k → k ≤ j → j ≤ 10 → Open j ts x → Open k ts x
open-at j k ts x h h' h'' d = let q : j ≡ k + (j - k) = omega arith in open-climb (j - k) k ts x h (omega arith) (subst (λ (m : ℕ). Open m ts x) q d)

level-climb : (n k : ℕ) (ts : List Placed) (x : Tree) → 1 ≤ k → k + n ≤ 4 → Level (k + n) ts x → Level k ts x
level-climb zero k ts x h h' d = let q : k + zero ≡ k = omega arith in subst (λ (j : ℕ). Level j ts x) q d
level-climb (suc n) k ts x h h' d =
    let q : k + suc n ≡ (k + 1) + n = omega arith in
    Level.lone k ts x h (omega arith) (level-climb n (k + 1) ts x (omega arith) (omega arith) (subst (λ (j : ℕ). Level j ts x) q d))

level-at : (j k : ℕ) (ts : List Placed) (x : Tree) → 1 ≤ k → k ≤ j → j ≤ 4 → Level j ts x → Level k ts x
level-at j k ts x h h' h'' d = let q : j ≡ k + (j - k) = omega arith in level-climb (j - k) k ts x h (omega arith) (subst (λ (m : ℕ). Level m ts x) q d)

as_node : (l : ℕ) (o : BinaryOperator) (e f : Tree) (ts : List Placed) (t : Placed) (a b : List Placed) → BeginsOn l ts → ts ≡ a ++ t ∷ b → Is (Rattle.smv_parser.specs.Words.binary_word o) t
    → IsNode (level_of o) ts a e b f (on_line l (Form.binary o e f))
as_node l o e f ts t a b n q i = record { operator = o; token = t; line = l; of_level = refl; split = q; is_operator = i; begins = n; tree = refl }

pub chain-from : (k : ℕ) (ts : List Placed) (x : Tree) → 5 ≤ k → k ≤ 11 → Derives true k ts x → Chain k ts x
chain-from k ts (on_line l (Form.binary o e f)) h h' (n, (t, a, b, q, i, j, d, d')) =
    let m = most_level o in
    chain-at (level_of o) k ts (on_line l (Form.binary o e f)) h j (omega arith)
    (Chain.node (level_of o) ts a e b f (on_line l (Form.binary o e f)) (omega arith) m (as_node l o e f ts t a b n q i)
    (chain-from (level_of o) a e (omega arith) (omega arith) d) (chain-from (level_of o + 1) b f (omega arith) (omega arith) d'))
chain-from k ts (on_line l (Form.prefix o e)) h h' (n, (t, a, q, i, loose, d)) = absurd cc
chain-from k ts x h h' d = chain-at 11 k ts x h h' (omega arith) (Chain.operand ts x d)

abbrev BeginsWithPrefix : Tree → Type 0
BeginsWithPrefix (on_line l (Form.prefix o e)) = Unit {0}
BeginsWithPrefix _ = ⊥

abbrev HasOperator : Tree → Type 0
HasOperator (on_line l (Form.binary o e f)) = Unit {0}
HasOperator _ = ⊥

which : (x : Tree) → EndsInPrefix x → HasOperator x ⊎ BeginsWithPrefix x
which (on_line l (Form.binary o e f)) h = inl tt
which (on_line l (Form.prefix o e)) h = inr tt
which _ h = absurd h

ends_or_not : (x : Tree) → EndsInPrefix x ⊎ (EndsInPrefix x → ⊥)
ends_or_not (on_line l (Form.binary o e f)) = ends_or_not f
ends_or_not (on_line l (Form.prefix o e)) = inl tt
ends_or_not _ = inr (λ h. h)

operator_level : (g : Bool) (m : ℕ) (ts : List Placed) (x : Tree) → HasOperator x → Derives g m ts x → m ≤ 10
operator_level g m ts (on_line l (Form.binary o e f)) h (n, (t, a, b, q, i, j, d, d')) = let k = most_level o in omega arith
operator_level g m ts _ h d = absurd h

abbrev FromLevel : Tree → Type 0
FromLevel x = (ts : List Placed) → Derives false 4 ts x → Level 4 ts x

abbrev FromPrefixed : Tree → Type 0
FromPrefixed x = (k : ℕ) (ts : List Placed) → BeginsWithPrefix x → Derives false k ts x → Prefixed ts x

abbrev FromOpen : Tree → Type 0
FromOpen x = (k : ℕ) (ts : List Placed) → 5 ≤ k → k ≤ 10 → HasOperator x → EndsInPrefix x → Derives false k ts x → Open k ts x

open_node : (l : ℕ) (o : BinaryOperator) (e f : Tree) → FromPrefixed f → FromOpen f → FromOpen (on_line l (Form.binary o e f))
open_node l o e f of_prefixed of_open k ts h h' has en (n, (t, a, b, q, i, j, d, d')) =
    let m = most_level o in
    let left : Chain (level_of o) a e = chain-from (level_of o) a e (omega arith) (omega arith) (subst (λ (g : Bool). Derives g (level_of o) a e) (is_tight (level_of o) (omega arith)) d) in
    let node : IsNode (level_of o) ts a e b f (on_line l (Form.binary o e f)) = as_node l o e f ts t a b n q i in
    open-at (level_of o) k ts (on_line l (Form.binary o e f)) h j m (⊎_elim
    (λ r. let w = operator_level false (level_of o + 1) b f r d' in
    Open.goes_on (level_of o) ts a e b f (on_line l (Form.binary o e f)) (omega arith) (omega arith) node left (of_open (level_of o + 1) b (omega arith) (omega arith) r en d'))
    (λ r. Open.ends (level_of o) ts a e b f (on_line l (Form.binary o e f)) (omega arith) m node left (of_prefixed (level_of o + 1) b r d'))
    (which f en))

level_node : (l : ℕ) (o : BinaryOperator) (e f : Tree) → FromOpen (on_line l (Form.binary o e f)) → FromLevel (on_line l (Form.binary o e f))
level_node l o e f of_open ts d =
    let x : Tree = on_line l (Form.binary o e f) in
    let five : Derives false 5 ts x = Derives-weaker false 4 5 ts x (above_four o (Derives-level false 4 4 ts x (omega arith) d)) d in
    ⊎_elim
    (λ r. Level.open_chain ts x (of_open 5 ts (omega arith) (omega arith) tt r five))
    (λ r. Level.chain ts x (chain-from 5 ts x (omega arith) (omega arith) (tighten false 5 ts x (omega arith) five r)))
    (ends_or_not x)

prefixed_made : (l : ℕ) (o : PrefixOperator) (e : Tree) → FromLevel e → FromPrefixed (on_line l (Form.prefix o e))
prefixed_made l o e of_level k ts p (n, (t, a, q, i, loose, d)) =
    let on : t.line ≡ l = subst (BeginsOn l) q n in
    Prefixed.prefixed ts a e (on_line l (Form.prefix o e)) (record { operator = o; token = t; split = q; is_operator = i; tree = ap (λ (m : ℕ). on_line m (Form.prefix o e)) (sym on) }) (of_level a d)

all-from : (x : Tree) → FromLevel x × FromPrefixed x × FromOpen x
all-from (on_line l (Form.binary o e f)) =
    let r = all-from f in
    let of_open : FromOpen (on_line l (Form.binary o e f)) = open_node l o e f r.1 r.2 in
    (level_node l o e f of_open, (λ k ts p d. absurd p), of_open)
all-from (on_line l (Form.prefix o e)) =
    let r = all-from e in
    let made : FromPrefixed (on_line l (Form.prefix o e)) = prefixed_made l o e r.0 in
    ((λ ts d. Level.with_prefix ts (on_line l (Form.prefix o e)) (made 4 ts tt d)), made, (λ k ts h h' has en d. absurd has))
all-from x = ((λ ts d. Level.chain ts x (chain-from 5 ts x (omega arith) (omega arith) d)), (λ k ts p d. absurd p), (λ k ts h h' has en d. absurd has))

pub level-from : (k : ℕ) (ts : List Placed) (x : Tree) → 1 ≤ k → k ≤ 4 → Derives false k ts x → Level k ts x
level-from k ts (on_line l (Form.binary o e f)) h h' (n, (t, a, b, q, i, j, d, d')) = ⊎_elim
    (λ r. level-at 4 k ts (on_line l (Form.binary o e f)) h h' (omega arith) ((all-from (on_line l (Form.binary o e f))).0 ts (n, (t, a, b, q, i, r.1, d, d'))))
    (λ r. let w = r.1 in level-at (level_of o) k ts (on_line l (Form.binary o e f)) h j (omega arith)
    (Level.joined (level_of o) ts a e b f (on_line l (Form.binary o e f)) (omega arith) (omega arith) (as_node l o e f ts t a b n q i)
    (level-from (level_of o) a e (omega arith) (omega arith) (subst (λ (g : Bool). Derives g (level_of o) a e) (is_loose (level_of o) w) d)) (level-from (level_of o + 1) b f (omega arith) (omega arith) d')))
    (leb_tells 4 (level_of o))
level-from k ts x h h' d = level-at 4 k ts x h h' (omega arith) ((all-from x).0 ts d)
