-- What may follow an expression, and how levels go together.
use Rattle.std.proofs.Common.{◌≡◌, ℕ, ◌+◌, ◌≤◌, ◌<◌, nat_le, leb, Bool, true, false, cond, ◌||◌, ◌⊎◌, List, [], ◌∷◌, ◌++◌, Some, refl, sym, ◌∙◌, ap, subst, arith, le-leb, inl, inr}
use Rattle.std.proofs.lemmas.Bool.Decides.{leb_tells}
use Rattle.reader_laws.specs.Reading.{first_is}
use Rattle.reader_laws.proofs.Readers.{SameHead}
use Rattle.smv_lexer.specs.Text.{Kind, Placed}
use Rattle.smv_parser.specs.declared.expressions.BinaryOperator.{BinaryOperator}
use Rattle.smv_parser.specs.Tree.{Tree, Form, PathTree, on_line, depth, form_depth}
use Rattle.smv_parser.specs.Words.{level_of, prefix_level, binary_word, BeginsOn}
use Rattle.smv_lexer.specs.declared.sign.Sign.{Sign}
use Rattle.smv_parser.specs.Tests.{operator_of, sign_is, sign_number}
use Rattle.smv_parser.proofs.TokenTests.{operator_is}
use Rattle.smv_parser.specs.Grammar.{Derives}
use Rattle.smv_parser.specs.Reading.{begins_part, line_of, binary, operator_at, Stops}

abbrev pub IsLevel : ℕ → Tree → Type 0
IsLevel k (on_line l (Form.binary o e f)) = k ≤ level_of o
IsLevel k _ = Unit {0}

abbrev pub IsOperand : Tree → Type 0
IsOperand (on_line l (Form.binary o e f)) = ⊥
IsOperand _ = Unit {0}

-- the last part is the operand of a prefix operator, or a path
abbrev pub EndsInPrefix : Tree → Type 0
EndsInPrefix (on_line l (Form.binary o e f)) = EndsInPrefix f
EndsInPrefix (on_line l (Form.prefix o e)) = Unit {0}
EndsInPrefix _ = ⊥

abbrev pub EndsInPath : Tree → Type 0
EndsInPath (on_line l (Form.binary o e f)) = EndsInPath f
EndsInPath (on_line l (Form.prefix o e)) = EndsInPath e
EndsInPath (on_line l (Form.path p)) = Unit {0}
EndsInPath _ = ⊥

-- an operator that comes next may have the tree as its left operand, and no path goes on
abbrev pub Follows : Tree → List Placed → Type 0
Follows e r = ((o : BinaryOperator) → operator_at r ≡ Some o → IsLevel (level_of o) e × (prefix_level ≤ level_of o → EndsInPrefix e → ⊥))
    × (EndsInPath e → first_is begins_part r ≡ false)

-- no part follows a path
abbrev pub PathEnds : PathTree → List Placed → Type 0
PathEnds p r = first_is begins_part r ≡ false

-- how an expression of level k ends
abbrev pub Ends : ℕ → Tree → List Placed → Type 0
Ends k e r = Follows e r × Stops k r

pub same_operator : (r v : List Placed) → SameHead r v → operator_at r ≡ operator_at v
same_operator [] [] h = refl
same_operator [] (y ∷ v) h = absurd h
same_operator (x ∷ r) [] h = absurd h
same_operator (x ∷ r) (y ∷ v) h = ap operator_of h

pub Stops-same : (k : ℕ) (r v : List Placed) → SameHead r v → Stops k r → Stops k v
Stops-same k r v h st o i = st o (same_operator r v h ∙ i)

pub depth_pos : (e : Tree) → 1 ≤ depth e
depth_pos (on_line l (Form.number n)) = omega arith
depth_pos (on_line l (Form.path (Rattle.smv_parser.specs.Tree.path_on m n ps))) = omega arith
depth_pos (on_line l _) = omega arith

pub Derives-level : (f : Bool) (j k : ℕ) (a : List Placed) (e : Tree) → k ≤ j → Derives f j a e → IsLevel k e
Derives-level f j k a (on_line l (Form.binary o e e')) h (n, (t, x, y, q, i, g, d, d')) = omega arith
Derives-level f j k a _ h d = tt

pub Derives-weaker : (f : Bool) (j k : ℕ) (a : List Placed) (e : Tree) → IsLevel k e → Derives f j a e → Derives f k a e
Derives-weaker f j k a (on_line l (Form.binary o e e')) h (n, (t, x, y, q, i, g, d, d')) = (n, (t, x, y, q, i, h, d, d'))
Derives-weaker f j k a _ h d = d

either_true : (f c : Bool) → c ≡ true → (f || c) ≡ true
either_true true c h = refl
either_true false c h = h

either_goes : (f g c : Bool) → (g ≡ true → f ≡ true) → (g || c) ≡ true → (f || c) ≡ true
either_goes f true c h i = let p = h refl in rw p refl
either_goes f false true h i = either_true f true refl
either_goes f false false h i = absurd cc

not_tight : (f g : Bool) → (g ≡ true → f ≡ true) → f ≡ false → g ≡ false
not_tight f true h i = absurd (let p : f ≡ true = h refl in cc)
not_tight f false h i = refl

-- what is tight is not tight too
pub retighten : (f g : Bool) (k : ℕ) (a : List Placed) (e : Tree) → (g ≡ true → f ≡ true) → Derives f k a e → Derives g k a e
retighten f g k a (on_line l (Form.binary o e e')) h (n, (t, x, y, q, i, j, d, d')) =
    (n, (t, x, y, q, i, j, retighten (f || nat_le prefix_level (level_of o)) (g || nat_le prefix_level (level_of o)) (level_of o) x e (either_goes f g (nat_le prefix_level (level_of o)) h) d, retighten f g (level_of o + 1) y e' h d'))
retighten f g k a (on_line l (Form.prefix o e)) h (n, (t, x, q, i, loose, d)) = (n, (t, x, q, i, not_tight f g h loose, d))
retighten f g k a _ h d = d

pub loosen : (f : Bool) (k : ℕ) (a : List Placed) (e : Tree) → Derives f k a e → Derives false k a e
loosen f k a e d = retighten f false k a e (λ i. absurd cc) d

pub tight_ends : (k : ℕ) (a : List Placed) (e : Tree) → Derives true k a e → EndsInPrefix e → ⊥
tight_ends k a (on_line l (Form.binary o e e')) (n, (t, x, y, q, i, j, d, d')) h = tight_ends (level_of o + 1) y e' d' h
tight_ends k a (on_line l (Form.prefix o e)) (n, (t, x, q, i, loose, d)) h = absurd cc
tight_ends k a _ d h = h

-- the left operand of a tight operator
pub left_ends : (f : Bool) (o : BinaryOperator) (a : List Placed) (e : Tree) → Derives (f || nat_le prefix_level (level_of o)) (level_of o) a e
    → prefix_level ≤ level_of o → EndsInPrefix e → ⊥
left_ends f o a e d h = tight_ends (level_of o) a e (subst (λ (g : Bool). Derives g (level_of o) a e) (either_true f (nat_le prefix_level (level_of o)) (le-leb prefix_level (level_of o) h)) d)

pub tighten : (f : Bool) (k : ℕ) (a : List Placed) (e : Tree) → prefix_level ≤ k → Derives f k a e → (EndsInPrefix e → ⊥) → Derives true k a e
tighten f k a (on_line l (Form.binary o e e')) h (n, (t, x, y, q, i, j, d, d')) c = (
  n,
  (
    t,
    x,
    y,
    q,
    i,
    j,
    subst (λ (g : Bool). Derives g (level_of o) x e) (either_true f (nat_le prefix_level (level_of o)) (le-leb prefix_level (level_of o) (omega arith))) d,
    tighten f (level_of o + 1) y e' (omega arith) d' c,
  ),
)
tighten f k a (on_line l (Form.prefix o e)) h d c = absurd (c tt)
tighten f k a _ h d c = d

-- what may be the left operand is one
pub left_operand : (k : ℕ) (o : BinaryOperator) (a : List Placed) (e : Tree) → Derives false k a e → IsLevel (level_of o) e → (prefix_level ≤ level_of o → EndsInPrefix e → ⊥)
    → Derives (false || nat_le prefix_level (level_of o)) (level_of o) a e
left_operand k o a e d h c = by_level (leb_tells prefix_level (level_of o))
  where
    weak : Derives false (level_of o) a e
    weak = Derives-weaker false k (level_of o) a e h d

    by_level : ((leb prefix_level (level_of o) ≡ true) × (prefix_level ≤ level_of o)) ⊎ ((leb prefix_level (level_of o) ≡ false) × (level_of o < prefix_level))
        → Derives (false || nat_le prefix_level (level_of o)) (level_of o) a e
    by_level (inl p) = let t = p.0 in rw t (tighten false (level_of o) a e p.1 weak (c p.1))
    by_level (inr p) = let t = p.0 in rw t weak

pub as_operand : (f : Bool) (k : ℕ) (a : List Placed) (e : Tree) → IsOperand e → Derives f k a e → Derives false 11 a e
as_operand f k a (on_line l (Form.binary o e e')) h d = absurd h
as_operand f k a (on_line l (Form.prefix o e)) h (n, (t, x, q, i, loose, d)) = (n, (t, x, q, i, refl, d))
as_operand f k a _ h d = d

pub operand_derives : (k : ℕ) (a : List Placed) (e : Tree) → Derives false 11 a e → Derives false k a e
operand_derives k a (on_line l (Form.binary o e e')) (n, (t, x, y, q, i, j, d, d')) = absurd (above o j)
  where
    above : (o : BinaryOperator) → 11 ≤ level_of o → ⊥
    above BinaryOperator.Implies h = omega arith
    above _ h = omega arith
operand_derives k a _ d = d

pub begins_line : (f : Bool) (k : ℕ) (a : List Placed) (e : Tree) → Derives f k a e → BeginsOn (line_of e) a
begins_line f k a (on_line l form) d = d.0

pub BeginsOn-append : (l : ℕ) (a r : List Placed) → BeginsOn l a → BeginsOn l (a ++ r)
BeginsOn-append l [] r h = absurd h
BeginsOn-append l (t ∷ a) r h = h

pub Follows-right : (o : BinaryOperator) (g : Bool) (e f : Tree) (b r : List Placed) → Derives g (level_of o + 1) b f → Follows (binary o e f) r → Follows f r
Follows-right o g e f b r d h = ((λ p i. (Derives-level g (level_of o + 1) (level_of p) b f (let w = (h.0 p i).0 in omega arith) d, (h.0 p i).1)), h.1)

pub Stops-right : (o : BinaryOperator) (e f : Tree) (r : List Placed) → Follows (binary o e f) r → Stops (level_of o + 1) r
Stops-right o e f r h p i = let w = (h.0 p i).0 in omega arith

pub Follows-node : (o : BinaryOperator) (e f : Tree) (r : List Placed) → Follows f r → Stops (level_of o + 1) r → Follows (binary o e f) r
Follows-node o e f r h st = ((λ p i. (let w = st p i in omega arith, (h.0 p i).1)), h.1)

operator_no_part : (o : BinaryOperator) → cond (sign_is Sign.Dot (binary_word o)) true (sign_is Sign.OpenBracket (binary_word o)) ≡ false
unfolding sign_number
operator_no_part BinaryOperator.Implies = refl
operator_no_part _ = refl

pub no_part : (t : Placed) (o : BinaryOperator) → operator_of t ≡ Some o → begins_part t ≡ false
no_part t o i = subst (λ (k : Kind). cond (sign_is Sign.Dot k) true (sign_is Sign.OpenBracket k) ≡ false) (sym (operator_is t.kind o i)) (operator_no_part o)

pub follows_operator : (t : Placed) (o : BinaryOperator) (e : Tree) (r : List Placed) → operator_of t ≡ Some o → IsLevel (level_of o) e → (prefix_level ≤ level_of o → EndsInPrefix e → ⊥) → Follows e (t ∷ r)
follows_operator t o e r i h c =
    ((λ p j. let same : o ≡ p = cc in subst (λ (x : BinaryOperator). IsLevel (level_of x) e × (prefix_level ≤ level_of x → EndsInPrefix e → ⊥)) same (h, c)), λ z. no_part t o i)
