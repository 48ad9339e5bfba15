-- The operators of two operands, from their tested operands.
use Rattle.std.proofs.Common.{◌≡◌, ℕ, ◌≤◌, Bool, true, false, not, ◌&&◌, ◌||◌, cond, List, [], ◌∷◌, ◌++◌, length, Ok, Err, ℤ, pos, negsuc, refl, sym, subst, ap, ◌∙◌, arith}
use Rattle.std.specs.Prelude.{int_le, filter, ◌+ℤ◌, ◌-ℤ◌, ◌*ℤ◌, int_div, int_rem, All}
use Rattle.std.specs.Ordering.{int_eq}
use Rattle.std.specs.List.{list_any}
use Rattle.std.proofs.lemmas.Map.Views.{any-filter_same}
use Rattle.std.proofs.lemmas.Bool.{false≢true}
use Rattle.bdd_nodes.specs.declared.store.Store.{Store}
use Rattle.bdd_nodes.specs.Store.{Has, value_of, Grows}
use Rattle.kripke_model.specs.declared.expressions.Value.{Value}
use Rattle.kripke_model.specs.declared.expressions.Value.TheVariants.{Number, Symbol}
use Rattle.kripke_model.specs.declared.expressions.BinOp.{BinOp}
use Rattle.kripke_model.specs.declared.expressions.FaultKind.{FaultKind}
use Rattle.kripke_model.specs.Evaluation.{Checked, ◌>>=◌, among, single, truth, number, as_number, in_range, divided, on_numbers, binary, same, distinct}
use Rattle.value_tables.specs.declared.cells.Cell.{Cell}
use Rattle.value_tables.specs.declared.pick.Test.{Test}
use Rattle.value_tables.specs.Cells.{same_reading, any_of, Reads}
use Rattle.value_tables.specs.Pick.{tested_value, arithmetic, outcome}
use Rattle.kripke_model.specs.Operators.{in_bounds, logic}
use Rattle.value_tables.specs.Tables.{alone, value_tested, one_tested, membership, connective, paired, all_values, guard_of, IsSingle, IsUnion, IsMember, IsEquality, IsConnective, IsOrder, IsArithmetic}
use Rattle.value_tables.specs.Orders.{numbers, compares, comparison}
use Rattle.value_tables.proofs.ReadingLists.{same-true}
use Rattle.value_tables.proofs.OnceLemmas.{any_values}
use Rattle.value_tables.proofs.RegionLemmas.{any_cell-grows}

pub reads_grows : (a b : Store) → Grows a b → (cells : List Cell) → All (λ (c : Cell). Has a c.region) cells → (bits : List Bool) (c : Checked (List Value)) → Reads (λ r. value_of a r bits) cells c → Reads (λ r. value_of b r bits) cells c
reads_grows a b g cells has bits c h = record { each = λ k. any_cell-grows a b g cells has bits (same_reading k) ∙ h.each k }

pub reads_as : (v : ℕ → Bool) (cells : List Cell) (c d : Checked (List Value)) → c ≡ d → Reads v cells c → Reads v cells d
reads_as v cells c d e h = subst (Reads v cells) e h

-- ---- union

kept : (p : Value → Bool) (x : Value) → p x ≡ false → (w : Value) → p w ≡ true → (b : Bool) → same x w ≡ b → not b ≡ true
kept p x fails w passes true e = absurd (false≢true (sym fails ∙ ap p (same-true x w e) ∙ passes))
kept p x fails w passes false e = refl

any_first : (p : Value → Bool) (v : Value) (vs ws : List Value) → (p v ≡ false → list_any p vs ≡ list_any p ws) → (b : Bool) → p v ≡ b → (b || list_any p vs) ≡ (b || list_any p ws)
any_first p v vs ws h true e = refl
any_first p v vs ws h false e = h e

pub any-distinct : (p : Value → Bool) (vs : List Value) → list_any p (distinct vs) ≡ list_any p vs
any-distinct p [] = refl
any-distinct p (v ∷ vs) =
    any_first p v (filter (λ w. not (same v w)) (distinct vs)) vs
    (λ fails. any-filter_same p (λ w. not (same v w)) true (λ w passes. kept p v fails w passes (same v w) refl) (distinct vs) ∙ any-distinct p vs) (p v) refl

pub any_of-distinct : (p : Checked Value → Bool) (vs : List Value) → any_of p (Ok (distinct vs)) ≡ any_of p (Ok vs)
any_of-distinct p vs = any_values p (distinct vs) ∙ any-distinct (λ v. p (Ok v)) vs ∙ sym (any_values p vs)

union_is : (op : BinOp) → IsUnion op → op ≡ BinOp.Union
union_is BinOp.Union h = refl
union_is op h = absurd h

pub union_reads : (v : ℕ → Bool) (cells : List Cell) (op : BinOp) (c d : Checked (List Value)) → IsUnion op → Reads v cells (all_values c d) → Reads v cells (binary op c d)
union_reads v cells op c d is h = subst (λ o. Reads v cells (binary o c d)) (sym (union_is op is)) record { each = λ k. h.each k ∙ by k c d }
  where
    by : (k : Checked Value) (c d : Checked (List Value)) → any_of (same_reading k) (all_values c d) ≡ any_of (same_reading k) (binary BinOp.Union c d)
    by k (Ok vs) (Ok ws) = sym (any_of-distinct (same_reading k) (vs ++ ws))
    by k (Ok vs) (Err kind) = refl
    by k (Err kind) d = refl

-- ---- membership and equality

pub member_is : (op : BinOp) (c d : Checked (List Value)) → IsMember op → membership (value_tested Test.Any c) d ≡ binary op c d
member_is BinOp.Member (Err kind) d is = refl
member_is BinOp.Member (Ok vs) (Ok ws) is = by (single vs)
  where
    by : (s : Checked Value) → membership (s >>= tested_value Test.Any) (Ok ws) ≡ (s >>= λ v. Ok (truth (among v ws)))
    by (Ok v) = refl
    by (Err kind) = refl
member_is BinOp.Member (Ok vs) (Err other) is = by (single vs)
  where
    by : (s : Checked Value) → membership (s >>= tested_value Test.Any) (Err other) ≡ (s >>= λ v. Err other)
    by (Ok v) = refl
    by (Err kind) = refl
member_is op c d is = absurd is

pub equality_is : (op : BinOp) (c d : Checked (List Value)) → IsEquality op → membership (value_tested Test.Any c) (alone (value_tested Test.Any d)) ≡ binary op c d
equality_is BinOp.Eq (Err kind) d is = refl
equality_is BinOp.Eq (Ok vs) (Err kind) is = by (single vs)
  where
    by : (s : Checked Value) → membership (s >>= tested_value Test.Any) (Err kind) ≡ (s >>= λ v. Err kind)
    by (Ok v) = refl
    by (Err other) = refl
equality_is BinOp.Eq (Ok vs) (Ok ws) is = by (single vs) (single ws)
  where
    or_none : (a : Bool) → (a || false) ≡ a
    or_none true = refl
    or_none false = refl

    by : (s t : Checked Value) → membership (s >>= tested_value Test.Any) (alone (t >>= tested_value Test.Any)) ≡ (s >>= λ v. t >>= λ w. Ok (truth (same v w)))
    by (Ok v) (Ok w) = ap (λ b. Ok (truth b)) (or_none (same v w))
    by (Ok v) (Err kind) = refl
    by (Err kind) t = refl
equality_is op c d is = absurd is

-- ---- connectives

pub connective_is : (op : BinOp) (c d : Checked (List Value)) → IsConnective op → connective op (guard_of c) (guard_of d) ≡ binary op c d
connective_is BinOp.And c d is = refl
connective_is BinOp.Or c d is = refl
connective_is BinOp.Implies c d is = refl
connective_is BinOp.Iff c d is = refl
connective_is op c d is = absurd is

-- ---- numbers

on_numbers_as : (f : ℤ → ℤ → Checked (List Value)) (op : BinOp) → ((i j : ℤ) → alone (arithmetic op i j) ≡ f i j) → (c d : Checked (List Value)) → alone (paired op (value_tested Test.Number c) (value_tested Test.Number d)) ≡ on_numbers f c d
on_numbers_as f op same (Err kind) d = refl
on_numbers_as f op same (Ok vs) d = left (single vs) d
  where
    right : (i : ℤ) (t : Checked Value) → alone ((t >>= tested_value Test.Number) >>= λ y. outcome op (Number i) y) ≡ ((t >>= as_number) >>= λ j. f i j)
    right i (Ok (Number j)) = same i j
    right i (Ok (Symbol s)) = refl
    right i (Err kind) = refl

    left : (s : Checked Value) (d : Checked (List Value)) → alone (paired op (s >>= tested_value Test.Number) (value_tested Test.Number d)) ≡ ((s >>= as_number) >>= λ i. (d >>= number) >>= λ j. f i j)
    left (Ok (Number i)) (Ok ws) = right i (single ws)
    left (Ok (Number i)) (Err kind) = refl
    left (Ok (Symbol s)) d = refl
    left (Err kind) d = refl

range_is : (i : ℤ) → alone (in_bounds i) ≡ in_range i
range_is i = by (int_le (negsuc 2147483647) i && int_le i (pos 2147483647))
  where
    by : (b : Bool) → alone (cond b (Ok (Number i)) (Err FaultKind.Overflow)) ≡ cond b (Ok (Number i ∷ [])) (Err FaultKind.Overflow)
    by true = refl
    by false = refl

divided_is : (f : ℤ → ℤ → ℤ) (i j : ℤ) → alone (cond (int_eq j (pos 0)) (Err FaultKind.ZeroDivisor) (in_bounds (f i j))) ≡ divided f i j
divided_is f i j = by (int_eq j (pos 0))
  where
    by : (b : Bool) → alone (cond b (Err FaultKind.ZeroDivisor) (in_bounds (f i j))) ≡ cond b (Err FaultKind.ZeroDivisor) (in_range (f i j))
    by true = refl
    by false = range_is (f i j)

pub arithmetic_is : (op : BinOp) (c d : Checked (List Value)) → IsArithmetic op → alone (paired op (value_tested Test.Number c) (value_tested Test.Number d)) ≡ binary op c d
arithmetic_is BinOp.Mul c d is = on_numbers_as (λ i j. in_range (i *ℤ j)) BinOp.Mul (λ i j. range_is (i *ℤ j)) c d
arithmetic_is BinOp.Div c d is = on_numbers_as (divided int_div) BinOp.Div (divided_is int_div) c d
arithmetic_is BinOp.Add c d is = on_numbers_as (λ i j. in_range (i +ℤ j)) BinOp.Add (λ i j. range_is (i +ℤ j)) c d
arithmetic_is BinOp.Sub c d is = on_numbers_as (λ i j. in_range (i -ℤ j)) BinOp.Sub (λ i j. range_is (i -ℤ j)) c d
arithmetic_is BinOp.Mod c d is = on_numbers_as (divided int_rem) BinOp.Mod (divided_is int_rem) c d
arithmetic_is op c d is = absurd is

-- ---- order comparisons

-- an operand that passes the test is a number
pub number_tested : (c : Checked (List Value)) → one_tested Test.Number c ≡ numbers (c >>= number)
number_tested (Err kind) = refl
number_tested (Ok vs) = by (single vs)
  where
    by : (s : Checked Value) → alone (s >>= tested_value Test.Number) ≡ numbers (s >>= as_number)
    by (Ok (Number i)) = refl
    by (Ok (Symbol s)) = refl
    by (Err kind) = refl

pub comparison_is : (op : BinOp) (c d : Checked (List Value)) → IsOrder op → comparison op (c >>= number) (d >>= number) ≡ binary op c d
comparison_is BinOp.Lt c d is = refl
comparison_is BinOp.Gt c d is = refl
comparison_is BinOp.Le c d is = refl
comparison_is BinOp.Ge c d is = refl
comparison_is op c d is = absurd is

-- ---- at most one value

pub one_truth : (b : Bool) → length (truth b) ≤ 1
one_truth true = omega arith
one_truth false = omega arith

pub single_alone : (r : Checked Value) → IsSingle (alone r)
single_alone (Ok v) = omega arith
single_alone (Err kind) = tt

single_membership : (a : Checked Value) (d : Checked (List Value)) → IsSingle (membership a d)
single_membership (Ok v) (Ok ws) = one_truth (among v ws)
single_membership (Ok v) (Err kind) = tt
single_membership (Err kind) d = tt

single_connective : (op : BinOp) (a b : Checked Bool) → IsSingle (connective op a b)
single_connective op (Ok x) (Ok y) = one_truth (logic op x y)
single_connective op (Ok x) (Err kind) = tt
single_connective op (Err kind) b = tt

pub member_single : (op : BinOp) → IsMember op → (c d : Checked (List Value)) → IsSingle (binary op c d)
member_single op is c d = subst IsSingle (member_is op c d is) (single_membership (value_tested Test.Any c) d)

pub equality_single : (op : BinOp) → IsEquality op → (c d : Checked (List Value)) → IsSingle (binary op c d)
equality_single op is c d = subst IsSingle (equality_is op c d is) (single_membership (value_tested Test.Any c) (alone (value_tested Test.Any d)))

pub connective_single : (op : BinOp) → IsConnective op → (c d : Checked (List Value)) → IsSingle (binary op c d)
connective_single op is c d = subst IsSingle (connective_is op c d is) (single_connective op (guard_of c) (guard_of d))

pub arithmetic_single : (op : BinOp) → IsArithmetic op → (c d : Checked (List Value)) → IsSingle (binary op c d)
arithmetic_single op is c d = subst IsSingle (arithmetic_is op c d is) (single_alone (paired op (value_tested Test.Number c) (value_tested Test.Number d)))

single_comparison : (op : BinOp) (a b : Checked ℤ) → IsSingle (comparison op a b)
single_comparison op (Ok i) (Ok j) = one_truth (compares op i j)
single_comparison op (Ok i) (Err kind) = tt
single_comparison op (Err kind) b = tt

pub comparison_single : (op : BinOp) → IsOrder op → (c d : Checked (List Value)) → IsSingle (binary op c d)
comparison_single op is c d = subst IsSingle (comparison_is op c d is) (single_comparison op (c >>= number) (d >>= number))
