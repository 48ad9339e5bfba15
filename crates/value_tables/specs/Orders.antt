-- Order comparisons: the numbers of two operands as marks on one line.
use Rattle.std.specs.Prelude.{ℕ, Bool, true, false, not, ◌&&◌, ◌||◌, if◌then◌else◌, ℤ, int_lt, int_le, List, [], ◌∷◌, ◌++◌, Ok, Err}
use Rattle.std.specs.List.{list_any}
use Rattle.std.specs.List.Sorted.{IsPermutation, IsSortedBy}
use Rattle.std.specs.Ordering.{is_lt, int_cmp, bool_cmp, ordering_then}
use Rattle.kripke_model.specs.declared.expressions.Value.{Value}
use Rattle.kripke_model.specs.declared.expressions.Value.TheVariants.{Number, Symbol}
use Rattle.kripke_model.specs.declared.expressions.BinOp.{BinOp}
use Rattle.kripke_model.specs.Evaluation.{Checked, ◌>>=◌, truth}
use Rattle.value_tables.specs.declared.cells.Cell.{Cell}
use Rattle.value_tables.specs.declared.orders.Mark.{Mark}
use Rattle.value_tables.specs.declared.orders.Passed.{Passed}
use Rattle.bdd_nodes.specs.declared.store.Store.{Store}
use Rattle.bdd_nodes.specs.Store.{Has, value_of}
use Rattle.bdd_ops.specs.Kept.{IsRegion}
use Rattle.value_tables.specs.Cells.{any_cell}

-- the one number, or the fault
abbrev pub numbers : Checked ℤ → Checked (List Value)
numbers a = a >>= λ i. Ok (Number i ∷ [])

abbrev pub compares : BinOp → ℤ → ℤ → Bool
compares BinOp.Lt i j = int_lt i j
compares BinOp.Le i j = int_le i j
compares BinOp.Gt i j = int_lt j i
compares op i j = int_le j i

abbrev pub comparison : BinOp → Checked ℤ → Checked ℤ → Checked (List Value)
comparison op a b = a >>= λ i. b >>= λ j. Ok (truth (compares op i j))

-- two numbers, of which the first is less, or, where that isn't strict, not greater
abbrev pub is_below : Bool → Checked Value → Checked Value → Bool
is_below strict (Ok (Number i)) (Ok (Number j)) = if strict then int_lt i j else int_le i j
is_below strict _ _ = false

-- a cell of a number at one side and one of a number above it at the other both have value 1
abbrev pub any_below : (ℕ → Bool) → Bool → List Cell → List Cell → Bool
any_below v strict lesser greater = any_cell v (λ k. any_cell v (is_below strict k) greater) lesser

abbrev pub in_order : (ℕ → Bool) → BinOp → List Cell → List Cell → Bool
in_order v BinOp.Lt left right = any_below v true left right
in_order v BinOp.Le left right = any_below v false left right
in_order v BinOp.Gt left right = any_below v true right left
in_order v op left right = any_below v false right left

-- the mark of a number
abbrev pub mark_of : Bool → Checked Value → ℕ → List Mark
mark_of late (Ok (Number i)) r = record { number = i; late = late; region = r } ∷ []
mark_of late (Ok (Symbol c)) r = []
mark_of late (Err kind) r = []

abbrev pub marks_in : Bool → List Cell → List Mark
marks_in late [] = []
marks_in late (c ∷ cells) = mark_of late c.reading c.region ++ marks_in late cells

-- the order of marks: by number, and at equal numbers the late ones behind the others
abbrev pub is_before : Mark → Mark → Bool
is_before m n = is_lt (ordering_then (int_cmp m.number n.number) (bool_cmp m.late n.late))

-- where the comparison is strict, the marks of the lesser side are the late ones: then an equal one of the greater side stands before them
abbrev pub is_lesser : Bool → Mark → Bool
is_lesser strict m = if strict then m.late else not m.late

abbrev pub any_lesser : (ℕ → Bool) → Bool → List Mark → Bool
any_lesser v strict marks = list_any (λ (m : Mark). is_lesser strict m && v m.region) marks

abbrev pub any_greater : (ℕ → Bool) → Bool → List Mark → Bool
any_greater v strict marks = list_any (λ (m : Mark). not (is_lesser strict m) && v m.region) marks

-- a mark of the lesser side before one of the greater side, both with value 1
abbrev pub is_pair : (ℕ → Bool) → Bool → Mark → Mark → Bool
is_pair v strict m n
    = (is_lesser strict m && v m.region)
    && ((not (is_lesser strict n) && v n.region) && is_before m n)

abbrev pub any_pair : (ℕ → Bool) → Bool → List Mark → Bool
any_pair v strict marks = list_any (λ (m : Mark). list_any (is_pair v strict m) marks) marks

-- the marks of both sides, in order
pub record AreMarks (strict : Bool) (lesser greater : List Cell) (marks : List Mark) : Type 0 where
  pub moved : IsPermutation (marks_in strict lesser ++ marks_in (not strict) greater) marks
  pub sorted : IsSortedBy is_before marks

-- the regions are diagrams of the store
pub record AreHeld (s : Store) (p : Passed) : Type 0 where
  pub lesser : Has s p.lesser
  pub greater : Has s p.greater
  pub hit : Has s p.hit

-- what marks are together, by the regions' values in an earlier store
pub record ArePassed (s z : Store) (strict : Bool) (marks : List Mark) (p : Passed) : Type 0 where
  pub lesser : IsRegion z p.lesser (λ bits. any_lesser (λ q. value_of s q bits) strict marks)
  pub greater : IsRegion z p.greater (λ bits. any_greater (λ q. value_of s q bits) strict marks)
  pub hit : IsRegion z p.hit (λ bits. any_pair (λ q. value_of s q bits) strict marks)

-- a pair among the first, or among those behind, or across both
abbrev pub hits : Store → Passed → Passed → List Bool → Bool
hits s first behind bits = (value_of s first.hit bits || value_of s behind.hit bits)
    || (value_of s first.lesser bits && value_of s behind.greater bits)

pub record AreJoined (s z : Store) (first behind p : Passed) : Type 0 where
  pub lesser : IsRegion z p.lesser (λ bits. value_of s first.lesser bits
      || value_of s behind.lesser bits)
  pub greater : IsRegion z p.greater (λ bits. value_of s first.greater bits
      || value_of s behind.greater bits)
  pub hit : IsRegion z p.hit (hits s first behind)
