-- Marks in order, and the pass over them.
use Rattle.std.proofs.Common.{◌≡◌, ◌⊎◌, ℕ, ◌+◌, ◌<◌, ◌≤◌, Bool, true, false, not, ◌&&◌, ◌||◌, cond, ltb, leb, ℤ, pos, negsuc, int_lt, int_le, List, [], ◌∷◌, ◌++◌, length, get_or, take, drop, Ok, Err, inl, inr, refl, sym, ap, subst, ◌∙◌, arith}
use Rattle.std.specs.Prelude.{All}
use Rattle.std.specs.List.{list_any}
use Rattle.std.specs.List.Sorted.{IsPermutation, IsSortedBy}
use Rattle.std.specs.declared.cmp.Ordering.{Ordering}
use Rattle.std.specs.declared.cmp.Ordering.TheVariants.{Less, Equal, Greater}
use Rattle.std.specs.Ordering.{is_lt, int_cmp, bool_cmp, ordering_then, ordering_reverse}
use Rattle.std.specs.Cmp.{IsStrictWeakOrder, bool_cmp_total}
use Rattle.std.proofs.lemmas.Bool.{false≢true, not-true, cases_lt, lt-ltb, le-ltb, le-leb, lt-leb, and_right}
use Rattle.std.proofs.lemmas.Cmp.{int_cmp_total, on_total, then_total}
use Rattle.std.proofs.lemmas.List.{take_more, take_all, append_assoc, length-append, length-take-le, get_or-take, get_or-drop, take-append-drop, length-drop}
use Rattle.std.proofs.lemmas.List.Elements.{All-nil, All-cons, All-head, All-tail, All-append, All-take, All-drop, All-from_get_or, All-weaker}
use Rattle.std.proofs.lemmas.List.Folds.{list_any-append, list_any_none}
use Rattle.std.proofs.lemmas.List.Sorted.{All-permutation, list_any-IsPermutation, length_permutation, sorted_far, ranks_by}
use Rattle.kripke_model.specs.declared.expressions.Value.{Value}
use Rattle.kripke_model.specs.declared.expressions.Value.TheVariants.{Number, Symbol}
use Rattle.kripke_model.specs.declared.expressions.BinOp.{BinOp}
use Rattle.kripke_model.specs.Evaluation.{Checked, truth}
use Rattle.bdd_nodes.specs.declared.store.Store.{Store}
use Rattle.bdd_nodes.specs.Store.{Has, value_of, Grows}
use Rattle.bdd_nodes.proofs.Tables.{value_of-false}
use Rattle.value_tables.specs.declared.cells.Cell.{Cell}
use Rattle.value_tables.specs.declared.orders.Mark.{Mark}
use Rattle.value_tables.specs.declared.orders.Passed.{Passed}
use Rattle.bdd_ops.specs.Kept.{IsRegion}
use Rattle.value_tables.specs.Cells.{any_cell, Reads}
use Rattle.value_tables.specs.Tables.{judged}
use Rattle.value_tables.specs.Orders.{numbers, compares, comparison, in_order, is_below, any_below, mark_of, marks_in, is_before, is_lesser, any_lesser, any_greater, is_pair, any_pair, AreMarks, AreHeld, ArePassed, AreJoined}
use Rattle.value_tables.proofs.ReadingLists.{reads-any}

-- ---- tests over lists

any_none : {X : Type 0} (xs : List X) → list_any (λ x. false) xs ≡ false
any_none [] = refl
any_none (x ∷ xs) = any_none xs

any_or : {X : Type 0} (p q : X → Bool) (xs : List X) → list_any (λ x. p x || q x) xs ≡ (list_any p xs || list_any q xs)
any_or p q [] = refl
any_or p q (x ∷ xs) = ap (λ b. (p x || q x) || b) (any_or p q xs) ∙ by (p x) (q x) (list_any p xs) (list_any q xs)
  where
    by : (a b c d : Bool) → ((a || b) || (c || d)) ≡ ((a || c) || (b || d))
    by true b c d = refl
    by false true true d = refl
    by false true false d = refl
    by false false c d = refl

any_and : {X : Type 0} (p : X → Bool) (b : Bool) (xs : List X) → list_any (λ x. p x && b) xs ≡ (list_any p xs && b)
any_and p b [] = refl
any_and p b (x ∷ xs) = ap (λ c. (p x && b) || c) (any_and p b xs) ∙ by (p x) (list_any p xs) b
  where
    by : (a c b : Bool) → ((a && b) || (c && b)) ≡ ((a || c) && b)
    by true true true = refl
    by true true false = refl
    by true false true = refl
    by true false false = refl
    by false c b = refl

and_any : {X : Type 0} (b : Bool) (p : X → Bool) (xs : List X) → list_any (λ x. b && p x) xs
    ≡ (b && list_any p xs)
and_any true p xs = refl
and_any false p xs = any_none xs

any_same : {X : Type 0} (p q : X → Bool) (xs : List X) → All (λ x. p x ≡ q x) xs → list_any p xs ≡ list_any q xs
any_same p q [] h = refl
any_same p q (x ∷ xs) h = λ i. All-head (λ x. p x ≡ q x) x xs h i || any_same p q xs (All-tail (λ x. p x ≡ q x) x xs h) i

or_none : (a : Bool) → (a || false) ≡ a
or_none true = refl
or_none false = refl

and_all : (a : Bool) → (a && true) ≡ a
and_all true = refl
and_all false = refl

-- ---- marks of cells

marks-append : (late : Bool) (xs ys : List Cell) → marks_in late (xs ++ ys) ≡ marks_in late xs ++ marks_in late ys
marks-append late [] ys = refl
marks-append late (c ∷ xs) ys = ap (λ ms. mark_of late c.reading c.region ++ ms) (marks-append late xs ys) ∙ sym (append_assoc (mark_of late c.reading c.region) (marks_in late xs) (marks_in late ys))

append_none : {X : Type 0} (xs : List X) → xs ++ [] ≡ xs
append_none [] = refl
append_none (x ∷ xs) = ap (λ ys. x ∷ ys) (append_none xs)

pub marks_more : (late : Bool) (cells : List Cell) (i : ℕ) (cell : Cell) → i < length cells → cell ≡ get_or cells i cell → (start now new : List Mark) → now ≡ start ++ marks_in late (take i cells) → new ≡ now ++ mark_of late cell.reading cell.region
    → new ≡ start ++ marks_in late (take (i + 1) cells)
marks_more late cells i cell lt is start now new e f =
    f ∙ ap (λ ms. ms ++ mark_of late cell.reading cell.region) e ∙ append_assoc start (marks_in late (take i cells)) (mark_of late cell.reading cell.region)
    ∙ ap (λ ms. start ++ ms)
    ((λ j. marks_in late (take i cells) ++ mark_of late (is j).reading (is j).region)
    ∙ sym (ap (marks_in late) (take_more cells i cell lt) ∙ marks-append late (take i cells) (get_or cells i cell ∷ []) ∙ ap (λ ms. marks_in late (take i cells) ++ ms) (append_none (mark_of late (get_or cells i cell).reading (get_or cells i cell).region))))

pub marks_all : (late : Bool) (cells : List Cell) (i : ℕ) (start now : List Mark) → length cells ≤ i → now ≡ start ++ marks_in late (take i cells) → now ≡ start ++ marks_in late cells
marks_all late cells i start now le e = e ∙ ap (λ xs. start ++ marks_in late xs) (take_all i cells le)

few : (late : Bool) (k : Checked Value) (r : ℕ) → length (mark_of late k r) ≤ 1
few late (Ok (Number i)) r = omega arith
few late (Ok (Symbol c)) r = omega arith
few late (Err kind) r = omega arith

pub few_marks : (late : Bool) (cells : List Cell) → length (marks_in late cells) ≤ length cells
few_marks late [] = omega arith
few_marks late (c ∷ cells) = omega (arith, length-append (mark_of late c.reading c.region) (marks_in late cells), few late c.reading c.region, few_marks late cells)

has_mark : (s : Store) (late : Bool) (k : Checked Value) (r : ℕ) → Has s r → All (λ (m : Mark). Has s m.region) (mark_of late k r)
has_mark s late (Ok (Number i)) r h = All-cons (λ (m : Mark). Has s m.region) _ [] h (All-nil (λ (m : Mark). Has s m.region))
has_mark s late (Ok (Symbol c)) r h = All-nil (λ (m : Mark). Has s m.region)
has_mark s late (Err kind) r h = All-nil (λ (m : Mark). Has s m.region)

pub has_marks : (s : Store) (late : Bool) (cells : List Cell) → All (λ (c : Cell). Has s c.region) cells → All (λ (m : Mark). Has s m.region) (marks_in late cells)
has_marks s late [] h = All-nil (λ (m : Mark). Has s m.region)
has_marks s late (c ∷ cells) h =
    All-append (λ (m : Mark). Has s m.region) (mark_of late c.reading c.region) (marks_in late cells)
    (has_mark s late c.reading c.region (All-head (λ (c : Cell). Has s c.region) c cells h))
    (has_marks s late cells (All-tail (λ (c : Cell). Has s c.region) c cells h))

-- a test of the mark of a cell
abbrev of_mark : (Mark → Bool) → Bool → Checked Value → ℕ → Bool
of_mark q late (Ok (Number i)) r = q record { number = i; late = late; region = r }
of_mark q late (Ok (Symbol c)) r = false
of_mark q late (Err kind) r = false

any_marks : (q : Mark → Bool) (late : Bool) (cells : List Cell) → list_any q (marks_in late cells) ≡ list_any (λ (c : Cell). of_mark q late c.reading c.region) cells
any_marks q late [] = refl
any_marks q late (c ∷ cells) = list_any-append q (mark_of late c.reading c.region) (marks_in late cells) ∙ (λ i. one c.reading c.region i || any_marks q late cells i)
  where
    one : (k : Checked Value) (r : ℕ) → list_any q (mark_of late k r) ≡ of_mark q late k r
    one (Ok (Number i)) r = or_none (q record { number = i; late = late; region = r })
    one (Ok (Symbol c)) r = refl
    one (Err kind) r = refl

any_cells-same : (p q : Checked Value → ℕ → Bool) → ((k : Checked Value) (r : ℕ) → p k r ≡ q k r) → (cells : List Cell) → list_any (λ (c : Cell). p c.reading c.region) cells ≡ list_any (λ (c : Cell). q c.reading c.region) cells
any_cells-same p q h [] = refl
any_cells-same p q h (c ∷ cells) = λ i. h c.reading c.region i || any_cells-same p q h cells i

-- ---- the order of two marks

at_less : (a b : ℕ) → cond (ltb a b) true (cond (ltb b a) false true) ≡ leb a b
at_less a b = by (cases_lt b a)
  where
    by : (b < a) ⊎ (a ≤ b) → cond (ltb a b) true (cond (ltb b a) false true) ≡ leb a b
    by (inl gt) = (λ i. cond (le-ltb a b (omega (arith, gt)) i) true (cond (lt-ltb b a gt i) false true)) ∙ sym (lt-leb a b gt)
    by (inr le) = (λ i. cond (ltb a b) true (cond (le-ltb b a le i) false true)) ∙ either (ltb a b) ∙ sym (le-leb a b le)
      where
        either : (x : Bool) → cond x true true ≡ true
        either true = refl
        either false = refl

at_most : (i j : ℤ) → cond (int_lt i j) true (cond (int_lt j i) false true) ≡ int_le i j
at_most (pos a) (pos b) = at_less a b
at_most (pos a) (negsuc b) = refl
at_most (negsuc a) (pos b) = refl
at_most (negsuc a) (negsuc b) = at_less b a

first_less : (strict : Bool) (i j : ℤ) → is_lt (ordering_then (int_cmp i j) (bool_cmp strict (not strict))) ≡ cond strict (int_lt i j) (int_le i j)
first_less true i j = by (int_lt i j) (int_lt j i)
  where
    by : (l g : Bool) → is_lt (ordering_then (cond l Less (cond g Greater Equal)) Greater) ≡ l
    by true g = refl
    by false true = refl
    by false false = refl
first_less false i j = by (int_lt i j) (int_lt j i) ∙ at_most i j
  where
    by : (l g : Bool) → is_lt (ordering_then (cond l Less (cond g Greater Equal)) Less) ≡ cond l true (cond g false true)
    by true g = refl
    by false true = refl
    by false false = refl

-- of two marks of different sides one stands before the other
turned : (o p : Ordering) → p ≡ ordering_reverse o → (a b : Bool) → a ≡ not b → is_lt (ordering_then o (bool_cmp b a)) ≡ false → is_lt (ordering_then p (bool_cmp a b)) ≡ true
turned Less p e a b d h = absurd (false≢true (sym h))
turned Greater p e a b d h = ap (λ o. is_lt (ordering_then o (bool_cmp a b))) e
turned Equal p e true true d h = absurd (false≢true (sym d))
turned Equal p e true false d h = absurd (false≢true (sym h))
turned Equal p e false true d h = ap (λ o. is_lt (ordering_then o (bool_cmp false true))) e
turned Equal p e false false d h = absurd (false≢true d)

apart : (strict a b : Bool) → cond strict a (not a) ≡ true → cond strict b (not b) ≡ false → a ≡ not b
apart true a b e f = e ∙ sym (ap not f)
apart false a b e f = not-true a e ∙ sym f

stands_before : (strict : Bool) (m n : Mark) → is_lesser strict m ≡ true → is_lesser strict n ≡ false → is_before n m ≡ false → is_before m n ≡ true
stands_before strict m n e f h = turned (int_cmp n.number m.number) (int_cmp m.number n.number) (int_cmp_total.antisymm m.number n.number) m.late n.late (apart strict m.late n.late e f) h

before_is_order : IsStrictWeakOrder is_before
before_is_order = ranks_by (then_total (on_total (λ (m : Mark). m.number) int_cmp_total) (on_total (λ (m : Mark). m.late) bool_cmp_total)) (λ (m : Mark). m)

-- ---- marks in two halves

module _ (v : ℕ → Bool) (strict : Bool) where
  -- a mark of the lesser side stands before none of those so far, and behind it no pair is made yet
  lesser_last : (m y : Mark) → is_lesser strict y ≡ true → is_pair v strict m y ≡ false
  lesser_last m y e = (λ i. (is_lesser strict m && v m.region) && ((not (e i) && v y.region) && is_before m y)) ∙ and_right (is_lesser strict m && v m.region) false refl

  lesser_first : (y n : Mark) → is_before y n ≡ false → is_pair v strict y n ≡ false
  lesser_first y n h = (λ i. (is_lesser strict y && v y.region) && and_right (not (is_lesser strict n) && v n.region) (is_before y n) h i) ∙ and_right (is_lesser strict y && v y.region) false refl

  greater_first : (y n : Mark) → is_lesser strict y ≡ false → is_pair v strict y n ≡ false
  greater_first y n e = λ i. (e i && v y.region) && ((not (is_lesser strict n) && v n.region) && is_before y n)

  greater_last : (m y : Mark) → is_lesser strict y ≡ false → is_before y m ≡ false → is_pair v strict m y ≡ ((is_lesser strict m && v m.region) && v y.region)
  greater_last m y e h = by (is_lesser strict m) refl
    where
      by : (b : Bool) → is_lesser strict m ≡ b → is_pair v strict m y ≡ ((is_lesser strict m && v m.region) && v y.region)
      by true d =
          (λ i. (is_lesser strict m && v m.region) && ((not (e i) && v y.region) && stands_before strict m y d e h i)) ∙ ap (λ b. (is_lesser strict m && v m.region) && b) (and_all (v y.region))
      by false d = (λ i. (d i && v m.region) && ((not (is_lesser strict y) && v y.region) && is_before m y)) ∙ sym (λ i. (d i && v m.region) && v y.region)

  abbrev of_greater : Mark → Bool
  of_greater m = not (is_lesser strict m) && v m.region

  abbrev of_lesser : Mark → Bool
  of_lesser m = is_lesser strict m && v m.region

  across : (m y : Mark) → is_before y m ≡ false → is_pair v strict m y
      ≡ (of_greater y && of_lesser m)
  across m y h = by (is_lesser strict y) refl
    where
      turn : (a b : Bool) → (a && b) ≡ (b && a)
      turn true true = refl
      turn true false = refl
      turn false true = refl
      turn false false = refl

      by : (b : Bool) → is_lesser strict y ≡ b → is_pair v strict m y
          ≡ (of_greater y && of_lesser m)
      by true e = lesser_last m y e ∙ sym (λ i. (not (e i) && v y.region) && of_lesser m)
      by false e = greater_last m y e h ∙ turn (of_lesser m) (v y.region)
          ∙ sym (λ i. (not (e i) && v y.region) && of_lesser m)

  -- no mark of ys stands before one of xs
  module _ (xs ys : List Mark) (up : All
      (λ (x : Mark). All (λ (y : Mark). is_before y x ≡ false) ys) xs)
      (down : All (λ (y : Mark). All (λ (x : Mark). is_before y x ≡ false) xs) ys) where
    across_one : (m : Mark) → All (λ (y : Mark). is_before y m ≡ false) ys
        → list_any (is_pair v strict m) ys ≡ (any_greater v strict ys && of_lesser m)
    across_one m h =
        any_same (is_pair v strict m) (λ (y : Mark). of_greater y && of_lesser m) ys
        (All-weaker (λ (y : Mark). is_before y m ≡ false)
        (λ (y : Mark). is_pair v strict m y ≡ (of_greater y && of_lesser m)) (λ y. across m y) ys h)
        ∙ any_and of_greater (of_lesser m) ys

    none_back : (n : Mark) → All (λ (x : Mark). is_before n x ≡ false) xs
        → list_any (is_pair v strict n) xs ≡ false
    none_back n h = list_any_none (is_pair v strict n) xs
        (All-weaker (λ (x : Mark). is_before n x ≡ false)
        (λ (x : Mark). is_pair v strict n x ≡ false) (λ x. lesser_first n x) xs h)

    all_across : list_any (λ (m : Mark). list_any (is_pair v strict m) ys) xs
        ≡ (any_greater v strict ys && any_lesser v strict xs)
    all_across =
        any_same (λ (m : Mark). list_any (is_pair v strict m) ys)
        (λ (m : Mark). any_greater v strict ys && of_lesser m) xs
        (All-weaker (λ (x : Mark). All (λ (y : Mark). is_before y x ≡ false) ys)
        (λ (m : Mark). list_any (is_pair v strict m) ys
        ≡ (any_greater v strict ys && of_lesser m)) across_one xs up)
        ∙ and_any (any_greater v strict ys) of_lesser xs

    all_back : list_any (λ (m : Mark). list_any (is_pair v strict m) xs) ys ≡ false
    all_back =
        list_any_none (λ (m : Mark). list_any (is_pair v strict m) xs) ys
        (All-weaker (λ (y : Mark). All (λ (x : Mark). is_before y x ≡ false) xs)
        (λ (n : Mark). list_any (is_pair v strict n) xs ≡ false) none_back ys down)

    pub pairs_of_halves : any_pair v strict (xs ++ ys)
        ≡ ((any_pair v strict xs || any_pair v strict ys)
        || (any_lesser v strict xs && any_greater v strict ys))
    pairs_of_halves =
        (λ i. list_any (λ (m : Mark). list_any-append (is_pair v strict m) xs ys i) (xs ++ ys))
        ∙ list_any-append (λ (m : Mark). list_any (is_pair v strict m) xs
        || list_any (is_pair v strict m) ys) xs ys
        ∙ (λ i. any_or (λ (m : Mark). list_any (is_pair v strict m) xs)
        (λ (m : Mark). list_any (is_pair v strict m) ys) xs i
        || any_or (λ (m : Mark). list_any (is_pair v strict m) xs)
        (λ (m : Mark). list_any (is_pair v strict m) ys) ys i)
        ∙ (λ i. (any_pair v strict xs || all_across i) || (all_back i || any_pair v strict ys))
        ∙ by (any_pair v strict xs) (any_greater v strict ys) (any_lesser v strict xs)
        (any_pair v strict ys)
      where
        by : (a g l b : Bool) → ((a || (g && l)) || (false || b)) ≡ ((a || b) || (l && g))
        by true g l b = refl
        by false true true true = refl
        by false true true false = refl
        by false true false true = refl
        by false true false false = refl
        by false false true true = refl
        by false false true false = refl
        by false false false true = refl
        by false false false false = refl

  pairs-permutation : (xs ys : List Mark) → IsPermutation xs ys → any_pair v strict xs ≡ any_pair v strict ys
  pairs-permutation xs ys h =
      list_any-IsPermutation (λ (m : Mark). list_any (is_pair v strict m) xs) xs ys h
      ∙ (λ i. list_any (λ (m : Mark). list_any-IsPermutation (is_pair v strict m) xs ys h i) ys)

  -- the pairs of two sides

  lesser_is : (i : ℤ) (r : ℕ) → is_lesser strict record { number = i; late = strict; region = r } ≡ true
  lesser_is i r = by strict
    where
      by : (b : Bool) → cond b b (not b) ≡ true
      by true = refl
      by false = refl

  greater_is : (i : ℤ) (r : ℕ) → is_lesser strict record { number = i; late = not strict; region = r } ≡ false
  greater_is i r = by strict
    where
      by : (b : Bool) → cond b (not b) (not (not b)) ≡ false
      by true = refl
      by false = refl

  pair_is : (i : ℤ) (r : ℕ) (k : Checked Value) (q : ℕ) → of_mark (is_pair v strict record { number = i; late = strict; region = r }) (not strict) k q ≡ ((is_below strict (Ok (Number i)) k && v q) && v r)
  pair_is i r (Ok (Number j)) q =
      (λ n. (lesser_is i r n && v r) && ((not (greater_is j q n) && v q) && first_less strict i j n)) ∙ by (v r) (v q) (cond strict (int_lt i j) (int_le i j))
    where
      by : (a b c : Bool) → ((true && a) && ((not false && b) && c)) ≡ ((c && b) && a)
      by true true true = refl
      by true true false = refl
      by true false true = refl
      by true false false = refl
      by false true true = refl
      by false true false = refl
      by false false true = refl
      by false false false = refl
  pair_is i r (Ok (Symbol c)) q = refl
  pair_is i r (Err kind) q = refl

  no_pair : (m : Mark) (k : Checked Value) (q : ℕ) → of_mark (is_pair v strict m) strict k q ≡ false
  no_pair m (Ok (Number j)) q = lesser_last m record { number = j; late = strict; region = q } (lesser_is j q)
  no_pair m (Ok (Symbol c)) q = refl
  no_pair m (Err kind) q = refl

  module _ (lesser greater : List Cell) where
    abbrev pub both_sides : List Mark
    both_sides = marks_in strict lesser ++ marks_in (not strict) greater

    from_lesser : (k : Checked Value) (r : ℕ) → of_mark (λ (m : Mark). list_any (is_pair v strict m) both_sides) strict k r ≡ (any_cell v (is_below strict k) greater && v r)
    from_lesser (Ok (Number i)) r =
        let m : Mark = record { number = i; late = strict; region = r } in
        list_any-append (is_pair v strict m) (marks_in strict lesser) (marks_in (not strict) greater)
        ∙ (λ n. (any_marks (is_pair v strict m) strict lesser ∙ any_cells-same (of_mark (is_pair v strict m) strict) (λ k q. false) (no_pair m) lesser ∙ any_none lesser) n
        || (any_marks (is_pair v strict m) (not strict) greater ∙ any_cells-same (of_mark (is_pair v strict m) (not strict)) (λ k q. (is_below strict (Ok (Number i)) k && v q) && v r) (pair_is i r) greater
        ∙ any_and (λ (c : Cell). is_below strict (Ok (Number i)) c.reading && v c.region) (v r) greater) n)
    from_lesser (Ok (Symbol c)) r = sym (ap (λ b. b && v r) (any_none greater))
    from_lesser (Err kind) r = sym (ap (λ b. b && v r) (any_none greater))

    from_greater : (k : Checked Value) (r : ℕ) → of_mark (λ (m : Mark). list_any (is_pair v strict m) both_sides) (not strict) k r ≡ false
    from_greater (Ok (Number i)) r =
        (λ n. list_any (λ (x : Mark). greater_first record { number = i; late = not strict; region = r } x (greater_is i r) n) both_sides) ∙ any_none both_sides
    from_greater (Ok (Symbol c)) r = refl
    from_greater (Err kind) r = refl

    pairs_are : any_pair v strict both_sides ≡ any_below v strict lesser greater
    pairs_are =
        list_any-append (λ (m : Mark). list_any (is_pair v strict m) both_sides) (marks_in strict lesser) (marks_in (not strict) greater)
        ∙ (λ n. (any_marks (λ (m : Mark). list_any (is_pair v strict m) both_sides) strict lesser ∙ any_cells-same _ (λ k r. any_cell v (is_below strict k) greater && v r) from_lesser lesser) n
        || (any_marks (λ (m : Mark). list_any (is_pair v strict m) both_sides) (not strict) greater ∙ any_cells-same _ (λ k r. false) from_greater greater ∙ any_none greater) n)
        ∙ or_none (any_below v strict lesser greater)

    pub sorted_pairs : (marks : List Mark) → IsPermutation both_sides marks → any_pair v strict marks ≡ any_below v strict lesser greater
    sorted_pairs marks h = sym (pairs-permutation both_sides marks h) ∙ pairs_are

-- ---- the regions of halves

-- a list of marks in two
module _ (marks xs ys : List Mark) (k : ℕ) (le : k ≤ length marks) (ex : xs ≡ take k marks)
    (ey : ys ≡ drop k marks) where
  whole : xs ++ ys ≡ marks
  whole = (λ i. ex i ++ ey i) ∙ take-append-drop k marks

  module _ (s : Store) (has : All (λ (m : Mark). Has s m.region) marks) where
    pub has_first : All (λ (m : Mark). Has s m.region) xs
    has_first = subst (All (λ (m : Mark). Has s m.region)) (sym ex)
        (All-take (λ (m : Mark). Has s m.region) k marks has)

    pub has_behind : All (λ (m : Mark). Has s m.region) ys
    has_behind = subst (All (λ (m : Mark). Has s m.region)) (sym ey)
        (All-drop (λ (m : Mark). Has s m.region) k marks has)

  module _ (sorted : IsSortedBy is_before marks) where
    pub sorted_first : IsSortedBy is_before xs
    sorted_first = subst (IsSortedBy is_before) (sym ex) (λ n d low lt.
        let within : n + 1 < k = omega (arith, lt, length-take-le k marks le) in
        let less : n < k = omega (arith, within) in
        (λ i. is_before (get_or-take k marks (n + 1) d within i) (get_or-take k marks n d less i))
        ∙ sorted n d low (omega (arith, within, le)))

    pub sorted_behind : IsSortedBy is_before ys
    sorted_behind = subst (IsSortedBy is_before) (sym ey) (λ n d low lt.
        (λ i. is_before ((get_or-drop k marks (n + 1) d ∙ ap (λ m. get_or marks m d) (next n)) i)
        (get_or-drop k marks n d i))
        ∙ sorted (k + n) d (omega arith) (omega (arith, lt, length-drop k marks)))
      where
        next : (n : ℕ) → k + (n + 1) ≡ k + n + 1
        next n = omega arith

    far : (i j : ℕ) (d : Mark) → i < k → j < length (drop k marks)
        → is_before (get_or (drop k marks) j d) (get_or (take k marks) i d) ≡ false
    far i j d lt less =
        (λ n. is_before (get_or-drop k marks j d n) (get_or-take k marks i d lt n))
        ∙ sorted_far is_before before_is_order marks sorted i (k + j) d (omega (arith, lt))
        (omega (arith, less, length-drop k marks))

    any_mark : Mark
    any_mark = record { number = pos 0; late = false; region = 0 }

    up : All (λ (x : Mark). All (λ (y : Mark). is_before y x ≡ false) (drop k marks)) (take k marks)
    up = All-from_get_or (λ (x : Mark). All (λ (y : Mark). is_before y x ≡ false) (drop k marks))
        (take k marks) any_mark (λ i lt.
        All-from_get_or (λ (y : Mark). is_before y (get_or (take k marks) i any_mark) ≡ false)
        (drop k marks) any_mark (λ j less. far i j any_mark
        (omega (arith, lt, length-take-le k marks le)) less))

    down : All (λ (y : Mark). All (λ (x : Mark). is_before y x ≡ false) (take k marks))
        (drop k marks)
    down = All-from_get_or (λ (y : Mark). All (λ (x : Mark). is_before y x ≡ false)
        (take k marks)) (drop k marks) any_mark (λ j less.
        All-from_get_or (λ (x : Mark). is_before (get_or (drop k marks) j any_mark) x ≡ false)
        (take k marks) any_mark (λ i lt. far i j any_mark
        (omega (arith, lt, length-take-le k marks le)) less))

    pairs_whole : (v : ℕ → Bool) (strict : Bool) → any_pair v strict marks
        ≡ ((any_pair v strict xs || any_pair v strict ys)
        || (any_lesser v strict xs && any_greater v strict ys))
    pairs_whole v strict =
        ap (any_pair v strict) (sym whole)
        ∙ pairs_of_halves v strict xs ys
        (subst (λ (l : List Mark). All (λ (x : Mark). All (λ (y : Mark). is_before y x ≡ false) l)
        xs) (sym ey) (subst (All (λ (x : Mark). All (λ (y : Mark). is_before y x ≡ false)
        (drop k marks))) (sym ex) up))
        (subst (λ (l : List Mark). All (λ (y : Mark). All (λ (x : Mark). is_before y x ≡ false) l)
        ys) (sym ex) (subst (All (λ (y : Mark). All (λ (x : Mark). is_before y x ≡ false)
        (take k marks))) (sym ey) down))

    -- both halves, one behind the other, and what they are together
    module _ (s p q z : Store) (h : Grows p q) (strict : Bool) (first behind r : Passed)
        (x : ArePassed s p strict xs first) (y : ArePassed s q strict ys behind)
        (j : AreJoined q z first behind r) where
      pub halves_passed : ArePassed s z strict marks r
      halves_passed = record {
        lesser = record {
          has = j.lesser.has;
          value = λ bits. j.lesser.value bits
              ∙ (λ i. (h.value first.lesser x.lesser.has bits ∙ x.lesser.value bits) i
              || y.lesser.value bits i)
              ∙ sym (ap (any_lesser (λ n. value_of s n bits) strict) (sym whole)
              ∙ list_any-append (λ (m : Mark). is_lesser strict m && value_of s m.region bits) xs
              ys);
        };
        greater = record {
          has = j.greater.has;
          value = λ bits. j.greater.value bits
              ∙ (λ i. (h.value first.greater x.greater.has bits ∙ x.greater.value bits) i
              || y.greater.value bits i)
              ∙ sym (ap (any_greater (λ n. value_of s n bits) strict) (sym whole)
              ∙ list_any-append (λ (m : Mark). not (is_lesser strict m)
              && value_of s m.region bits) xs ys);
        };
        hit = record {
          has = j.hit.has;
          value = λ bits. j.hit.value bits
              ∙ (λ i. ((h.value first.hit x.hit.has bits ∙ x.hit.value bits) i
              || y.hit.value bits i)
              || ((h.value first.lesser x.lesser.has bits ∙ x.lesser.value bits) i
              && y.greater.value bits i))
              ∙ sym (pairs_whole (λ n. value_of s n bits) strict);
        };
      }

-- what marks are together in a store that has grown, by their values before it grew
module _ (s p : Store) (g : Grows s p) (strict : Bool) (marks : List Mark)
    (has : All (λ (m : Mark). Has s m.region) marks) (bits : List Bool) where
  any_lesser-grows : any_lesser (λ n. value_of p n bits) strict marks
      ≡ any_lesser (λ n. value_of s n bits) strict marks
  any_lesser-grows =
      any_same (λ (m : Mark). is_lesser strict m && value_of p m.region bits)
      (λ (m : Mark). is_lesser strict m && value_of s m.region bits) marks
      (All-weaker (λ (m : Mark). Has s m.region)
      (λ (m : Mark). (is_lesser strict m && value_of p m.region bits)
      ≡ (is_lesser strict m && value_of s m.region bits))
      (λ m h. λ i. is_lesser strict m && g.value m.region h bits i) marks has)

  any_greater-grows : any_greater (λ n. value_of p n bits) strict marks
      ≡ any_greater (λ n. value_of s n bits) strict marks
  any_greater-grows =
      any_same (λ (m : Mark). not (is_lesser strict m) && value_of p m.region bits)
      (λ (m : Mark). not (is_lesser strict m) && value_of s m.region bits) marks
      (All-weaker (λ (m : Mark). Has s m.region)
      (λ (m : Mark). (not (is_lesser strict m) && value_of p m.region bits)
      ≡ (not (is_lesser strict m) && value_of s m.region bits))
      (λ m h. λ i. not (is_lesser strict m) && g.value m.region h bits i) marks has)

  pairs_from : (m : Mark) → Has s m.region
      → list_any (is_pair (λ n. value_of p n bits) strict m) marks
      ≡ list_any (is_pair (λ n. value_of s n bits) strict m) marks
  pairs_from m here =
      any_same (is_pair (λ n. value_of p n bits) strict m)
      (is_pair (λ n. value_of s n bits) strict m) marks
      (All-weaker (λ (y : Mark). Has s y.region)
      (λ (y : Mark). is_pair (λ n. value_of p n bits) strict m y
      ≡ is_pair (λ n. value_of s n bits) strict m y)
      (λ y h. λ i. (is_lesser strict m && g.value m.region here bits i)
      && ((not (is_lesser strict y) && g.value y.region h bits i) && is_before m y)) marks has)

  any_pair-grows : any_pair (λ n. value_of p n bits) strict marks
      ≡ any_pair (λ n. value_of s n bits) strict marks
  any_pair-grows =
      any_same (λ (m : Mark). list_any (is_pair (λ n. value_of p n bits) strict m) marks)
      (λ (m : Mark). list_any (is_pair (λ n. value_of s n bits) strict m) marks) marks
      (All-weaker (λ (m : Mark). Has s m.region)
      (λ (m : Mark). list_any (is_pair (λ n. value_of p n bits) strict m) marks
      ≡ list_any (is_pair (λ n. value_of s n bits) strict m) marks) pairs_from marks has)

pub passed_before : (s p q : Store) → Grows s p → (strict : Bool) (marks : List Mark)
    → All (λ (m : Mark). Has s m.region) marks → (r : Passed) → ArePassed p q strict marks r
    → ArePassed s q strict marks r
passed_before s p q g strict marks has r h = record {
  lesser = record {
    has = h.lesser.has;
    value = λ bits. h.lesser.value bits
        ∙ any_lesser-grows s p g strict marks has bits;
  };
  greater = record {
    has = h.greater.has;
    value = λ bits. h.greater.value bits
        ∙ any_greater-grows s p g strict marks has bits;
  };
  hit = record {
    has = h.hit.has;
    value = λ bits. h.hit.value bits
        ∙ any_pair-grows s p g strict marks has bits;
  };
}

pub held_passed : {s z : Store} {strict : Bool} {marks : List Mark} {p : Passed}
    → ArePassed s z strict marks p → AreHeld z p
held_passed h = record { lesser = h.lesser.has; greater = h.greater.has; hit = h.hit.has }

pub held-grows : {s z : Store} {p : Passed} → Grows s z → AreHeld s p → AreHeld z p
held-grows {s} {z} {p} g h = record {
  lesser = g.has p.lesser h.lesser;
  greater =
      g.has p.greater h.greater;
  hit = g.has p.hit h.hit;
}

-- one mark makes no pair
pub alone_passed : (s : Store) (strict : Bool) (m : Mark) → Has s m.region → (l g : ℕ) → l
    ≡ cond (is_lesser strict m) m.region 0 → g ≡ cond (not (is_lesser strict m)) m.region 0
    → ArePassed s s strict (m ∷ []) record { lesser = l; greater = g; hit = 0 }
alone_passed s strict m has l g el eg =
    subst (λ n. ArePassed s s strict (m ∷ []) record { lesser = n; greater = g; hit = 0 }) (sym el)
    (subst (λ n. ArePassed s s strict (m ∷ []) record
    { lesser = cond (is_lesser strict m) m.region 0; greater = n; hit = 0 }) (sym eg) here)
  where
    nowhere : Has s 0
    nowhere = omega arith

    side : (b : Bool) → Has s (cond b m.region 0)
    side true = has
    side false = nowhere

    lesser_value : (b : Bool) (bits : List Bool) → value_of s (cond b m.region 0) bits
        ≡ ((b && value_of s m.region bits) || false)
    lesser_value true bits = sym (or_none (value_of s m.region bits))
    lesser_value false bits = value_of-false s.nodes.keys bits

    greater_value : (b : Bool) (bits : List Bool) → value_of s (cond (not b) m.region 0) bits
        ≡ ((not b && value_of s m.region bits) || false)
    greater_value true bits = value_of-false s.nodes.keys bits
    greater_value false bits = sym (or_none (value_of s m.region bits))

    no_pair_alone : (v : ℕ → Bool) → is_pair v strict m m ≡ false
    no_pair_alone v = by (is_lesser strict m) (v m.region) (is_before m m)
      where
        by : (l a b : Bool) → ((l && a) && ((not l && a) && b)) ≡ false
        by true true b = refl
        by true false b = refl
        by false a b = refl

    here : ArePassed s s strict (m ∷ []) record {
      lesser = cond (is_lesser strict m) m.region 0;
      greater =
          cond (not (is_lesser strict m)) m.region 0;
      hit = 0;
    }
    here = record {
      lesser = record {
        has = side (is_lesser strict m);
        value =
            lesser_value (is_lesser strict m);
      };
      greater = record {
        has = side (not (is_lesser strict m));
        value =
            greater_value (is_lesser strict m);
      };
      hit = record {
        has = nowhere;
        value = λ bits. value_of-false s.nodes.keys bits
            ∙ sym (or_none (is_pair (λ n. value_of s n bits) strict m m || false)
            ∙ or_none (is_pair (λ n. value_of s n bits) strict m m)
            ∙ no_pair_alone (λ n. value_of s n bits));
      };
    }

nothing_passed : (s : Store) → IsRegion s 0 (λ bits. false)
nothing_passed s = record { has = omega arith; value = λ bits. value_of-false s.nodes.keys bits }

pub no_pairs : (s : Store) (strict : Bool) (marks : List Mark) → length marks ≡ 0
    → IsRegion s 0 (λ bits. any_pair (λ q. value_of s q bits) strict marks)
no_pairs s strict [] e = nothing_passed s
no_pairs s strict (m ∷ marks) e = absurd (omega (arith, e))

-- ---- both sides

module _ (strict : Bool) (lesser greater : List Cell) (marks : List Mark) (h : AreMarks strict lesser greater marks) where
  pub has_both : (s : Store) → All (λ (c : Cell). Has s c.region) lesser → All (λ (c : Cell). Has s c.region) greater → All (λ (m : Mark). Has s m.region) marks
  has_both s left right =
      All-permutation (λ (m : Mark). Has s m.region) (marks_in strict lesser ++ marks_in (not strict) greater) marks h.moved
      (All-append (λ (m : Mark). Has s m.region) (marks_in strict lesser) (marks_in (not strict) greater) (has_marks s strict lesser left) (has_marks s (not strict) greater right))

  pub few_both : length marks ≤ length lesser + length greater
  few_both =
      omega (arith, length_permutation (marks_in strict lesser ++ marks_in (not strict) greater) marks h.moved, length-append (marks_in strict lesser) (marks_in (not strict) greater), few_marks strict lesser, few_marks (not strict) greater)

  pub below_passed : (s a : Store) (r : ℕ) → IsRegion a r (λ bits. any_pair (λ q. value_of s q bits) strict marks) → IsRegion a r (λ bits. any_below (λ q. value_of s q bits) strict lesser greater)
  below_passed s a r k = record { has = k.has; value = λ bits. k.value bits ∙ sorted_pairs (λ q. value_of s q bits) strict lesser greater marks h.moved }

-- ---- the comparison

module _ (v : ℕ → Bool) where
  below_is : (strict : Bool) (lesser greater : List Cell) (i j : ℤ) → Reads v lesser (numbers (Ok i)) → Reads v greater (numbers (Ok j)) → any_below v strict lesser greater ≡ cond strict (int_lt i j) (int_le i j)
  below_is strict lesser greater i j x y =
      reads-any v lesser (numbers (Ok i)) x (λ k. any_cell v (is_below strict k) greater) ∙ or_none (any_cell v (is_below strict (Ok (Number i))) greater)
      ∙ reads-any v greater (numbers (Ok j)) y (is_below strict (Ok (Number i))) ∙ or_none (cond strict (int_lt i j) (int_le i j))

  order_is : (op : BinOp) (left right : List Cell) (i j : ℤ) → Reads v left (numbers (Ok i)) → Reads v right (numbers (Ok j)) → in_order v op left right ≡ compares op i j
  order_is BinOp.Lt left right i j x y = below_is true left right i j x y
  order_is BinOp.Le left right i j x y = below_is false left right i j x y
  order_is BinOp.Gt left right i j x y = below_is true right left j i y x
  order_is op left right i j x y = below_is false right left j i y x

  pub comparison_judged : (op : BinOp) (left right : List Cell) (a b : Checked ℤ) → Reads v left (numbers a) → Reads v right (numbers b) → judged (numbers a) (numbers b) (in_order v op left right) ≡ comparison op a b
  comparison_judged op left right (Ok i) (Ok j) x y = ap (λ t. Ok (truth t)) (order_is op left right i j x y)
  comparison_judged op left right (Ok i) (Err kind) x y = refl
  comparison_judged op left right (Err kind) b x y = refl
