-- Pairs of numbers of specifications, one after another.
use Rattle.std.proofs.Common.{◌≡◌, ◌∙◌, ℕ, zero, suc, ◌+◌, List, [], ◌∷◌, ◌++◌, take, Some, refl, sym, ap, subst, add-one, append_assoc}
use Rattle.std.specs.Prelude.{All, flat_map, slice_get}
use Rattle.std.proofs.lemmas.List.Elements.{All-nil, All-cons, All-head, All-tail}
use Rattle.kripke_model.specs.System.{System}
use Rattle.smv_session.specs.Jobs.{both_of}
use Rattle.spec_leaves.specs.Named.{IsFirstOther, NamesLeaf, spec_leaf}
use Rattle.command_replies.specs.Strong.{ArePairs}
use Rattle.strong_fair.specs.Strong.{Pair}

module _ (m : System) where
  abbrev Names : List (ℕ × ℕ) → Type 0
  Names pairs = All (NamesLeaf m) (flat_map both_of pairs)

  names_first : (p q : ℕ) (xs : List ℕ) → NamesLeaf m p → NamesLeaf m q → All (NamesLeaf m) xs
      → All (NamesLeaf m) (p ∷ q ∷ xs)
  names_first p q xs is_p is_q rest =
      All-cons (NamesLeaf m) p (q ∷ xs) is_p (All-cons (NamesLeaf m) q xs is_q rest)

  of_pair : (p q : ℕ) → All (NamesLeaf m) (p ∷ q ∷ []) → NamesLeaf m p × NamesLeaf m q
  of_pair p q both = (
    All-head (NamesLeaf m) p (q ∷ []) both,
    All-head (NamesLeaf m) q [] (All-tail (NamesLeaf m) p (q ∷ []) both),
  )

  first_of : (p q : ℕ) (xs : List ℕ) → All (NamesLeaf m) (p ∷ q ∷ xs)
      → NamesLeaf m p × NamesLeaf m q × All (NamesLeaf m) xs
  first_of p q xs all =
      let rest = All-tail (NamesLeaf m) p (q ∷ xs) all in (
        All-head (NamesLeaf m) p (q ∷ xs) all,
        All-head (NamesLeaf m) q xs rest,
        All-tail (NamesLeaf m) q xs rest,
      )

  -- one pair more names leaves
  more : (pairs : List (ℕ × ℕ)) (k : ℕ) (n : ℕ × ℕ) → slice_get pairs k ≡ Some n
      → Names (take k pairs) → NamesLeaf m n.0 → NamesLeaf m n.1 → Names (take (suc k) pairs)
  more [] k n is before is_p is_q = absurd cc
  more (x ∷ xs) zero n is before is_p is_q =
      let same : n ≡ x = cc in
      names_first x.0 x.1 [] (subst (λ (y : ℕ × ℕ). NamesLeaf m y.0) same is_p)
      (subst (λ (y : ℕ × ℕ). NamesLeaf m y.1) same is_q) (All-nil (NamesLeaf m))
  more (x ∷ xs) (suc k) n is before is_p is_q =
      let parts = first_of x.0 x.1 (flat_map both_of (take k xs)) before in
      names_first x.0 x.1 (flat_map both_of (take (suc k) xs)) parts.0 parts.1
      (more xs k n is parts.2 is_p is_q)

  pub names_more : (pairs : List (ℕ × ℕ)) (k : ℕ) (n : ℕ × ℕ) → slice_get pairs k ≡ Some n
      → Names (take k pairs) → All (NamesLeaf m) (n.0 ∷ n.1 ∷ []) → Names (take (k + 1) pairs)
  names_more pairs k n is before both =
      let each = of_pair n.0 n.1 both in
      subst (λ i. Names (take i pairs)) (sym (add-one k)) (more pairs k n is before each.0 each.1)

  pub names_at : (pairs : List (ℕ × ℕ)) (k : ℕ) (n : ℕ × ℕ) → slice_get pairs k ≡ Some n
      → Names pairs → NamesLeaf m n.0 × NamesLeaf m n.1
  names_at [] k n is all = absurd cc
  names_at (x ∷ xs) zero n is all =
      let same : x ≡ n = cc in
      let parts = first_of x.0 x.1 (flat_map both_of xs) all in (
        subst (λ (y : ℕ × ℕ). NamesLeaf m y.0) same parts.0,
        subst (λ (y : ℕ × ℕ). NamesLeaf m y.1) same parts.1,
      )
  names_at (x ∷ xs) (suc k) n is all =
      names_at xs k n is (first_of x.0 x.1 (flat_map both_of xs) all).2

  -- the first other number of a pair, where all before it name leaves
  pub other_at : (pairs : List (ℕ × ℕ)) (k : ℕ) (n : ℕ × ℕ) (i : ℕ) → slice_get pairs k ≡ Some n
      → Names (take k pairs) → IsFirstOther m (n.0 ∷ n.1 ∷ []) i
      → IsFirstOther m (flat_map both_of pairs) i
  other_at [] k n i is before first = absurd cc
  other_at (x ∷ xs) zero n i is before first =
      let same : x ≡ n = cc in
      record {
        front = first.front;
        rest = first.rest ++ flat_map both_of xs;
        split = ap (λ (y : ℕ × ℕ). y.0 ∷ y.1 ∷ flat_map both_of xs) same
            ∙ ap (λ ys. ys ++ flat_map both_of xs) first.split
            ∙ append_assoc first.front (i ∷ first.rest) (flat_map both_of xs);
        before = first.before;
        other = first.other;
      }
  other_at (x ∷ xs) (suc k) n i is before first =
      let parts = first_of x.0 x.1 (flat_map both_of (take k xs)) before in
      let later = other_at xs k n i is parts.2 first in
      record {
        front = x.0 ∷ x.1 ∷ later.front;
        rest = later.rest;
        split = ap (λ ys. x.0 ∷ x.1 ∷ ys) later.split;
        before = names_first x.0 x.1 later.front parts.0 parts.1 later.before;
        other = later.other;
      }

  -- ---- the pairs of expressions that they name

  abbrev Named : ℕ × ℕ → Pair → Type 0
  Named n pair = (spec_leaf m n.0 ≡ Some pair.p) × (spec_leaf m n.1 ≡ Some pair.q)

  add : (numbers : List (ℕ × ℕ)) (k : ℕ) (n : ℕ × ℕ) (pairs : List Pair) (pair : Pair)
      → slice_get numbers k ≡ Some n → ArePairs m (take k numbers) pairs → Named n pair
      → ArePairs m (take (suc k) numbers) (pairs ++ pair ∷ [])
  add [] k n pairs pair is are named = absurd cc
  add (x ∷ xs) zero n [] pair is are named =
      let same : n ≡ x = cc in (subst (λ (y : ℕ × ℕ). Named y pair) same named, tt)
  add (x ∷ xs) zero n (y ∷ ys) pair is are named = absurd are
  add (x ∷ xs) (suc k) n [] pair is are named = absurd are
  add (x ∷ xs) (suc k) n (y ∷ ys) pair is are named =
      (are.0, add xs k n ys pair is are.1 named)

  pub pairs_more : (numbers : List (ℕ × ℕ)) (k : ℕ) (n : ℕ × ℕ) (pairs : List Pair) (pair : Pair)
      → slice_get numbers k ≡ Some n → ArePairs m (take k numbers) pairs
      → spec_leaf m n.0 ≡ Some pair.p → spec_leaf m n.1 ≡ Some pair.q
      → ArePairs m (take (k + 1) numbers) (pairs ++ pair ∷ [])
  pairs_more numbers k n pairs pair is are p q =
      subst (λ i. ArePairs m (take i numbers) (pairs ++ pair ∷ [])) (sym (add-one k))
      (add numbers k n pairs pair is are (p, q))
