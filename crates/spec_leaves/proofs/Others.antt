-- The first of some numbers whose specification isn't there, or holds a path operator.
use Rattle.std.proofs.Common.{◌≡◌, ◌∙◌, ℕ, zero, suc, ◌+◌, ◌-◌, ◌≤◌, ◌<◌, Bool, true, false, List, [], ◌∷◌, ◌++◌}
use Rattle.std.proofs.Common.{length, take, drop, get_or, Option, Some, None, is_some, IsSome}
use Rattle.std.proofs.Common.{option_map, refl, sym, ap, subst, arith, All, MatchOption}
use Rattle.std.proofs.lemmas.List.{take_all}
use Rattle.std.proofs.lemmas.List.Elements.{All-cons, All-head, All-tail}
use Rattle.kripke_model.specs.System.{System}
use Rattle.kripke_model.specs.Term.{Term}
use Rattle.spec_leaves.specs.Named.{IsFirstOther, NamesLeaf, spec_leaf}

none_found : {A B : Type 0} (f : A → B) (o : Option A) (leaf : Option B) → option_map f o ≡ leaf
    → is_some o ≡ false → leaf ≡ None
none_found f None leaf e h = sym e
none_found f (Some a) leaf e h = let bad : true ≡ false = h in cc

some_found : {A B : Type 0} (f : A → B) (o : Option A) (leaf : Option B) → option_map f o ≡ leaf
    → is_some o ≡ true → IsSome leaf
some_found f None leaf e h = let bad : false ≡ true = h in cc
some_found f (Some a) leaf e h = subst IsSome e refl

module _ (m : System) where
  -- a number in front of the others
  front_other : (j : ℕ) (numbers : List ℕ) → spec_leaf m j ≡ None → IsFirstOther m (j ∷ numbers) j
  front_other j numbers other = record {
    front = [];
    rest = numbers;
    split = refl;
    before = λ k d lt. absurd (omega (arith, lt));
    other = other;
  }

  later_other : (j i : ℕ) (numbers : List ℕ) → NamesLeaf m j → IsFirstOther m numbers i
      → IsFirstOther m (j ∷ numbers) i
  later_other j i numbers leaf first = record {
    front = j ∷ first.front;
    rest = first.rest;
    split = ap (λ more. j ∷ more) first.split;
    before = All-cons (NamesLeaf m) j first.front leaf first.before;
    other = first.other;
  }

  with_front : (j : ℕ) (numbers : List ℕ) → NamesLeaf m j → (o : Option ℕ)
      → MatchOption o (All (NamesLeaf m) numbers) (IsFirstOther m numbers)
      → MatchOption o (All (NamesLeaf m) (j ∷ numbers)) (IsFirstOther m (j ∷ numbers))
  with_front j numbers leaf None all = All-cons (NamesLeaf m) j numbers leaf all
  with_front j numbers leaf (Some i) first = later_other j i numbers leaf first

  pub first_here : {A : Type 0} (f : A → Term) (numbers : List ℕ) (o : Option A)
      → 1 ≤ length numbers → option_map f o ≡ spec_leaf m (get_or numbers 0 0) → is_some o ≡ false
      → IsFirstOther m numbers (get_or numbers 0 0)
  first_here f [] o some e h = absurd (omega (arith, some))
  first_here f (j ∷ numbers) o some e h = front_other j numbers (none_found f o _ e h)

  pub first_later : {A : Type 0} (f : A → Term) (numbers : List ℕ) (o : Option A)
      → 1 ≤ length numbers → option_map f o ≡ spec_leaf m (get_or numbers 0 0) → is_some o ≡ true
      → (found : Option ℕ) → (let rest = take (length numbers - 1) (drop 1 numbers) in
      MatchOption found (All (NamesLeaf m) rest) (IsFirstOther m rest))
      → MatchOption found (All (NamesLeaf m) numbers) (IsFirstOther m numbers)
  first_later f [] o some e h found rest = absurd (omega (arith, some))
  first_later f (j ∷ numbers) o some e h found rest =
      with_front j numbers (some_found f o _ e h) found
      (subst (λ more. MatchOption found (All (NamesLeaf m) more) (IsFirstOther m more))
      (take_all (suc (length numbers) - 1) numbers (omega arith)) rest)

  -- ---- there is one, or each number names a leaf

  leaf_or_none : (j : ℕ) → NamesLeaf m j → spec_leaf m j ≡ None → ⊥
  leaf_or_none j leaf none = let bad : IsSome {T = Term} None = subst IsSome none leaf in cc

  pub not_both : (numbers : List ℕ) (i : ℕ) → All (NamesLeaf m) numbers → IsFirstOther m numbers i → ⊥
  not_both numbers i all first = go first.front numbers first.split all
    where
      go : (front numbers : List ℕ) → numbers ≡ front ++ i ∷ first.rest → All (NamesLeaf m) numbers → ⊥
      go [] numbers split all =
          leaf_or_none i (All-head (NamesLeaf m) i first.rest (subst (All (NamesLeaf m)) split all)) first.other
      go (j ∷ front) numbers split all =
          go front (front ++ i ∷ first.rest) refl
          (All-tail (NamesLeaf m) j (front ++ i ∷ first.rest) (subst (All (NamesLeaf m)) split all))

  pub one_first : (numbers : List ℕ) (i k : ℕ) → IsFirstOther m numbers i → IsFirstOther m numbers k
      → i ≡ k
  one_first numbers i k a b =
      go a.front b.front (sym a.split ∙ b.split) a.before b.before
    where
      go : (front other : List ℕ) → front ++ i ∷ a.rest ≡ other ++ k ∷ b.rest
          → All (NamesLeaf m) front → All (NamesLeaf m) other → i ≡ k
      go [] [] e before after = head_same e
        where
          head_same : i ∷ a.rest ≡ k ∷ b.rest → i ≡ k
          head_same e = cc
      go [] (j ∷ other) e before after =
          absurd (leaf_or_none i (subst (NamesLeaf m) (head_same e) (All-head (NamesLeaf m) j other after)) a.other)
        where
          head_same : i ∷ a.rest ≡ j ∷ other ++ k ∷ b.rest → j ≡ i
          head_same e = cc
      go (j ∷ front) [] e before after =
          absurd (leaf_or_none k (subst (NamesLeaf m) (head_same e) (All-head (NamesLeaf m) j front before)) b.other)
        where
          head_same : j ∷ front ++ i ∷ a.rest ≡ k ∷ b.rest → j ≡ k
          head_same e = cc
      go (j ∷ front) (x ∷ other) e before after =
          go front other (tail_same e) (All-tail (NamesLeaf m) j front before)
          (All-tail (NamesLeaf m) x other after)
        where
          tail_same : j ∷ front ++ i ∷ a.rest ≡ x ∷ other ++ k ∷ b.rest
              → front ++ i ∷ a.rest ≡ other ++ k ∷ b.rest
          tail_same e = cc
