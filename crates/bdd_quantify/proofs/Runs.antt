-- Lemmas on the recursion of a product.
use Rattle.std.proofs.Common.{◌≡◌, ℕ, zero, suc, ◌+◌, ◌-◌, ◌*◌, ◌^◌, ◌<◌, ◌≤◌, min, Bool, true, false, ◌&&◌, ◌||◌, if◌then◌else◌, List, [], ◌∷◌, length, Option, None, Some, IfSome, MatchOption, Result, Ok, Err, IfOk, slice_get, slice_index_or, unwrap_or, refl, sym, ap, subst, arith}
use Rattle.bdd_nodes.specs.declared.store.Store.{Store}
use Rattle.bdd_nodes.specs.Store.{triples, levels_of, Has, level_of, value_of, Grows, IsNodeOf}
use Rattle.bdd_ops.specs.Answer.{list_at, some_choice}
use Rattle.bdd_ops.specs.declared.operand.Cofactors.{Cofactors}
use Rattle.bdd_ops.specs.Kept.{IsRegion}
use Rattle.bdd_quantify.specs.Product.{IsProduct, IsEntry}
use Rattle.bdd_ops.proofs.Choices.{IsAway, Rises}
use Rattle.bdd_quantify.proofs.Counts.{count-one, count-low, count-both}
use Rattle.bdd_quantify.proofs.Products.{IsProduct-past, IsProduct-grows, AreSides, AreSides-grows, sides-inside, sides-low, sides-high, IsProduct-union, IsProduct-node, product-before, exists-before}

-- the list stands at the place
abbrev pub HasList : Option ℕ → List ℕ → List (List ℕ) → Type 0
HasList place ls lists = IfSome place (λ p. slice_get lists p ≡ Some ls)

-- what is so of the list at a place is so of the list
pub listed : (place : Option ℕ) (P : List ℕ → Type 0) (lists : List (List ℕ)) (ls : List ℕ) → HasList place ls lists → MatchOption place ⊥ (λ p. P (list_at lists p)) → P ls
listed None P lists ls e h = absurd h
listed (Some p) P lists ls e h = subst P (ap (λ o. unwrap_or o []) e) h

slice_get-in : {X : Type 0} (xs : List X) (i : ℕ) (x : X) → slice_get xs i ≡ Some x → i + 1 ≤ length xs
slice_get-in [] i x e = cc
slice_get-in (x ∷ xs) zero y e = omega arith
slice_get-in (x ∷ xs) (suc i) y e = omega (arith, slice_get-in xs i y e)

pub entry : (s : Store) (lists : List (List ℕ)) (ls : List ℕ) (f g r : ℕ) (place : Option ℕ) → HasList place ls lists → IsProduct s ls f g r → IfSome place (IsEntry s lists f g r)
entry s lists ls f g r None e h = tt
entry s lists ls f g r (Some p) e h = record {
  listed = slice_get-in lists p ls e;
  product = subst (λ l. IsProduct s l f g r) (sym (ap (λ o. unwrap_or o []) e)) h;
}

-- the conjunction, where no named level is left
pub past_result : {E : Type 0} (old new : Store) → Grows old new → (ls : List ℕ) (f g level : ℕ) → Has old f → Has old g → level ≡ min (level_of old f) (level_of old g) → ((k : ℕ) → k < length ls → slice_index_or ls k 0 < level)
    → (r : Result ℕ E) → IfOk r (λ x. IsRegion new x (λ bits. value_of old f bits && value_of old g bits)) → IfOk r (IsProduct new ls f g)
past_result old new w ls f g level hf hg top past (Ok r) h = IsProduct-past old new w ls f g level r hf hg top past h.has h.value
past_result old new w ls f g level hf hg top past (Err e) h = tt

-- what joins both sides is the product
pub joined : (old new : Store) → Grows old new → (f g : ℕ) (n : Cofactors) → AreSides old f g n → (ls : List ℕ) → Rises ls → (low high r : ℕ) → IsProduct old ls n.low.0 n.low.1 low → IsProduct old ls n.high.0 n.high.1 high → Has new r
    → (named : Bool) → (named ≡ true → (k : ℕ) × (k < length ls) × (slice_index_or ls k 0 ≡ n.level)) → (named ≡ false → IsAway n.level ls)
    → (named ≡ true → (bits : List Bool) → value_of new r bits ≡ (value_of old low bits || value_of old high bits)) → (named ≡ false → IsNodeOf new n.level low high r) → IsProduct new ls f g r
joined old new w f g n a ls up low high r p q has true there away union node =
    let at = there refl in
    IsProduct-union old f g n a ls low high p q new w up at.0 at.1 at.2 r has (union refl)
joined old new w f g n a ls up low high r p q has false there away union node =
    IsProduct-node new f g n (AreSides-grows old new w f g n a) ls low high (IsProduct-grows old new w ls n.low.0 n.low.1 low p) (IsProduct-grows old new w ls n.high.0 n.high.1 high q) (away refl) r has (node refl)

-- so many triples are within the bound of a call
abbrev pub IsWithin : ℕ → ℕ → ℕ → Store → Type 0
IsWithin f g n s = n + 2 ^ levels_of s ≤ length (triples s) + 2 ^ levels_of s * 2 ^ (levels_of s - min (level_of s f) (level_of s g))

module _ (s : Store) (f g : ℕ) (n : Cofactors) (a : AreSides s f g n) where
  inside : min (level_of s f) (level_of s g) < levels_of s
  inside = omega (arith, a.top, sides-inside s f g n a)

  low-under : min (level_of s f) (level_of s g) < min (level_of s n.low.0) (level_of s n.low.1)
  low-under = omega (arith, a.top, (sides-low s f g n a).deep_x, (sides-low s f g n a).deep_y)

  -- what one operation added, one side, and both with the operation that joins them
  pub one-within : (after : ℕ) → after ≤ length (triples s) + 2 ^ levels_of s → IsWithin f g after s
  one-within after h = count-one (levels_of s) (min (level_of s f) (level_of s g)) (length (triples s)) after inside h

  pub low-within : (after : ℕ) → IsWithin n.low.0 n.low.1 after s → IsWithin f g after s
  low-within after h = count-low (levels_of s) (min (level_of s f) (level_of s g)) (min (level_of s n.low.0) (level_of s n.low.1)) (length (triples s)) after low-under inside h

  pub both-within : (new : Store) → Grows s new → (after last : ℕ) → IsWithin n.low.0 n.low.1 (length (triples new)) s → IsWithin n.high.0 n.high.1 after new → last ≤ after + 2 ^ levels_of s → IsWithin f g last s
  both-within new w after last h i j =
      let high = sides-high s f g n a in
      let top = min (level_of s n.high.0) (level_of s n.high.1) in
      let same : min (level_of new n.high.0) (level_of new n.high.1) ≡ top = λ j. min (w.level n.high.0 high.has_x j) (w.level n.high.1 high.has_y j) in
      let between = length (triples new) in
      let i0 = subst (λ m. after + 2 ^ levels_of new ≤ between + 2 ^ levels_of new * 2 ^ (levels_of new - m)) same i in
      let i1 = subst (λ l. after + 2 ^ l ≤ between + 2 ^ l * 2 ^ (l - top)) w.levels i0 in
      count-both (levels_of s) (min (level_of s f) (level_of s g)) (min (level_of s n.low.0) (level_of s n.low.1)) top (length (triples s)) between after last
      low-under (omega (arith, a.top, high.deep_x, high.deep_y)) inside h i1 j

pub exists_region : {E : Type 0} (old new : Store) → Grows old new → (ls : List ℕ) (f : ℕ) → Has old f → (r : Result ℕ E) → IfOk r (IsProduct new ls f 1) → IfOk r (λ x. IsRegion new x (λ bits. some_choice (value_of old f) ls bits))
exists_region old new w ls f hf (Ok r) h = record { has = h.has; value = exists-before old new w ls f r hf h }
exists_region old new w ls f hf (Err e) h = tt

pub product_region : {E : Type 0} (old new : Store) → Grows old new → (ls : List ℕ) (f g : ℕ) → Has old f → Has old g → (r : Result ℕ E) → IfOk r (IsProduct new ls f g) → IfOk r (λ x. IsRegion new x (λ bits. some_choice (λ bs. value_of old f bs && value_of old g bs) ls bits))
product_region old new w ls f g hf hg (Ok r) h = record { has = h.has; value = product-before old new w ls f g r hf hg h }
product_region old new w ls f g hf hg (Err e) h = tt

-- a count that stays or rises to at most its last value never falls
pub never_falls : (b : Bool) (old new last : ℕ) → new ≡ (if b then old else min (old + 1) last) → old ≤ last → old ≤ new
never_falls true old new last e h = omega (arith, e)
never_falls false old new last e h = omega (arith, e)
