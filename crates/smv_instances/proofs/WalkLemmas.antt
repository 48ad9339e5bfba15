-- The walk over bodies: how its parts come together.
use Rattle.std.proofs.Common.{◌≡◌, refl, sym, ◌∙◌, ap, subst, ℕ, zero, suc, ◌<◌, ◌≤◌, arith, List, [], ◌∷◌, ◌++◌, length, take, append_assoc, length-append, Some, None, ◌⊎◌, inl, inr, ⊎_elim}
use Rattle.std.specs.Prelude.{slice_get}
use Rattle.std.proofs.lemmas.Option.{same_Some}
use Rattle.smv_instances.specs.declared.modules.Modules.{Modules}
use Rattle.smv_instances.specs.declared.rows.Walk.{Walk}
use Rattle.smv_instances.specs.Program.{Program}
use Rattle.smv_instances.specs.Instances.{Scope, children, instances_from}
use Rattle.smv_instances.specs.Declarations.{body}
use Rattle.std.specs.List.{AllZip}
use Rattle.smv_instances.specs.Walk.{HasWalked, Visited, updated, inside}
use Rattle.smv_instances.proofs.FirstSteps.{silent_append}
use Rattle.smv_instances.proofs.RowLemmas.{slice_get_left}

-- ---- lists

pub below_or : (k n : ℕ) → (k < n) ⊎ (n ≤ k)
below_or k zero = inr (omega arith)
below_or zero (suc n) = inl (omega arith)
below_or (suc k) (suc n) = ⊎_elim (λ h. inl (omega arith)) (λ h. inr (omega arith)) (below_or k n)

slice_get-take : {A : Type 0} (xs : List A) (n k : ℕ) → k < n → slice_get (take n xs) k ≡ slice_get xs k
slice_get-take [] zero k lt = refl
slice_get-take [] (suc n) k lt = refl
slice_get-take (x ∷ xs) zero k lt = absurd (omega arith)
slice_get-take (x ∷ xs) (suc n) zero lt = refl
slice_get-take (x ∷ xs) (suc n) (suc k) lt = slice_get-take xs n k (omega arith)

pub kept_get : {A : Type 0} (xs ys : List A) (n k : ℕ) → take n xs ≡ take n ys → k < n → slice_get xs k ≡ slice_get ys k
kept_get xs ys n k e lt = sym (slice_get-take xs n k lt) ∙ ap (λ zs. slice_get zs k) e ∙ slice_get-take ys n k lt

take_take : {A : Type 0} (n m : ℕ) (xs : List A) → n ≤ m → take n (take m xs) ≡ take n xs
take_take zero m xs le = refl
take_take (suc n) zero xs le = absurd (omega arith)
take_take (suc n) (suc m) [] le = refl
take_take (suc n) (suc m) (x ∷ xs) le = ap (λ ys. x ∷ ys) (take_take n m xs (omega arith))

pub kept_less : {A : Type 0} (n m : ℕ) (xs ys : List A) → n ≤ m → take m xs ≡ take m ys → take n xs ≡ take n ys
kept_less n m xs ys le e = sym (take_take n m xs le) ∙ ap (take n) e ∙ take_take n m ys le

pub front_get : {A : Type 0} (xs ys : List A) (k : ℕ) (x : A) → k < length xs → slice_get (xs ++ ys) k ≡ Some x → slice_get xs k ≡ Some x
front_get [] ys k x lt e = absurd (omega arith)
front_get (y ∷ xs) ys zero x lt e = e
front_get (y ∷ xs) ys (suc k) x lt e = front_get xs ys k x (omega arith) e

pub pairs_weaken : {A B : Type 0} (R S : A → B → Type 0) → ((x : A) (y : B) → R x y → S x y) → (xs : List A) (ys : List B) → AllZip R xs ys → AllZip S xs ys
pairs_weaken R S f [] [] h = tt
pairs_weaken R S f [] (y ∷ ys) h = absurd h
pairs_weaken R S f (x ∷ xs) [] h = absurd h
pairs_weaken R S f (x ∷ xs) (y ∷ ys) h = (f x y h.0, pairs_weaken R S f xs ys h.1)

pub length-updated : {A : Type 0} (xs : List A) (n : ℕ) (f : A → A) → length (updated xs n f) ≡ length xs
length-updated [] n f = refl
length-updated (x ∷ xs) zero f = refl
length-updated (x ∷ xs) (suc n) f = ap suc (length-updated xs n f)

-- a member of the changed list is one of the old, or the one that was changed
pub record OfUpdated {A : Type 0} (xs : List A) (n : ℕ) (f : A → A) (k : ℕ) (y : A) : Type 0 where
  pub old : A
  pub stood : slice_get xs k ≡ Some old
  pub is : ((k ≡ n) × (y ≡ f old)) ⊎ (y ≡ old)

pub updated_get : {A : Type 0} (xs : List A) (n : ℕ) (f : A → A) (k : ℕ) (y : A) → slice_get (updated xs n f) k ≡ Some y → OfUpdated xs n f k y
updated_get [] n f k y e = absurd (let none : None ≡ Some y = e in cc)
updated_get (x ∷ xs) zero f zero y e = record { old = x; stood = refl; is = inl (refl, sym (same_Some _ _ e)) }
updated_get (x ∷ xs) zero f (suc k) y e = record { old = y; stood = e; is = inr refl }
updated_get (x ∷ xs) (suc n) f zero y e = record { old = y; stood = e; is = inr refl }
updated_get (x ∷ xs) (suc n) f (suc k) y e =
    let later = updated_get xs n f k y e in
    record { old = later.old; stood = later.stood; is = ⊎_elim (λ h. inl (ap suc h.0, h.1)) (λ h. inr h) later.is }

pub take-updated : {A : Type 0} (xs : List A) (n : ℕ) (f : A → A) → take n (updated xs n f) ≡ take n xs
take-updated [] n f = refl
take-updated (x ∷ xs) zero f = refl
take-updated (x ∷ xs) (suc n) f = ap (λ ys. x ∷ ys) (take-updated xs n f)

pub updated_at : {A : Type 0} (xs : List A) (n : ℕ) (f : A → A) (y : A) → slice_get (updated xs n f) n ≡ Some y → (old : A) × (slice_get xs n ≡ Some old) × (y ≡ f old)
updated_at [] n f y e = absurd (let none : None ≡ Some y = e in cc)
updated_at (x ∷ xs) zero f y e = (x, refl, sym (same_Some _ _ e))
updated_at (x ∷ xs) (suc n) f y e = updated_at xs n f y e

pub updated_past : {A : Type 0} (xs : List A) (n : ℕ) (f : A → A) (k : ℕ) → n < k → slice_get (updated xs n f) k ≡ slice_get xs k
updated_past [] n f k lt = refl
updated_past (x ∷ xs) zero f zero lt = absurd (omega arith)
updated_past (x ∷ xs) zero f (suc k) lt = refl
updated_past (x ∷ xs) (suc n) f zero lt = absurd (omega arith)
updated_past (x ∷ xs) (suc n) f (suc k) lt = updated_past xs n f k (omega arith)

-- ---- the walk goes on

module _ (ms : Modules) (p : Program) where
  pub visited_more : (old mid new : Walk) (done added more : List Scope) → Visited ms p old mid done added (length done) → Visited ms p mid new (done ++ added) more (length (done ++ added)) → Visited ms p old new done (added ++ more) (length done)
  visited_more old mid new done added more first second = record {
    reaches = subst (λ xs. HasWalked ms new xs xs) (append_assoc done added more) second.reaches;
    linked = λ k row s from at_row at_s. ⊎_elim
        (λ (lt : k < length (done ++ added)).
        let here : slice_get (done ++ added) k ≡ Some s = front_get (done ++ added) more k s lt (ap (λ xs. slice_get xs k) (append_assoc done added more) ∙ at_s) in
        pairs_weaken (λ n c. slice_get (done ++ added) n ≡ Some c) (λ n c. slice_get (done ++ (added ++ more)) n ≡ Some c)
        (λ n c e. ap (λ xs. slice_get xs n) (sym (append_assoc done added more)) ∙ slice_get_left (done ++ added) more n c e) row.children.items (children p s)
        (first.linked k row s from (sym (kept_get new.rows.items mid.rows.items (length (done ++ added)) k second.kept lt) ∙ at_row) here))
        (λ (ge : length (done ++ added) ≤ k).
        pairs_weaken (λ n c. slice_get ((done ++ added) ++ more) n ≡ Some c) (λ n c. slice_get (done ++ (added ++ more)) n ≡ Some c)
        (λ n c e. ap (λ xs. slice_get xs n) (sym (append_assoc done added more)) ∙ e) row.children.items (children p s)
        (second.linked k row s ge at_row (ap (λ xs. slice_get xs k) (append_assoc done added more) ∙ at_s)))
        (below_or k (length (done ++ added)));
    kept = kept_less (length done) (length (done ++ added)) new.rows.items mid.rows.items (omega (arith, length-append done added)) second.kept ∙ first.kept;
    silent = silent_append (body p) done added more first.silent second.silent;
  }

  pub instances_inside : (n : ℕ) (s : Scope) → instances_from p n s ≡ s ∷ inside p n s
  instances_inside zero s = refl
  instances_inside (suc n) s = refl
