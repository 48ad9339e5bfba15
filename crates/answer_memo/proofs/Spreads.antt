-- Lemmas on entries that move into other slots.
use Rattle.std.proofs.Common.{◌≡◌, ℕ, zero, suc, ◌+◌, ◌≤◌, ◌^◌, inl, inr, Bool, true, false, ◌==◌, List, [], ◌∷◌, ◌++◌, length, replicate, slice_get, slice_set, if◌then◌else◌, Contains, Some, refl, sym, ap, subst, ◌∙◌, arith, length-set}
use Rattle.std.specs.Map.{lookup}
use Rattle.std.proofs.lemmas.Option.{none-some}
use Rattle.lru.proofs.Splits.{Contains-nil}
use Rattle.lru.specs.LruCache.{LruCache}
use Rattle.answer_memo.specs.declared.memo.Held.{Held}
use Rattle.answer_memo.specs.declared.memo.Slot.{Slot}
use Rattle.answer_memo.specs.declared.memo.Slot.TheVariants.{Full, Free}
use Rattle.answer_memo.specs.Place.{place}
use Rattle.answer_memo.specs.Slots.{kept, of_round, of_others, is_full, IsFit, IsSpread}
use Rattle.answer_memo.proofs.Slots.{cases, kept-yes, kept-no, kept-Contains, length-kept_set, slice_get-set, same_Full}
use Rattle.answer_memo.proofs.Sweeps.{kept-replicate, slice_get-replicate}
use Rattle.answer_memo.proofs.Fits.{length-parts, in-slots, entry-cases}

-- two lists that are nothing together are nothing each
append-none : {X : Type 0} (xs ys : List X) → xs ++ ys ≡ [] → (xs ≡ []) × (ys ≡ [])
append-none [] ys e = (refl, e)
append-none (x ∷ xs) ys e = cc

module _ {K V : Type 0} where
  -- there are no more entries than slots
  pub kept-few : (p : ℕ → Bool) (slots : List (Slot K V)) → length (kept p slots) ≤ length slots
  kept-few p [] = omega arith
  kept-few p (Free ∷ slots) = omega (arith, kept-few p slots)
  kept-few p (Full h ∷ slots) = elim (cases (p h.round)) [
    | inl t ↦ omega (arith, ap (λ l. length l) (kept-yes p h slots t), kept-few p slots)
    | inr f ↦ omega (arith, ap (λ l. length l) (kept-no p h slots f), kept-few p slots)
  ]

  -- where no entry passes none is kept, and the other way round
  kept-none : (p : ℕ → Bool) (slots : List (Slot K V)) → ((j : ℕ) (h : Held K V) → slice_get slots j ≡ Some (Full h) → p h.round ≡ false) → kept p slots ≡ []
  kept-none p [] n = refl
  kept-none p (Free ∷ slots) n = kept-none p slots (λ j h e. n (suc j) h e)
  kept-none p (Full x ∷ slots) n = kept-no p x slots (n zero x refl) ∙ kept-none p slots (λ j h e. n (suc j) h e)

  none-kept : (p : ℕ → Bool) (slots : List (Slot K V)) → kept p slots ≡ [] → (j : ℕ) (h : Held K V) → slice_get slots j ≡ Some (Full h) → p h.round ≡ false
  none-kept p slots e j h at = elim (cases (p h.round)) [
    | inr f ↦ f
    | inl t ↦ absurd (Contains-nil (h.key, h.value) (subst (λ l. Contains l (h.key, h.value)) e (kept-Contains p slots j h at t)))
  ]

  -- what a slot adds to the count of the filled ones
  filled-one : (x : Slot K V) → length (kept (λ _. true) (x ∷ [])) + (if is_full x then 0 else 1) ≡ 1
  filled-one Free = refl
  filled-one (Full h) = refl

module _ {K V : Type 0} (input : K → List (List ℕ)) (slots others : List (Slot K V)) where
  -- no entry stands in empty slots
  pub IsSpread-empty : others ≡ replicate (length others) Free → IsSpread input slots others 0
  IsSpread-empty e = record {
    placed = λ j h at. absurd (slice_get-replicate (length others) j h (ap (λ xs. slice_get xs j) (sym e) ∙ at));
    among = λ j h at. absurd (slice_get-replicate (length others) j h (ap (λ xs. slice_get xs j) (sym e) ∙ at));
    count = sym (ap (λ xs. length (kept (λ _. true) xs)) e ∙ ap (λ l. length l) (kept-replicate {K = K} {V = V} (λ _. true) (length others)));
  }

  -- one more entry
  pub IsSpread-set : (n : ℕ) (h : Held K V) (x : Slot K V) (k i newly : ℕ) → slice_get slots k ≡ Some (Full h) → i ≡ place (input h.key) (length others) → slice_get others i ≡ Some x
      → newly ≡ (if is_full x then 0 else 1) → IsSpread input slots others n → IsSpread input slots (slice_set others i (Full h)) (n + newly)
  IsSpread-set n h x k i newly c at was one s = record {
    placed = λ j y e. elim (slice_get-set others i j (Full h) (Full y) e) [
      | inl f ↦ ap (place (input y.key)) same-length ∙ ap (λ z. place (input z.key) (length others)) (sym (same_Full h y f.1)) ∙ sym at ∙ sym f.0
      | inr f ↦ ap (place (input y.key)) same-length ∙ s.placed j y f.1
    ];
    among = λ j y e. elim (slice_get-set others i j (Full h) (Full y) e) [
      | inl f ↦ (k, c ∙ ap Some f.1)
      | inr f ↦ s.among j y f.1
    ];
    count = omega (arith, s.count, one, filled-one x, length-kept_set (λ _. true) others i x (Full h) was);
  }
    where
      same-length : length (slice_set others i (Full h)) ≡ length others
      same-length = length-set others i (Full h)

  -- so many are filled at most
  pub IsSpread-count : (n : ℕ) → IsSpread input slots others n → n ≤ length others
  IsSpread-count n s = omega (arith, s.count, kept-few (λ _. true) others)

module _ {K V : Type 0} (slots : List (Slot K V)) (rest : LruCache K V) (round : ℕ) (begun : of_round round slots ++ rest.entries ≡ []) where
  no-round : of_round round slots ≡ []
  no-round = (append-none (of_round round slots) rest.entries begun).0

  pub no-rest : rest.entries ≡ []
  no-rest = (append-none (of_round round slots) rest.entries begun).1

module _ {K V : Type 0} (eq : K → K → Bool) (input : K → List (List ℕ)) (slots others : List (Slot K V)) (filled n : ℕ) (rest : LruCache K V) (round fresh cap : ℕ) (fit : IsFit eq input slots filled rest round fresh cap)
    (begun : of_round round slots ++ rest.entries ≡ []) (s : IsSpread input slots others n) where
  pub spread-round : of_round round others ≡ []
  spread-round = kept-none (λ r. r == round) others (λ j h at. let a = s.among j h at in none-kept (λ r. r == round) slots (no-round slots rest round begun) a.0 h a.1)

  -- the slots of a round that has no entry yet may be others
  pub IsFit-spread : length others ≤ 2 ^ 20 → length others ≤ cap → IsFit eq input others n rest round fresh cap
  IsFit-spread few room = record {
    few_slots = few;
    placed = s.placed;
    shared = λ k v g j e h. absurd (none-some v (sym (ap (lookup (eq k)) (no-rest slots rest round begun)) ∙ g));
    apart = λ j h at. ap (lookup (eq h.key)) (no-rest slots rest round begun);
    earlier = λ j h at. let a = s.among j h at in fit.earlier a.0 h a.1;
    count = omega (arith, s.count, length-parts round others);
    fresh_count = omega (arith, fit.fresh_count, ap (λ l. length l) (no-round slots rest round begun), ap (λ l. length l) spread-round);
    room = omega (arith, s.count, kept-few (λ _. true) others, ap (λ l. length l) (no-rest slots rest round begun), room);
    rest_room = fit.rest_room;
    some = fit.some;
  }

  -- each entry afterwards was one before
  pub spread-within : (k : K) (v : V) → Contains (of_round round others ++ rest.entries ++ of_others round others) (k, v) → Contains (of_round round slots ++ rest.entries ++ of_others round slots) (k, v)
  spread-within k v c = elim (entry-cases round others rest.entries k v c) [
    | inl f ↦
        let a = s.among f.0 f.1 f.2 in
        subst (λ e. Contains (of_round round slots ++ rest.entries ++ of_others round slots) e) (λ j. (f.3 j, f.4 j)) (in-slots round slots rest.entries a.0 f.1 a.1)
    | inr e ↦ absurd (Contains-nil (k, v) (subst (λ l. Contains l (k, v)) (no-rest slots rest round begun) e))
  ]
