-- Pins that come and go, over several calls.
use Rattle.std.proofs.Common.{◌≡◌, inl, inr, ℕ, true, false, List, [], ◌++◌, Option, None, refl, sym, ◌∙◌, subst, arith, length-append}
use Rattle.std.specs.Prelude.{IsSome}
use Rattle.std.proofs.lemmas.Bool.{both_ways, cases_Bool, false_from_ne_true}
use Rattle.path_laws.specs.StateSet.{StateSet}
use Rattle.region_sets.specs.Sets.{Sets, is_one_of, Adds, IsLive}
use Rattle.region_sets.proofs.Slots.{is_one_of-left, is_one_of-right, is_one_of-neither, is_one_of-parts, is_one_of-either, AreDistinct-append, AreDistinct-right, AreDistinct-apart, AreDistinct-swap, is_one_of-swap, is_one_of-exchange, AreDistinct-exchange}

not_both : (o : Option StateSet) → IsSome o → o ≡ None → ⊥
not_both o h e = let g : IsSome {T = StateSet} None = subst (λ p. IsSome p) e h in both_ways false refl g

pub adds_nothing : (a : Sets) → Adds a a []
adds_nothing a = record {
  over = refl;
  room = refl;
  gauge = refl;
  live = omega arith;
  once = tt;
  fresh = λ k h. absurd (both_ways false refl h);
  there = λ k h. absurd (both_ways false refl h);
  kept = λ k h. refl;
}

-- a live pin isn't among those that came later
pub was_there : {a b : Sets} {xs : List ℕ} → Adds a b xs → (k : ℕ) → IsLive a k → is_one_of k xs ≡ false
was_there {a} {b} {xs} p k h = false_from_ne_true (is_one_of k xs) (λ e. not_both (a.pins k) h (p.fresh k e))

-- and stands for what it stood for
pub stays : {a b : Sets} {xs : List ℕ} → Adds a b xs → (k : ℕ) → IsLive a k → b.pins k ≡ a.pins k
stays p k h = p.kept k (was_there p k h)

pub stays_live : {a b : Sets} {xs : List ℕ} → Adds a b xs → (k : ℕ) → IsLive a k → IsLive b k
stays_live p k h = subst (λ o. IsSome o) (sym (stays p k h)) h

pub adds_more : {a b c : Sets} {xs ys : List ℕ} → Adds a b xs → Adds b c ys → Adds a c (ys ++ xs)
adds_more {a} {b} {c} {xs} {ys} p q = record {
  over = q.over ∙ p.over;
  room = q.room ∙ p.room;
  gauge = q.gauge ∙ p.gauge;
  live = omega (arith, p.live, q.live, length-append ys xs);
  once = AreDistinct-append ys xs q.once p.once apart;
  fresh = λ k h. elim (is_one_of-either k ys xs h) [
    | inl e ↦ sym (p.kept k (apart k e)) ∙ q.fresh k e
    | inr e ↦ p.fresh k e
  ];
  there = λ k h. elim (is_one_of-either k ys xs h) [
    | inl e ↦ q.there k e
    | inr e ↦ stays_live q k (p.there k e)
  ];
  kept = λ k h. let n = is_one_of-parts k ys xs h in q.kept k n.0 ∙ p.kept k n.1;
}
  where
    apart : (k : ℕ) → is_one_of k ys ≡ true → is_one_of k xs ≡ false
    apart k h = false_from_ne_true (is_one_of k xs) (λ e. not_both (b.pins k) (p.there k e) (q.fresh k h))

-- what came and went leaves the rest
pub takes_back : {a b c : Sets} {xs ys : List ℕ} → Adds a b (xs ++ ys) → Adds c b xs → Adds a c ys
takes_back {a} {b} {c} {xs} {ys} p q = record {
  over = sym q.over ∙ p.over;
  room = sym q.room ∙ p.room;
  gauge = sym q.gauge ∙ p.gauge;
  live = omega (arith, p.live, q.live, length-append xs ys);
  once = AreDistinct-right xs ys p.once;
  fresh = λ k h. p.fresh k (is_one_of-right k xs ys h);
  there = λ k h. subst (λ o. IsSome o) (q.kept k (AreDistinct-apart xs ys p.once k h)) (p.there k (is_one_of-right k xs ys h));
  kept = λ k h. elim (cases_Bool (is_one_of k xs)) [
    | inl e ↦ q.fresh k e ∙ sym (p.fresh k (is_one_of-left k xs ys e))
    | inr e ↦ sym (q.kept k e) ∙ p.kept k (is_one_of-neither k xs ys e h)
  ];
}

pub swaps : {a b : Sets} (xs ys : List ℕ) → Adds a b (xs ++ ys) → Adds a b (ys ++ xs)
swaps xs ys p = record {
  over = p.over;
  room = p.room;
  gauge = p.gauge;
  live = omega (arith, p.live, length-append xs ys, length-append ys xs);
  once = AreDistinct-swap xs ys p.once;
  fresh = λ k h. p.fresh k (is_one_of-swap k xs ys ∙ h);
  there = λ k h. p.there k (is_one_of-swap k xs ys ∙ h);
  kept = λ k h. p.kept k (is_one_of-swap k xs ys ∙ h);
}

pub adds_after : {a b c : Sets} {xs ys : List ℕ} → Adds a b xs → Adds b c ys → Adds a c (xs ++ ys)
adds_after {a} {b} {c} {xs} {ys} p q = swaps ys xs (adds_more p q)

pub exchanges : {a b : Sets} (zs xs ys : List ℕ) → Adds a b (zs ++ (xs ++ ys)) → Adds a b (zs ++ (ys ++ xs))
exchanges zs xs ys p = record {
  over = p.over;
  room = p.room;
  gauge = p.gauge;
  live = omega (arith, p.live, length-append zs (xs ++ ys), length-append xs ys, length-append zs (ys ++ xs), length-append ys xs);
  once = AreDistinct-exchange zs xs ys p.once;
  fresh = λ k h. p.fresh k (is_one_of-exchange k zs xs ys ∙ h);
  there = λ k h. p.there k (is_one_of-exchange k zs xs ys ∙ h);
  kept = λ k h. p.kept k (is_one_of-exchange k zs xs ys ∙ h);
}
