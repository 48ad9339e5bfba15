-- Pins that are let go, one list after another.
use Rattle.std.proofs.Common.{◌≡◌, inl, inr, ℕ, true, false, List, [], ◌++◌, Option, IsSome, refl, sym, ◌∙◌, subst, append_assoc, append-nil}
use Rattle.std.proofs.lemmas.Bool.{both_ways, false_from_ne_true}
use Rattle.region_sets.specs.Sets.{Sets, Adds, AreDistinct, IsLive, is_one_of}
use Rattle.region_sets.specs.Ranks.{AreLive}
use Rattle.path_laws.specs.StateSet.{StateSet}
use Rattle.region_sets.proofs.Slots.{is_one_of-left, is_one_of-right, is_one_of-either, is_one_of-parts, AreDistinct-append, AreDistinct-left, AreDistinct-right, AreDistinct-apart}
use Rattle.proof_cases.specs.LetGo.{HasPins, Lessens}

live_as : (a b : Sets) (k : ℕ) → b.pins k ≡ a.pins k → IsLive a k → IsLive b k
live_as a b k same live = subst (λ (o : Option StateSet). IsSome o) (sym same) live

pub same_pins : (a b : Sets) (xs : List ℕ) → b.over ≡ a.over → ((k : ℕ) → b.pins k ≡ a.pins k) → Lessens a b xs xs
same_pins a b xs over same = record {
  over = over;
  within = λ k e. e;
  kept = λ k e. same k;
  held = λ ps qs h. record { live = λ k e. live_as a b k (same k) (h.live k e); once = h.once };
}

-- a call that leaves no pin
pub call_less : {a b : Sets} (xs : List ℕ) → Adds a b [] → Lessens a b xs xs
call_less {a} {b} xs p = same_pins a b xs p.over (λ k. p.kept k refl)

pub then_less : {a b c : Sets} {xs ys zs : List ℕ} → Lessens a b xs ys → Lessens b c ys zs → Lessens a c xs zs
then_less {a} {b} {c} {xs} {ys} {zs} p q = record {
  over = q.over ∙ p.over;
  within = λ k e. p.within k (q.within k e);
  kept = λ k e. q.kept k (false_from_ne_true (is_one_of k ys) (λ f. both_ways (is_one_of k xs) e (p.within k f))) ∙ p.kept k e;
  held = λ ps qs h. q.held ps qs (p.held ps qs h);
}

-- all of a list is let go
pub released : {a b : Sets} (xs : List ℕ) → Adds b a xs → Lessens a b xs []
released {a} {b} xs p = record {
  over = sym p.over;
  within = λ k e. absurd (both_ways false refl e);
  kept = λ k e. sym (p.kept k e);
  held = λ ps qs h.
      let right : AreDistinct (xs ++ qs) = AreDistinct-right ps (xs ++ qs) h.once in
      let apart_front : (k : ℕ) → is_one_of k ps ≡ true → is_one_of k (xs ++ qs) ≡ false =
      λ k e. false_from_ne_true (is_one_of k (xs ++ qs)) (λ f. both_ways (is_one_of k ps) (AreDistinct-apart ps (xs ++ qs) h.once k f) e) in
      let out_front : (k : ℕ) → is_one_of k ps ≡ true → is_one_of k xs ≡ false = λ k e. (is_one_of-parts k xs qs (apart_front k e)).0 in
      let out_behind : (k : ℕ) → is_one_of k qs ≡ true → is_one_of k xs ≡ false = λ k e. AreDistinct-apart xs qs right k e in
      record {
        live = λ k e. elim (is_one_of-either k ps qs e) [
          | inl f ↦ live_as a b k (sym (p.kept k (out_front k f))) (h.live k (is_one_of-left k ps (xs ++ qs) f))
          | inr f ↦ live_as a b k (sym (p.kept k (out_behind k f))) (h.live k (is_one_of-right k ps (xs ++ qs) (is_one_of-right k xs qs f)))
        ];
        once = AreDistinct-append ps qs (AreDistinct-left ps (xs ++ qs) h.once) (AreDistinct-right xs qs right) (λ k e. (is_one_of-parts k xs qs (apart_front k e)).1);
      };
}

-- a list among others
pub beside : {a b : Sets} (xs ys ps qs : List ℕ) → Lessens a b xs ys → Lessens a b (ps ++ (xs ++ qs)) (ps ++ (ys ++ qs))
beside {a} {b} xs ys ps qs p = record {
  over = p.over;
  within = λ k e. elim (is_one_of-either k ps (ys ++ qs) e) [
    | inl f ↦ is_one_of-left k ps (xs ++ qs) f
    | inr f ↦ is_one_of-right k ps (xs ++ qs) (elim (is_one_of-either k ys qs f) [
      | inl g ↦ is_one_of-left k xs qs (p.within k g)
      | inr g ↦ is_one_of-right k xs qs g
    ])
  ];
  kept = λ k e. p.kept k (is_one_of-parts k xs qs (is_one_of-parts k ps (xs ++ qs) e).1).0;
  held = λ front behind h.
      let there : (zs : List ℕ) → front ++ ((ps ++ (zs ++ qs)) ++ behind) ≡ (front ++ ps) ++ (zs ++ (qs ++ behind)) =
      λ zs. rw (append_assoc front ps (zs ++ (qs ++ behind)), append_assoc ps (zs ++ qs) behind, append_assoc zs qs behind) refl in
      subst (HasPins b) (sym (there ys)) (p.held (front ++ ps) (qs ++ behind) (subst (HasPins a) (there xs) h));
}

-- the pins of a list alone
pub alone : {a b : Sets} {xs ys : List ℕ} → Lessens a b xs ys → HasPins a xs → HasPins b ys
alone {a} {b} {xs} {ys} p h = subst (HasPins b) (append-nil ys) (p.held [] [] (subst (HasPins a) (sym (append-nil xs)) h))

pub part : (a : Sets) (ps xs qs : List ℕ) → HasPins a (ps ++ (xs ++ qs)) → HasPins a xs
part a ps xs qs h = record {
  live = λ k e. h.live k (is_one_of-right k ps (xs ++ qs) (is_one_of-left k xs qs e));
  once = AreDistinct-left xs qs (AreDistinct-right ps (xs ++ qs) h.once);
}

pub live_same : (a b : Sets) (xs : List ℕ) → ((k : ℕ) → b.pins k ≡ a.pins k) → AreLive a xs → AreLive b xs
live_same a b xs same live = λ k e. live_as a b k (same k) (live k e)
