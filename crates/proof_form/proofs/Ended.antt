-- Pins of a proof's parts that are released in turn.
use Rattle.std.proofs.Common.{◌≡◌, ℕ, List, [], ◌∷◌, ◌++◌, sym, ◌∙◌, ap, subst, refl, append_assoc}
use Rattle.std.specs.Prelude.{flat_map}
use Rattle.std.specs.Global.{Vec}
use Rattle.region_sets.specs.declared.pins.Pin.{Pin}
use Rattle.region_sets.specs.Sets.{Sets, Adds, AreDistinct}
use Rattle.region_sets.specs.Ranks.{slots, lists_slots, AreLive}
use Rattle.region_sets.proofs.Slots.{AreDistinct-left, AreDistinct-right}
use Rattle.region_sets.proofs.Changes.{adds_more}
use Rattle.region_sets.proofs.Released.{slots-append, next_live, next_once, live_after}
use Rattle.proof_form.specs.Filling.{lists_of}

pub lists_are : (lists : List (Vec Pin)) → slots (flat_map (λ sets. sets) (lists_of lists)) ≡ lists_slots lists
lists_are [] = refl
lists_are (list ∷ lists) = slots-append list.items (flat_map (λ sets. sets) (lists_of lists)) ∙ ap (λ ks. slots list.items ++ ks) (lists_are lists)

-- ---- the last of the elements that are left

module _ {X : Type 0} (F : List X → List Pin) (append : (xs ys : List X) → F (xs ++ ys) ≡ F xs ++ F ys) {start now : Sets} (all whole rest : List X) (x : X) (ys : List Pin) (gone : List ℕ)
    (popped : whole ≡ rest ++ x ∷ []) (one : F (x ∷ []) ≡ ys) (live : AreLive start (slots (F all))) (once : AreDistinct (slots (F all)))
    (split : slots (F all) ≡ slots (F whole) ++ gone) (p : Adds now start gone) where
  popped_parts : slots (F all) ≡ (slots (F rest) ++ slots ys) ++ gone
  popped_parts = split ∙ ap (λ ks. ks ++ gone) (ap (λ xs. slots (F xs)) popped ∙ ap slots (append rest (x ∷ []) ∙ ap (λ zs. F rest ++ zs) one) ∙ slots-append (F rest) ys)

  pub popped_live : AreLive now (slots ys)
  popped_live = next_live start now (slots (F all)) (slots (F rest)) (slots ys) gone live once popped_parts p

  pub popped_once : AreDistinct (slots ys)
  popped_once = next_once (slots (F all)) (slots (F rest)) (slots ys) gone once popped_parts

  pub popped_split : slots (F all) ≡ slots (F rest) ++ (slots ys ++ gone)
  popped_split = popped_parts ∙ append_assoc (slots (F rest)) (slots ys) gone

-- ---- two parts

module _ (a : Sets) (zs xs ys : List Pin) (split : zs ≡ xs ++ ys) (live : AreLive a (slots zs)) (once : AreDistinct (slots zs)) where
  both_slots : slots zs ≡ slots xs ++ slots ys
  both_slots = ap slots split ∙ slots-append xs ys

  pub first_once : AreDistinct (slots xs)
  first_once = AreDistinct-left (slots xs) (slots ys) (subst AreDistinct both_slots once)

  pub second_once : AreDistinct (slots ys)
  second_once = AreDistinct-right (slots xs) (slots ys) (subst AreDistinct both_slots once)

  pub left_live : {b : Sets} → Adds b a (slots xs) → AreLive b (slots ys)
  left_live {b} p = live_after a b (slots zs) (slots xs) (slots ys) live once both_slots p

  pub both_ended : {b c : Sets} → Adds b a (slots xs) → Adds c b (slots ys) → Adds c a (slots zs)
  both_ended {b} {c} p q = subst (λ ks. Adds c a ks) (sym both_slots) (adds_more q p)
