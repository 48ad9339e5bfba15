-- A pin beside those of a proof.
use Rattle.std.proofs.Common.{◌≡◌, ℕ, List, [], ◌∷◌, ◌++◌, sym, subst}
use Rattle.std.proofs.lemmas.List.{map-append}
use Rattle.region_sets.specs.declared.pins.Pin.{Pin}
use Rattle.region_sets.specs.Sets.{Sets, Adds}
use Rattle.region_sets.specs.Ranks.{slots}
use Rattle.proof_cases.specs.LetGo.{HasPins, Lessens}
use Rattle.proof_cases.proofs.Lessened.{beside, part, released}

slots-append : (xs ys : List Pin) → slots (xs ++ ys) ≡ slots xs ++ slots ys
slots-append xs ys = map-append (λ (pin : Pin). pin.slot) xs ys

-- the first pins of a list, behind one more
pub first_held : (a : Sets) (k : ℕ) (p rest : List Pin) → HasPins a (k ∷ slots (p ++ rest)) → HasPins a (slots p)
first_held a k p rest h = part a (k ∷ []) (slots p) (slots rest) (subst (λ xs. HasPins a (k ∷ xs)) (slots-append p rest) h)

-- they are let go, and the one more stands in their place
pub in_place : {a b : Sets} (pin : Pin) (p q rest : List Pin) → q ≡ pin ∷ [] → Adds b a (slots p) → Lessens a b (pin.slot ∷ slots (p ++ rest)) (slots (q ++ rest))
in_place {a} {b} pin p q rest is gone =
    let less : Lessens a b (pin.slot ∷ (slots p ++ slots rest)) (pin.slot ∷ slots rest) = beside (slots p) [] (pin.slot ∷ []) (slots rest) (released (slots p) gone) in
    subst (λ (x : List Pin). Lessens a b (pin.slot ∷ slots (p ++ rest)) (slots (x ++ rest))) (sym is)
    (subst (λ old. Lessens a b (pin.slot ∷ old) (pin.slot ∷ slots rest)) (sym (slots-append p rest)) less)

-- the one more is let go
pub spare_gone : {a b : Sets} (k : ℕ) (xs : List ℕ) → Adds b a (k ∷ []) → Lessens a b (k ∷ xs) xs
spare_gone {a} {b} k xs gone = beside (k ∷ []) [] [] xs (released (k ∷ []) gone)
