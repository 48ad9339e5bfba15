-- Parts of a proof that are made one after another.
use Rattle.std.proofs.Common.{◌≡◌, ℕ, ◌+◌, ◌<◌, List, [], ◌∷◌, ◌++◌, map, length, take, get_or, Result, Ok, sym, ◌∙◌, ap, ap₂, subst}
use Rattle.std.specs.Prelude.{IfOk}
use Rattle.std.specs.Global.{Vec}
use Rattle.std.proofs.lemmas.List.{map-append, map_more}
use Rattle.proof_form.specs.Filling.{lists_of}

-- what was made is added behind
abbrev pub IsAdded : {A E : Type 0} → List A → List A → Result A E → Type 0
IsAdded {A} old new made = (value : A) × (made ≡ Ok value) × (new ≡ old ++ value ∷ [])

pub made_more : {A B E : Type 0} (f : A → B) (xs : List A) (i : ℕ) (d : A) (old new : List B) (made : Result B E) → i < length xs → old ≡ map f (take i xs)
    → IsAdded old new made → IfOk made (λ value. value ≡ f (get_or xs i d)) → new ≡ map f (take (i + 1) xs)
made_more f xs i d old new made lt before added here =
    added.2 ∙ ap₂ (λ us v. us ++ v ∷ []) before (subst (λ r. IfOk r (λ value. value ≡ f (get_or xs i d))) added.1 here) ∙ sym (map_more f xs i d lt)

pub lists_made : {A B E : Type 0} (f : A → B) (xs : List (Vec A)) (i : ℕ) (d : Vec A) (old new : List (Vec B)) (made : Result (Vec B) E) → i < length xs
    → lists_of old ≡ map (map f) (lists_of (take i xs)) → IsAdded old new made → IfOk made (λ value. value.items ≡ map f (get_or xs i d).items)
    → lists_of new ≡ map (map f) (lists_of (take (i + 1) xs))
lists_made f xs i d old new made lt before added here =
    ap lists_of added.2 ∙ map-append (λ l. l.items) old (added.0 ∷ [])
    ∙ ap₂ (λ us v. us ++ v ∷ []) before (subst (λ r. IfOk r (λ value. value.items ≡ map f (get_or xs i d).items)) added.1 here)
    ∙ sym (ap (map (map f)) (map_more (λ l. l.items) xs i d lt) ∙ map-append (map f) (lists_of (take i xs)) ((get_or xs i d).items ∷ []))
