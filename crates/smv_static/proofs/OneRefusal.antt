-- A flat model is refused for one reason at most.
use Rattle.std.proofs.Common.{◌≡◌, sym, ◌∙◌, List, [], ◌∷◌, ◌++◌, inl, inr}
use Rattle.kripke_model.specs.Refusing.{RefusalRule, refuse, ◌then◌, First}
use Rattle.kripke_model.specs.Static.{Breaks}
use Rattle.kripke_model.specs.System.{System}

abbrev GivesOne : {R : Type 0} → RefusalRule R → Type 0
GivesOne {R} rule = (r q : R) → rule r → rule q → r ≡ q

one_refusal : {R : Type 0} (x : R) (C : Type 0) → GivesOne (refuse x C)
one_refusal x C r q h k = h.0 ∙ sym k.0

one_of_two : {R : Type 0} {a b : RefusalRule R} → GivesOne a → GivesOne b → GivesOne (a then b)
one_of_two one_a one_b r q (inl h) (inl k) = one_a r q h k
one_of_two one_a one_b r q (inl h) (inr k) = absurd (k.0 r h)
one_of_two one_a one_b r q (inr h) (inl k) = absurd (h.0 q k)
one_of_two one_a one_b r q (inr h) (inr k) = one_b r q h.1 k.1

one_first : {R A : Type 0} {rule : List A → A → RefusalRule R} → ((before : List A) (x : A) → GivesOne (rule before x)) → (before xs : List A) → GivesOne (First rule before xs)
one_first one before [] r q h k = absurd h
one_first one before (x ∷ xs) r q (inl h) (inl k) = one before x r q h k
one_first one before (x ∷ xs) r q (inl h) (inr k) = absurd (k.0 r h)
one_first one before (x ∷ xs) r q (inr h) (inl k) = absurd (h.0 q k)
one_first one before (x ∷ xs) r q (inr h) (inr k) = one_first one (before ++ (x ∷ [])) xs r q h.1 k.1

pub breaks_one : (m : System) → GivesOne (Breaks m)
breaks_one m =
    one_of_two (one_first (λ before a. one_refusal _ _) [] m.assigns)
    (one_of_two (one_first (λ before a. one_refusal _ _) [] m.assigns)
    (one_of_two (one_first (λ before a. one_refusal _ _) [] m.assigns)
    (one_of_two
    (one_of_two (one_first (λ before a. one_refusal _ _) [] m.assigns)
    (one_of_two (one_first (λ before c. one_refusal _ _) [] m.inits)
    (one_of_two (one_first (λ before c. one_refusal _ _) [] m.invars)
    (one_of_two (one_first (λ before c. one_refusal _ _) [] m.trans)
    (one_of_two (one_first (λ before c. one_refusal _ _) [] m.constraints)
    (one_first (λ before c. one_refusal _ _) [] m.specs))))))
    (one_of_two (one_first (λ before a. one_refusal _ _) [] m.assigns)
    (one_of_two (one_first (λ before c. one_refusal _ _) [] m.inits)
    (one_of_two (one_first (λ before c. one_refusal _ _) [] m.invars)
    (one_of_two (one_first (λ before c. one_refusal _ _) [] m.trans)
    (one_of_two (one_first (λ before c. one_refusal _ _) [] m.constraints)
    (one_first (λ before c. one_refusal _ _) [] m.specs)))))))))
