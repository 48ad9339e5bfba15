-- What stands behind the front of a line.
use Rattle.std.proofs.Common.{◌≡◌, ℕ, ◌+◌, true, false, List, ◌++◌, length, take, drop, nat_eq, Option, None, Some, refl, sym, ◌∙◌, ap}
use Rattle.std.specs.Prelude.{MatchOption}
use Rattle.std.proofs.lemmas.Bool.{false≢true}
use Rattle.std.proofs.lemmas.Bool.Decides.{Decides-eqb}
use Rattle.std.proofs.lemmas.List.{append_cancel_left, take-append-drop}
use Rattle.std.proofs.lemmas.Slice.Eq.{slice_eq-Decides}
use Rattle.std.specs.Cmp.Lexicographic.{pointwise}
use Rattle.std.proofs.Math.Seq.{take-append_seam}

take_front : (front rest : List ℕ) → take (length front) (front ++ rest) ≡ front
take_front front rest = take-append_seam front rest

-- what is left where the front is taken off
pub stripped : {B : Type 0} (now : B → List ℕ) (text front : List ℕ) (r : Option B)
    → MatchOption r (pointwise nat_eq (take (length front) text) front ≡ false)
    (λ x. (pointwise nat_eq (take (length front) text) front ≡ true) × (now x ≡ drop (length front) text) × (length (now x) + length front ≡ length text))
    → MatchOption r ((rest : List ℕ) → text ≡ front ++ rest → ⊥) (λ x. text ≡ front ++ now x)
stripped now text front None h = λ rest e.
    false≢true (sym h ∙ (slice_eq-Decides (λ x y. Decides-eqb x y) (take (length front) text) front (pointwise nat_eq (take (length front) text) front) refl).1 (ap (take (length front)) e ∙ take_front front rest))
stripped now text front (Some x) h =
    let same = (slice_eq-Decides (λ x y. Decides-eqb x y) (take (length front) text) front (pointwise nat_eq (take (length front) text) front) refl).0 h.0 in
    sym (take-append-drop (length front) text) ∙ ap (λ ts. ts ++ drop (length front) text) same ∙ ap (λ ts. front ++ ts) (sym h.1)

-- what is true of the word behind the front is true of the text
pub front_iff : {P : Type 0} (text front word other : List ℕ) → text ≡ front ++ word → (P → word ≡ other) × (word ≡ other → P) → (P → text ≡ front ++ other) × (text ≡ front ++ other → P)
front_iff text front word other e h = ((λ p. e ∙ ap (λ w. front ++ w) (h.0 p)), λ q. h.1 (append_cancel_left front word other (sym e ∙ q)))

-- three fronts, one behind another
pub three_fronts : {B : Type 0} (now : B → List ℕ) (text a b c named valued : List ℕ) → text ≡ a ++ named → named ≡ b ++ valued → (r : Option B)
    → MatchOption r ((rest : List ℕ) → valued ≡ c ++ rest → ⊥) (λ x. valued ≡ c ++ now x) → MatchOption r ((word : List ℕ) → text ≡ a ++ (b ++ (c ++ word)) → ⊥) (λ x. text ≡ a ++ (b ++ (c ++ now x)))
three_fronts now text a b c named valued e f None h = λ word g.
    h word (append_cancel_left b valued (c ++ word) (sym f ∙ append_cancel_left a named (b ++ (c ++ word)) (sym e ∙ g)))
three_fronts now text a b c named valued e f (Some x) h = e ∙ ap (λ w. a ++ w) (f ∙ ap (λ w. b ++ w) h)
