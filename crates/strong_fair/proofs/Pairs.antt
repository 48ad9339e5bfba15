-- Pairs by their numbers, and what holds of each member of a list.
use Rattle.std.proofs.Common.{◌≡◌, ℕ, zero, suc, ◌+◌, ◌<◌, List, [], ◌∷◌, length, get_or, refl, sym, ◌∙◌, ap, arith}
use Rattle.std.specs.Prelude.{All, IfSome, Some, slice_get}
use Rattle.std.proofs.lemmas.List.Elements.{All-head, All-tail}
use Rattle.strong_fair.specs.Shows.{pair_at}
use Rattle.strong_fair.specs.Strong.{Pair}

-- what holds of each member of a list holds of one that is named by its number
pub some_of_all : {A : Type 0} (P : A → Type 0) (xs : List A) (k : ℕ) → All P xs → IfSome (slice_get xs k) P
some_of_all P [] k h = tt
some_of_all P (x ∷ xs) zero h = All-head P x xs h
some_of_all P (x ∷ xs) (suc k) h = some_of_all P xs k (All-tail P x xs h)

there : {A : Type 0} (xs : List A) (k : ℕ) (d : A) → k < length xs → slice_get xs k ≡ Some (get_or xs k d)
there [] k d lt = absurd (omega arith)
there (x ∷ xs) zero d lt = refl
there (x ∷ xs) (suc k) d lt = there xs k d (omega arith)

-- the pair at a place, from 0, by its number
pub pair_there : (pairs : List Pair) (i place : ℕ) (pair : Pair) → i ≡ place + 1 → place < length pairs → pair ≡ get_or pairs place pair → pair_at pairs i ≡ Some pair
pair_there pairs zero place pair number lt is = absurd (omega arith)
pair_there pairs (suc i) place pair number lt is =
    ap (slice_get pairs) (let e : i ≡ place = omega arith in e) ∙ there pairs place pair lt ∙ ap (λ (d : Pair). Some d) (sym is)
