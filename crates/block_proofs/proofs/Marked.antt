-- Numbers that are marked in turn.
use Rattle.std.proofs.Common.{◌≡◌, ℕ, ◌+◌, ◌<◌, Bool, List, [], ◌∷◌, ◌++◌, length, take, get_or, refl, sym, ◌∙◌, ap, subst, arith}
use Rattle.std.specs.Prelude.{All}
use Rattle.std.proofs.lemmas.List.Elements.{All-nil, All-cons, All-head, All-tail, All-append}
use Rattle.proof_form.proofs.Pieces.{one_more}
use Rattle.block_proofs.specs.Marks.{IsMarked, AreMarked}

abbrev Reached : List Bool → ℕ → Type 0
Reached marks number = number < length marks → IsMarked marks number

still : (xs : List ℕ) (b c : List Bool) → length c ≡ length b → ((n : ℕ) → IsMarked b n → IsMarked c n) → All (Reached b) xs → All (Reached c) xs
still [] b c size kept h = All-nil (Reached c)
still (x ∷ xs) b c size kept h =
    All-cons (Reached c) x xs (λ lt. kept x (All-head (Reached b) x xs h (omega (arith, lt, size)))) (still xs b c size kept (All-tail (Reached b) x xs h))

pub nothing_marked : (a : List Bool) → AreMarked [] a a
nothing_marked a = record { length_kept = refl; kept = λ n h. h; each = All-nil (Reached a) }

pub marked_then : {xs ys : List ℕ} {a b c : List Bool} → AreMarked xs a b → AreMarked ys b c → AreMarked (xs ++ ys) a c
marked_then {xs} {ys} {a} {b} {c} p q = record {
  length_kept = q.length_kept ∙ p.length_kept;
  kept = λ n h. q.kept n (p.kept n h);
  each = All-append (Reached c) xs ys (still xs b c q.length_kept q.kept p.each) q.each;
}

-- one more of the elements whose numbers are marked
pub marked_more : {X : Type 0} (F : List X → List ℕ) (append : (xs ys : List X) → F (xs ++ ys) ≡ F xs ++ F ys) (xs : List X) (i : ℕ) (d : X) {a b c : List Bool} (ys : List ℕ)
    → i < length xs → F (get_or xs i d ∷ []) ≡ ys → AreMarked (F (take i xs)) a b → AreMarked ys b c → AreMarked (F (take (i + 1) xs)) a c
marked_more F append xs i d {a} {b} {c} ys lt one p q =
    subst (λ zs. AreMarked zs a c) (sym (one_more F append xs i d lt ∙ ap (λ zs. F (take i xs) ++ zs) one)) (marked_then p q)

pub marked_parts : {xs ys : List ℕ} {a b c : List Bool} (zs : List ℕ) → zs ≡ xs ++ ys → AreMarked xs a b → AreMarked ys b c → AreMarked zs a c
marked_parts {xs} {ys} {a} {b} {c} zs split p q = subst (λ us. AreMarked us a c) (sym split) (marked_then p q)
