-- The entries of the constraints' formulas: how they are found, and their shape.
use Rattle.std.proofs.Common.{◌≡◌, inl, inr, ℕ, zero, suc, ◌+◌, ◌<◌, ◌≤◌, Bool, true, false, cond, List, [], ◌∷◌, ◌++◌, length, map, get_or, All, AllPairs, eqb, refl, ◌∙◌, ap, ap₂, subst, arith, append-nil}
use Rattle.std.proofs.lemmas.Bool.{cond-true, cond-false, eq-eqb, ne_eqb}
use Rattle.std.proofs.lemmas.List.Elements.{All-nil, All-cons, All-append, All-map}
use Rattle.std.proofs.lemmas.List.Kept.{AllPairs-cons}
use Rattle.path_laws.specs.StateSet.{StateSet}
use Rattle.fair_rules.specs.Block.{Listed}
use Rattle.proof_form.specs.Form.{Entry, FreeEntry}
use Rattle.proof_form.specs.Meaning.{entries_for, listed_of}
use Rattle.proof_form.specs.Shape.{ComesBefore, StandsBefore}
use Rattle.rank_extract.specs.FreeMade.{numbered, numbered_from}
use Rattle.rank_extract.proofs.Shaped.{Each, AreRising}

-- ---- the entries of one constraint

cond_append : (b : Bool) (x : Listed) (xs ys zs : List Listed) → zs ≡ xs ++ ys → cond b (x ∷ zs) zs ≡ cond b (x ∷ xs) xs ++ ys
cond_append true x xs ys zs e = ap (λ ls. x ∷ ls) e
cond_append false x xs ys zs e = e

for_both : (k : ℕ) (xs ys : List (FreeEntry StateSet)) → entries_for k (xs ++ ys) ≡ entries_for k xs ++ entries_for k ys
for_both k [] ys = refl
for_both k (x ∷ xs) ys = cond_append (eqb x.constraint k) (listed_of x.entry) (entries_for k xs) (entries_for k ys) (entries_for k (xs ++ ys)) (for_both k xs ys)

for_own : (k : ℕ) (es : List (Entry StateSet)) → entries_for k (map (numbered k) es) ≡ map listed_of es
for_own k [] = refl
for_own k (e ∷ es) =
    cond-true (eqb k k) (listed_of e ∷ entries_for k (map (numbered k) es)) (entries_for k (map (numbered k) es)) (eq-eqb k k refl)
    ∙ ap (λ ls. listed_of e ∷ ls) (for_own k es)

for_other : (j k : ℕ) (es : List (Entry StateSet)) → (j ≡ k → ⊥) → entries_for k (map (numbered j) es) ≡ []
for_other j k [] ne = refl
for_other j k (e ∷ es) ne =
    cond-false (eqb j k) (listed_of e ∷ entries_for k (map (numbered j) es)) (entries_for k (map (numbered j) es)) (ne_eqb j k ne) ∙ for_other j k es ne

for_past : (k i : ℕ) (parts : List (List (Entry StateSet))) → k < i → entries_for k (numbered_from i parts) ≡ []
for_past k i [] lt = refl
for_past k i (es ∷ parts) lt =
    for_both k (map (numbered i) es) (numbered_from (i + 1) parts)
    ∙ ap₂ (λ xs ys. xs ++ ys) (for_other i k es (λ e. omega (arith, e, lt))) (for_past k (i + 1) parts (omega (arith, lt)))

-- are those of its formula
pub found_for : (i j k : ℕ) (parts : List (List (Entry StateSet))) → k ≡ i + j → j < length parts → entries_for k (numbered_from i parts) ≡ map listed_of (get_or parts j [])
found_for i j k [] is lt = absurd (omega (arith, lt))
found_for i zero k (es ∷ parts) is lt =
    for_both k (map (numbered i) es) (numbered_from (i + 1) parts)
    ∙ ap₂ (λ xs ys. xs ++ ys) (subst (λ n. entries_for k (map (numbered n) es) ≡ map listed_of es) (let e : k ≡ i = omega (arith, is) in e) (for_own k es)) (for_past k (i + 1) parts (omega (arith, is)))
    ∙ append-nil (map listed_of es)
found_for i (suc j) k (es ∷ parts) is lt =
    for_both k (map (numbered i) es) (numbered_from (i + 1) parts)
    ∙ ap₂ (λ xs ys. xs ++ ys) (for_other i k es (λ e. omega (arith, e, is))) (found_for (i + 1) j k parts (omega (arith, is)) (omega (arith, lt)))

-- ---- what each entry has

abbrev pub EachPart : (ℕ → List (Entry StateSet) → Type 0) → ℕ → List (List (Entry StateSet)) → Type 0
EachPart P i parts = (j : ℕ) → j < length parts → P (i + j) (get_or parts j [])

pub part_first : (P : ℕ → List (Entry StateSet) → Type 0) (i : ℕ) (es : List (Entry StateSet)) (parts : List (List (Entry StateSet))) → EachPart P i (es ∷ parts) → P i es
part_first P i es parts h = subst (λ n. P n es) (let e : i + 0 ≡ i = omega arith in e) (h 0 (omega arith))

pub part_rest : (P : ℕ → List (Entry StateSet) → Type 0) (i : ℕ) (es : List (Entry StateSet)) (parts : List (List (Entry StateSet))) → EachPart P i (es ∷ parts) → EachPart P (i + 1) parts
part_rest P i es parts h = λ j lt. subst (λ n. P n (get_or parts j [])) (let e : i + suc j ≡ i + 1 + j = omega arith in e) (h (suc j) (omega (arith, lt)))

pub all_numbered : (P : FreeEntry StateSet → Type 0) (i : ℕ) (parts : List (List (Entry StateSet))) → EachPart (λ k es. All (λ e. P (numbered k e)) es) i parts → All P (numbered_from i parts)
all_numbered P i [] h = All-nil P
all_numbered P i (es ∷ parts) h =
    All-append P (map (numbered i) es) (numbered_from (i + 1) parts)
    (All-map P (numbered i) es (part_first (λ k es. All (λ e. P (numbered k e)) es) i es parts h))
    (all_numbered P (i + 1) parts (part_rest (λ k es. All (λ e. P (numbered k e)) es) i es parts h))

-- ---- their order

abbrev From : ℕ → FreeEntry StateSet → Type 0
From k e = k ≤ e.constraint

from_more : (k i : ℕ) (parts : List (List (Entry StateSet))) → k ≤ i → All (From k) (numbered_from i parts)
from_more k i parts le = all_numbered (From k) i parts (λ j lt n d within. omega (arith, le))

later : (k : ℕ) (e : Entry StateSet) (xs : List (Entry StateSet)) → Each (ComesBefore e) xs → All (λ x. StandsBefore (numbered k e) (numbered k x)) xs
later k e [] h = All-nil (λ x. StandsBefore (numbered k e) (numbered k x))
later k e (x ∷ xs) h = All-cons (λ y. StandsBefore (numbered k e) (numbered k y)) x xs (inr (refl, h.0)) (later k e xs h.1)

pairs_first : (k : ℕ) (es : List (Entry StateSet)) (rest : List (FreeEntry StateSet)) → AreRising es → All (From (k + 1)) rest → AllPairs StandsBefore rest → AllPairs StandsBefore (map (numbered k) es ++ rest)
pairs_first k [] rest rising above pairs = pairs
pairs_first k (e ∷ es) rest rising above pairs =
    AllPairs-cons StandsBefore (numbered k e) (map (numbered k) es ++ rest)
    (All-append (StandsBefore (numbered k e)) (map (numbered k) es) rest
    (All-map (StandsBefore (numbered k e)) (numbered k) es (later k e es rising.0))
    (λ j d lt. inl (let a : k + 1 ≤ (get_or rest j d).constraint = above j d lt in omega (arith, a))))
    (pairs_first k es rest rising.1 above pairs)

pub numbered_rising : (i : ℕ) (parts : List (List (Entry StateSet))) → EachPart (λ k es. AreRising es) i parts → AllPairs StandsBefore (numbered_from i parts)
numbered_rising i [] h = λ a b d lt within. absurd (omega (arith, within))
numbered_rising i (es ∷ parts) h =
    pairs_first i es (numbered_from (i + 1) parts) (part_first (λ k es. AreRising es) i es parts h) (from_more (i + 1) (i + 1) parts (omega arith))
    (numbered_rising (i + 1) parts (part_rest (λ k es. AreRising es) i es parts h))
