-- The indexes that are written in a path are the last ones of what it denotes.
use Rattle.std.proofs.Common.{◌≡◌, refl, sym, ◌∙◌, ap, subst, ℕ, List, [], ◌∷◌, take, Bool, true, false, inl, inr}
use Rattle.std.specs.Prelude.{cond}
use Rattle.smv_instances.specs.Program.{Path, Plain, Program}
use Rattle.smv_instances.specs.Instances.{Scope}
use Rattle.smv_names.specs.Denotes.{Bracket, Target, Denotes}
use Rattle.smv_names.specs.Expands.{IsIndex}
use Rattle.smv_names.specs.Abbreviations.{HasBadIndex}
use Rattle.smv_names.specs.Sound.{HasIndexes}
use Rattle.smv_names.specs.Known.{index_count, brackets_of, AllIndexes, SomeBad}
use Rattle.smv_names.proofs.Once.{denotes_one}

not_true : false ≡ true → ⊥
not_true e = subst (λ b. cond b ⊥ (Unit {0})) e tt

abbrev is_stored : Target → Bool
is_stored (Target.Stored home x type indexes) = true
is_stored other = false

abbrev first_or : Bracket → Target → Bracket
first_or d (Target.Stored home x (Plain.Array low high element) indexes) = record d { low = low; high = high }
first_or d other = d

-- a path to something other than a variable or an array has no index
no_index : {p : Program} {s : Scope} {q : Path} {t : Target} → Denotes p s q t → is_stored t ≡ false → index_count q ≡ 0
no_index (Denotes.here f) h = refl
no_index (Denotes.constant m is) h = refl
no_index (Denotes.field d f) h = no_index d refl
no_index (Denotes.index d) h = absurd (not_true (sym h))

take_none : {A : Type 0} (xs : List A) {n : ℕ} → n ≡ 0 → take n xs ≡ []
take_none xs h = ap (λ n. take n xs) h ∙ none xs
  where
    none : {A : Type 0} (xs : List A) → take 0 xs ≡ []
    none [] = refl
    none (x ∷ xs) = refl

pub good_indexes : {p : Program} {s : Scope} {q : Path} {t : Target} → Denotes p s q t → AllIndexes p (take (index_count q) (brackets_of t)) → HasIndexes p s q
good_indexes (Denotes.here f) all = tt
good_indexes (Denotes.constant m is) all = tt
good_indexes {p} (Denotes.field {q = q} d f) all = good_indexes d (subst (λ z. AllIndexes p z) (sym (take_none [] (no_index d refl))) tt)
good_indexes {p} {s} (Denotes.index {q = q} {low = low} {high = high} {e = e} d) all = (
  good_indexes d all.1,
  λ home x low' high' element indexes c.
      (all.0.0, subst (λ b. IsIndex p b all.0.0) (ap (first_or (record { low = low; high = high; scope = s; index = e })) (denotes_one d c)) all.0.1),
)

pub bad_indexes : {p : Program} {s : Scope} {q : Path} {t : Target} → Denotes p s q t → SomeBad p (take (index_count q) (brackets_of t)) → HasBadIndex p s q
bad_indexes {p} (Denotes.here {t = t} f) bad = subst (λ z. SomeBad p z) (take_none (brackets_of t) refl) bad
bad_indexes (Denotes.constant m is) bad = bad
bad_indexes {p} (Denotes.field {q = q} {t = t} d f) bad = absurd (subst (λ z. SomeBad p z) (take_none (brackets_of t) (no_index d refl)) bad)
bad_indexes (Denotes.index {home = home} {x = x} {low = low} {high = high} {element = element} {indexes = indexes} d) (inl bad) = inr (home, x, low, high, element, indexes, d, bad)
bad_indexes (Denotes.index d) (inr bad) = inl (bad_indexes d bad)
