-- The slots of rows in a list.
use Rattle.std.proofs.Common.{◌≡◌, ℕ, zero, suc, ◌<◌, true, ◌==◌, List, [], ◌∷◌, ◌++◌, length, get_or, refl, ap, arith, eq-eqb}
use Rattle.std.proofs.lemmas.Bool.{or_left, or_right}
use Rattle.region_sets.specs.Sets.{is_one_of}
use Rattle.strong_fair.specs.declared.certificate.Row as declared
use Rattle.strong_fair.specs.Pinned.{row_slots}

pub rows_append : (rows others : List declared.Row) → row_slots (rows ++ others) ≡ row_slots rows ++ row_slots others
rows_append [] others = refl
rows_append (row ∷ rows) others = ap (λ ks. row.set.slot ∷ ks) (rows_append rows others)

pub row_among : (rows : List declared.Row) (k : ℕ) (d : declared.Row) → k < length rows → is_one_of (get_or rows k d).set.slot (row_slots rows) ≡ true
row_among [] k d lt = absurd (omega arith)
row_among (row ∷ rows) zero d lt = or_left (row.set.slot == row.set.slot) (is_one_of row.set.slot (row_slots rows)) (eq-eqb row.set.slot row.set.slot refl)
row_among (row ∷ rows) (suc k) d lt = or_right ((get_or rows k d).set.slot == row.set.slot) (is_one_of (get_or rows k d).set.slot (row_slots rows)) (row_among rows k d (omega arith))
