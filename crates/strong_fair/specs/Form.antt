-- A certificate that there is no strong path, as it is written, over any kind of sets: pins, numbers of nodes, or sets of states.
use Rattle.std.specs.Prelude.{List, ◌∷◌, map}
use Rattle.strong_fair.specs.declared.certificate.Reason.{Reason}

-- a set of states that no strong path stays in, and why
pub record Row (T : Type 0) : Type 0 where
  pub set : T
  pub reason : Reason

-- where all paths stay, and the rows that take all of it away, one after the other
pub record Certificate (T : Type 0) : Type 0 where
  pub inside : T
  pub rows : List (Row T)

-- ---- the same certificate over other sets, and its sets in order

abbrev pub map_row : {A B : Type 0} → (A → B) → Row A → Row B
map_row f row = record { set = f row.set; reason = row.reason }

abbrev pub map_certificate : {A B : Type 0} → (A → B) → Certificate A → Certificate B
map_certificate f c = record { inside = f c.inside; rows = map (map_row f) c.rows }

abbrev pub row_sets : {A : Type 0} → List (Row A) → List A
row_sets rows = map (λ row. row.set) rows

abbrev pub sets_of : {A : Type 0} → Certificate A → List A
sets_of c = c.inside ∷ row_sets c.rows
