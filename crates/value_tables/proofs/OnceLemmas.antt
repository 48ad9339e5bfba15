-- How many readings there are, where each stands once.
use Rattle.std.proofs.Common.{◌≡◌, ℕ, ◌+◌, ◌≤◌, Bool, true, false, cond, ◌&&◌, ◌||◌, List, [], ◌∷◌, length, map, Ok, Err, inl, inr, refl, sym, ap, subst, ◌∙◌, arith}
use Rattle.std.specs.List.{list_any}
use Rattle.std.proofs.lemmas.List.Sums.{sum_by-cons}
use Rattle.std.proofs.lemmas.Bool.{false≢true, or_cases, or_left, or_right, or_parts, or_from}
use Rattle.kripke_model.specs.declared.expressions.Value.{Value}
use Rattle.kripke_model.specs.Evaluation.{Checked}
use Rattle.value_tables.specs.declared.cells.Cell.{Cell}
use Rattle.value_tables.specs.Cells.{same_reading, readings, shows, Reads, AreOnce, readings_in, region_at}
use Rattle.value_tables.specs.Tables.{IsProper, AreOnceValues, count_on}
use Rattle.value_tables.proofs.ReadingLists.{same_reading-true, same_reading-self, on, any_cell-on}

-- ---- one reading taken out

without : Checked Value → List (Checked Value) → List (Checked Value)
without x [] = []
without x (y ∷ ys) = cond (same_reading x y) ys (y ∷ without x ys)

length-without : (x : Checked Value) (ys : List (Checked Value)) → list_any (same_reading x) ys ≡ true → length ys ≡ length (without x ys) + 1
unfolding without
length-without x [] e = absurd (false≢true e)
length-without x (y ∷ ys) e = by (same_reading x y) e (length-without x ys)
  where
    by : (b : Bool) → (b || list_any (same_reading x) ys) ≡ true → (list_any (same_reading x) ys ≡ true → length ys ≡ length (without x ys) + 1) → length (y ∷ ys) ≡ length (cond b ys (y ∷ without x ys)) + 1
    by true e h = omega arith
    by false e h = omega (arith, h e)

any-without : (x k : Checked Value) (ys : List (Checked Value)) → same_reading k x ≡ false → list_any (same_reading k) ys ≡ true → list_any (same_reading k) (without x ys) ≡ true
unfolding without
any-without x k [] other e = absurd (false≢true e)
any-without x k (y ∷ ys) other e = by (same_reading x y) refl (any-without x k ys other)
  where
    by : (b : Bool) → same_reading x y ≡ b → (list_any (same_reading k) ys ≡ true → list_any (same_reading k) (without x ys) ≡ true) → list_any (same_reading k) (cond b ys (y ∷ without x ys)) ≡ true
    by true h rest = elim (or_cases (same_reading k y) (list_any (same_reading k) ys) e) [
      | inl a ↦ absurd (false≢true (sym other ∙ ap (same_reading k) (same_reading-true x y h) ∙ a))
      | inr a ↦ a
    ]
    by false h rest = elim (or_cases (same_reading k y) (list_any (same_reading k) ys) e) [
      | inl a ↦ or_left (same_reading k y) (list_any (same_reading k) (without x ys)) a
      | inr a ↦ or_right (same_reading k y) (list_any (same_reading k) (without x ys)) (rest a)
    ]

once_le : (xs ys : List (Checked Value)) → AreOnce xs → ((k : Checked Value) → list_any (same_reading k) xs ≡ true → list_any (same_reading k) ys ≡ true) → length xs ≤ length ys
once_le [] ys once h = omega arith
once_le (x ∷ xs) ys once h =
    let there : list_any (same_reading x) ys ≡ true = h x (or_left (same_reading x x) (list_any (same_reading x) xs) (same_reading-self x)) in
    let rest : length xs ≤ length (without x ys) = once_le xs (without x ys) once.1 (λ k e. any-without x k ys (apart k e) (h k (or_right (same_reading k x) (list_any (same_reading k) xs) e))) in
    omega (arith, rest, length-without x ys there)
  where
    apart : (k : Checked Value) → list_any (same_reading k) xs ≡ true → same_reading k x ≡ false
    apart k e = by (same_reading k x) refl
      where
        by : (b : Bool) → same_reading k x ≡ b → b ≡ false
        by true h = absurd (false≢true (sym once.0 ∙ ap (λ r. list_any (same_reading r) xs) (sym (same_reading-true k x h)) ∙ e))
        by false h = refl

-- lists of readings that stand once, with the same members, have the same length
pub once_length : (xs ys : List (Checked Value)) → AreOnce xs → AreOnce ys → ((k : Checked Value) → list_any (same_reading k) xs ≡ list_any (same_reading k) ys) → length xs ≡ length ys
once_length xs ys a b h = omega (arith, once_le xs ys a (λ k e. sym (h k) ∙ e), once_le ys xs b (λ k e. h k ∙ e))

-- ---- the cells that are on

pub count_on-length : (v : ℕ → Bool) (cells : List Cell) → count_on v cells ≡ length (on v cells)
count_on-length v [] = refl
count_on-length v (c ∷ cells) = sum_by-cons (λ (x : Cell). cond (v x.region) 1 0) c cells ∙ by (v c.region) (count_on-length v cells)
  where
    by : (b : Bool) → count_on v cells ≡ length (on v cells) → cond b 1 0 + count_on v cells ≡ length (cond b (c.reading ∷ on v cells) (on v cells))
    by true h = omega (arith, h)
    by false h = omega (arith, h)

on-absent : (v : ℕ → Bool) (p : Checked Value → Bool) (cells : List Cell) → list_any p (readings_in cells) ≡ false → list_any p (on v cells) ≡ false
on-absent v p [] e = refl
on-absent v p (c ∷ cells) e = by (v c.region) (or_parts (p c.reading) (list_any p (readings_in cells)) e) (on-absent v p cells)
  where
    by : (b : Bool) → (p c.reading ≡ false) × (list_any p (readings_in cells) ≡ false) → (list_any p (readings_in cells) ≡ false → list_any p (on v cells) ≡ false) → list_any p (cond b (c.reading ∷ on v cells) (on v cells)) ≡ false
    by true h rest = or_from (p c.reading) (list_any p (on v cells)) h.0 (rest h.1)
    by false h rest = rest h.1

once_on : (v : ℕ → Bool) (cells : List Cell) → AreOnce (readings_in cells) → AreOnce (on v cells)
once_on v [] h = tt
once_on v (c ∷ cells) h = by (v c.region) (once_on v cells h.1)
  where
    by : (b : Bool) → AreOnce (on v cells) → AreOnce (cond b (c.reading ∷ on v cells) (on v cells))
    by true rest = (on-absent v (same_reading c.reading) cells h.0, rest)
    by false rest = rest

pub any_values : (p : Checked Value → Bool) (vs : List Value) → list_any p (map Ok vs) ≡ list_any (λ v. p (Ok v)) vs
any_values p [] = refl
any_values p (v ∷ vs) = ap (λ b. p (Ok v) || b) (any_values p vs)

once_readings : (c : Checked (List Value)) → IsProper c → AreOnce (readings c)
once_readings (Ok []) h = absurd h
once_readings (Ok (v ∷ vs)) h = once_values (v ∷ vs) h
  where
    once_values : (us : List Value) → AreOnceValues us → AreOnce (map Ok us)
    once_values [] h = tt
    once_values (u ∷ us) h = (any_values (same_reading (Ok u)) us ∙ h.0, once_values us h.1)
once_readings (Err kind) h = (refl, tt)

-- as many cells are on as the result has readings
pub counted_on : (v : ℕ → Bool) (cells : List Cell) (c : Checked (List Value)) → AreOnce (readings_in cells) → Reads v cells c → IsProper c → count_on v cells ≡ length (readings c)
counted_on v cells c once h proper =
    count_on-length v cells
    ∙ once_length (on v cells) (readings c) (once_on v cells once) (once_readings c proper) (λ k. sym (any_cell-on v (same_reading k) cells) ∙ h.each k)

-- no more cells are on than the result has readings
pub counted_most : (v : ℕ → Bool) (cells : List Cell) (c : Checked (List Value)) → AreOnce (readings_in cells) → Reads v cells c → count_on v cells ≤ length (readings c)
counted_most v cells c once h =
    subst (λ n. n ≤ length (readings c)) (sym (count_on-length v cells))
    (once_le (on v cells) (readings c) (once_on v cells once) (λ k e. sym (h.each k) ∙ any_cell-on v (same_reading k) cells ∙ e))

-- the region of a reading shows it
pub region_shows : (v : ℕ → Bool) → v 0 ≡ false → (cells : List Cell) → AreOnce (readings_in cells) → (k : Checked Value) → v (region_at cells k) ≡ shows v cells k
region_shows v none [] once k = none
region_shows v none (c ∷ cells) once k = by (same_reading k c.reading) refl (region_shows v none cells once.1 k)
  where
    absent : same_reading k c.reading ≡ true → shows v cells k ≡ false
    absent e =
        any_cell-on v (same_reading k) cells
        ∙ on-absent v (same_reading k) cells (ap (λ r. list_any (same_reading r) (readings_in cells)) (same_reading-true k c.reading e) ∙ once.0)

    last : (x y : Bool) → y ≡ false → x ≡ (x || y)
    last true y e = refl
    last false y e = sym e

    by : (b : Bool) → same_reading k c.reading ≡ b → v (region_at cells k) ≡ shows v cells k → v (cond b c.region (region_at cells k)) ≡ ((b && v c.region) || shows v cells k)
    by true e rest = last (v c.region) (shows v cells k) (absent e)
    by false e rest = rest
