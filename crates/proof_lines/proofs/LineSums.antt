-- Counts that stay within the sum over a list.
use Rattle.std.proofs.Common.{◌-◌, drop, Some, ◌≡◌, ℕ, ◌+◌, ◌<◌, ◌≤◌, List, [], ◌∷◌, length, map, take, get_or, refl, ap, sym, ◌∙◌, arith}
use Rattle.std.specs.Global.{Vec}
use Rattle.std.specs.List.{sum_by}
use Rattle.std.proofs.lemmas.List.{length-drop, length-take-le}
use Rattle.std.proofs.lemmas.List.Sums.{sum_by_more, sum_by-cons, sum_by-take-le}
use Rattle.proof_form.specs.Form.{Entry, FairPart, FreeEntry, FreePart, Layer, Proof}
use Rattle.proof_lines.specs.LineCounts.{entries_line_count, fair_line_count, free_entries_line_count, free_line_count, lists_line_count, own_line_count, set_line_count}

module _ {A : Type 0} (f : A → ℕ) (xs : List A) (start now : ℕ) (k : ℕ) where
  -- one more item was gone through
  pub more_within : (d : A) (after : ℕ) → k < length xs → now ≤ start + sum_by f (take k xs) → after ≤ now + f (get_or xs k d) → after ≤ start + sum_by f (take (k + 1) xs)
  more_within d after less so more = omega (arith, sum_by_more f xs k d less, so, more)

  pub one_within : (d : A) (after : ℕ) → k < length xs → now ≤ start + sum_by f (take k xs) → after ≤ now + f (get_or xs k d) → after ≤ start + sum_by f xs
  one_within d after less so more = omega (arith, more_within d after less so more, sum_by-take-le f xs (k + 1))

  pub all_within : now ≤ start + sum_by f (take k xs) → now ≤ start + sum_by f xs
  all_within so = omega (arith, so, sum_by-take-le f xs k)

-- lists of pins, as vectors and as lists
pub lists_counted : {A : Type 0} (lists : List (Vec A)) → lists_line_count lists ≡ sum_by length (map (λ list. list.items) lists)
lists_counted [] = refl
lists_counted (list ∷ lists) =
    sum_by-cons (λ l. length l.items) list lists ∙ ap (λ n. length list.items + n) (lists_counted lists)
    ∙ sym (sum_by-cons length list.items (map (λ l. l.items) lists))

-- the items behind the first
pub behind_within : {A : Type 0} (xs : List A) → length (take (length xs - 1) (drop 1 xs)) ≤ length xs
behind_within xs = omega (arith, length-take-le (length xs - 1) (drop 1 xs) (omega (arith, length-drop 1 xs)))

-- ---- parts of a proof, as they are seen

pub fair_counted : {A : Type 0} (inside : A) (reach lists : List (Vec A)) (fair : FairPart A) → lists ≡ reach
    → record { inside = inside; reach = map (λ list. list.items) reach } ≡ fair → lists_line_count lists ≡ fair_line_count fair
fair_counted inside reach lists fair same is = ap lists_line_count same ∙ lists_counted reach ∙ ap fair_line_count is

pub own_counted : {A : Type 0} (p : Proof A) (layers : List (Layer A)) (fair : FairPart A) (entries : List (Entry A))
    → layers ≡ p.nonfair → fair ≡ p.fair → entries ≡ p.entries → length layers + fair_line_count fair + entries_line_count entries ≡ own_line_count p
own_counted p layers fair entries a b e = rw (a, b, e) refl

pub part_counted : {A : Type 0} (p : FreePart A) (layers : List (Layer A)) (fair : FairPart A) (entries : List (FreeEntry A))
    → layers ≡ p.nonfair → fair ≡ p.fair → entries ≡ p.entries → length layers + fair_line_count fair + free_entries_line_count entries ≡ free_line_count p
part_counted p layers fair entries a b e = rw (a, b, e) refl

-- a free part and the rest
pub with_part : {A : Type 0} (p : Proof A) (part : FreePart A) → p.free ≡ Some part → free_line_count part + own_line_count p ≡ set_line_count p
with_part p part is = rw is refl
