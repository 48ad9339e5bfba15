-- One and two of the cells.
use Rattle.std.proofs.Common.{◌≡◌, ℕ, zero, suc, ◌+◌, ◌<◌, ◌≤◌, Bool, true, false, cond, ◌&&◌, ◌||◌, ltb, List, length, get_or, take, refl, sym, ap, ◌∙◌, arith}
use Rattle.std.specs.Prelude.{All}
use Rattle.std.proofs.lemmas.Bool.{lt-ltb}
use Rattle.std.proofs.lemmas.List.{take_all}
use Rattle.std.proofs.lemmas.List.Sums.{count_by_more_yes, count_by_more_no}
use Rattle.bdd_nodes.specs.declared.store.Store.{Store}
use Rattle.bdd_nodes.specs.Store.{Has, value_of, Grows}
use Rattle.bdd_nodes.proofs.Tables.{value_of-false}
use Rattle.value_tables.specs.declared.cells.Cell.{Cell}
use Rattle.bdd_ops.specs.Kept.{IsRegion}
use Rattle.value_tables.specs.Tables.{count_on}
use Rattle.value_tables.proofs.RegionLemmas.{has_item}

count_more : (v : ℕ → Bool) (cells : List Cell) (i : ℕ) (cell : Cell) → i < length cells → cell ≡ get_or cells i cell → count_on v (take (i + 1) cells) ≡ count_on v (take i cells) + cond (v cell.region) 1 0
count_more v cells i cell lt is = by (v (get_or cells i cell).region) refl ∙ ap (λ (c : Cell). count_on v (take i cells) + cond (v c.region) 1 0) (sym is)
  where
    by : (b : Bool) → v (get_or cells i cell).region ≡ b → count_on v (take (i + 1) cells) ≡ count_on v (take i cells) + cond b 1 0
    by true e = count_by_more_yes (λ (c : Cell). v c.region) cells i cell lt e
    by false e = omega (arith, count_by_more_no (λ (c : Cell). v c.region) cells i cell lt e)

one_step : (n : ℕ) (x : Bool) → (ltb 0 n || x) ≡ ltb 0 (n + cond x 1 0)
one_step zero true = refl
one_step zero false = refl
one_step (suc n) true = (λ i. lt-ltb 0 (suc n) (omega arith) i || true) ∙ sym (lt-ltb 0 (suc n + 1) (omega arith))
one_step (suc n) false = (λ i. lt-ltb 0 (suc n) (omega arith) i || false) ∙ sym (lt-ltb 0 (suc n + 0) (omega arith))

two_step : (n : ℕ) (x : Bool) → (ltb 1 n || (ltb 0 n && x)) ≡ ltb 1 (n + cond x 1 0)
two_step zero true = refl
two_step zero false = refl
two_step (suc zero) true = refl
two_step (suc zero) false = refl
two_step (suc (suc n)) true = (λ i. lt-ltb 1 (suc (suc n)) (omega arith) i || (ltb 0 (suc (suc n)) && true)) ∙ sym (lt-ltb 1 (suc (suc n) + 1) (omega arith))
two_step (suc (suc n)) false = (λ i. lt-ltb 1 (suc (suc n)) (omega arith) i || (ltb 0 (suc (suc n)) && false)) ∙ sym (lt-ltb 1 (suc (suc n) + 0) (omega arith))

pub none_counted : (s : Store) (n : ℕ) → ltb n 0 ≡ false → IsRegion s 0 (λ bits. ltb n 0)
none_counted s n e = record { has = omega arith; value = λ bits. value_of-false s.nodes.keys bits ∙ sym e }

module _ (s a b : Store) (g : Grows s a) (cells : List Cell) (i : ℕ) (cell : Cell) (lt : i < length cells) (is : cell ≡ get_or cells i cell) (has : All (λ (c : Cell). Has s c.region) cells) (one two : ℕ)
    (h : IsRegion a one (λ bits. ltb 0 (count_on (λ q. value_of s q bits) (take i cells)))) where
  pub one_more : (r : ℕ) → IsRegion b r (λ bits. value_of a one bits || value_of a cell.region bits) → IsRegion b r (λ bits. ltb 0 (count_on (λ q. value_of s q bits) (take (i + 1) cells)))
  one_more r k = record {
    has = k.has;
    value = λ bits. k.value bits
        ∙ (λ j. h.value bits j || g.value cell.region (has_item s a a g cells i cell lt is has) bits j)
        ∙ one_step (count_on (λ q. value_of s q bits) (take i cells)) (value_of s cell.region bits)
        ∙ ap (ltb 0) (sym (count_more (λ q. value_of s q bits) cells i cell lt is));
  }

  pub two_more : IsRegion a two (λ bits. ltb 1 (count_on (λ q. value_of s q bits) (take i cells))) → (r : ℕ) → IsRegion b r (λ bits. value_of a two bits || (value_of a one bits && value_of a cell.region bits))
      → IsRegion b r (λ bits. ltb 1 (count_on (λ q. value_of s q bits) (take (i + 1) cells)))
  two_more f r k = record {
    has = k.has;
    value = λ bits. k.value bits
        ∙ (λ j. f.value bits j || (h.value bits j && g.value cell.region (has_item s a a g cells i cell lt is has) bits j))
        ∙ two_step (count_on (λ q. value_of s q bits) (take i cells)) (value_of s cell.region bits)
        ∙ ap (ltb 1) (sym (count_more (λ q. value_of s q bits) cells i cell lt is));
  }

pub count_all : (s a : Store) (n : ℕ) (cells : List Cell) (i : ℕ) (r : ℕ) → length cells ≤ i → IsRegion a r (λ bits. ltb n (count_on (λ q. value_of s q bits) (take i cells))) → IsRegion a r (λ bits. ltb n (count_on (λ q. value_of s q bits) cells))
count_all s a n cells i r le h = record { has = h.has; value = λ bits. h.value bits ∙ ap (λ xs. ltb n (count_on (λ q. value_of s q bits) xs)) (take_all i cells le) }
