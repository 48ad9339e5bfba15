-- How many bits and how many values a variable has, against the levels.
use Rattle.std.proofs.Common.{◌≡◌, ℕ, zero, suc, ◌+◌, ◌*◌, ◌^◌, ◌≤◌, List, [], ◌∷◌, length, arith}
use Rattle.std.proofs.lemmas.Nat.{pow_pos}
use Rattle.std.proofs.Math.Nat.{pow-suc}
use Rattle.std.proofs.Math.Pow.{pow_mono}
use Rattle.std.proofs.lemmas.List.Sums.{sum_by-cons}
use Rattle.bdd_nodes.specs.declared.store.Store.{Store}
use Rattle.bdd_nodes.specs.Store.{levels_of, triples}
use Rattle.kripke_model.specs.declared.expressions.Value.{Value}
use Rattle.bit_encode.specs.Binary.{width}
use Rattle.bit_encode.specs.Code.{values_of, width_of, bit_count}
use Rattle.bit_encode.proofs.BinaryLemmas.{width-enough, width-least}
use Rattle.value_tables.specs.Work.{Spends}

width-within : (types : List (List Value)) (x : ℕ) → width_of types x ≤ bit_count types
width-within [] x = width-least 0 0 (omega arith)
width-within (vs ∷ types) zero = omega (arith, sum_by-cons (λ us. width (length us)) vs types)
width-within (vs ∷ types) (suc x) = omega (arith, sum_by-cons (λ us. width (length us)) vs types, width-within types x)

below_power : (n : ℕ) → n ≤ 2 ^ n
below_power zero = omega arith
below_power (suc n) = omega (arith, below_power n, pow-suc 2 n, pow_pos n)

module _ (s : Store) (types : List (List Value)) (x : ℕ) (levels : levels_of s ≡ 2 * bit_count types) where
  width-fits : width_of types x ≤ 2 ^ levels_of s
  width-fits = omega (arith, width-within types x, below_power (levels_of s))

  -- a variable has at most as many values as there are lists of bits
  pub values-fit : length (values_of types x) ≤ 2 ^ levels_of s
  values-fit = omega (arith, width-enough (length (values_of types x)), pow_mono {i = width_of types x} {j = levels_of s} (omega (arith, width-within types x)))

  -- a triple for each bit of a variable is at most what one operation adds
  pub bits_spend : (z : Store) (w : ℕ) → w ≡ width_of types x → length (triples z) ≤ length (triples s) + w → Spends 1 s z
  bits_spend z w e h = record { count = omega (arith, width-fits) }
