-- How many bits the states of a model have at most.
use Rattle.std.proofs.Common.{◌≡◌, ℕ, ◌+◌, ◌<◌, ◌≤◌, [], length, take, get_or, arith, ap, sym, ◌∙◌}
use Rattle.std.specs.Prelude.{All, sum_by}
use Rattle.std.proofs.Math.Nat.{min-eq_left}
use Rattle.std.proofs.lemmas.List.{length-map, get_or-map}
use Rattle.std.proofs.lemmas.List.Elements.{All-map, All-weaker}
use Rattle.std.proofs.lemmas.List.Sums.{sum_by-le, sum_by_more}
use Rattle.kripke_model.specs.System.{System, Variable}
use Rattle.bit_encode.specs.Binary.{width}
use Rattle.bit_encode.specs.Code.{types_of, state_bits}
use Rattle.bit_encode.specs.Layouts.{counted}
use Rattle.bit_encode.proofs.BinaryLemmas.{width-least}

pub few_bits : (m : System) → length m.vars ≤ 256 → All (λ v. length v.values ≤ 1024) m.vars → state_bits m ≤ 2560
few_bits m few short =
    let each = All-map (λ values. width (length values) ≤ 10) (λ v. v.values) m.vars
    (All-weaker (λ v. length v.values ≤ 1024) (λ v. width (length v.values) ≤ 10) (λ v le. width-least (length v.values) 10 (omega (arith, le))) m.vars short) in
    let all = sum_by-le (λ values. width (length values)) 10 (types_of m) each in
    let count = length-map m.vars (λ v. v.values) in
    omega (arith, all, count, few)

-- the bits of the variables up to variable i, which is v, from the bits before it
pub bits_more : (m : System) (i : ℕ) (v : Variable) → i < length m.vars → v ≡ get_or m.vars i v → All (λ v. length v.values ≤ 1024) m.vars
    → (sum_by (λ values. width (length values)) (take (i + 1) (types_of m)) ≡ sum_by (λ values. width (length values)) (take i (types_of m)) + width (length v.values))
    × (width (length v.values) ≤ 10)
bits_more m i v lt is short =
    let long = length-map m.vars (λ v. v.values) in
    let at : get_or (types_of m) i [] ≡ v.values = get_or-map (λ v. v.values) m.vars i v [] lt ∙ ap (λ v. v.values) (sym is) in
    let le : length v.values ≤ 1024 = omega (arith, short i v lt, ap (λ v. length v.values) is) in (
      sum_by_more (λ values. width (length values)) (types_of m) i [] (omega (arith, long, lt))
          ∙ ap (λ values. sum_by (λ values. width (length values)) (take i (types_of m)) + width (length values)) at,
      width-least (length v.values) 10 (omega (arith, le)),
    )

-- so the count is told as it is
pub told_count : (n : ℕ) → n ≤ 2560 → counted n ≡ n
told_count n le = min-eq_left (omega (arith, le))
