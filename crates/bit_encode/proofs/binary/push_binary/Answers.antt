use Rattle.std.proofs.Common.{◌≡◌, ◌^◌, ℕ, suc, ◌-◌, ◌*◌, ◌%◌, ◌++◌, ◌∙◌, ap, arith}
use Rattle.std.proofs.lemmas.Nat.{one_shl}
use Rattle.bit_encode.specs.Binary.{binary}
use Rattle.bit_encode.proofs.BinaryLemmas.{binary_half, binary_less, binary_none}
use Rattle.bit_encode.proofs.binary.push_binary.Goals as goal

pub loop-left-preserved-then-rest-half : goal.loop-left-preserved-then-rest-half
loop-left-preserved-then-rest-half c =
    let w : ℕ = c.loop-left.left - 1 in
    let half : (1 * 2 ^ w) % 2 ^ 64 ≡ 2 ^ w = one_shl w 64 (omega (arith, c.loop-left.invariant.0)) in
    let all : suc w ≡ c.loop-left.left = omega arith in (
      omega (arith, c.loop-left.invariant.0),
      ap (λ k. c.push.new.self.items ++ binary w (c.loop-left.rest - k)) half
          ∙ ap (λ bits. bits ++ binary w (c.loop-left.rest - 2 ^ w)) c.in_ok-push.ensures.items
          ∙ binary_half w c.loop-left.rest c.loop-left.bits.items (omega (arith, c.if-rest-half.true))
          ∙ ap (λ k. c.loop-left.bits.items ++ binary k c.loop-left.rest) all ∙ c.loop-left.invariant.1,
    )

pub loop-left-preserved : goal.loop-left-preserved
loop-left-preserved c =
    let w : ℕ = c.loop-left.left - 1 in
    let half : (1 * 2 ^ w) % 2 ^ 64 ≡ 2 ^ w = one_shl w 64 (omega (arith, c.loop-left.invariant.0)) in
    let all : suc w ≡ c.loop-left.left = omega arith in (
      omega (arith, c.loop-left.invariant.0),
      ap (λ bits. bits ++ binary w c.loop-left.rest) c.in_ok-push-2.ensures.items
          ∙ binary_less w c.loop-left.rest c.loop-left.bits.items (omega (arith, c.if-rest-half.false))
          ∙ ap (λ k. c.loop-left.bits.items ++ binary k c.loop-left.rest) all ∙ c.loop-left.invariant.1,
    )

pub returns : goal.returns
returns c =
    let none : 0 ≡ c.loop-left.left = omega arith in
    binary_none c.loop-left.rest c.loop-left.bits.items ∙ ap (λ k. c.loop-left.bits.items ++ binary k c.loop-left.rest) none ∙ c.loop-left.invariant.1
