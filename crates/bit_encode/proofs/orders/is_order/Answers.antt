use Rattle.std.proofs.Common.{◌≡◌, ℕ, Bool, List, get_or, take, false, true, sym, ◌∙◌, subst, arith}
use Rattle.std.specs.Prelude.{All}
use Rattle.std.proofs.lemmas.List.{get_or_read, take_all}
use Rattle.std.proofs.lemmas.Bool.{false≢true}
use Rattle.bit_encode.proofs.OrderMarks.{IsMarked, mark_more, mark_twice, mark_end, mark_all}
use Rattle.bit_encode.proofs.orders.is_order.Goals as goal
use Rattle.bit_encode.proofs.orders.is_order.Goals.{then-x-count-via-then-x-count, then-x-count-via-else-x-count+then-index}

pub returns-then-x-count : goal.returns-then-x-count
returns-then-x-count c = (
  λ (e : false ≡ true). absurd (false≢true e),
  λ ordered. elim c.then-x-count.branch [
    | then-x-count-via-then-x-count w ↦ absurd (omega (arith, ordered.known c.loop-x.x-index 0 (omega arith)))
    | then-x-count-via-else-x-count+then-index w ↦
        let x : ℕ = get_or c.args.order.now c.loop-x.x-index 0 in
        let marked : get_or c.loop-x.named.items x false ≡ true = sym (get_or_read c.loop-x.named.items x w.index.result.now (omega (arith, c.loop-x.invariant.each)) w.index.ensures false) ∙ w.if-index.true in
        absurd (mark_twice c.args.count c.args.order.now c.loop-x.x-index (omega arith) c.loop-x.named.items c.loop-x.invariant (omega arith) marked ordered)
  ],
)

pub loop-x-preserved : goal.loop-x-preserved
loop-x-preserved c =
    let x : ℕ = get_or c.args.order.now c.loop-x.x-index 0 in
    let new : get_or c.loop-x.named.items x false ≡ false = sym (get_or_read c.loop-x.named.items x c.index.result.now (omega (arith, c.loop-x.invariant.each)) c.index.ensures false) ∙ c.if-index.false in
    mark_more c.args.count c.args.order.now c.loop-x.x-index (omega arith) c.loop-x.named.items c.loop-x.invariant (omega arith) new

pub returns : goal.returns
returns c =
    let all : take c.loop-x.x-index c.args.order.now ≡ c.args.order.now = take_all c.loop-x.x-index c.args.order.now (omega arith) in
    let marked : IsMarked c.args.count c.args.order.now c.loop-x.named.items = subst (λ numbers. IsMarked c.args.count numbers c.loop-x.named.items) all c.loop-x.invariant in
    let AllSet : List Bool → Type 0 = λ marks. All (λ b. b ≡ true) marks in (
      λ set. mark_end c.args.count c.args.order.now c.loop-x.named.items marked (subst AllSet c.deref.ensures.value (c.all_set.ensures.0 set)),
      λ ordered. c.all_set.ensures.1 (subst AllSet (sym c.deref.ensures.value) (mark_all c.args.count c.args.order.now c.loop-x.named.items marked ordered)),
    )
