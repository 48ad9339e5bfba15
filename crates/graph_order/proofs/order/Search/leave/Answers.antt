use Rattle.std.proofs.Common.{◌≡◌, refl, ◌-◌, ◌+◌, ◌<◌, arith, length, take, sym, ◌∙◌, ap, subst, vec_len, true, false, ◌⊎◌, inl, inr}
use Rattle.std.proofs.lemmas.Bool.Decides.{Decides-ltb}
use Rattle.graph_order.specs.Searches.{node, next, last_of, first_of, Edge, RanksFrom}
use Rattle.graph_order.proofs.SearchLemmas.{bounds_low}
use Rattle.graph_order.proofs.StepLemmas.{popped_is, frame_node, left_inside, left_component, true_false}
use Rattle.graph_order.proofs.order.Search.leave.Goals as goal
use Rattle.graph_order.proofs.order.Search.leave.Goals.{then-len-top-gt1, else-len-top-gt1}

pub returns-then-last_bound-top : goal.returns-then-last_bound-top
returns-then-last_bound-top c =
    let s = c.args.self.now in
    let g = c.args.graph.now in
    let k = c.requires.keeps in
    let bounded = (k.path.begins c.requires.some).0 in
    let low = bounds_low g s.stack.items s.path.items s.bounds.items k.path (length s.bounds.items - 1) (omega (arith, bounded)) in
    let long : vec_len s.path ≡ length s.path.items = omega arith in
    let done : next s.stack.items (last_of s.path.items) ≡ first_of g (node s.stack.items (last_of s.path.items) + 1) =
    subst (λ z. next s.stack.items z ≡ first_of g (node s.stack.items z + 1)) c.requires.last c.requires.done in
    let inside : last_of s.bounds.items < last_of s.path.items = omega (arith, low, c.last_bound.ensures, c.requires.last) in
    left_inside g s _ k c.requires.some done inside refl refl (popped_is s.path.items c.pop.new.self.items (vec_len s.path) c.pop.ensures.rest long) refl refl refl

pub returns : goal.returns
returns c =
    let s = c.args.self.now in
    let g = c.args.graph.now in
    let k = c.requires.keeps in
    let top = last_of s.path.items in
    let high : top < length s.stack.items = k.path.high (length s.path.items - 1) (omega (arith, c.requires.some)) in
    let long : vec_len s.path ≡ length s.path.items = omega arith in
    let wide : vec_len s.bounds ≡ length s.bounds.items = omega arith in
    let done : next s.stack.items top ≡ first_of g (node s.stack.items top + 1) =
    subst (λ z. next s.stack.items z ≡ first_of g (node s.stack.items z + 1)) c.requires.last c.requires.done in
    let begins : last_of s.bounds.items ≡ top = omega (arith, c.last_bound.ensures, c.requires.last, c.if-last_bound-top.false) in
    let circular = c.if-len-top-gt1.circular in
    let on_cycle : circular ≡ true → (top + 1 < length s.stack.items) ⊎ Edge g (node s.stack.items top) (node s.stack.items top) =
    elim c.if-len-top-gt1.branch [
      | then-len-top-gt1 w ↦ λ e. inl (omega (arith, c.requires.last))
      | else-len-top-gt1 w ↦ λ e. inr (subst (λ z. Edge g z z) (frame_node s.stack.items c.args.top w.index.result.now (omega (arith, high, c.requires.last)) w.index.ensures ∙ ap (λ z. node s.stack.items z) c.requires.last)
          (w.uses_itself-circular.ensures.0 (sym w.circular-is ∙ e)))
    ] in
    let on_none : circular ≡ false → (length s.stack.items ≡ top + 1) × (Edge g (node s.stack.items top) (node s.stack.items top) → ⊥) =
    elim c.if-len-top-gt1.branch [
      | then-len-top-gt1 w ↦ λ e. absurd (true_false ((Decides-ltb 1 (c.len.result - c.args.top)).1 w.if-len-top-gt1.true) (sym w.circular-is ∙ e))
      | else-len-top-gt1 w ↦ λ e. (
        omega (arith, high, c.requires.last),
        λ edge.
            let found : w.uses_itself-circular.result ≡ true =
            w.uses_itself-circular.ensures.1 (subst (λ z. Edge g z z) (sym (frame_node s.stack.items c.args.top w.index.result.now (omega (arith, high, c.requires.last)) w.index.ensures ∙ ap (λ z. node s.stack.items z) c.requires.last)) edge) in
            true_false found (sym w.circular-is ∙ e),
      )
    ] in
    left_component g s _ k c.requires.some done circular begins on_cycle on_none
    (subst (λ z. RanksFrom z circular s.stack.items s.marks.items c.rank_from.new.self.marks.items s.order.items c.rank_from.new.self.order.items s.circular.items c.rank_from.new.self.circular.items (length s.stack.items)) c.requires.last c.in_ok-rank_from.ensures.ranks)
    (c.truncate.ensures.items ∙ ap (λ z. take c.args.top z) c.in_ok-rank_from.ensures.stack ∙ ap (λ z. take z s.stack.items) c.requires.last)
    (c.in_ok-rank_from.ensures.path ∙ popped_is s.path.items c.pop.new.self.items (vec_len s.path) c.pop.ensures.rest long)
    (c.in_ok-rank_from.ensures.bounds ∙ popped_is s.bounds.items c.pop-2.new.self.items (vec_len s.bounds) c.pop-2.ensures.rest wide)
