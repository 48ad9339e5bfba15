use Rattle.std.proofs.Common.{◌≡◌, ℕ, ◌-◌, ◌<◌, ◌≤◌, arith, length, take, get_or, refl, sym, ◌∙◌, ap, subst, List, vec_len, ◌⊎◌, inl, inr}
use Rattle.std.proofs.lemmas.Bool.{cases_lt}
use Rattle.graph_order.specs.declared.order.Search.{Search}
use Rattle.graph_order.specs.Searches.{node, last_of, Reach, KeepsStack, KeepsPath, Joins}
use Rattle.graph_order.proofs.GraphLemmas.{popped_length, popped_old}
use Rattle.graph_order.proofs.SearchLemmas.{stack_joined, path_joined}
use Rattle.graph_order.proofs.StepLemmas.{popped_is}
use Rattle.graph_order.proofs.order.Search.join.Goals as goal

-- one bound less
joins_more : (place : ℕ) (old mid new : Search) → Joins place old mid → mid ≡ record old { bounds = mid.bounds } → new ≡ record mid { bounds = new.bounds }
    → new.bounds.items ≡ take (length mid.bounds.items - 1) mid.bounds.items → place < last_of mid.bounds.items → 0 < length mid.bounds.items → Joins place old new
joins_more place old mid new joins is_mid is_new is low bounded g ks kp some reached =
    let before = joins g ks kp some reached in
    let path = ap (λ (x : Search). x.path.items) is_mid in
    let some' : 0 < length mid.path.items = omega (arith, some, ap (λ z. length z) path) in
    let reached' : Reach g (node mid.stack.items (last_of mid.path.items)) (node mid.stack.items place) =
    subst (λ (x : Search). Reach g (node x.stack.items (last_of x.path.items)) (node x.stack.items place)) (sym is_mid) reached in
    let now : KeepsStack g mid.marks.items mid.stack.items (take (length mid.bounds.items - 1) mid.bounds.items) × KeepsPath g mid.stack.items mid.path.items (take (length mid.bounds.items - 1) mid.bounds.items) = (
      stack_joined g mid.marks.items mid.stack.items mid.path.items mid.bounds.items place before.0 before.1 some' reached' low bounded,
      path_joined g mid.marks.items mid.stack.items mid.path.items mid.bounds.items place before.0 before.1 some' reached' low bounded,
    ) in
    subst (λ (x : Search). KeepsStack g x.marks.items x.stack.items x.bounds.items × KeepsPath g x.stack.items x.path.items x.bounds.items) (sym is_new)
    (subst (λ z. KeepsStack g mid.marks.items mid.stack.items z × KeepsPath g mid.stack.items mid.path.items z) (sym is) now)

more_than_one : (bounds : List ℕ) (place : ℕ) → 0 < length bounds → get_or bounds 0 0 ≡ 0 → place < last_of bounds → 1 < length bounds
more_than_one bounds place some zero low = go (cases_lt 1 (length bounds))
  where
    go : (1 < length bounds) ⊎ (length bounds ≤ 1) → 1 < length bounds
    go (inl h) = h
    go (inr h) = absurd (omega (arith, low, zero, ap (λ z. get_or bounds z 0) (let e : length bounds - 1 ≡ 0 = omega (arith, h) in e)))

pub loop-self-preserved : goal.loop-self-preserved
loop-self-preserved c =
    let s = c.loop-self.self in
    let i = c.loop-self.invariant in
    let long : vec_len s.bounds ≡ length s.bounds.items = omega arith in
    let is : c.pop.new.self.items ≡ take (length s.bounds.items - 1) s.bounds.items = popped_is s.bounds.items c.pop.new.self.items (vec_len s.bounds) c.pop.ensures.rest long in
    let low : c.args.place < last_of s.bounds.items = omega (arith, c.last_bound.ensures, c.loop-self-test.true) in
    let two = more_than_one s.bounds.items c.args.place i.some i.zero low in
    record {
      some = omega (arith, two, ap (λ z. length z) is, popped_length s.bounds.items);
      zero = ap (λ z. get_or z 0 0) is ∙ popped_old s.bounds.items 0 (omega (arith, two)) ∙ i.zero;
      keeps = joins_more c.args.place c.args.self.now s (record s { bounds = c.pop.new.self }) i.keeps i.others refl is low i.some;
      others = ap (λ (x : Search). record x { bounds = c.pop.new.self }) i.others;
    }
