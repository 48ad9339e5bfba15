use Rattle.std.proofs.Common.{◌≡◌, ◌≤◌, [], ◌++◌, length, Contains, ap, subst, ◌∙◌, arith}
use Rattle.answer_memo.specs.Memo.{entries_in}
use Rattle.answer_memo.specs.Slots.{of_round, IsSpread}
use Rattle.answer_memo.proofs.Fits.{IsFit-length}
use Rattle.answer_memo.proofs.Spreads.{IsFit-spread, spread-round, spread-within, no-rest}
use Rattle.answer_memo.proofs.memo.Memo.widen.Goals as goal

pub invariant_of-self : goal.invariant_of-self
invariant_of-self g c =
    let s = c.self.inside in
    let xs = c.spread-self-inside.new.to.items in
    let begun : of_round s.round s.slots.items ++ s.rest.entries ≡ [] = ap (λ m. m.fresh) c.self.view_is ∙ c.requires in
    let spread = subst (λ from. IsSpread g.K.Hash.hash_input from xs c.spread-self-inside.result) c.as_slice.ensures.value c.spread-self-inside.ensures.spread in
    let few : length xs ≤ c.min-wanted.result = omega (arith, c.spread-self-inside.ensures.length, c.empty_slots-slots.ensures.few) in
    IsFit-spread g.K.PartialEq.eq g.K.Hash.hash_input s.slots.items xs s.filled c.spread-self-inside.result s.rest s.round s.fresh s.capacity c.self.invariant begun spread
    (omega (arith, few, c.min-wanted.ensures, c.most_slots.ensures.most)) (omega (arith, few, c.min-wanted.ensures, c.most_slots.ensures.few))

pub returns-clause-fresh : goal.returns-clause-fresh
returns-clause-fresh g c =
    let s = c.self.inside in
    let xs = c.spread-self-inside.new.to.items in
    let begun : of_round s.round s.slots.items ++ s.rest.entries ≡ [] = ap (λ m. m.fresh) c.self.view_is ∙ c.requires in
    let spread = subst (λ from. IsSpread g.K.Hash.hash_input from xs c.spread-self-inside.result) c.as_slice.ensures.value c.spread-self-inside.ensures.spread in
    ap (λ l. l ++ s.rest.entries) (spread-round g.K.PartialEq.eq g.K.Hash.hash_input s.slots.items xs s.filled c.spread-self-inside.result s.rest s.round s.fresh s.capacity c.self.invariant begun spread)
    ∙ no-rest s.slots.items s.rest s.round begun

pub returns-clause-within : goal.returns-clause-within
returns-clause-within g c =
    let s = c.self.inside in
    let xs = c.spread-self-inside.new.to.items in
    let begun : of_round s.round s.slots.items ++ s.rest.entries ≡ [] = ap (λ m. m.fresh) c.self.view_is ∙ c.requires in
    let spread = subst (λ from. IsSpread g.K.Hash.hash_input from xs c.spread-self-inside.result) c.as_slice.ensures.value c.spread-self-inside.ensures.spread in
    λ k v m. subst (λ x. Contains (entries_in x) (k, v)) c.self.view_is
    (spread-within g.K.PartialEq.eq g.K.Hash.hash_input s.slots.items xs s.filled c.spread-self-inside.result s.rest s.round s.fresh s.capacity c.self.invariant begun spread k v m)

pub returns-clause-few : goal.returns-clause-few
returns-clause-few g c =
    let s = c.self.inside in
    let fit = invariant_of-self g c in
    omega (arith, fit.room, IsFit-length g.K.PartialEq.eq g.K.Hash.hash_input c.spread-self-inside.new.to.items c.spread-self-inside.result s.rest s.round s.fresh s.capacity fit)
