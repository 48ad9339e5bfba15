use Rattle.command_words.specs.Listed.{pairs_in}
use Rattle.std.proofs.Common.{◌≤◌, ◌+◌, ◌∷◌, [], length, take, arith, subst, sym}
use Rattle.std.specs.Prelude.{All}
use Rattle.std.proofs.lemmas.List.{length-take-le}
use Rattle.std.proofs.lemmas.List.Elements.{All-append, All-cons, All-nil}
use Rattle.std.proofs.lemmas.Slice.Zip.{AllZip-long}
use Rattle.kripke_model.specs.Leaves.{IsModelLeaf}
use Rattle.command_replies.specs.Strong.{ArePairs}
use Rattle.strong_fair.specs.Strong.{Pair}
use Rattle.smv_session.proofs.NamedPairs.{names_at, pairs_more}
use Rattle.smv_session.proofs.compassion.pairs_of.Goals as goal

pub pair_of-requires-clause-p : goal.pair_of-requires-clause-p
pair_of-requires-clause-p c =
    (names_at c.args.model.now (pairs_in c.args.numbers.now) c.loop-place.place c.get-p.result c.get-p.ensures
    c.requires).0

pub pair_of-requires-clause-q : goal.pair_of-requires-clause-q
pair_of-requires-clause-q c =
    (names_at c.args.model.now (pairs_in c.args.numbers.now) c.loop-place.place c.get-p.result c.get-p.ensures
    c.requires).1

pub loop-place-preserved : goal.loop-place-preserved
loop-place-preserved c =
    let m = c.args.model.now in
    let pair = c.in_ok-pair_of.field-0 in
    let front = c.loop-place.pairs.items in
    let named = pairs_more m (pairs_in c.args.numbers.now) c.loop-place.place c.get-p.result front pair
    c.get-p.ensures c.loop-place.invariant.0 c.in_ok-pair_of.ensures.p c.in_ok-pair_of.ensures.q in
    let leaves = All-append (λ (x : Pair). IsModelLeaf m x.p × IsModelLeaf m x.q) front (pair ∷ [])
    c.loop-place.invariant.1
    (All-cons (λ (x : Pair). IsModelLeaf m x.p × IsModelLeaf m x.q) pair []
    c.in_ok-pair_of.ensures.of_model (All-nil (λ (x : Pair). IsModelLeaf m x.p × IsModelLeaf m x.q)))
    in
    subst
    (λ ps. ArePairs m (take (c.loop-place.place + 1) (pairs_in c.args.numbers.now)) ps
    × All (λ (x : Pair). IsModelLeaf m x.p × IsModelLeaf m x.q) ps)
    (sym c.in_ok-push.ensures.items) (named, leaves)

pub returns-clause-few : goal.returns-clause-few
returns-clause-few c =
    let numbers = (pairs_in c.args.numbers.now) in
    let k = c.loop-place.place in
    let le : k ≤ length numbers =
    omega (arith, c.loop-place.auto.place-end, c.loop-place-test.false, c.len-place-end.ensures.count) in
    let long = AllZip-long _ (take k numbers) c.loop-place.pairs.items c.loop-place.invariant.0 in
    omega (
      arith,
      long,
      length-take-le k numbers le,
      le,
      c.len-place-end.ensures.few,
      c.len-place-end.ensures.count,
    )
