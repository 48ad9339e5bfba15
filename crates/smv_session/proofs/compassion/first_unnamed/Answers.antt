use Rattle.command_words.specs.Listed.{pairs_in}
use Rattle.std.proofs.Common.{◌≤◌, length, ap, arith, subst}
use Rattle.std.specs.Prelude.{All, flat_map}
use Rattle.std.proofs.lemmas.List.{take_all}
use Rattle.smv_session.specs.Jobs.{both_of}
use Rattle.spec_leaves.specs.Named.{NamesLeaf}
use Rattle.smv_session.proofs.NamedPairs.{names_more, other_at}
use Rattle.smv_session.proofs.compassion.first_unnamed.Goals as goal

pub returns-in-Some : goal.returns-in-Some
returns-in-Some c =
    other_at c.args.model.now (pairs_in c.args.pairs.now) c.loop-place.place c.get-p.result c.in-Some.spec
    c.get-p.ensures c.loop-place.invariant c.in-Some.ensures

pub loop-place-preserved : goal.loop-place-preserved
loop-place-preserved c =
    names_more c.args.model.now (pairs_in c.args.pairs.now) c.loop-place.place c.get-p.result c.get-p.ensures
    c.loop-place.invariant c.in_default.ensures

pub returns : goal.returns
returns c =
    let pairs = pairs_in c.args.pairs.now in
    subst (λ ps. All (NamesLeaf c.args.model.now) (flat_map both_of ps))
    (take_all c.loop-place.place pairs
    (omega (arith, c.loop-place.auto.place-end, c.loop-place-test.false, c.len-place-end.ensures.count)))
    c.loop-place.invariant
