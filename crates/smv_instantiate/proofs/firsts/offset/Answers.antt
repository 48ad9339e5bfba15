use Rattle.std.proofs.Common.{◌≡◌, ◌≤◌, ◌+◌, ◌-◌, ◌*◌, sym, ◌∙◌, ap, subst, arith, length, reverse, take, rules}
use Rattle.std.proofs.lemmas.Slice.Zip.{zip_turn, zip_end}
use Rattle.smv_names.proofs.PairLemmas.{pairs_lengths}
use Rattle.smv_instantiate.specs.Firsts.{IsWithin, offset}
use Rattle.smv_instantiate.proofs.FirstLemmas.{offset_so_far, offset_more, offset_upto, pair_within}
use Rattle.smv_instantiate.proofs.TypeSteps.{taken_all}
use Rattle.smv_instantiate.proofs.firsts.offset.Goals as goal

pub next_offset-before-requires-clause-within : goal.next_offset-before-requires-clause-within
next_offset-before-requires-clause-within c =
    let turn = zip_turn c.args.brackets.now c.args.values.now c.loop-bracket.yielded c.into_iter-bracket-iterator.result c.loop-bracket.bracket-iterator c.next.new.self c.next.result (search rules) (search rules) c.loop-bracket.yielded_by (c.in-Some.bracket, c.in-Some.value) c.in-Some.is c.next.ensures.steps in
    pair_within c.args.brackets.now c.args.values.now (length c.loop-bracket.yielded) c.in-Some.bracket.now c.in-Some.value.now c.requires.within turn.0 (turn.2 _) (turn.3 _)

pub next_offset-before-requires-clause-few : goal.next_offset-before-requires-clause-few
next_offset-before-requires-clause-few c =
    let turn = zip_turn c.args.brackets.now c.args.values.now c.loop-bracket.yielded c.into_iter-bracket-iterator.result c.loop-bracket.bracket-iterator c.next.new.self c.next.result (search rules) (search rules) c.loop-bracket.yielded_by (c.in-Some.bracket, c.in-Some.value) c.in-Some.is c.next.ensures.steps in
    let more = offset_more c.args.brackets.now c.args.values.now (length c.loop-bracket.yielded) c.in-Some.bracket.now c.in-Some.value.now turn.0 turn.1 (turn.2 _) (turn.3 _) in
    let small : offset_so_far c.args.brackets.now c.args.values.now (length c.loop-bracket.yielded + 1) ≤ 255 = omega (arith, offset_upto c.args.brackets.now c.args.values.now (length c.loop-bracket.yielded + 1) c.requires.within, c.requires.few) in
    subst (λ n. n ≤ 255) (more ∙ ap (λ n. n * (c.in-Some.bracket.now.high + 1 - c.in-Some.bracket.now.low) + (c.in-Some.value.now - c.in-Some.bracket.now.low)) (sym c.loop-bracket.invariant)) small

pub returns : goal.returns
returns c =
    let end = zip_end c.args.brackets.now c.args.values.now c.loop-bracket.yielded c.into_iter-bracket-iterator.result c.loop-bracket.bracket-iterator c.next.new.self c.next.result (search rules) (search rules) c.loop-bracket.yielded_by c.in-None.is c.next.ensures.steps in
    let same : length c.args.brackets.now ≡ length c.args.values.now = pairs_lengths IsWithin c.args.brackets.now c.args.values.now c.requires.within in
    let all : length c.args.brackets.now ≤ length c.loop-bracket.yielded = omega (arith, end, same) in
    let whole : length c.args.values.now ≤ length c.loop-bracket.yielded = omega (arith, all, same) in
    c.loop-bracket.invariant
    ∙ ap (λ z. offset (reverse z) (reverse (take (length c.loop-bracket.yielded) c.args.values.now))) (taken_all c.args.brackets.now (length c.loop-bracket.yielded) all)
    ∙ ap (λ z. offset (reverse c.args.brackets.now) (reverse z)) (taken_all c.args.values.now (length c.loop-bracket.yielded) whole)
