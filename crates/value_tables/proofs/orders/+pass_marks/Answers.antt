use Rattle.std.proofs.Common.{◌+◌, ◌*◌, ◌/◌, ◌-◌, length, ◌∙◌, arith, rules}
use Rattle.value_tables.proofs.RegionLemmas.{keeps_join, Spends-then}
use Rattle.value_tables.proofs.StepLemmas.{if_ok}
use Rattle.value_tables.proofs.OrderLemmas.{has_behind, passed_before, halves_passed}
use Rattle.value_tables.proofs.orders.+pass_marks.Goals as goal

pub returns-in_err-after-clause-spends : goal.returns-in_err-after-clause-spends
returns-in_err-after-clause-spends g t c =
    let n = length c.split_at.result.0.now in
    let m = length c.split_at.result.1.now in
    Spends-then c.args.engine.now.store c.pass_marks.new.engine.store
    c.pass_marks-2.new.engine.store (5 * (n - 1)) (5 * (m - 1))
    (5 * (length c.args.marks.now - 1)) c.pass_marks.ensures.call.keeps.engine.grows.levels
    (omega (arith, c.split_at.ensures.back_len, c.split_at.ensures.front_len, c.requires.some))
    c.pass_marks.ensures.spends c.pass_marks-2.ensures.spends

pub returns-clause-passed : goal.returns-clause-passed
returns-clause-passed g t c =
    let s = c.args.engine.now.store in
    let p = c.pass_marks.new.engine.store in
    let q = c.pass_marks-2.new.engine.store in
    let k = c.args.marks.now in
    let xs = c.split_at.result.0.now in
    let ys = c.split_at.result.1.now in
    let x = c.in_ok-before.ensures.passed in
    let has = has_behind k xs ys (length k / 2)
    (omega arith) c.split_at.ensures.front c.split_at.ensures.back s c.requires.marks in
    let y = passed_before s p q c.pass_marks.ensures.call.keeps.engine.grows c.args.strict ys has
    c.in_ok-after.after c.in_ok-after.ensures.passed in
    if_ok c.join_halves.result c.join_halves.ensures.joined (λ r j.
    halves_passed k xs ys (length k / 2)
    (omega arith) c.split_at.ensures.front c.split_at.ensures.back c.requires.sorted s p q
    c.join_halves.new.engine.store c.pass_marks-2.ensures.call.keeps.engine.grows c.args.strict
    c.in_ok-before.before c.in_ok-after.after r x y j)

pub returns-clause-call : goal.returns-clause-call
returns-clause-call g t c = record {
  keeps = keeps_join (keeps_join c.pass_marks.ensures.call.keeps
      c.pass_marks-2.ensures.call.keeps) c.join_halves.ensures.call.keeps;
  held = search rules;
}

pub returns-clause-spends : goal.returns-clause-spends
returns-clause-spends g t c =
    let s = c.args.engine.now.store in
    let q = c.pass_marks-2.new.engine.store in
    let n = length c.split_at.result.0.now in
    let m = length c.split_at.result.1.now in
    Spends-then s q c.join_halves.new.engine.store (5 * (n - 1) + 5 * (m - 1)) 5
    (5 * (length c.args.marks.now - 1)) (c.pass_marks-2.ensures.call.keeps.engine.grows.levels
    ∙ c.pass_marks.ensures.call.keeps.engine.grows.levels)
    (omega (arith, c.split_at.ensures.back_len, c.split_at.ensures.front_len, c.requires.some))
    (Spends-then s c.pass_marks.new.engine.store q (5 * (n - 1))
    (5 * (m - 1)) _ c.pass_marks.ensures.call.keeps.engine.grows.levels
    (omega arith) c.pass_marks.ensures.spends c.pass_marks-2.ensures.spends)
    c.join_halves.ensures.spends

pub returns-in_err-after-clause-call : goal.returns-in_err-after-clause-call
returns-in_err-after-clause-call g t c = record {
  keeps = keeps_join c.pass_marks.ensures.call.keeps c.pass_marks-2.ensures.call.keeps;
  held = search rules;
}
