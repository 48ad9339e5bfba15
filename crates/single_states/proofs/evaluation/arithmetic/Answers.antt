use Rattle.std.proofs.Common.{rules, ◌≡◌, ◌*ℤ◌, arith, w64, SFits}
use Rattle.kripke_model.proofs.QuotientLemmas.{quotient_fits, remainder_fits}
use Rattle.std.proofs.lemmas.Int.{to_z-of_z}
use Rattle.single_states.proofs.evaluation.arithmetic.Goals as goal

pub returns-in-Mul : goal.returns-in-Mul
returns-in-Mul c =
    let f : SFits w64 (c.from-a.result *ℤ c.from-b.result) = search rules in
    grind (arith, to_z-of_z)

pub returns-in-Div-2 : goal.returns-in-Div-2
returns-in-Div-2 c =
    let f = quotient_fits c.args.i c.args.j c.ranges.i in
    let a : c.from-a.result ≡ c.args.i = search rules in
    let b : c.from-b.result ≡ c.args.j = search rules in
    grind (arith, to_z-of_z)

pub returns-in-Add : goal.returns-in-Add
returns-in-Add c = grind (arith, to_z-of_z)

pub returns-in-Sub : goal.returns-in-Sub
returns-in-Sub c = grind (arith, to_z-of_z)

pub returns-in-Mod-2 : goal.returns-in-Mod-2
returns-in-Mod-2 c =
    let f = remainder_fits c.args.i c.args.j c.ranges.i in
    let a : c.from-a.result ≡ c.args.i = search rules in
    let b : c.from-b.result ≡ c.args.j = search rules in
    grind (arith, to_z-of_z)
