use Rattle.std.proofs.Common.{◌≡◌, ◌<◌, ◌∙◌, sym, ap, Some, length, arith, Vec, Global}
use Rattle.std.specs.Prelude.{slice_get, option_and_then}
use Rattle.std.proofs.lemmas.Option.{slice_get_within}
use Rattle.smv_names.specs.declared.states.State.{State}
use Rattle.smv_names.proofs.NodeLemmas.{got}
use Rattle.smv_names.proofs.WaitLemmas.{member_at}
use Rattle.smv_names.proofs.states.States.count.Goals as goal

pub returns-clause-inside : goal.returns-clause-inside
returns-clause-inside c place lt =
    let at : slice_get c.args.self.now.rows.items c.args.i ≡ Some c.index.result.now = got c.args.self.now.rows.items c.args.i c.index.result.now c.requires c.index.ensures in
    let m = member_at c.index.result.now.items place (omega (arith, lt, c.len.ensures)) in
    (m.0, ap (option_and_then (λ (r : Vec State Global). slice_get r.items place)) at ∙ m.1)

pub returns-clause-outside : goal.returns-clause-outside
returns-clause-outside c place known is =
    let at : slice_get c.args.self.now.rows.items c.args.i ≡ Some c.index.result.now = got c.args.self.now.rows.items c.args.i c.index.result.now c.requires c.index.ensures in
    let within : place < length c.index.result.now.items = slice_get_within c.index.result.now.items place known (sym (ap (option_and_then (λ (r : Vec State Global). slice_get r.items place)) at) ∙ is) in
    omega (arith, within, c.len.ensures)
