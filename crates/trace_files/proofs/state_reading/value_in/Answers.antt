use Rattle.std.proofs.Common.{◌≡◌, ◌∙◌, ◌<◌, ℕ, List, ap, length, arith, get_or}
use Rattle.std.proofs.lemmas.List.{get_or_default}
use Rattle.kripke_model.specs.System.{Variable}
use Rattle.trace_files.specs.Parts.{lone}
use Rattle.trace_files.proofs.FoundLines.{value_in_so}
use Rattle.trace_files.proofs.state_reading.value_in.Goals as goal

pub returns : goal.returns
returns c =
    let m = c.args.model.now in
    let x : length c.values-x.result.now ≡ length c.args.earlier.now = ap length c.values-x.ensures in
    let below : length c.values-x.result.now < length c.vars.result.now = omega (arith, c.requires, x, ap length c.vars.ensures) in
    let own = c.index-vars-x.is ∙ get_or_default c.vars.result.now (length c.values-x.result.now) _ lone below ∙ ap (λ (vs : List Variable). get_or vs (length c.values-x.result.now) lone) c.vars.ensures
    ∙ ap (λ (i : ℕ). get_or m.vars i lone) x in
    value_in_so m c.args.earlier.now (length c.values-x.result.now) x c.args.text.now c.in_ok-word.word.now c.values.result.now (c.values.ensures ∙ ap (λ (v : Variable). v.values) own) c.in_ok-word.ensures
    c.value_written.result c.value_written.ensures
