use Rattle.std.proofs.Common.{◌≡◌, ◌<◌, [], length, map, get_or, sym, ◌∙◌, ap, arith}
use Rattle.std.proofs.lemmas.List.{get_or-map, length-map}
use Rattle.kripke_model.specs.System.{Variable}
use Rattle.proof_text.proofs.NameTables.{name_added}
use Rattle.proof_text.proofs.variable_names.VariableNames.of.Goals as goal

pub loop-var-preserved : goal.loop-var-preserved
loop-var-preserved c =
    let inside : c.loop-var.var-index < length (map (λ (v : Variable). v.name) c.args.vars.now) = omega (arith, c.loop-var-test.true, length-map c.args.vars.now (λ (v : Variable). v.name)) in
    let here : get_or (map (λ (v : Variable). v.name) c.args.vars.now) c.loop-var.var-index [] ≡ c.as_bytes.result.now =
    get_or-map (λ (v : Variable). v.name) c.args.vars.now c.loop-var.var-index c.var-item.result [] (omega (arith, c.loop-var-test.true))
    ∙ ap (λ (v : Variable). v.name) (sym c.var-item.is) ∙ sym (λ j. (c.var.view_is j).name) ∙ sym c.as_bytes.ensures in
    name_added (map (λ (v : Variable). v.name) c.args.vars.now) c.loop-var.var-index c.loop-var.set.keys c.insert.new.self.keys c.as_bytes.result c.requires inside c.loop-var.invariant here c.in_ok-insert.ensures.keys
