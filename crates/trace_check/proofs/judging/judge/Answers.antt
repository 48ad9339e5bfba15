use Rattle.std.proofs.Common.{◌≡◌, ◌<◌, ◌-◌, ℕ, length, ap, subst, arith}
use Rattle.std.proofs.lemmas.List.{length-map}
use Rattle.kripke_model.specs.Ctl.{formula_of}
use Rattle.kripke_model.specs.System.{Condition}
use Rattle.kripke_model.specs.WellFormed.{ctl_of}
use Rattle.proof_form.specs.Shape.{spec_formula}
use Rattle.trace_files.specs.Trace.{Trace}
use Rattle.trace_check.specs.Judged.{IsJudged, JudgedAs}
use Rattle.trace_check.specs.declared.judged.Judged.TheVariants.{Accepted}
use Rattle.trace_check.proofs.Judge.{one_judged, accepted_false}
use Rattle.trace_check.proofs.Members.{formula_in, formula_of_spec, spec_so}
use Rattle.trace_check.proofs.judging.judge.Goals as goal

pub judge_formula-requires-clause-formula : goal.judge_formula-requires-clause-formula
judge_formula-requires-clause-formula g c =
    let m = c.args.model.now in
    let at : c.file.inside.spec ≡ c.args.file.now.spec = ap (λ (t : Trace). t.spec) c.file.view_is in
    let less : c.file.inside.spec - 1 < length m.specs = omega (arith, at, c.requires.trace.spec.0, c.requires.trace.spec.1) in (
      c.file.inside.spec - 1,
      omega (arith, less, length-map m.specs (λ (s : Condition). formula_of s.expr)),
      formula_in m c.formulas.result.now c.formulas.ensures (c.file.inside.spec - 1) c.index-formulas-place.result c.index-formulas-place.is less,
    )

pub returns-clause-judged : goal.returns-clause-judged
returns-clause-judged g c =
    let m = c.args.model.now in
    let at : c.file.inside.spec ≡ c.args.file.now.spec = ap (λ (t : Trace). t.spec) c.file.view_is in
    let place : c.file.inside.spec - 1 ≡ c.args.file.now.spec - 1 = ap (λ (n : ℕ). n - 1) at in
    spec_so (λ f. IsJudged m f c.args.file.now.lasso c.judge_formula.result) (spec_formula m c.args.file.now.spec) (ctl_of c.index-formulas-place.result)
    (formula_of_spec m c.formulas.result.now c.formulas.ensures c.args.file.now.spec (c.file.inside.spec - 1) c.index-formulas-place.result c.requires.trace.spec place c.index-formulas-place.is)
    (subst (λ (t : Trace). IsJudged m (ctl_of c.index-formulas-place.result) t.lasso c.judge_formula.result) c.file.view_is c.judge_formula.ensures)

pub returns-clause-accepted : goal.returns-clause-accepted
returns-clause-accepted g c =
    let m = c.args.model.now in
    let t = c.args.file.now in
    let judged : JudgedAs m t c.judge_formula.result = returns-clause-judged g c in
    ((λ e. subst (JudgedAs m t) e judged), (λ w. one_judged m t c.judge_formula.result Accepted judged w))

pub returns-clause-sound : goal.returns-clause-sound
returns-clause-sound g c = λ e. accepted_false c.args.model.now c.args.file.now (subst (JudgedAs c.args.model.now c.args.file.now) e (returns-clause-judged g c))
