use Rattle.std.proofs.Common.{◌≡◌, ◌∙◌, ◌++◌, ℕ, List, length, ap, arith}
use Rattle.std.proofs.lemmas.Result.{on_ok_weaker}
use Rattle.kripke_model.specs.Path.{Lasso}
use Rattle.kripke_model.specs.System.{State}
use Rattle.smv_texts.specs.Report.{numbered, state_lines}
use Rattle.smv_texts.proofs.ReportLemmas.{from_first}
use Rattle.smv_texts.proofs.report.push_all.Goals as goal

pub returns : goal.returns
returns c =
    let text = state_lines c.args.model.now in
    let t = c.args.text.now in
    let t1 = c.push_states.new.text in
    let first = c.in_ok-push_states.ensures ∙ ap (λ (states : List State). t ++ numbered text 0 states) c.deref.ensures.value in
    let long : c.len.result ≡ length c.path.inside.stem.items = omega (arith, c.len.ensures, c.path.inside.stem.ok) in
    let number = ap (λ (n : ℕ). t1 ++ numbered text n c.deref-2.result.now) long in
    let rest = ap (λ (states : List State). t1 ++ numbered text (length c.path.inside.stem.items) states) c.deref-2.ensures.value in
    on_ok_weaker c.push_states-2.result
    (λ last. from_first text c.path.inside.stem.items c.path.inside.cycle.items t t1 c.push_states-2.new.text first (last ∙ number ∙ rest)
    ∙ ap (λ (path : Lasso). t ++ numbered text 0 (path.stem ++ path.cycle)) c.path.view_is) c.push_states-2.ensures
