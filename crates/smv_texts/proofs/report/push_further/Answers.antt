use Rattle.std.proofs.Common.{◌≡◌, ◌∙◌, ◌<◌, ◌++◌, ℕ, List, drop, length, ap, arith}
use Rattle.std.proofs.lemmas.Result.{on_ok_weaker}
use Rattle.kripke_model.specs.Path.{Lasso}
use Rattle.kripke_model.specs.System.{State}
use Rattle.smv_texts.specs.Report.{numbered, state_lines}
use Rattle.smv_texts.proofs.ReportLemmas.{further}
use Rattle.smv_texts.proofs.report.push_further.Goals as goal

pub returns : goal.returns
returns c =
    let text = state_lines c.args.model.now in
    let t = c.args.text.now in
    let t1 = c.push_states-2.new.text in
    let some : 0 < length c.path.inside.stem.items = search (arith, c.is_empty.ensures, c.if-is_empty.false) in
    let first = c.in_ok-push_states.ensures ∙ ap (λ (states : List State). t ++ numbered text 1 states) (c.after_first-2.ensures ∙ ap (drop 1) c.deref-2.ensures.value) in
    let long : c.len.result ≡ length c.path.inside.stem.items = omega (arith, c.len.ensures, c.path.inside.stem.ok) in
    let number = ap (λ (n : ℕ). t1 ++ numbered text n c.deref-3.result.now) long in
    let rest = ap (λ (states : List State). t1 ++ numbered text (length c.path.inside.stem.items) states) c.deref-3.ensures.value in
    on_ok_weaker c.push_states-3.result
    (λ last. further text c.path.inside.stem.items c.path.inside.cycle.items t t1 c.push_states-3.new.text some first (last ∙ number ∙ rest)
    ∙ ap (λ (path : Lasso). t ++ numbered text 1 (drop 1 (path.stem ++ path.cycle))) c.path.view_is) c.push_states-3.ensures
