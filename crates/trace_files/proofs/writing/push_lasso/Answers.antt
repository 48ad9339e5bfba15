use Rattle.std.proofs.Common.{◌≡◌, ◌∙◌, ◌++◌, List, length, ap, arith}
use Rattle.std.proofs.lemmas.Result.{on_ok_weaker}
use Rattle.kripke_model.specs.Path.{Lasso}
use Rattle.kripke_model.specs.System.{State}
use Rattle.text_lines.specs.WholeLines.{join_lines}
use Rattle.trace_files.specs.Trace.{states_lines, lasso_lines}
use Rattle.trace_files.proofs.WrittenLines.{lasso_text}
use Rattle.trace_files.proofs.writing.push_lasso.Goals as goal

pub returns : goal.returns
returns c =
    let m = c.args.model.now in
    let t = c.args.text.now in
    let stem = c.lasso.inside.stem.items in
    let cycle = c.lasso.inside.cycle.items in
    let long : c.len-stem.result ≡ length stem = omega (arith, c.len-stem.ensures, c.lasso.inside.stem.ok) in
    let first = c.in_ok-push_states.ensures ∙ ap (λ (states : List State). t ++ join_lines (states_lines m 0 states)) c.deref.ensures.value in
    let second = c.in_ok-push_states-2.ensures ∙ ap (λ (states : List State). c.push_states.new.text ++ join_lines (states_lines m c.len-stem.result states)) c.deref-2.ensures.value in
    on_ok_weaker c.push_numbered.result
    (λ last. lasso_text m stem cycle c.len-stem.result long t c.push_states.new.text c.push_states-2.new.text c.push_numbered.new.text first second last
    ∙ ap (λ (path : Lasso). t ++ join_lines (lasso_lines m path)) c.lasso.view_is) c.push_numbered.ensures
