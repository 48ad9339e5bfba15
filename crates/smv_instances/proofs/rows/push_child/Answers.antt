use Rattle.std.proofs.Common.{◌≡◌, refl, sym, ◌∙◌, ap, subst, arith, [], ◌∷◌, ◌++◌, length, map, Some}
use Rattle.std.specs.Prelude.{slice_get, filter}
use Rattle.smv_instances.specs.declared.rows.Step.{Step}
use Rattle.smv_instances.specs.declared.rows.Row.{Row}
use Rattle.smv_instances.specs.Plain.{plain_expr}
use Rattle.smv_instances.specs.Instances.{Scope, is_process}
use Rattle.smv_instances.specs.Declarations.{entries_of}
use Rattle.smv_instances.specs.Counting.{IsCounts}
use Rattle.smv_instances.specs.Walk.{AreRows}
use Rattle.smv_instances.proofs.RowLemmas.{some_at}
use Rattle.smv_instances.proofs.PushLemmas.{entered, child_row, rows_push}
use Rattle.smv_instances.proofs.rows.push_child.Goals as goal

pub returns : goal.returns
returns c = λ ms done counted s m reaches at stands deep.
    let step : Step = c.args.step in
    let row : Row = record { step = Some c.args.step; table = c.args.table; depth = c.args.depth; process = c.in_ok-process.process; children = c.new.result } in
    let child : Scope = Scope.Inside s step.name.now step.process (map plain_expr step.actuals.now) m in
    let rows : c.push.new.self.items ≡ c.args.walk.now.rows.items ++ (row ∷ []) = rw (c.in_ok-push.ensures.items, c.enter_process.ensures.rows) refl in
    let size : length c.args.walk.now.rows.items ≡ length done = reaches.rows.lengths in
    let stood = some_at c.args.walk.now.rows.items step.around c.requires in
    let around = reaches.rows.each step.around stood.0 s stood.1 at in
    let process = entered done s step.name.now (map plain_expr step.actuals.now) m step.process c.args.walk.now.processes.items c.enter_process.new.walk.processes.items c.in_ok-process.process reaches.processes
    (λ e. let f = c.in_ok-process.ensures.itself e in (f.1, f.0 ∙ ap (λ n. c.args.walk.now.processes.items ++ (n ∷ [])) size))
    (λ e. let f = c.in_ok-process.ensures.around e in (ap (slice_get (filter is_process done)) (f.1 stood.0 stood.1) ∙ around.process_is, rw f.0 refl)) in
    record {
      numbered = omega (arith, size, c.len-number.ensures, c.args.walk.now.rows.ok.0);
      reaches = record {
        rows = subst (λ rs. AreRows ms rs (done ++ (child ∷ []))) (sym rows) (rows_push ms c.args.walk.now.rows.items done row child reaches.rows (child_row ms done s m step row c.enter_process.new.walk.processes.items at stands refl deep process));
        processes = process.pairs;
        counts = subst (λ k. IsCounts k (entries_of counted)) (sym c.enter_process.ensures.counts) reaches.counts;
      };
      row = row;
      kept = rows;
    }
