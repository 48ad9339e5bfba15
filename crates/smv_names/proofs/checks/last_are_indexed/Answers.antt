use Rattle.std.proofs.Common.{sym, subst, take}
use Rattle.std.specs.Prelude.{IfOk}
use Rattle.smv_names.specs.Known.{AreIndexedBy}
use Rattle.smv_names.proofs.CheckLemmas.{AreValues, last_brackets, values_there, values_missing}
use Rattle.smv_names.proofs.checks.last_are_indexed.Goals.{in-Some, in-None}
use Rattle.smv_names.proofs.checks.last_are_indexed.Goals as goal

pub index_values-requires : goal.index_values-requires
index_values-requires c =
    let ask = c.requires.ask in
    (ask.0, take c.args.count ask.1, ask.2, ask.3, last_brackets ask.0 c.args.indexes.now ask.1 c.args.count ask.4)

pub returns : goal.returns
returns c = λ p bs targets numbers are.
    let last = take c.args.count bs in
    let found : AreValues p last c.in_ok-index_values.field-0 = c.in_ok-index_values.ensures p last targets numbers (last_brackets p c.args.indexes.now bs c.args.count are) in
    elim c.match-branch-2.branch [
      | in-Some w ↦ subst (λ r. IfOk r (AreIndexedBy p last)) (sym w.result-is) (values_there p last c.in_ok-index_values.field-0 w.in-Some.field-0 found w.in-Some.is)
      | in-None w ↦ subst (λ r. IfOk r (AreIndexedBy p last)) (sym w.result-is) (values_missing p last c.in_ok-index_values.field-0 found w.in-None.is)
    ]
