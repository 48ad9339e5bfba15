use Rattle.std.proofs.Common.{[], ◌∷◌, ◌++◌, ap, ◌∙◌}
use Rattle.value_tables.proofs.ResultLemmas.{everywhere_table}
use Rattle.value_tables.proofs.operators.everywhere.Goals as goal

pub returns-clause-table : goal.returns-clause-table
returns-clause-table c = everywhere_table c.args.engine.now.store c.args.reading _ (c.in-Ok.ensures.items ∙ ap (λ xs. xs ++ record { reading = c.args.reading; region = 1 } ∷ []) c.new-cells.ensures.items)
