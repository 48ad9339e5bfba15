use Rattle.proof_cases.proofs.Stripped.{same_at}
use Rattle.proof_cases.proofs.wrong.renumber_at.Goals as goal

pub returns-clause-sets : goal.returns-clause-sets
returns-clause-sets c =
    same_at c.args.entries.now.items c.args.k c.index_mut.result.now c.renumber.new.entry c.requires c.index_mut.ensures.value c.renumber.ensures
