use Rattle.rank_extract.proofs.Extracted.{free_proves, leaf_proves}
use Rattle.rank_extract.proofs.FreeWhole.{whole_free}
use Rattle.rank_extract.proofs.laws.written_law.Goals as goal

pub returns-clause-runs : goal.returns-clause-runs
returns-clause-runs c f now run live st shown free whole =
    free_proves c.args.model.now f now run live st shown free whole.fits whole.lines whole.true_there whole.false_there

pub returns-clause-leaves : goal.returns-clause-leaves
returns-clause-leaves c leaves f now run live st shown = leaf_proves c.args.model.now f now run live st shown leaves

pub returns-clause-free : goal.returns-clause-free
returns-clause-free c paths visited whole Z fair layers reaches all pruned parts written = whole_free c.args.model.now visited whole Z fair layers reaches all pruned parts written paths
