use Rattle.proof_cases.proofs.Stripped.{same_layer_at}
use Rattle.proof_cases.proofs.wrong.avoid_nth.Goals as goal

pub returns : goal.returns
returns c = same_layer_at c.args.layers.now.items c.args.k c.index_mut.result.now c.avoid_at.new.layer c.requires c.index_mut.ensures.value c.avoid_at.ensures
