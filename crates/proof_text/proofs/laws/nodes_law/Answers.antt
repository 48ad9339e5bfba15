use Rattle.proof_text.proofs.GoodBlocks.{spelled_good}
use Rattle.proof_text.proofs.laws.nodes_law.Goals as goal

pub returns : goal.returns
returns c = λ file bytes s. spelled_good c.args.model.now file bytes s
