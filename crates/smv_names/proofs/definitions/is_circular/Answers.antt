use Rattle.smv_names.proofs.DefinitionLemmas.{flag_right}
use Rattle.smv_names.proofs.definitions.is_circular.Goals as goal

pub returns : goal.returns
returns c = λ p s e nodes ordered at stands.
    flag_right p c.args.order.now.order.items c.args.order.now.circular.items c.node-node.result s e c.index.result.now ordered (c.node-node.ensures p s nodes at e stands) c.index.ensures
