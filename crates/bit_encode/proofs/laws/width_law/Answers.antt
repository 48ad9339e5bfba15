use Rattle.bit_encode.proofs.BinaryLemmas.{width-enough, width-least}
use Rattle.bit_encode.proofs.laws.width_law.Goals as goal

pub returns-clause-enough : goal.returns-clause-enough
returns-clause-enough c = width-enough c.args.count

pub returns-clause-least : goal.returns-clause-least
returns-clause-least c = width-least c.args.count
