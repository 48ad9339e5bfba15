use Rattle.smv_instantiate.proofs.WrittenLemmas.{written}
use Rattle.smv_instantiate.proofs.written.Goals as goal

pub returns : goal.returns
returns c p parsed = written parsed.bytes parsed.tokens p parsed.lexed parsed.derived
