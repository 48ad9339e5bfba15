use Rattle.std.proofs.Common.{sym, ◌∙◌, arith}
use Rattle.std.proofs.lemmas.Bool.{false≢true}
use Rattle.proof_text.proofs.Joined.{memory_found}
use Rattle.proof_text.proofs.ReadMain.{whole_found}
use Rattle.proof_text.proofs.proof_reading.read_proof.Goals as goal

pub returns-in_default : goal.returns-in_default
returns-in_default c = memory_found (omega arith)

pub returns-then-has_leaf_constraints : goal.returns-then-has_leaf_constraints
returns-then-has_leaf_constraints c = whole_found _ _ _ _ (c.has_leaf_constraints.ensures.0 c.if-has_leaf_constraints.true) _ c.read_main.ensures

pub read_freely-requires-clause-free : goal.read_freely-requires-clause-free
read_freely-requires-clause-free c = λ leaves. false≢true (sym c.if-has_leaf_constraints.false ∙ c.has_leaf_constraints.ensures.1 leaves)
