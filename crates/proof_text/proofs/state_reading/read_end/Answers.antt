use Rattle.std.proofs.Common.{Bool, subst, sym}
use Rattle.proof_text.specs.FileParts.{FitsEnd}
use Rattle.proof_text.specs.Lines.{end_lines}
use Rattle.proof_text.specs.SetParts.{Finds}
use Rattle.proof_text.proofs.state_reading.read_end.Goals as goal

pub returns-then-claim : goal.returns-then-claim
returns-then-claim c =
    subst (λ (b : Bool). Finds (FitsEnd c.args.model.now b) (end_lines c.args.model.now) c.args.cursor.now c.read_true_end.result c.read_true_end.new.cursor) (sym c.if-claim.true) c.read_true_end.ensures

pub returns-else-claim : goal.returns-else-claim
returns-else-claim c =
    subst (λ (b : Bool). Finds (FitsEnd c.args.model.now b) (end_lines c.args.model.now) c.args.cursor.now c.read_false_end.result c.read_false_end.new.cursor) (sym c.if-claim.false) c.read_false_end.ensures
