use Rattle.std.proofs.Common.{◌≡◌}
use Rattle.text_lines.specs.WholeLines.{lines_in}
use Rattle.text_lines.proofs.Places.{taken, none_left}
use Rattle.text_lines.proofs.cursor.Cursor.peek.Goals as goal

pub returns-in_err-text : goal.returns-in_err-text
returns-in_err-text c =
    rw c.from_residual.ensures
    (let left : c.args.self.now.left ≡ c.self.inside.left.now = cc in none_left c.args.self.now _ left c.in_err-text.ensures)

pub returns : goal.returns
returns c =
    let left : c.args.self.now.left ≡ c.self.inside.left.now = cc in
    (lines_in c.in_ok-text.field-0-1.now, (taken c.args.self.now _ _ _ left c.in_ok-text.ensures).lines)
