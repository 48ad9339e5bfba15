use Rattle.std.proofs.Common.{◌≡◌}
use Rattle.text_lines.proofs.Places.{taken, stays}
use Rattle.text_lines.proofs.cursor.Cursor.next.Goals as goal

pub returns-in_err-text : goal.returns-in_err-text
returns-in_err-text c =
    rw c.from_residual.ensures
    (let left : c.args.self.now.left ≡ c.self.inside.left.now = cc in stays _ _ left c.in_err-text.ensures)

pub returns : goal.returns
returns c =
    let left : c.args.self.now.left ≡ c.self.inside.left.now = cc in
    let line : c.args.self.now.line ≡ c.self.inside.line = cc in
    rw (← line) (taken _ _ _ _ left c.in_ok-text.ensures)
