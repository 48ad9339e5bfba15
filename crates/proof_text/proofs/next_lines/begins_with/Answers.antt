use Rattle.proof_text.proofs.NextLines.{begins_iff}
use Rattle.proof_text.proofs.next_lines.begins_with.Goals as goal

pub returns-in-Some-clause-yes : goal.returns-in-Some-clause-yes
returns-in-Some-clause-yes c = (begins_iff _ _ c.args.cursor.now c.in-Some.ensures _ c.starts_with.ensures.value).0

pub returns-in-Some-clause-no : goal.returns-in-Some-clause-no
returns-in-Some-clause-no c = (begins_iff _ _ c.args.cursor.now c.in-Some.ensures _ c.starts_with.ensures.value).1
