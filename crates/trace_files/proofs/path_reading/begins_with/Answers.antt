use Rattle.trace_files.proofs.FoundLines.{begins_so}
use Rattle.trace_files.proofs.path_reading.begins_with.Goals as goal

pub returns-in-Some-clause-yes : goal.returns-in-Some-clause-yes
returns-in-Some-clause-yes c = (begins_so c.args.front.now c.in-Some.text.now c.args.cursor.now c.in-Some.ensures c.starts_with.result c.starts_with.ensures.value).0

pub returns-in-Some-clause-no : goal.returns-in-Some-clause-no
returns-in-Some-clause-no c = (begins_so c.args.front.now c.in-Some.text.now c.args.cursor.now c.in-Some.ensures c.starts_with.result c.starts_with.ensures.value).1
