use Rattle.proof_text.proofs.rule_reading.read_body.Goals as goal

pub returns-in-Ex : goal.returns-in-Ex
returns-in-Ex c = rw c.in-Ex.is (c.read_ex.ensures c.args.count)

pub returns-in-Ax : goal.returns-in-Ax
returns-in-Ax c = rw c.in-Ax.is (c.read_ax.ensures c.args.count)

pub returns-in-Ar : goal.returns-in-Ar
returns-in-Ar c = rw c.in-Ar.is (c.read_ar.ensures c.args.count)

pub returns-in-Eu : goal.returns-in-Eu
returns-in-Eu c = rw c.in-Eu.is (c.read_eu.ensures c.args.count)

pub returns-in-Au : goal.returns-in-Au
returns-in-Au c = rw c.in-Au.is (c.read_au.ensures)

pub returns-in-Er : goal.returns-in-Er
returns-in-Er c = rw c.in-Er.is (c.read_er.ensures)
