use Rattle.smv_session.proofs.source.read_model.Goals as goal

pub returns-clause-refused : goal.returns-clause-refused
returns-clause-refused c = c.ruled_of.ensures.refused c.args.text.now (c.in_ok-flat.ensures.flat c.args.text.now c.in_ok-program.ensures.program)
