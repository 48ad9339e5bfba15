use Rattle.smv_parser.specs.ProgramView as programs
use Rattle.smv_session.proofs.RefusedLemmas.{not_flat}
use Rattle.smv_session.proofs.source.flat_of.Goals as goal

pub returns-in-Err-clause-refused : goal.returns-in-Err-clause-refused
returns-in-Err-clause-refused c = λ bytes has. not_flat bytes (programs.program c.args.program.now) c.in-Err.refusal has c.in-Err.ensures.refused
