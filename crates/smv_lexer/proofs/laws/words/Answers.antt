use Rattle.smv_lexer.proofs.Atoms.{atom_or_keyword, keyword_reserved}
use Rattle.smv_lexer.proofs.Places.{words_are_atoms}
use Rattle.smv_lexer.proofs.laws.words.Goals as goal

pub returns : goal.returns
returns c = record { atoms = words_are_atoms; either = atom_or_keyword; not_both = keyword_reserved }
