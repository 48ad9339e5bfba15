use Rattle.std.proofs.Common.{sym, ⊎_elim}
use Rattle.smv_lexer.proofs.Atoms.{IsUtf8-shape, atom_or_keyword}
use Rattle.smv_lexer.proofs.piece.word_kind.Goals as goal

pub from_bytes-requires : goal.from_bytes-requires
from_bytes-requires c = IsUtf8-shape c.args.word.now c.requires

pub returns-clause-spells : goal.returns-clause-spells
returns-clause-spells c = (sym c.in_ok-from_bytes.ensures, ⊎_elim (λ atom. atom) (λ k. absurd (c.in_default.ensures.none k.0 k.1)) (atom_or_keyword c.args.word.now c.requires))
