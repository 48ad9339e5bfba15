use Rattle.smv_lexer.proofs.Places.{all_placed, in_order}
use Rattle.smv_lexer.proofs.laws.places.Goals as goal

pub returns : goal.returns
returns c = record { placed = all_placed; in_order = in_order }
