use Rattle.std.proofs.Common.{◌∷◌, [], codes, sym, ap}
use Rattle.std.specs.List.{join_with_byte}
use Rattle.proof_text.proofs.WrittenLines.{first_version}
use Rattle.proof_text.proofs.header_reading.version_text.Goals as goal

pub returns-then-has_leaf_constraints : goal.returns-then-has_leaf_constraints
returns-then-has_leaf_constraints c =
    sym (ap (λ w. join_with_byte 32 (codes "smvproof" ∷ w ∷ [])) (first_version c.args.model.now (c.has_leaf_constraints.ensures.0 c.if-has_leaf_constraints.true)))
