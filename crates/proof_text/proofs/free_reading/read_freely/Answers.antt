use Rattle.std.proofs.Common.{[], ◌∷◌, codes, refl, arith}
use Rattle.std.proofs.lemmas.Result.{err_from_is_err_and}
use Rattle.proof_text.proofs.Joined.{room_of}
use Rattle.proof_text.proofs.ReadFree.{line_fault, free_found}
use Rattle.proof_text.proofs.free_reading.read_freely.Goals as goal

pub returns-in_err-read_fixed : goal.returns-in_err-read_fixed
returns-in_err-read_fixed c =
    let p = err_from_is_err_and c.from_residual.result c.from_residual.ensures.1 in
    rw (p.1, p.2) (line_fault _ c.rules_law.ensures.flat _ c.requires.few_nodes c.args.claim _ c.requires.some c.requires.free (c.in_err-read_fixed.ensures (codes "free" ∷ []) refl))

pub read_behind-requires-clause-room : goal.read_behind-requires-clause-room
read_behind-requires-clause-room c = omega (arith, c.requires.room, room_of (c.in_ok-read_fixed.ensures (codes "free" ∷ []) refl))

pub returns : goal.returns
returns c = free_found _ c.rules_law.ensures.flat _ c.requires.few_nodes c.args.claim _ c.requires.some c.requires.free _ (c.in_ok-read_fixed.ensures (codes "free" ∷ []) refl) c.read_behind.ensures
