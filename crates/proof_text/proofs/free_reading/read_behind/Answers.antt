use Rattle.std.proofs.Common.{Ok, sym, subst, arith}
use Rattle.std.proofs.lemmas.Result.{err_from_is_err_and}
use Rattle.kripke_model.specs.WellFormed.{ctl_of}
use Rattle.proof_text.specs.ProofParts.{FitsBehind, behind_lines}
use Rattle.proof_text.specs.SetParts.{Finds}
use Rattle.proof_text.proofs.FoundFree.{to_free}
use Rattle.proof_text.proofs.Joined.{room_of}
use Rattle.proof_text.proofs.ReadFree.{free_layers_fault, free_fair_fault, free_ending_fault, behind_found}
use Rattle.proof_text.proofs.free_reading.read_behind.Goals as goal

pub returns-in_err-nonfair : goal.returns-in_err-nonfair
returns-in_err-nonfair c =
    let p = err_from_is_err_and c.from_residual.result c.from_residual.ensures.1 in
    rw (p.1, p.2) (free_layers_fault _ c.rules_law.ensures.flat _ c.requires.few_nodes c.args.claim _ c.requires.some c.in_err-nonfair.ensures)

pub read_fair-requires-clause-room : goal.read_fair-requires-clause-room
read_fair-requires-clause-room c = omega (arith, c.requires.room, room_of c.in_ok-nonfair.ensures)

pub returns-in_err-fair : goal.returns-in_err-fair
returns-in_err-fair c =
    let p = err_from_is_err_and c.from_residual-in_err-fair.result c.from_residual-in_err-fair.ensures.1 in
    rw (p.1, p.2) (free_fair_fault _ c.rules_law.ensures.flat _ c.requires.few_nodes c.args.claim _ c.requires.some c.in_ok-nonfair.ensures c.in_err-fair.ensures)

pub read_free_ending-requires-clause-room : goal.read_free_ending-requires-clause-room
read_free_ending-requires-clause-room c = omega (arith, c.requires.room, room_of c.in_ok-nonfair.ensures, room_of c.in_ok-fair.ensures)

pub returns-in_err-entries : goal.returns-in_err-entries
returns-in_err-entries c =
    let p = err_from_is_err_and c.from_residual-in_err-entries.result c.from_residual-in_err-entries.ensures.1 in
    rw (p.1, p.2) (free_ending_fault _ c.rules_law.ensures.flat _ c.requires.few_nodes c.args.claim _ c.requires.some c.in_ok-nonfair.ensures c.in_ok-fair.ensures c.in_err-entries.ensures)

pub returns : goal.returns
returns c =
    subst (λ p. Finds (FitsBehind c.args.model.now (ctl_of c.args.formula.now) c.args.claim c.args.most) (behind_lines c.args.model.now) c.args.cursor.now
    (Ok (to_free (c.in_ok-nonfair.nonfair.items, (c.in_ok-fair.fair, (c.in_ok-entries.entries.items, p))))) c.read_free_ending.new.cursor) (sym c.proof.view_is)
    (behind_found _ c.rules_law.ensures.flat _ c.requires.few_nodes c.args.claim _ c.requires.some c.in_ok-nonfair.ensures c.in_ok-fair.ensures c.in_ok-entries.ensures)
