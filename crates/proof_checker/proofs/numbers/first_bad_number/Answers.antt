use Rattle.std.proofs.Common.{◌+◌, ◌≤◌, IfOk, sym, ◌∙◌, ap, subst}
use Rattle.kripke_model.specs.WellFormed.{ctl_of}
use Rattle.region_sets.specs.declared.pins.Pin.{Pin}
use Rattle.region_sets.specs.Ranks.{AreLive}
use Rattle.proof_form.specs.Form.{Proof}
use Rattle.proof_form.specs.Meaning.{obligations}
use Rattle.proof_form.specs.Pinned.{over_states, proof_slots}
use Rattle.proof_form.specs.Shape.{IsInShape}
use Rattle.proof_form.proofs.KeptShapes.{shape_kept}
use Rattle.proof_lines.specs.LineCounts.{set_line_count}
use Rattle.block_proofs.specs.PinsFor.{pin_for}
use Rattle.proof_checker.specs.Found.{IsFound}
use Rattle.proof_checker.proofs.Mapped.{lines_mapped, pinned_live}
use Rattle.proof_checker.proofs.numbers.first_bad_number.Goals as goal

pub first_bad-found-requires-clause-live : goal.first_bad-found-requires-clause-live
first_bad-found-requires-clause-live g c =
    subst (λ (p : Proof Pin). AreLive (g.S.StateSets.seen c.args.sets.now) (proof_slots p)) (sym c.in-Ok.ensures)
    (pinned_live (g.S.StateSets.seen c.args.sets.now) c.args.table.now c.args.proof.now c.requires.live)

pub first_bad-found-requires-clause-shape : goal.first_bad-found-requires-clause-shape
first_bad-found-requires-clause-shape g c =
    subst (λ (p : Proof Pin). IsInShape c.args.model.now (ctl_of c.args.formula.now) p) (sym c.in-Ok.ensures)
    (shape_kept (pin_for c.args.table.now) c.args.model.now (ctl_of c.args.formula.now) c.args.proof.now c.requires.shape)

pub returns-in-Ok-clause-found : goal.returns-in-Ok-clause-found
returns-in-Ok-clause-found g c =
    subst (λ (p : Proof Pin). IfOk c.first_bad-found.result (IsFound c.args.model.now (obligations c.args.model.now (ctl_of c.args.formula.now) (over_states (g.S.StateSets.seen c.args.sets.now) p))))
    c.in-Ok.ensures c.first_bad-found.ensures.found

pub returns-in-Ok-clause-products : goal.returns-in-Ok-clause-products
returns-in-Ok-clause-products g c =
    subst (λ n. g.S.StateSets.products c.first_bad-found.new.sets ≤ g.S.StateSets.products c.args.sets.now + n)
    (ap set_line_count c.in-Ok.ensures ∙ lines_mapped (pin_for c.args.table.now) c.args.proof.now) c.first_bad-found.ensures.products
