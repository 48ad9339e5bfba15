use Rattle.std.proofs.Common.{IfOk, sym, subst, slice_index}
use Rattle.std.specs.Prelude.{All}
use Rattle.kripke_model.specs.WellFormed.{ctl_of}
use Rattle.region_sets.specs.Sets.{Sets, IsLive}
use Rattle.proof_form.specs.Form.{sets_of}
use Rattle.proof_form.specs.Meaning.{obligations}
use Rattle.proof_form.specs.Pinned.{over_states}
use Rattle.block_proofs.specs.PinsFor.{pinned}
use Rattle.proof_checker.specs.Found.{IsFound}
use Rattle.proof_checker.proofs.counting.tested_above.Goals as goal

pub first_bad_number-found-requires-clause-live : goal.first_bad_number-found-requires-clause-live
first_bad_number-found-requires-clause-live g c =
    subst (λ (sets : Sets). All (λ number. IsLive sets (slice_index c.args.job.table.now number)) (sets_of c.args.job.proof.now)) (sym c.new-counted.ensures.seen) c.requires.job.live

pub returns-clause-found : goal.returns-clause-found
returns-clause-found g c =
    subst (λ (sets : Sets). IfOk c.first_bad_number-found.result (IsFound c.args.job.model.now (obligations c.args.job.model.now (ctl_of c.args.job.formula.now) (over_states sets (pinned c.args.job.table.now c.args.job.proof.now)))))
    c.new-counted.ensures.seen c.first_bad_number-found.ensures.found
