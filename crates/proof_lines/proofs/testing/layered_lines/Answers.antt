use Rattle.std.proofs.Common.{◌+◌, ◌*◌, [], length, Some, sym, ◌∙◌, ap, subst, arith}
use Rattle.kripke_model.specs.Signs.{node_count}
use Rattle.region_sets.specs.Sets.{region}
use Rattle.region_sets.proofs.Calls.{let_go, then_call}
use Rattle.fair_rules.specs.FreePart.{constraint_nodes}
use Rattle.proof_form.specs.Form.{map_free}
use Rattle.proof_form.specs.Meaning.{free_proof}
use Rattle.proof_lines.specs.Cases.{AreLists, formula_in}
use Rattle.claim_sets.specs.ConstraintClaims.{HaveClaims, lists_claims_slots}
use Rattle.proof_lines.proofs.CasesKept.{case_then, ends_then}
use Rattle.claim_sets.proofs.FreeClaimLists.{free_ground_then}
use Rattle.proof_lines.proofs.WholeTests.{claims_after, whole_before}
use Rattle.proof_lines.proofs.testing.layered_lines.Goals as goal

pub constraint_claims-requires-clause-over : goal.constraint_claims-requires-clause-over
constraint_claims-requires-clause-over g c = c.requires.case.over

pub listed_lines-yes-requires-clause-case : goal.listed_lines-yes-requires-clause-case
listed_lines-yes-requires-clause-case g c = case_then (g.S.StateSets.seen c.args.sets.now) (g.S.StateSets.seen c.constraint_claims.new.sets) c.in_ok-lists.ensures.call.pins c.args.case.now c.requires.case

pub listed_lines-yes-requires-clause-ends : goal.listed_lines-yes-requires-clause-ends
listed_lines-yes-requires-clause-ends g c = ends_then (g.S.StateSets.seen c.args.sets.now) (g.S.StateSets.seen c.constraint_claims.new.sets) c.in_ok-lists.ensures.call.pins c.args.ends.now c.requires.ends

pub listed_lines-yes-requires-clause-ground : goal.listed_lines-yes-requires-clause-ground
listed_lines-yes-requires-clause-ground g c = free_ground_then (g.S.StateSets.seen c.args.sets.now) (g.S.StateSets.seen c.constraint_claims.new.sets) c.args.ends.now.full.now c.args.nonfair.now c.args.part.now c.in_ok-lists.ensures.call.pins c.requires.ground

pub listed_lines-yes-requires-clause-lists : goal.listed_lines-yes-requires-clause-lists
listed_lines-yes-requires-clause-lists g c =
    subst (λ xs. AreLists (g.S.StateSets.seen c.constraint_claims.new.sets) c.args.case.now.model.now xs) (sym c.deref.ensures.value)
    (record { fitting = c.in_ok-lists.ensures.fitting; live = c.in_ok-lists.ensures.call.pins.there })

pub listed_lines-yes-requires-clause-count : goal.listed_lines-yes-requires-clause-count
listed_lines-yes-requires-clause-count g c = ap length c.deref.ensures.value ∙ c.in_ok-lists.ensures.count

pub listed_lines-yes-requires-clause-claims : goal.listed_lines-yes-requires-clause-claims
listed_lines-yes-requires-clause-claims g c =
    let m = c.args.case.now.model.now in
    subst (λ xs. HaveClaims m (g.S.StateSets.seen c.constraint_claims.new.sets) (free_proof (Some (map_free (region (g.S.StateSets.seen c.constraint_claims.new.sets)) c.args.part.now))) xs) (sym c.deref.ensures.value)
    (claims_after m (g.S.StateSets.seen c.args.sets.now) (g.S.StateSets.seen c.constraint_claims.new.sets) c.args.part.now c.in_ok-lists.lists.items c.in_ok-lists.ensures.call.pins c.requires.ground.part_live c.in_ok-lists.ensures.claims)

pub returns-clause-call : goal.returns-clause-call
returns-clause-call g c =
    let_go {xs = lists_claims_slots c.in_ok-lists.lists.items} {ys = []}
    (then_call (2 * (node_count (formula_in c.args.case.now) + constraint_nodes c.args.case.now.model.now) + 12) c.in_ok-lists.ensures.call c.listed_lines-yes.ensures.call (omega arith) (omega (arith, c.in_ok-lists.ensures.pins)))
    c.release_claim_lists.ensures.pins c.release_claim_lists.ensures.fulls

pub returns-clause-tested : goal.returns-clause-tested
returns-clause-tested g c =
    whole_before c.args.case.now (g.S.StateSets.seen c.args.sets.now) c.requires.case (g.S.StateSets.seen c.constraint_claims.new.sets) c.in_ok-lists.ensures.call.pins c.args.line.now c.listed_lines-yes.result c.listed_lines-yes.new.line c.listed_lines-yes.ensures.tested
