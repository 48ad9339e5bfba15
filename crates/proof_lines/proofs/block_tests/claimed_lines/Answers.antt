use Rattle.std.proofs.Common.{◌+◌, ◌*◌, [], refl, sym, ◌∙◌, ap, arith}
use Rattle.kripke_model.specs.Signs.{node_count}
use Rattle.region_sets.specs.Ranks.{slots}
use Rattle.region_sets.proofs.Calls.{let_go, then_call}
use Rattle.fair_rules.specs.Block as blocks
use Rattle.proof_form.specs.Form.{entries_sets}
use Rattle.proof_form.specs.Form.{map_entry}
use Rattle.proof_form.specs.Meaning.{listed_of}
use Rattle.proof_lines.specs.Cases.{formula_in, own_proof}
use Rattle.claim_sets.specs.Claimed.{claims_slots}
use Rattle.region_sets.specs.Sets.{region}
use Rattle.std.proofs.Common.{map}
use Rattle.proof_lines.proofs.BlockClaims.{block_before, frame_is, frame_of, ground_is, ground_of, leaves_are, lists_given, own_claims, own_frame_of}
use Rattle.proof_lines.proofs.CasesKept.{case_then}
use Rattle.proof_lines.proofs.Framed.{frame_then}
use Rattle.proof_lines.proofs.block_tests.claimed_lines.Goals as goal

pub claims-requires-clause-ground : goal.claims-requires-clause-ground
claims-requires-clause-ground g c =
    ground_is c.args.case.now c.args.ends.now (g.S.StateSets.seen c.args.sets.now) c.args.nonfair.now c.requires.case c.requires.ends c.requires.live c.requires.nonfair _ refl refl
    (ap (λ es. slots (entries_sets es)) (sym (c.deref.ensures.value ∙ ap (λ p. p.entries) c.proof.view_is)))

pub claims-requires-clause-leaves : goal.claims-requires-clause-leaves
claims-requires-clause-leaves g c = leaves_are c.args.case.now c.args.ends.now (g.S.StateSets.seen c.args.sets.now) c.args.nonfair.now c.requires.case c.requires.ends c.requires.live c.requires.nonfair

pub main_lines-yes-requires-clause-case : goal.main_lines-yes-requires-clause-case
main_lines-yes-requires-clause-case g c = case_then (g.S.StateSets.seen c.args.sets.now) (g.S.StateSets.seen c.claims.new.sets) c.in_ok-made.ensures.call.pins c.args.case.now c.requires.case

pub main_lines-yes-requires-clause-frame : goal.main_lines-yes-requires-clause-frame
main_lines-yes-requires-clause-frame g c =
    frame_then (g.S.StateSets.seen c.args.sets.now) (g.S.StateSets.seen c.claims.new.sets) _ c.in_ok-made.ensures.call.pins
    (frame_is c.args.case.now c.args.ends.now (g.S.StateSets.seen c.args.sets.now) c.args.nonfair.now c.requires.case c.requires.ends c.requires.live c.requires.nonfair _ refl refl
    (sym (ap (λ p. p.inside) c.fair.view_is ∙ ap (λ p. p.fair.inside) c.proof.view_is)) refl
    (record { over = lists_given (g.S.StateSets.seen c.args.sets.now) c.args.case.now.model.now c.args.lists.now c.requires.case.over c.requires.lists; live = c.requires.lists.live }))

pub main_lines-yes-requires-clause-own : goal.main_lines-yes-requires-clause-own
main_lines-yes-requires-clause-own g c =
    own_frame_of c.args.case.now c.args.ends.now (g.S.StateSets.seen c.args.sets.now) c.args.nonfair.now c.requires.case c.requires.ends c.requires.live c.requires.nonfair (g.S.StateSets.seen c.claims.new.sets) c.in_ok-made.ensures.call.pins _
    (frame_is c.args.case.now c.args.ends.now (g.S.StateSets.seen c.args.sets.now) c.args.nonfair.now c.requires.case c.requires.ends c.requires.live c.requires.nonfair _ refl refl
    (sym (ap (λ p. p.inside) c.fair.view_is ∙ ap (λ p. p.fair.inside) c.proof.view_is)) refl
    (record { over = lists_given (g.S.StateSets.seen c.args.sets.now) c.args.case.now.model.now c.args.lists.now c.requires.case.over c.requires.lists; live = c.requires.lists.live }))
    (frame_of c.args.case.now c.args.ends.now (g.S.StateSets.seen c.args.sets.now) c.args.nonfair.now c.requires.case c.requires.ends c.requires.live c.requires.nonfair _ (sym (ap (λ p. p.inside) c.fair.view_is ∙ ap (λ p. p.fair.inside) c.proof.view_is)) refl)

pub main_lines-yes-requires-clause-claims : goal.main_lines-yes-requires-clause-claims
main_lines-yes-requires-clause-claims g c =
    let start = g.S.StateSets.seen c.args.sets.now in
    own_claims c.args.case.now c.args.ends.now (g.S.StateSets.seen c.args.sets.now) c.args.nonfair.now c.requires.case c.requires.ends c.requires.live c.requires.nonfair (g.S.StateSets.seen c.claims.new.sets) c.in_ok-made.ensures.call.pins c.in_ok-made.made.items c.deref-2.result.now c.deref-2.ensures.value
    (c.in_ok-made.ensures.claims (own_proof start c.args.case.now) (ground_of c.args.case.now c.args.ends.now (g.S.StateSets.seen c.args.sets.now) c.args.nonfair.now c.requires.case c.requires.ends c.requires.live c.requires.nonfair _ refl
    (ap (λ es. blocks.entry_of (map listed_of (map (map_entry (region start)) es))) (sym (c.deref.ensures.value ∙ ap (λ p. p.entries) c.proof.view_is)))))

pub returns-clause-call : goal.returns-clause-call
returns-clause-call g c =
    let_go {xs = claims_slots c.in_ok-made.made.items} {ys = []}
    (then_call (2 * node_count (formula_in c.args.case.now) + 10) c.in_ok-made.ensures.call c.main_lines-yes.ensures.call (omega arith) (omega (arith, c.in_ok-made.ensures.pins))) c.release_claims.ensures.pins c.release_claims.ensures.fulls

pub returns-clause-tested : goal.returns-clause-tested
returns-clause-tested g c =
    block_before c.args.case.now (g.S.StateSets.seen c.args.sets.now) (g.S.StateSets.seen c.claims.new.sets) c.args.lists.now c.requires.case c.in_ok-made.ensures.call.pins c.requires.lists.live c.args.line.now c.main_lines-yes.result c.main_lines-yes.new.line
    c.main_lines-yes.ensures.tested
