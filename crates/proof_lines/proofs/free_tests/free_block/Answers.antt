use Rattle.std.proofs.Common.{length, Some, refl, sym, ◌∙◌, ap, subst}
use Rattle.std.specs.Prelude.{IfOk}
use Rattle.std.proofs.lemmas.Bool.{false≢true}
use Rattle.region_sets.specs.Sets.{region}
use Rattle.proof_form.specs.Form.{map_free}
use Rattle.proof_form.specs.Meaning.{free_lines, free_proof}
use Rattle.proof_form.specs.Shape.{IsFreeInShape}
use Rattle.proof_lines.specs.Cases.{AreLists}
use Rattle.claim_sets.specs.ConstraintClaims.{HaveClaims}
use Rattle.proof_lines.specs.Tested.{AreTested}
use Rattle.proof_lines.proofs.FreeParts.{part_frame, part_frame_of}
use Rattle.proof_lines.proofs.free_tests.free_block.Goals as goal

pub part_lines-requires-clause-frame : goal.part_lines-requires-clause-frame
part_lines-requires-clause-frame g c =
    part_frame (g.S.StateSets.seen c.args.sets.now) c.args.ends.now c.args.nonfair.now c.args.part.now c.requires.ends c.requires.ground _ refl refl
    (sym (ap (λ p. p.inside) c.fair.view_is ∙ ap (λ p. p.fair.inside) c.part.view_is)) refl (record { over = tt; live = λ k h. absurd (false≢true h) })

pub part_lines-requires-clause-own : goal.part_lines-requires-clause-own
part_lines-requires-clause-own g c = λ k.
    part_frame_of (g.S.StateSets.seen c.args.sets.now) c.args.ends.now c.args.nonfair.now c.args.part.now c.requires.ends c.requires.ground _
    (sym (ap (λ p. p.inside) c.fair.view_is ∙ ap (λ p. p.fair.inside) c.part.view_is)) refl k

pub part_lines-requires-clause-live : goal.part_lines-requires-clause-live
part_lines-requires-clause-live g c = c.requires.ground.part_live

pub part_lines-requires-clause-shape : goal.part_lines-requires-clause-shape
part_lines-requires-clause-shape g c = subst (λ o. IsFreeInShape o c.args.part.now) (sym c.requires.over) c.requires.shape

pub part_lines-requires-clause-lists : goal.part_lines-requires-clause-lists
part_lines-requires-clause-lists g c = subst (λ o. AreLists (g.S.StateSets.seen c.args.sets.now) o c.args.lists.now) (sym c.requires.over) c.requires.lists

pub part_lines-requires-clause-count : goal.part_lines-requires-clause-count
part_lines-requires-clause-count g c = c.requires.count ∙ ap (λ m. length m.constraints) (sym c.requires.over)

pub part_lines-requires-clause-claims : goal.part_lines-requires-clause-claims
part_lines-requires-clause-claims g c =
    let start = g.S.StateSets.seen c.args.sets.now in
    subst (λ o. HaveClaims o start (free_proof (Some (map_free (region start) c.args.part.now))) c.args.lists.now) (sym c.requires.over) c.requires.claims

pub returns-clause-tested : goal.returns-clause-tested
returns-clause-tested g c =
    let start = g.S.StateSets.seen c.args.sets.now in
    subst (λ o. IfOk c.part_lines.result (λ yes. AreTested o (free_lines o (Some (map_free (region start) c.args.part.now))) c.args.line.now yes c.part_lines.new.line)) c.requires.over c.part_lines.ensures.tested
