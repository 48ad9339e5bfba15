use Rattle.std.proofs.Common.{◌+◌, ◌*◌, true, false, Some, subst, arith}
use Rattle.kripke_model.specs.Signs.{node_count}
use Rattle.region_sets.proofs.Calls.{then_call}
use Rattle.proof_lines.specs.Cases.{formula_in}
use Rattle.region_sets.specs.Sets.{region}
use Rattle.proof_form.specs.Form.{map_free}
use Rattle.proof_form.specs.Meaning.{free_lines}
use Rattle.proof_lines.specs.Tested.{AreTested}
use Rattle.proof_lines.proofs.CasesKept.{case_then, ends_then, lists_then}
use Rattle.proof_lines.proofs.WholeTests.{part_fails, part_shape, part_then}
use Rattle.proof_lines.proofs.LineSums.{with_part}
use Rattle.proof_lines.proofs.testing.listed_lines.Goals as goal

pub free_block-requires-clause-over : goal.free_block-requires-clause-over
free_block-requires-clause-over g c = c.requires.case.over

pub free_block-requires-clause-shape : goal.free_block-requires-clause-shape
free_block-requires-clause-shape g c = part_shape c.args.case.now (g.S.StateSets.seen c.args.sets.now) c.requires.case c.args.part.now c.requires.part

pub returns-then-not-branch-clause-tested : goal.returns-then-not-branch-clause-tested
returns-then-not-branch-clause-tested g c =
    let start = g.S.StateSets.seen c.args.sets.now in
    let m = c.args.case.now.model.now in
    part_fails c.args.case.now (g.S.StateSets.seen c.args.sets.now) c.requires.case c.args.part.now c.requires.part c.args.line.now c.free_block.new.line
    (subst (λ b. AreTested m (free_lines m (Some (map_free (region start) c.args.part.now))) c.args.line.now b c.free_block.new.line) c.if-not-branch.true c.in_ok-free_block.ensures.tested)

pub own_block-requires-clause-case : goal.own_block-requires-clause-case
own_block-requires-clause-case g c = case_then (g.S.StateSets.seen c.args.sets.now) (g.S.StateSets.seen c.free_block.new.sets) c.free_block.ensures.call.pins c.args.case.now c.requires.case

pub own_block-requires-clause-ends : goal.own_block-requires-clause-ends
own_block-requires-clause-ends g c = ends_then (g.S.StateSets.seen c.args.sets.now) (g.S.StateSets.seen c.free_block.new.sets) c.free_block.ensures.call.pins c.args.ends.now c.requires.ends

pub own_block-requires-clause-lists : goal.own_block-requires-clause-lists
own_block-requires-clause-lists g c =
    lists_then (g.S.StateSets.seen c.args.sets.now) (g.S.StateSets.seen c.free_block.new.sets) c.free_block.ensures.call.pins c.args.case.now.model.now c.args.lists.now c.requires.lists

pub returns-clause-tested : goal.returns-clause-tested
returns-clause-tested g c =
    let start = g.S.StateSets.seen c.args.sets.now in
    let m = c.args.case.now.model.now in
    part_then c.args.case.now (g.S.StateSets.seen c.args.sets.now) c.requires.case c.args.part.now c.requires.part c.args.lists.now c.requires.lists c.requires.claims (g.S.StateSets.seen c.free_block.new.sets) c.free_block.ensures.call.pins c.args.line.now
    c.free_block.new.line
    (subst (λ b. AreTested m (free_lines m (Some (map_free (region start) c.args.part.now))) c.args.line.now b c.free_block.new.line) c.if-not-branch.false c.in_ok-free_block.ensures.tested)
    c.own_block.result c.own_block.new.line c.own_block.ensures.tested

pub returns-clause-call : goal.returns-clause-call
returns-clause-call g c = then_call (2 * node_count (formula_in c.args.case.now) + 12) c.free_block.ensures.call c.own_block.ensures.call (omega arith) (omega arith)

pub returns-in_err-free_block-clause-products : goal.returns-in_err-free_block-clause-products
returns-in_err-free_block-clause-products g c = omega (arith, c.free_block.ensures.products, with_part c.args.case.now.proof.now c.args.part.now c.requires.part)

pub returns-then-not-branch-clause-products : goal.returns-then-not-branch-clause-products
returns-then-not-branch-clause-products g c = omega (arith, c.free_block.ensures.products, with_part c.args.case.now.proof.now c.args.part.now c.requires.part)

pub returns-clause-products : goal.returns-clause-products
returns-clause-products g c = omega (arith, c.free_block.ensures.products, c.own_block.ensures.products, with_part c.args.case.now.proof.now c.args.part.now c.requires.part)
