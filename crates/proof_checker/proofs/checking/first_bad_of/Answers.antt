use Rattle.std.proofs.Common.{◌≡◌, ◌+◌, ◌<◌, length, IfOk, Some, arith, sym, ◌∙◌, ap, subst}
use Rattle.std.specs.Prelude.{All}
use Rattle.bdd_nodes.specs.Table.{Has, IsGood}
use Rattle.bit_encode.specs.Code.{state_bits}
use Rattle.kripke_model.specs.WellFormed.{ctl_of}
use Rattle.proof_form.specs.Form.{map_proof, sets_of}
use Rattle.proof_form.specs.Meaning.{obligations}
use Rattle.proof_form.specs.Shape.{spec_formula}
use Rattle.proof_lines.proofs.WholeTests.{spec_leaves}
use Rattle.proof_text.specs.File.{Block}
use Rattle.proof_text.specs.Lines.{block_lines}
use Rattle.proof_text.specs.Meaning.{over_states}
use Rattle.proof_checker.specs.Found.{IsFound}
use Rattle.proof_checker.specs.Imported.{node_states}
use Rattle.proof_checker.specs.Reads.{IsRead}
use Rattle.proof_checker.proofs.Answered.{block_is, ordered_is, nodes_good, shape_is, nodes_few}
use Rattle.proof_checker.proofs.Sizes.{nodes_fit}
use Rattle.proof_checker.proofs.checking.first_bad_of.Goals as goal

pub test_nodes-requires-clause-given : goal.test_nodes-requires-clause-given
test_nodes-requires-clause-given g c =
    let m = c.args.model.now in
    let order = c.args.order.now in
    let f = ctl_of c.args.formula.now in
    let b : Block = record { spec = c.block.inside.spec; nodes = c.block.inside.nodes.items; proof = c.block.inside.proof; first = c.block.inside.first } in
    let read : IsRead m order b = subst (IsRead m order) (sym c.block.view_is) c.requires.read in
    let is : Some f ≡ spec_formula m b.spec = subst (λ (x : Block). Some f ≡ spec_formula m x.spec) (sym c.block.view_is) c.requires.formula in record {
      faultless = c.requires.faultless;
      few = c.requires.bits;
      ordered = ordered_is m order b read;
      leaves = spec_leaves m b.spec (over_states m order b) f is;
      shape = shape_is m order b read f is;
      good = subst (IsGood (state_bits m)) (sym c.deref.ensures.value) (nodes_good m order b read c.nodes_law.ensures);
      known = subst (λ ns. All (Has ns) (sets_of c.block.inside.proof)) (sym c.deref.ensures.value) (block_is m order b read).sets;
      sizes = nodes_fit m b.spec f (sym is);
      small = subst (λ ns. length ns + 2 < 4294967296) (sym c.deref.ensures.value) (nodes_few m order b read f is c.lines_law.ensures);
    }

pub returns-clause-found : goal.returns-clause-found
returns-clause-found g c =
    let m = c.args.model.now in
    let order = c.args.order.now in
    let f = ctl_of c.args.formula.now in
    subst (λ (b : Block). IfOk c.test_nodes.result (IsFound m (obligations m f (over_states m order b)))) c.block.view_is
    (subst (λ ns. IfOk c.test_nodes.result (IsFound m (obligations m f (map_proof (node_states m order ns) c.block.inside.proof)))) c.deref.ensures.value c.test_nodes.ensures.found)

pub returns-clause-refused : goal.returns-clause-refused
returns-clause-refused g c =
    let m = c.args.model.now in
    let order = c.args.order.now in
    let b = c.args.block.now in
    let f = ctl_of c.args.formula.now in
    let nodes : length c.deref.result.now ≡ length b.nodes = ap length c.deref.ensures.value ∙ ap (λ (x : Block). length x.nodes) c.block.view_is in
    let lines = c.lines_law.ensures order b f (shape_is m order b c.requires.read f c.requires.formula) in
    c.test_nodes.ensures.refused (length (block_lines m b)) (omega (arith, nodes, lines))
