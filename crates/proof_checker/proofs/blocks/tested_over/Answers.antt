use Rattle.std.proofs.Common.{◌≡◌, ◌+◌, length, sym, ◌∙◌, subst, arith}
use Rattle.std.proofs.lemmas.Result.{IfOk-weaker}
use Rattle.bit_encode.specs.Code.{types_of}
use Rattle.diagram_sets.specs.Exports.{coding_in}
use Rattle.fair_rules.specs.FreePart.{constraint_nodes}
use Rattle.kripke_model.specs.Signs.{node_count}
use Rattle.kripke_model.specs.WellFormed.{ctl_of}
use Rattle.proof_form.specs.Form.{sets_of}
use Rattle.proof_form.specs.Meaning.{obligations}
use Rattle.proof_form.specs.Pinned.{over_states}
use Rattle.block_proofs.specs.PinsFor.{pinned}
use Rattle.proof_checker.specs.Found.{IsFound}
use Rattle.proof_checker.specs.Givens.{given_lines}
use Rattle.proof_checker.specs.Imported.{HaveNumbers, node_states, seen_in}
use Rattle.proof_checker.proofs.Rooms.{import_met, pins_live, test_met}
use Rattle.proof_checker.proofs.Told.{all_same, found_there}
use Rattle.proof_checker.proofs.blocks.tested_over.Goals as goal

pub release_all-requires-clause-live : goal.release_all-requires-clause-live
release_all-requires-clause-live g c =
    let given = c.args.given.now in
    let e = c.in-Ok.ensures in
    pins_live given.model.now given.order.now c.args.limit c.args.sets c.requires.ready (length given.nodes.now + 2) (omega arith)
    c.import_numbers.new.sets e.fit c.in-Ok.field-0 e.call e.few (seen_in c.test_job-after.result.0) c.test_job-after.ensures.call.pins

pub returns-in-Ok-clause-found : goal.returns-in-Ok-clause-found
returns-in-Ok-clause-found g c =
    let given = c.args.given.now in
    let m = given.model.now in
    let f = ctl_of given.formula.now in
    let x = c.import_numbers.new.sets in
    let table = c.deref.result.now in
    let pins = c.in-Ok.ensures.call.pins in
    let over : (seen_in x).over ≡ m = pins.over ∙ c.requires.ready.clear.over in
    let gauge = pins.gauge ∙ c.requires.ready.clear.gauge in
    let coding : coding_in x ≡ record { types = types_of m; order = given.order.now } =
    c.coding_law-in-Ok.ensures ∙ (λ i. record { types = types_of (over i); order = (gauge i).order }) in
    let have : HaveNumbers x given.nodes.now table (sets_of given.proof.now) =
    subst (λ t. HaveNumbers x given.nodes.now t (sets_of given.proof.now)) (sym c.deref.ensures.value) c.in-Ok.ensures.states in
    IfOk-weaker c.test_job-after.result.1 (IsFound m (obligations m f (over_states (seen_in x) (pinned table given.proof.now)))) (IsFound m (given_lines given))
    (found_there m f (seen_in x) table (node_states m given.order.now given.nodes.now) given.proof.now c.requires.given.shape
    (all_same x m given.order.now given.nodes.now table over coding (sets_of given.proof.now) have))
    c.test_job-after.ensures.found

pub returns-in-Ok-clause-refused : goal.returns-in-Ok-clause-refused
returns-in-Ok-clause-refused g c lines le =
    let given = c.args.given.now in
    let m = given.model.now in
    let e = c.in-Ok.ensures in
    test_met m given.order.now c.args.limit c.args.sets c.requires.ready (length given.nodes.now + 2) (omega arith)
    c.import_numbers.new.sets e.fit c.in-Ok.field-0 e.call e.few (seen_in c.test_job-after.result.0) c.test_job-after.ensures.call.pins
    (node_count (ctl_of given.formula.now) + constraint_nodes m) c.requires.given.sizes c.test_job-after.result.1 c.test_job-after.ensures.call lines le

pub returns-in-Err-clause-refused : goal.returns-in-Err-clause-refused
returns-in-Err-clause-refused g c lines le =
    let given = c.args.given.now in
    import_met given.model.now given.order.now c.args.limit c.args.sets c.requires.ready (length given.nodes.now + 2) (omega arith)
    c.import_numbers.new.sets c.in-Err.ensures.fit c.in-Err.refusal c.in-Err.ensures.call lines le
