use Rattle.std.proofs.Common.{subst}
use Rattle.kripke_model.specs.WellFormed.{ctl_of}
use Rattle.proof_form.specs.Meaning.{obligations}
use Rattle.proof_text.specs.Meaning.{over_states}
use Rattle.proof_checker.specs.Found.{IsFound}
use Rattle.proof_checker.proofs.Answered.{accepted, line_fits, rejected}
use Rattle.proof_checker.proofs.checking.answer_by.Goals as goal

pub line_of-requires : goal.line_of-requires
line_of-requires g c =
    let lines = obligations c.args.model.now (ctl_of c.args.formula.now) (over_states c.args.model.now c.args.order.now c.args.block.now) in
    line_fits c.args.model.now c.args.order.now c.args.block.now c.requires.read (ctl_of c.args.formula.now) c.requires.formula c.lines_law.ensures c.in-Ok-Some.count
    (subst (IsFound c.args.model.now lines) c.in-Ok-Some.field-0-is c.in-Ok-Some.ensures.found)

pub returns-in-Ok-None-clause-answer : goal.returns-in-Ok-None-clause-answer
returns-in-Ok-None-clause-answer g c =
    let lines = obligations c.args.model.now (ctl_of c.args.formula.now) (over_states c.args.model.now c.args.order.now c.args.block.now) in
    accepted c.args.model.now c.args.order.now c.args.block.now c.requires.read (ctl_of c.args.formula.now) c.requires.formula c.proofs_law.ensures
    (subst (IsFound c.args.model.now lines) c.in-Ok-None.field-0-is c.in-Ok-None.ensures.found)

pub returns-in-Ok-Some-clause-answer : goal.returns-in-Ok-Some-clause-answer
returns-in-Ok-Some-clause-answer g c =
    let lines = obligations c.args.model.now (ctl_of c.args.formula.now) (over_states c.args.model.now c.args.order.now c.args.block.now) in
    rejected c.args.model.now c.args.order.now c.args.block.now c.requires.read (ctl_of c.args.formula.now) c.requires.formula c.lines_law.ensures c.in-Ok-Some.count c.line_of.result
    (subst (IsFound c.args.model.now lines) c.in-Ok-Some.field-0-is c.in-Ok-Some.ensures.found) c.line_of.ensures
