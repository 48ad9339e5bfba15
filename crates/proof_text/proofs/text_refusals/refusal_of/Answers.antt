use Rattle.std.proofs.Common.{inr, sym, ◌∙◌, subst, arith}
use Rattle.std.proofs.lemmas.Bool.{false≢true}
use Rattle.proof_text.specs.FileFault.{IsFileFault}
use Rattle.proof_text.proofs.RefusedTexts.{bad_order, bad_line, bad_node}
use Rattle.proof_text.proofs.text_refusals.refusal_of.Goals.{else-line-eq2-via-then-line-eq2+else-has_order_line, else-line-eq2-via-else-line-eq2}
use Rattle.proof_text.proofs.text_refusals.refusal_of.Goals as goal

pub returns-then-has_order_line : goal.returns-then-has_order_line
returns-then-has_order_line c =
    inr (bad_order c.args._model.now c.args.bytes.now c.requires.short c.args.n c.in-Stops.line (omega (arith, c.if-line-eq2.true)) (c.has_order_line.ensures.0 c.if-has_order_line.true)
    (subst (IsFileFault c.args._model.now c.args.bytes.now c.args.n) c.in-Stops.is c.requires.fault))

pub returns-else-line-eq2 : goal.returns-else-line-eq2
returns-else-line-eq2 c =
    let fault = subst (IsFileFault c.args._model.now c.args.bytes.now c.args.n) c.in-Stops.is c.requires.fault in
    elim c.else-line-eq2.branch [
      | else-line-eq2-via-then-line-eq2+else-has_order_line w ↦ inr
          (bad_line c.args._model.now c.args.bytes.now c.requires.short c.args.n c.in-Stops.line (λ two order. false≢true (sym w.if-has_order_line.false ∙ w.has_order_line.ensures.1 order)) fault)
      | else-line-eq2-via-else-line-eq2 w ↦ inr (bad_line c.args._model.now c.args.bytes.now c.requires.short c.args.n c.in-Stops.line (λ two order. omega (arith, two, w.if-line-eq2.false)) fault)
    ]

pub returns-in-Breaks : goal.returns-in-Breaks
returns-in-Breaks c =
    inr (bad_node c.args._model.now c.args.bytes.now c.requires.short c.args.n c.in-Breaks.line (subst (IsFileFault c.args._model.now c.args.bytes.now c.args.n) c.in-Breaks.is c.requires.fault))
