use Rattle.std.proofs.Common.{◌∙◌, ◌++◌, ap, sym}
use Rattle.std.proofs.lemmas.List.{append-nil}
use Rattle.std.proofs.lemmas.Slice.Zip.{zip_end}
use Rattle.command_replies.proofs.ReportLemmas.{lines_end}
use Rattle.command_replies.proofs.proof_report.push_answers.Goals as goal

pub returns : goal.returns
returns c =
    let all = zip_end c.args.blocks.now c.args.answers.now c.loop-block.yielded
    c.into_iter-block-iterator.result c.loop-block.block-iterator c.next.new.self c.next.result
    (cc) (cc) c.loop-block.yielded_by c.in-None.is c.next.ensures.steps in
    let none = lines_end c.args.blocks.now c.args.answers.now _ all in
    sym (append-nil c.loop-block.text) ∙ ap (λ rest. c.loop-block.text ++ rest) (sym none)
    ∙ c.loop-block.invariant
