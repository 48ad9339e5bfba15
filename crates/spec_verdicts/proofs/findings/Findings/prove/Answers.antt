use Rattle.std.proofs.Common.{refl}
use Rattle.spec_verdicts.proofs.FoundLemmas.{proved_more}
use Rattle.spec_verdicts.proofs.findings.Findings.prove.Goals as goal

pub returns : goal.returns
returns c = λ limit name cs d b found is proves text.
    proved_more c.args.model.now limit name cs d b c.args.outcome c.in_ok-left_out.left_out c.args.block.now c.args.self.now
    (record { findings = c.push.new.self; held = c.args.self.now.held; saves = c.add_block.new.saves }) c.written_law.ensures
    found is proves text c.in_ok-push.ensures.items refl c.in_ok-left_out.ensures
