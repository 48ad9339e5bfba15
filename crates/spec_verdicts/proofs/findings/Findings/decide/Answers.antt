use Rattle.std.proofs.Common.{refl}
use Rattle.spec_verdicts.proofs.FoundLemmas.{decided_more}
use Rattle.spec_verdicts.proofs.findings.Findings.decide.Goals as goal

pub returns : goal.returns
returns c = λ m limit cs d found is.
    decided_more m limit cs d c.args.outcome c.args.self.now (record { findings = c.push.new.self; held = c.args.self.now.held; saves = c.args.self.now.saves }) found is c.in_ok-push.ensures.items refl refl
