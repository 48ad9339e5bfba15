use Rattle.std.proofs.Common.{refl, None}
use Rattle.smv_texts.specs.declared.outcome.Outcome.TheVariants.{Unknown}
use Rattle.spec_verdicts.proofs.FoundLemmas.{unknown_more}
use Rattle.spec_verdicts.proofs.findings.Findings.leave.Goals as goal

pub returns : goal.returns
returns c = λ m proofs cs d found of_limit.
    unknown_more m c.args.limit proofs cs d (record { outcome = Unknown c.args.limit; left_out = None }) c.args.self.now
    (record { findings = c.push.new.self; held = c.push-2.new.self; saves = c.args.self.now.saves }) found c.in_ok-push.ensures.items
    c.args.held refl of_limit c.in_ok-push-2.ensures.items refl
