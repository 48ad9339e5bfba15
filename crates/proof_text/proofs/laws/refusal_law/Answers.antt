use Rattle.std.proofs.Common.{subst}
use Rattle.std.specs.Prelude.{All}
use Rattle.proof_text.specs.SmallNumbers.{IsSmallValue}
use Rattle.proof_text.proofs.OneFile.{are_one_file}
use Rattle.proof_text.proofs.OneReason.{one_reason, not_neither}
use Rattle.proof_text.proofs.laws.refusal_law.Goals as goal

pub returns : goal.returns
returns c bytes = (
  record { one_reason = one_reason c.args.model.now bytes; not_neither = not_neither c.args.model.now bytes },
  are_one_file c.args.model.now c.rules_law.ensures.flat
      (subst (λ vs. All (λ v. All IsSmallValue v.values) vs) c.vars.ensures c.variables_law.ensures) bytes,
)
