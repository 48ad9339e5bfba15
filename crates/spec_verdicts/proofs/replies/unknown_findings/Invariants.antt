use Rattle.std.proofs.Common.{◌≡◌, replicate}
use Rattle.spec_verdicts.proofs.ReplyLemmas.{unknown}
use Rattle.spec_verdicts.proofs.replies.unknown_findings.Given as goal

-- each finding so far is unknown
abbrev pub invariant-loop : goal.invariant-loop
invariant-loop l = l.findings.items ≡ replicate l.index (unknown l.limit)
