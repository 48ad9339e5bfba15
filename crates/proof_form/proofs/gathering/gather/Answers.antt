use Rattle.proof_form.proofs.Copied.{gathered, gathered_live, gathered_once, gathered_copies, gathered_back}
use Rattle.proof_form.proofs.gathering.gather.Goals as goal

pub copy_proof-requires : goal.copy_proof-requires
copy_proof-requires g c = c.requires

pub release_all-requires-clause-live : goal.release_all-requires-clause-live
release_all-requires-clause-live g c = gathered_live c.copy_proof.ensures c.new-copies.ensures.items

pub release_all-requires-clause-once : goal.release_all-requires-clause-once
release_all-requires-clause-once g c = gathered_once c.copy_proof.ensures c.new-copies.ensures.items

pub returns-in-Err-clause-call : goal.returns-in-Err-clause-call
returns-in-Err-clause-call g c = gathered_back c.in-Err.refusal c.in-Err.ensures c.new-copies.ensures.items c.release_all.ensures.pins c.release_all.ensures.fulls

pub returns-in-Ok-clause-call : goal.returns-in-Ok-clause-call
returns-in-Ok-clause-call g c = gathered c.in-Ok.ensures c.new-copies.ensures.items c.copy_proof.new.copies

pub returns-in-Ok-clause-copies : goal.returns-in-Ok-clause-copies
returns-in-Ok-clause-copies g c = gathered_copies c.in-Ok.ensures c.new-copies.ensures.items
