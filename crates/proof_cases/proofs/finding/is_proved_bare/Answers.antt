use Rattle.proof_form.specs.Pinned.{proof_slots}
use Rattle.proof_cases.proofs.Lessened.{alone, call_less, released, then_less}
use Rattle.proof_cases.proofs.finding.is_proved_bare.Goals as goal

pub obligations-proved-requires-clause-live : goal.obligations-proved-requires-clause-live
obligations-proved-requires-clause-live g c = (alone c.without_layers-bare.ensures c.requires.pins).live

pub release-requires-clause-live : goal.release-requires-clause-live
release-requires-clause-live g c =
    (alone (then_less c.without_layers-bare.ensures (call_less (proof_slots c.without_layers-bare.result) c.obligations-proved.ensures.call.pins)) c.requires.pins).live

pub release-requires-clause-once : goal.release-requires-clause-once
release-requires-clause-once g c = (alone c.without_layers-bare.ensures c.requires.pins).once

pub returns : goal.returns
returns g c =
    then_less (then_less c.without_layers-bare.ensures (call_less (proof_slots c.without_layers-bare.result) c.obligations-proved.ensures.call.pins))
    (released (proof_slots c.without_layers-bare.result) c.release.ensures.pins)
