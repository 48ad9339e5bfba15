use Rattle.smv_instances.specs.Instances.{instances}
use Rattle.smv_instantiate.proofs.Members.{slice_in}
use Rattle.smv_instantiate.proofs.ExpandLemmas.{is_kept, written_numbers}
use Rattle.smv_instantiate.proofs.expansion.expand.Goals as goal

pub expand_within-requires : goal.expand_within-requires
expand_within-requires c =
    let h = c.requires in
    let numbers = written_numbers h.0 (is_kept h.0 h.3) h.6 (slice_in (instances h.0) c.args.i h.1 h.4) h.5 in
    (h.0, h.1, h.2, h.3, h.4, record { expands = h.6; shallow = h.7; numbers = numbers })

pub returns : goal.returns
returns c = λ p s t can at w x shallow.
    let numbers = written_numbers p (is_kept p can) x (slice_in (instances p) c.args.i s at) w in
    c.expand_within.ensures p s t can at (record { expands = x; shallow = shallow; numbers = numbers })
