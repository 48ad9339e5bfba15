use Rattle.smv_instances.specs.Instances.{instances}
use Rattle.smv_names.proofs.FoundLemmas.{numbered_by}
use Rattle.smv_names.proofs.WaitLemmas.{member_at}
use Rattle.smv_names.proofs.walk.entry_node.Goals as goal

pub node-requires : goal.node-requires
node-requires c =
    let s = member_at (instances c.requires.0) c.args.i c.requires.2 in
    let e = c.in_ok-k.ensures.some c.requires.0 s.0 c.requires.1.instances_are s.1 in
    (c.requires.0, s.0, e.entry, c.requires.1.nodes_are, s.1, e.stands)

pub returns : goal.returns
returns c p s started at =
    let e = c.in_ok-k.ensures.some p s started.instances_are at in
    numbered_by p c.node.result s c.args.name.now e.entry (c.node.ensures p s started.nodes_are at e.entry e.stands) e.named
