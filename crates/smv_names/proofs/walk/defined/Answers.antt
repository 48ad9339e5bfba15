use Rattle.std.proofs.Common.{refl}
use Rattle.smv_instances.specs.Plain.{plain_expr}
use Rattle.smv_names.specs.Denotes.{Target, Finds}
use Rattle.smv_names.proofs.FoundLemmas.{defined_meaning, defined_text, numbered_by}
use Rattle.smv_names.proofs.walk.defined.Goals as goal

pub node-requires : goal.node-requires
node-requires c = let e = c.requires.5 in (c.requires.0, c.requires.1, e.entry, c.requires.3, c.requires.4, e.stands)

pub returns : goal.returns
returns c p s x nodes at e declared =
    let body = plain_expr c.args.right.now in
    let numbered = numbered_by p c.node.result s x e.entry (c.node.ensures p s nodes at e.entry e.stands) e.named in (
      Target.Reading s body,
      (at, refl, defined_text p c.node.result s x body numbered declared),
      Finds.direct (defined_meaning p s x body declared),
    )
