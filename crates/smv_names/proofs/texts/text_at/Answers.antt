use Rattle.std.proofs.Common.{◌≡◌, subst, None}
use Rattle.std.specs.Prelude.{IfSome, IfNone}
use Rattle.std.proofs.lemmas.Option.{slice_get_within}
use Rattle.smv_instances.specs.Plain.{plain_expr}
use Rattle.smv_instances.specs.Entries.{entries}
use Rattle.smv_instances.specs.Instances.{module_of}
use Rattle.smv_names.specs.Abbreviations.{text_of}
use Rattle.smv_names.specs.Uses.{IsTextIn}
use Rattle.smv_names.proofs.TextLemmas.{numbered_within, placed_is}
use Rattle.smv_names.proofs.texts.text_at.Goals as goal

pub text_at_entry-requires : goal.text_at_entry-requires
text_at_entry-requires c =
    let p = c.requires.0 in
    let at = c.entry-i.ensures p c.requires.1.started.nodes_are c.requires.2 in
    (p, at.scope, c.requires.1.started.instances_are, at.numbered, slice_get_within (entries (module_of at.scope)) c.entry-i.result.1 at.entry at.stands)

pub returns-clause-some : goal.returns-clause-some
returns-clause-some c = λ p a targets is.
    let at = c.entry-i.ensures p targets.started.nodes_are (numbered_within p c.args.node a is) in
    subst (λ z. IfSome c.text_at_entry.result (λ r. IsTextIn p z r.0 (plain_expr r.1.now))) (placed_is p a c.args.node c.entry-i.result.0 c.entry-i.result.1 at is)
    (c.text_at_entry.ensures.some p at.scope at.entry targets.started.instances_are at.numbered at.stands)

pub returns-clause-none : goal.returns-clause-none
returns-clause-none c = λ p a targets is.
    let at = c.entry-i.ensures p targets.started.nodes_are (numbered_within p c.args.node a is) in
    subst (λ z. IfNone c.text_at_entry.result (text_of z ≡ None)) (placed_is p a c.args.node c.entry-i.result.0 c.entry-i.result.1 at is)
    (c.text_at_entry.ensures.none p at.scope at.entry targets.started.instances_are at.numbered at.stands)
