use Rattle.std.proofs.lemmas.Option.{slice_get_within}
use Rattle.std.proofs.lemmas.Result.{on_ok_weaker}
use Rattle.smv_instances.specs.Plain.{plain_expr}
use Rattle.smv_instances.specs.Entries.{entries}
use Rattle.smv_instances.specs.Instances.{instances, module_of}
use Rattle.smv_names.proofs.WaitLemmas.{member_at}
use Rattle.smv_names.proofs.UseLemmas.{used_named}
use Rattle.smv_names.proofs.uses.find_used.Goals as goal

pub find_named-requires : goal.find_named-requires
find_named-requires c =
    let p = c.requires.0 in
    let e = member_at (entries (module_of c.requires.1)) c.args.place c.requires.4 in
    let text = c.in-Some.ensures.some p c.requires.1 e.0 c.requires.2.started.instances_are c.requires.3 e.1 in
    (p, c.requires.2, slice_get_within (instances p) c.in-Some.home text.0 text.1)

pub returns-in-Some : goal.returns-in-Some
returns-in-Some c p s e are at stands =
    let text = c.in-Some.ensures.some p s e are.started.instances_are at stands in
    on_ok_weaker c.find_named.result (λ named. used_named p (record { scope = s; name = e.name }) text.0 (plain_expr c.in-Some.right.now) c.find_named.new.found.numbers.items text.2 named) (c.find_named.ensures p text.0 are text.1)
