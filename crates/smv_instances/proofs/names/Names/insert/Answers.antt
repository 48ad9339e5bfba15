use Rattle.std.proofs.Common.{ap, sym, ◌∙◌, not}
use Rattle.std.specs.Str.{bytes_eq}
use Rattle.smv_instances.proofs.NameLemmas.{any_map}
use Rattle.smv_instances.proofs.names.Names.insert.Goals as goal

pub returns-clause-added : goal.returns-clause-added
returns-clause-added c =
    rw (← c.self.view_is) (c.in_ok-is_new.ensures.added ∙ ap not (sym (any_map (bytes_eq c.args.name.now) (λ k. k.now) c.self.inside.set.keys)))
