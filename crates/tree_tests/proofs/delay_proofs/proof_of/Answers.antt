use Rattle.std.proofs.Common.{sym, subst}
use Rattle.region_sets.specs.Sets.{Adds}
use Rattle.region_sets.proofs.Changes.{adds_after}
use Rattle.region_sets.proofs.Released.{slots-append}
use Rattle.delay_bounds.specs.Form.{longest_sets, shortest_sets}
use Rattle.delay_bounds.specs.Seen.{seen_longest, seen_shortest}
use Rattle.tree_tests.proofs.delay_proofs.proof_of.Goals as goal

pub returns-in-Ok-clause-made : goal.returns-in-Ok-clause-made
returns-in-Ok-clause-made g c =
    subst (λ ks. Adds (g.S.StateSets.seen c.args.sets.now) (g.S.StateSets.seen c.longest_of.new.sets) ks)
    (sym (slots-append (shortest_sets (seen_shortest c.in_ok-shortest.shortest)) (longest_sets (seen_longest c.in-Ok.longest))))
    (adds_after c.in_ok-shortest.ensures.made c.in-Ok.ensures.made)
