use Rattle.std.proofs.Common.{◌<◌, arith, subst, length}
use Rattle.smv_instances.specs.Program.{Formal}
use Rattle.smv_instances.specs.Entries.{of_formal}
use Rattle.smv_instances.specs.Instances.{module_of}
use Rattle.smv_names.specs.Definitions.{IsCircularBy, IsCircularFormal}
use Rattle.smv_names.proofs.CheckLemmas.{all_have, one_more}
use Rattle.smv_names.proofs.DefinitionLemmas.{circular_formal, formal_place, formal_read}
use Rattle.smv_names.proofs.definitions.has_circular.Goals as goal

pub is_circular-requires : goal.is_circular-requires
is_circular-requires c =
    let p = c.requires.0 in
    let s = c.requires.1 in
    let count = c.formal_count-place-end.ensures p s c.requires.2.started.instances_are c.requires.4 in
    let f = formal_place (module_of s) c.loop-place.place (omega (arith, count, c.loop-place-test.true)) in
    (p, s, of_formal f.0, c.requires.2.started.nodes_are, c.requires.3, c.requires.4, f.2)

pub returns-then-is_circular : goal.returns-then-is_circular
returns-then-is_circular c = λ p s targets ordered at.
    let count = c.formal_count-place-end.ensures p s targets.started.instances_are at in
    let f = formal_place (module_of s) c.loop-place.place (omega (arith, count, c.loop-place-test.true)) in
    circular_formal p s c.loop-place.place f.0 f.1 (subst (λ b. IsCircularBy p s f.0.name b) c.if-is_circular.true (c.is_circular.ensures p s (of_formal f.0) targets.started.nodes_are ordered at f.2))

pub loop-place-preserved : goal.loop-place-preserved
loop-place-preserved c = λ p s targets ordered at.
    let count = c.formal_count-place-end.ensures p s targets.started.instances_are at in
    let below : c.loop-place.place < length (module_of s).formals = omega (arith, count, c.loop-place-test.true) in
    let f = formal_place (module_of s) c.loop-place.place below in
    one_more (λ (g : Formal). IsCircularFormal p s g → ⊥) (module_of s).formals c.loop-place.place f.0 below (formal_read (module_of s).formals c.loop-place.place f.0 f.1) (c.loop-place.invariant p s targets ordered at)
    (subst (λ b. IsCircularBy p s f.0.name b) c.if-is_circular.false (c.is_circular.ensures p s (of_formal f.0) targets.started.nodes_are ordered at f.2))

pub returns : goal.returns
returns c = λ p s targets ordered at.
    let count = c.formal_count-place-end.ensures p s targets.started.instances_are at in
    all_have (λ (g : Formal). IsCircularFormal p s g → ⊥) (module_of s).formals c.loop-place.place (omega (arith, count, c.loop-place-test.false)) (c.loop-place.invariant p s targets ordered at)
