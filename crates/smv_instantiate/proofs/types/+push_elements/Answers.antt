use Rattle.std.proofs.Common.{◌≡◌, ◌++◌, arith}
use Rattle.smv_instances.specs.Plain.{plain_type}
use Rattle.smv_instances.specs.Instances.{indexed, element_names}
use Rattle.smv_instantiate.proofs.TypeSteps.{joined_next}
use Rattle.smv_instantiate.proofs.types.+push_elements.Goals as goal

pub loop-index-preserved : goal.loop-index-preserved
loop-index-preserved t c =
    let added : c.push_elements.new.names.items ≡ c.loop-index.names.items ++ element_names (plain_type c.in-Array.element.value) (indexed c.args.name c.loop-index.index) =
    cc (c.in_ok-push_elements-in-Array.ensures, c.deref.ensures, c.in_ok-indexed_name-in-Array.ensures, c.name.view_is) in (
      joined_next (λ i. element_names (plain_type c.in-Array.element.value) (indexed c.args.name i)) c.in-Array.low c.loop-index.index c.args.names.now.items c.loop-index.names.items _ c.loop-index.auto.index c.loop-index.invariant.0 added,
      λ below. absurd (omega (arith, c.loop-index-test.true, c.loop-index.auto.index)),
    )
