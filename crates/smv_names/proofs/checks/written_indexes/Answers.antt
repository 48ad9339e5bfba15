use Rattle.std.proofs.Common.{◌≡◌, ◌<◌, ◌+◌, ◌∙◌, ap, arith, length, get_or, take}
use Rattle.smv_instances.specs.Program.{Path}
use Rattle.smv_instances.specs.Declarations.{one_if}
use Rattle.smv_names.specs.Written.{followed, is_index}
use Rattle.smv_names.specs.Known.{index_count}
use Rattle.smv_names.proofs.CheckLemmas.{index_more}
use Rattle.smv_names.proofs.checks.written_indexes.Goals as goal

pub loop-part-preserved : goal.loop-part-preserved
loop-part-preserved c =
    let parts = c.args.path.now.parts.items in
    let k = c.loop-part.part-index in
    let part = c.part-item.result in
    let q = Path.Here c.args.path.now.line c.args.path.now.first in
    let h : k < length parts = omega (arith, c.loop-part-test.true, ap (λ z. length z) c.deref-part-items.ensures.value) in
    let is : part ≡ get_or parts k part = c.part-item.is ∙ ap (λ z. get_or z k part) c.deref-part-items.ensures.value in
    let more : index_count (followed q (take (k + 1) parts)) ≡ index_count (followed q (take k parts)) + one_if (is_index part) = index_more q parts k part h is in
    (omega (arith, c.loop-part.invariant.0, c.indexes_in-count.ensures.most), omega (arith, c.loop-part.invariant.1, c.indexes_in-count.ensures.is, more))
