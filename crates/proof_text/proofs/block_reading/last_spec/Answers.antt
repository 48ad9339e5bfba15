use Rattle.std.proofs.Common.{◌≡◌, sym, ◌∙◌, ap, arith}
use Rattle.proof_text.specs.File.{Block}
use Rattle.proof_text.proofs.BlockForms.{last_bound}
use Rattle.proof_text.proofs.Risings.{some_there}
use Rattle.proof_text.proofs.block_reading.last_spec.Goals as goal

pub returns : goal.returns
returns c = λ n some.
    let there = some_there c.args.blocks.now (sym c.is_empty.ensures ∙ c.if-is_empty.false) in
    let bound = last_bound c.args.blocks.now c.index-blocks-blocks.result c.requires there c.index-blocks-blocks.is n in
    let same : c.last.inside.spec ≡ c.index-blocks-blocks.result.spec = ap (λ (b : Block). b.spec) c.last.view_is in
    (λ less. bound.0 (omega (arith, same, less)), λ all. omega (arith, same, bound.1 all))
