use Rattle.std.proofs.Common.{◌^◌, ◌<◌, ◌∷◌, [], ◌++◌, w32, sym, ap, ◌∙◌, arith}
use Rattle.std.specs.Prelude.{pos}
use Rattle.std.proofs.lemmas.Int.{to_z_pos}
use Rattle.kripke_model.specs.declared.expressions.Value.TheVariants.{Number}
use Rattle.work_bench.proofs.RangeLemmas.{numbers-none, numbers-more}
use Rattle.work_bench.proofs.tables.numbers.Goals as goal

pub loop-i-init : goal.loop-i-init
loop-i-init c = c.new-values.ensures.items ∙ sym numbers-none

pub loop-i-preserved : goal.loop-i-preserved
loop-i-preserved c =
    let lt : c.loop-i.i < 2 ^ 31 = omega (arith, c.loop-i-test.true, c.requires) in
    c.in_ok-push.ensures.items
    ∙ ap (λ z. c.loop-i.values.items ++ Number z ∷ []) (to_z_pos w32 c.loop-i.i lt)
    ∙ ap (λ xs. xs ++ Number (pos c.loop-i.i) ∷ []) c.loop-i.invariant ∙ sym (numbers-more c.loop-i.i)
