use Rattle.std.proofs.Common.{◌≡◌, sym, ◌∙◌, subst, arith}
use Rattle.std.proofs.lemmas.List.{get_or_read}
use Rattle.bit_encode.specs.Code.{Coding, HasBit, first_bit}
use Rattle.bit_encode.proofs.CodeLemmas.{places_within}
use Rattle.bit_encode.proofs.layout.Layout.level_of.Goals as goal

pub overflow_add-result : goal.overflow_add-result
overflow_add-result c =
    let k : Coding = record { types = c.self.inside.domains.items; order = c.self.inside.order.items } in
    let has : HasBit k c.args.var c.args.bit = subst (λ (j : Coding). HasBit j c.args.var c.args.bit) (sym c.self.view_is) c.requires in
    let first : c.index.result.now ≡ first_bit k c.args.var = get_or_read c.self.inside.firsts.items c.args.var c.index.result.now (omega (arith, c.self.invariant.each, has.known)) c.index.ensures 0 ∙ c.self.invariant.places c.args.var has.known in
    omega (arith, places_within k c.self.invariant.ordered c.args.var c.args.bit has, c.self.invariant.total, c.self.invariant.few)

pub overflow_mul-result : goal.overflow_mul-result
overflow_mul-result c =
    let k : Coding = record { types = c.self.inside.domains.items; order = c.self.inside.order.items } in
    let has : HasBit k c.args.var c.args.bit = subst (λ (j : Coding). HasBit j c.args.var c.args.bit) (sym c.self.view_is) c.requires in
    let first : c.index.result.now ≡ first_bit k c.args.var = get_or_read c.self.inside.firsts.items c.args.var c.index.result.now (omega (arith, c.self.invariant.each, has.known)) c.index.ensures 0 ∙ c.self.invariant.places c.args.var has.known in
    omega (arith, places_within k c.self.invariant.ordered c.args.var c.args.bit has, c.self.invariant.total, c.self.invariant.few)
