use Rattle.std.proofs.Common.{◌≡◌, ◌+◌, ◌<◌, ◌≤◌, length, [], sym, ◌∙◌, ap, arith, rules}
use Rattle.std.proofs.lemmas.List.{get_or_read}
use Rattle.bit_encode.specs.Binary.{width}
use Rattle.bit_encode.specs.Code.{Coding, width_of, first_bit, bit_count, values_of}
use Rattle.bit_encode.proofs.CodeLemmas.{field_within}
use Rattle.bit_encode.proofs.layout.Layout.code_at.Goals as goal

pub slice_bounds-spelled-end : goal.slice_bounds-spelled-end
slice_bounds-spelled-end c =
    let k : Coding = record { types = c.self.inside.domains.items; order = c.self.inside.order.items } in
    let types_are : k.types ≡ c.args.self.now.types = ap (λ (j : Coding). j.types) c.self.view_is in
    let known : c.args.x < length k.types = omega (arith, c.requires.known, ap length types_are) in
    let first : c.index.result.now ≡ first_bit k c.args.x = get_or_read c.self.inside.firsts.items c.args.x c.index.result.now (omega (arith, c.self.invariant.each)) c.index.ensures 0 ∙ c.self.invariant.places c.args.x known in
    let domain : c.index-2.result.now ≡ values_of k.types c.args.x = get_or_read k.types c.args.x c.index-2.result.now known c.index-2.ensures [] in
    let wide : c.width.result ≡ width_of k.types c.args.x = c.width.ensures.bits ∙ ap (λ values. width (length values)) domain in
    let long : length c.args.bits.now ≡ bit_count k.types = c.requires.long ∙ ap bit_count (sym types_are) in
    let within : first_bit k c.args.x + width_of k.types c.args.x ≤ bit_count k.types = field_within k c.self.invariant.ordered c.args.x known in
    let fits : c.index.result.now + c.width.result ≤ length c.args.bits.now = omega arith in
    search rules
