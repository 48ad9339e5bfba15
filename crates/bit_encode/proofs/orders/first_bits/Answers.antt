use Rattle.std.proofs.Common.{◌≡◌, ℕ, get_or, length, [], ◌∙◌, ap, arith}
use Rattle.std.proofs.lemmas.List.{get_or_read}
use Rattle.bit_encode.specs.Binary.{width}
use Rattle.bit_encode.specs.Code.{width_of}
use Rattle.bit_encode.proofs.PlaceLemmas.{place_fits, place_more, place_end}
use Rattle.bit_encode.proofs.orders.first_bits.Goals as goal

pub overflow_add-next : goal.overflow_add-next
overflow_add-next c =
    let x : ℕ = get_or c.args.order.now c.loop-x.x-index 0 in
    let domain = get_or_read c.args.domains.now x c.index-domains-x.result (c.requires.ordered.known c.loop-x.x-index 0 (omega arith)) c.index-domains-x.is [] in
    let wide : c.width-next.result ≡ width_of c.args.domains.now x = c.width-next.ensures.bits ∙ ap (λ values. width (length values)) domain in
    omega (arith, place_fits c.args.domains.now c.args.order.now c.requires.ordered c.loop-x.x-index c.loop-x.next c.loop-x.firsts.items c.loop-x.invariant (omega arith), c.requires.few)

pub loop-x-preserved : goal.loop-x-preserved
loop-x-preserved c =
    let x : ℕ = get_or c.args.order.now c.loop-x.x-index 0 in
    let domain = get_or_read c.args.domains.now x c.index-domains-x.result (c.requires.ordered.known c.loop-x.x-index 0 (omega arith)) c.index-domains-x.is [] in
    let wide : c.width-next.result ≡ width_of c.args.domains.now x = c.width-next.ensures.bits ∙ ap (λ values. width (length values)) domain in
    place_more c.args.domains.now c.args.order.now c.requires.ordered c.loop-x.x-index c.loop-x.next c.loop-x.firsts.items c.loop-x.invariant (omega arith) c.width-next.result wide

pub returns-clause-firsts : goal.returns-clause-firsts
returns-clause-firsts c = place_end c.args.domains.now c.args.order.now c.loop-x.x-index c.loop-x.next c.loop-x.firsts.items c.requires.ordered (omega arith) c.loop-x.invariant
