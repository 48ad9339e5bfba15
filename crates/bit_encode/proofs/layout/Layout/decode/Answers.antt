use Rattle.std.proofs.Common.{◌≡◌, ℕ, ◌+◌, length, [], pos, Some, sym, ◌∙◌, ap, subst, arith}
use Rattle.std.specs.Prelude.{slice_get}
use Rattle.std.proofs.lemmas.List.{get_or_read}
use Rattle.std.proofs.lemmas.Option.{slice_get_within, get_or_from_slice_get}
use Rattle.kripke_model.specs.declared.expressions.Value.TheVariants.{Number}
use Rattle.bit_encode.specs.Binary.{number}
use Rattle.bit_encode.specs.Code.{Coding, IsOrder, AllDistinct, values_of, field}
use Rattle.bit_encode.proofs.ReadLemmas.{IsRead, read_more, read_end}
use Rattle.bit_encode.proofs.CodeLemmas.{decoded_state, decoded_code}
use Rattle.bit_encode.proofs.layout.Layout.decode.Goals as goal

pub loop-x-preserved : goal.loop-x-preserved
loop-x-preserved c =
    let k : Coding = c.args.self.now in
    let x : ℕ = c.loop-x.x in
    let n : ℕ = number (field k x c.args.bits.now) in
    let types_are : c.deref-domain-items.result.now ≡ k.types = c.deref-domain-items.ensures.value ∙ ap (λ (j : Coding). j.types) c.self.view_is in
    let domain : c.domain-item.result ≡ values_of k.types x = get_or_read c.deref-domain-items.result.now x c.domain-item.result (omega arith) c.domain-item.is [] ∙ ap (λ ts. values_of ts x) types_are in
    let found : slice_get c.domain-item.result c.code_at.result ≡ Some c.in-Some.value = sym c.in-Some.ensures in
    let here : slice_get (values_of k.types x) n ≡ Some c.in-Some.value = ap (λ vs. slice_get vs n) (sym domain) ∙ ap (slice_get c.domain-item.result) (sym c.code_at.ensures) ∙ found in
    subst (IsRead k c.args.bits.now (x + 1)) (sym c.in_ok-push-in-Some.ensures)
    (read_more k c.args.bits.now x c.loop-x.s c.in-Some.value c.loop-x.invariant (slice_get_within (values_of k.types x) n c.in-Some.value here) (sym (get_or_from_slice_get (values_of k.types x) n c.in-Some.value (Number (pos 0)) here)))

pub returns-clause-state : goal.returns-clause-state
returns-clause-state c =
    let k : Coding = c.args.self.now in
    let ordered : IsOrder (length k.types) k.order = subst (λ (j : Coding). IsOrder (length j.types) j.order) c.self.view_is c.self.invariant.ordered in
    let types_are : c.deref-domain-items.result.now ≡ k.types = c.deref-domain-items.ensures.value ∙ ap (λ (j : Coding). j.types) c.self.view_is in
    let all : c.loop-x.x ≡ length k.types = omega (arith, ap length types_are) in
    decoded_state k ordered c.args.bits.now c.loop-x.s (read_end k ordered c.args.bits.now c.loop-x.x c.loop-x.s all c.loop-x.invariant)

pub returns-clause-code : goal.returns-clause-code
returns-clause-code c =
    let k : Coding = c.args.self.now in
    let ordered : IsOrder (length k.types) k.order = subst (λ (j : Coding). IsOrder (length j.types) j.order) c.self.view_is c.self.invariant.ordered in
    let distinct : AllDistinct k.types = subst (λ (j : Coding). AllDistinct j.types) c.self.view_is c.self.invariant.distinct in
    let types_are : c.deref-domain-items.result.now ≡ k.types = c.deref-domain-items.ensures.value ∙ ap (λ (j : Coding). j.types) c.self.view_is in
    let all : c.loop-x.x ≡ length k.types = omega (arith, ap length types_are) in
    decoded_code k ordered distinct c.args.bits.now c.loop-x.s c.requires (read_end k ordered c.args.bits.now c.loop-x.x c.loop-x.s all c.loop-x.invariant)
