use Rattle.std.proofs.Common.{◌≡◌, ℕ, List, ◌<◌, get_or, length, Contains, [], sym, ap, subst, arith}
use Rattle.std.proofs.lemmas.List.{get_or_read}
use Rattle.kripke_model.specs.declared.expressions.Value.{Value}
use Rattle.kripke_model.specs.System.{value_in}
use Rattle.bit_encode.specs.Code.{Coding, values_of}
use Rattle.bit_encode.proofs.layout.Layout.encode.Goals as goal

pub push_code-requires : goal.push_code-requires
push_code-requires c =
    let types : List (List Value) = c.self.inside.domains.items in
    let i : ℕ = c.loop-x.x-index in
    let x : ℕ = get_or c.deref-x-items.result.now i 0 in
    let same_order : x ≡ get_or c.self.inside.order.items i 0 = ap (λ xs. get_or xs i 0) c.deref-x-items.ensures.value in
    let types_are : types ≡ c.args.self.now.types = ap (λ (k : Coding). k.types) c.self.view_is in
    let known : x < length types = subst (λ y. y < length types) (sym same_order) (c.self.invariant.ordered.known i 0 (omega (arith, ap length c.deref-x-items.ensures.value))) in
    let domain : c.index.result.now ≡ values_of types x = get_or_read types x c.index.result.now known c.index.ensures [] in
    let typed : Contains (values_of types x) (value_in c.args.s.now x) = subst (λ ts. Contains (values_of ts x) (value_in c.args.s.now x)) (sym types_are) (c.requires.typed x (subst (λ ts. x < length ts) types_are known)) in
    subst (Contains c.index.result.now) (sym c.value.ensures) (subst (λ values. Contains values (value_in c.args.s.now x)) (sym domain) typed)
