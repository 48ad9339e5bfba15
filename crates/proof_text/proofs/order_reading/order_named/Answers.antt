use Rattle.std.proofs.Common.{◌≡◌, ℕ, Bool, true, false, List, length, get_or, set, slice_get, refl, sym, ◌∙◌, ap, subst, arith}
use Rattle.std.specs.Prelude.{All}
use Rattle.std.proofs.lemmas.List.{length-set, with_items_is}
use Rattle.proof_text.proofs.NamedOrders.{IsNamed, named_more, no_order, order_read, order_short}
use Rattle.proof_text.proofs.order_reading.order_named.Goals as goal

pub returns-in_default-mark : goal.returns-in_default-mark
returns-in_default-mark c =
    let named = subst (λ (ws : List (List ℕ)). IsNamed c.args.model.now c.args.words.now ws c.loop-name.order.items c.loop-name.marks.items) c.in-Some.ensures c.loop-name.invariant in
    no_order c.args.model.now c.rules_law.ensures.flat c.args.words.now c.next.new.self c.loop-name.order.items c.loop-name.marks.items c.in-Some.name.now named
    (λ x at. ap (λ (bs : List Bool). get_or bs x false) (sym c.deref_mut.ensures.value) ∙ c.in_default-mark.ensures.none refl x (ap (λ (ns : List (List ℕ)). slice_get ns x) c.requires ∙ at))

pub overflow_cast-x : goal.overflow_cast-x
overflow_cast-x c =
    let k = c.in-Some-mark.ensures.some c.in-Some-mark.x refl in
    omega (arith, k.1, ap length c.deref_mut.ensures.value, c.loop-name.invariant.marked.each, c.rules_law.ensures.few)

pub loop-name-preserved : goal.loop-name-preserved
loop-name-preserved c =
    let k = c.in-Some-mark.ensures.some c.in-Some-mark.x refl in
    let named = subst (λ (ws : List (List ℕ)). IsNamed c.args.model.now c.args.words.now ws c.loop-name.order.items c.loop-name.marks.items) c.in-Some.ensures c.loop-name.invariant in
    let more = named_more c.args.model.now c.rules_law.ensures.flat c.args.words.now c.next.new.self c.loop-name.order.items c.loop-name.marks.items c.in-Some.name.now c.in-Some-mark.x named
    (ap (λ (ns : List (List ℕ)). slice_get ns c.in-Some-mark.x) (sym c.requires) ∙ k.0) (ap (λ (bs : List Bool). get_or bs c.in-Some-mark.x false) (sym c.deref_mut.ensures.value) ∙ k.2) in
    let same = with_items_is c.loop-name.marks c.mark.new.marks (omega (arith, ap length k.3, length-set c.deref_mut.result.now c.in-Some-mark.x true, ap length c.deref_mut.ensures.value, c.loop-name.marks.ok.0))
    ∙ k.3 ∙ ap (λ (bs : List Bool). set bs c.in-Some-mark.x true) c.deref_mut.ensures.value in
    subst (λ (bs : List Bool). IsNamed c.args.model.now c.args.words.now c.next.new.self c.push.new.self.items bs) (sym same)
    (subst (λ (o : List ℕ). IsNamed c.args.model.now c.args.words.now c.next.new.self o (set c.loop-name.marks.items c.in-Some-mark.x true)) (sym c.in_ok-push.ensures.items) more)

pub returns-then-not-all_set : goal.returns-then-not-all_set
returns-then-not-all_set c =
    order_short c.args.model.now c.rules_law.ensures.flat c.args.words.now c.loop-name.words c.loop-name.order.items c.loop-name.marks.items c.in_default.ensures.0 c.loop-name.invariant
    (λ all. let yes = c.if-not-all_set.ensures.1 (subst (λ (bs : List Bool). All (λ b. b ≡ true) bs) (sym c.deref.ensures.value) all) in cc)

pub returns : goal.returns
returns c =
    order_read c.args.model.now c.rules_law.ensures.flat c.args.words.now c.loop-name.words c.loop-name.order.items c.loop-name.marks.items c.in_default.ensures.0 c.loop-name.invariant
    (subst (λ (bs : List Bool). All (λ b. b ≡ true) bs) c.deref.ensures.value (c.if-not-all_set.ensures.0 refl))
