use Rattle.std.proofs.Common.{◌≡◌, ℕ, Bool, true, false, ◌==◌, if◌then◌else◌, sym, ◌∙◌, refl}
use Rattle.bdd_ops.proofs.Parts.{part_of-node, part_of-none}
use Rattle.bdd_ops.proofs.operand.operand_of.Goals as goal

pub returns-in-Some-clause-parts : goal.returns-in-Some-clause-parts
returns-in-Some-clause-parts c = λ level bit.
    let low = c.child.ensures in
    let high = c.child-in-Some.ensures in
    (λ j. if c.in-Some.triple.level == level then (if bit then high j else low j) else c.args.r)
    ∙ sym (part_of-node c.args.store.now.nodes.keys level bit c.args.r c.in-Some.triple (sym c.in-Some.ensures.node))

same_all : (a b : Bool) (r : ℕ) → (if a then (if b then r else r) else r) ≡ r
same_all true true r = refl
same_all true false r = refl
same_all false b r = refl

pub returns-in-None-clause-parts : goal.returns-in-None-clause-parts
returns-in-None-clause-parts c = λ level bit. same_all (c.levels.result == level) bit c.args.r ∙ sym (part_of-none c.args.store.now.nodes.keys level bit c.args.r (sym c.in-None.ensures.node))
