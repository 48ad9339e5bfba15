use Rattle.std.proofs.Common.{◌≡◌, length, true, false, ◌∙◌, ap, sym, arith, below_more}
use Rattle.single_states.proofs.StateLemmas.{typed_from_read, read_from_typed}
use Rattle.single_states.proofs.evaluation.is_state.Goals as goal

pub returns-then-not-is_of_type : goal.returns-then-not-is_of_type
returns-then-not-is_of_type c =
    let read = read_from_typed c.args.model.now c.args.s.now _ _ c.vars-vars.ensures c.values-values.ensures c.loop-i.i _ _ (omega arith) (omega arith) c.index-vars-i.is in
    ((λ (e : false ≡ true). absurd cc), (λ h. sym c.if-not-is_of_type.true ∙ c.is_of_type.ensures.1 (read (λ v. h.typed c.loop-i.i v (omega (arith, ap length c.vars-vars.ensures))))))

pub loop-i-preserved : goal.loop-i-preserved
loop-i-preserved c =
    below_more _ _ c.loop-i.invariant (typed_from_read c.args.model.now c.args.s.now _ _ c.vars-vars.ensures c.values-values.ensures c.loop-i.i _ _ (omega arith) (omega arith) c.index-vars-i.is (c.is_of_type.ensures.0 c.if-not-is_of_type.false))
