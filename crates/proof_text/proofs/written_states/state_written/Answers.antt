use Rattle.std.proofs.Common.{◌≡◌, [], ◌∷◌, length, ap, arith, length-append}
use Rattle.proof_text.proofs.TakenValues.{none_taken, one_taken}
use Rattle.proof_text.proofs.WrittenStates.{state_long}
use Rattle.proof_text.proofs.written_states.state_written.Goals as goal

pub returns-in_default : goal.returns-in_default
returns-in_default c =
    none_taken c.args.model.now c.vars-vars.result.now c.vars-vars.ensures c.loop-x.state c.loop-x.x c.loop-x.invariant.many c.loop-x-test.true _ c.index-vars-x.is _ _ c.loop-x.invariant.read _ _ c.values.ensures _ c.in_ok-value.ensures c.in_default.is

pub loop-x-preserved : goal.loop-x-preserved
loop-x-preserved c = record {
  many = omega (arith, c.loop-x.invariant.many, ap length c.in_ok-push.ensures, length-append c.loop-x.state (c.in-Some.value ∷ []));
  read = one_taken c.args.model.now c.vars-vars.result.now c.vars-vars.ensures c.loop-x.state c.loop-x.x c.loop-x.invariant.many c.loop-x-test.true _ c.index-vars-x.is _ _ c.loop-x.invariant.read _ _ c.values.ensures _ c.in_ok-value.ensures c.in-Some.value c.in-Some.is _ c.in_ok-push.ensures;
}

pub returns-then-not-takes_end : goal.returns-then-not-takes_end
returns-then-not-takes_end c =
    let all : length c.loop-x.state ≡ length c.args.model.now.vars = omega (arith, c.loop-x.invariant.many, c.loop-x-test.false, ap length c.vars-vars.ensures) in
    state_long c.args.model.now c.args.words.now c.loop-x.words c.loop-x.state (λ e. let f = c.if-not-takes_end.ensures.1 e in cc) c.loop-x.invariant.read all
