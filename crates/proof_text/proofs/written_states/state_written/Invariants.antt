use Rattle.std.proofs.Common.{◌≡◌, length}
use Rattle.proof_text.proofs.WrittenStates.{AreRead}
use Rattle.proof_text.proofs.written_states.state_written.Given as goal

-- the words that were taken are values of the variables before x
abbrev pub invariant-loop-x : goal.invariant-loop-x
invariant-loop-x l = record {
  many : length l.state ≡ l.x;
  read : AreRead l.model l.initial.words l.words l.state;
}
