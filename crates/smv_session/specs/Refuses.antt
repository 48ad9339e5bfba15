-- Where each refusal of a model's text applies.
use Rattle.std.specs.Prelude.{◌≡◌, ◌≤◌, ◌<◌, ℕ, List, length}
use Rattle.smv_lexer.specs.Text.{Placed, IsBadByteAt, IsTooLargeAt, most_bytes}
use Rattle.smv_parser.specs.Program.{Program}
use Rattle.smv_parser.specs.Programs.{IsSyntaxPlace, IsTooDeepPlace}
use Rattle.smv_instances.specs.Abstract as plain
use Rattle.smv_instantiate.specs.Refuses as flattening
use Rattle.kripke_model.specs.Static.{Breaks}
use Rattle.kripke_model.specs.System.{System}
use Rattle.command_words.specs.Words.{Job}
use Rattle.bit_encode.specs.Code.{state_bits}
use Rattle.item_faults.specs.FirstFault.{IsFirstFault}
use Rattle.smv_texts.specs.Refusals.{Refusal, TooLong, BadByte, NumberTooLarge, NoProgram, TooDeep}
use Rattle.smv_texts.specs.Refusals.{NotFlat, BreaksRule, TooManyBits, NoLeaf, Faults}
use Rattle.spec_leaves.specs.Named.{IsFirstOther}
use Rattle.smv_session.specs.Jobs.{NamesLeaves, numbers_of}
use Rattle.smv_session.specs.Source.{line_at, token_line, HasTokens, HasProgram, HasFlat, HasRuled}
use Rattle.smv_session.specs.Source.{HasModel, most_state_bits}

-- The refusal applies to the text, where it is to be taken for the job.
abbrev pub Refuses : Job → List ℕ → Refusal → Type 0
Refuses job bytes TooLong = most_bytes < length bytes
Refuses job bytes (BadByte l) =
    (length bytes ≤ most_bytes) × (at : ℕ) × IsBadByteAt bytes at × (l ≡ line_at bytes at)
Refuses job bytes (NumberTooLarge l) =
    (length bytes ≤ most_bytes) × (at : ℕ) × IsTooLargeAt bytes at × (l ≡ line_at bytes at)
Refuses job bytes (NoProgram l) =
    (ts : List Placed) × (at : ℕ) × HasTokens bytes ts × IsSyntaxPlace ts at
    × (l ≡ token_line bytes ts at)
Refuses job bytes (TooDeep l) =
    (ts : List Placed) × (at : ℕ) × HasTokens bytes ts × IsTooDeepPlace ts at
    × (l ≡ token_line bytes ts at)
Refuses job bytes (NotFlat r) =
    (p : Program) × HasProgram bytes p × flattening.Refuses (plain.program p) r
Refuses job bytes (BreaksRule r) = (m : System) × HasFlat bytes m × Breaks m r
Refuses job bytes (TooManyBits bits) =
    (m : System) × HasRuled bytes m × (most_state_bits < state_bits m) × (bits ≡ state_bits m)
Refuses job bytes (NoLeaf j) = (m : System) × HasModel bytes m × IsFirstOther m (numbers_of job) j
Refuses job bytes (Faults m kind l here after) =
    HasModel bytes m × NamesLeaves job m × IsFirstFault m kind l here after
