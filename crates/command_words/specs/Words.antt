-- What the words of a command line ask for.
use Rattle.std.specs.Prelude.{ℕ, zero, suc, ◌<◌, ◌≤◌, ◌^◌, Bool, true, false, List, [], ◌∷◌}
use Rattle.std.specs.Prelude.{Option, Some, None, if◌then◌else◌, ◌==◌, bytes_eq, codes, length}
use Rattle.std.specs.Prelude.{nat_le, unwrap_or}
use Rattle.std.specs.List.{after_first, before_first}
use Rattle.std.specs.Option.{option_map, option_and_then}
use Rattle.command_words.specs.Number.{number_of}
use Rattle.command_words.specs.Parts.{Part, Form, check_form, gen_form, limit_form, parts_of}
use Rattle.command_words.specs.Parts.{operands, limits, proofs, checks}

-- where a model comes from
pub data Source : Type 0 where
  -- the file under this name
  File : (name : List ℕ) → Source
  -- the text of the ring of n processes; no file is loaded
  Ring : (n : ℕ) → Source

-- what is done with a model
pub data Job : Type 0 where
  -- decide its specifications, and save the proofs under the name, if there is one
  Decide : (proofs : Option (List ℕ)) → Job
  -- test the blocks of the proof file of this name
  Recheck : (proofs : List ℕ) → Job
  -- find the delays from the states of one specification to those of another, which are told by
  -- their numbers, counted from 1
  Delay : (from to : ℕ) → Job
  -- judge the trace file of this name
  Replay : (trace : List ℕ) → Job
  -- find a strong path for these pairs of specifications, which are told by their numbers, counted
  -- from 1
  Strong : (pairs : List (ℕ × ℕ)) → Job

pub record Work : Type 0 where
  pub source : Source
  -- the most nodes
  pub limit : ℕ
  pub job : Job

pub data Command : Type 0 where
  -- no command: the usage text is asked for
  Usage : Command
  -- put the text of the ring of n processes
  Print : (n : ℕ) → Command
  Do : (work : Work) → Command

-- the most nodes, where no number is asked for
abbrev pub usual_limit : ℕ
usual_limit = 1000000

-- this is done with the model of this source, with so many nodes at most
abbrev pub work_on : Source → ℕ → Job → Command
work_on from most what = Do (record { source = from; limit = most; job = what })

-- the one operand, which names a file and so is not empty
abbrev pub only_file : List (List ℕ) → Option (List ℕ)
only_file ((byte ∷ name) ∷ []) = Some (byte ∷ name)
only_file names = None

-- the two operands, which name a model's file and a second one
abbrev pub two_files : List (List ℕ) → Option (List ℕ × List ℕ)
two_files ((byte ∷ model) ∷ (first ∷ second) ∷ []) = Some (byte ∷ model, first ∷ second)
two_files names = None

abbrev pub is_colon : ℕ → Bool
is_colon byte = byte == 58

-- the number of a specification, as the word writes it
abbrev pub spec_number : List ℕ → Option ℕ
spec_number = number_of 256

-- a file and the numbers of two specifications
pub record FileAndSpecs : Type 0 where
  pub file : List ℕ
  pub from : ℕ
  pub to : ℕ

-- the three operands, which name a model's file and two of its specifications by their numbers
abbrev pub file_and_specs : List (List ℕ) → Option FileAndSpecs
file_and_specs ((byte ∷ model) ∷ from ∷ to ∷ []) =
    option_and_then (λ i. option_map (λ j.
    record { file = byte ∷ model; from = i; to = j })
    (spec_number to))
    (spec_number from)
file_and_specs words = None

-- the pair of the numbers that the word writes, with a colon between them
abbrev pub spec_pair : List ℕ → Option (ℕ × ℕ)
spec_pair word =
    option_and_then (λ p. option_map (λ q. (p, q)) (spec_number (after_first is_colon word)))
    (spec_number (before_first is_colon word))

-- the pairs that the words write, where each of them writes one
abbrev pub spec_pairs : List (List ℕ) → Option (List (ℕ × ℕ))
spec_pairs [] = Some []
spec_pairs (word ∷ words) =
    option_and_then (λ pair. option_map (λ pairs. pair ∷ pairs) (spec_pairs words))
    (spec_pair word)

-- the operands, which name a model's file and at most 16 pairs of specifications
abbrev pub file_and_pairs : List (List ℕ) → Option (List ℕ × List (ℕ × ℕ))
file_and_pairs ((byte ∷ model) ∷ words) =
    if nat_le (length words) 16 then option_map (λ pairs. (byte ∷ model, pairs)) (spec_pairs words)
    else None
file_and_pairs words = None

-- the one operand, which is a number of processes
abbrev pub only_number : List (List ℕ) → Option ℕ
only_number (word ∷ []) = number_of 999 word
only_number words = None

-- the one limit that is asked for, or the usual one where none is
abbrev pub only_limit : List (List ℕ) → Option ℕ
only_limit [] = Some usual_limit
only_limit (value ∷ []) = number_of 2147483647 value
only_limit values = None

-- the one name that proofs are saved under, or that there is none; a name is not empty, and not the
-- model's
abbrev pub only_proofs : (model : List ℕ) → List (List ℕ) → Option (Option (List ℕ))
only_proofs model [] = Some None
only_proofs model ((byte ∷ name) ∷ []) =
    if bytes_eq (byte ∷ name) model then None else Some (Some (byte ∷ name))
only_proofs model names = None

-- whether an option stands that may stand once
abbrev pub at_most_once : ℕ → Option Bool
at_most_once zero = Some false
at_most_once (suc zero) = Some true
at_most_once times = None

-- `check MODEL [--nodes N] [--proof FILE]`
abbrev pub check_of : List Part → Option Command
check_of parts =
    option_and_then (λ model. option_and_then (λ limit. option_map (λ name.
    work_on (File model) limit (Decide name))
    (only_proofs model (proofs parts)))
    (only_limit (limits parts)))
    (only_file (operands parts))

-- what is asked by operands and the values of `--nodes`
abbrev pub limited_lists : {A : Type 0} → (List (List ℕ) → Option A) → (A → ℕ → Command)
    → (words limits : List (List ℕ)) → Option Command
limited_lists read make words limits =
    option_and_then (λ asked. option_map (make asked) (only_limit limits)) (read words)

-- a command whose operands are read so, and whose one option is `--nodes N`
abbrev pub limited_of : {A : Type 0} → (List (List ℕ) → Option A) → (A → ℕ → Command) → List Part
    → Option Command
limited_of read make parts = limited_lists read make (operands parts) (limits parts)

abbrev pub recheck_work : List ℕ × List ℕ → ℕ → Command
recheck_work names limit = work_on (File names.0) limit (Recheck names.1)

-- `recheck MODEL PROOF [--nodes N]`
abbrev pub recheck_of : List Part → Option Command
recheck_of = limited_of two_files recheck_work

abbrev pub replay_work : List ℕ × List ℕ → ℕ → Command
replay_work names limit = work_on (File names.0) limit (Replay names.1)

-- `replay MODEL TRACE [--nodes N]`
abbrev pub replay_of : List Part → Option Command
replay_of = limited_of two_files replay_work

abbrev pub delay_work : FileAndSpecs → ℕ → Command
delay_work asked limit = work_on (File asked.file) limit (Delay asked.from asked.to)

-- `delay MODEL FROM TO [--nodes N]`
abbrev pub delay_of : List Part → Option Command
delay_of = limited_of file_and_specs delay_work

abbrev pub strong_work : List ℕ × List (ℕ × ℕ) → ℕ → Command
strong_work asked limit = work_on (File asked.0) limit (Strong asked.1)

-- `strong MODEL [PAIR]... [--nodes N]`
abbrev pub strong_of : List Part → Option Command
strong_of = limited_of file_and_pairs strong_work

-- `gen N [--check]`
abbrev pub gen_of : List Part → Option Command
gen_of parts =
    option_and_then (λ n. option_map (λ is_checked.
    if is_checked then work_on (Ring n) usual_limit (Decide None) else Print n)
    (at_most_once (checks parts)))
    (only_number (operands parts))

-- the command of these words, where they are parts by the form, and the parts are a command
abbrev pub command_by : (List ℕ → Form) → (List Part → Option Command) → List (List ℕ) → Command
command_by form read words = unwrap_or (option_and_then read (parts_of form words)) Usage

-- the command that the words after the program's name are
abbrev pub command_of : List (List ℕ) → Command
command_of [] = Usage
command_of (word ∷ words) =
    if bytes_eq word (codes "check") then command_by check_form check_of words
    else if bytes_eq word (codes "gen") then command_by gen_form gen_of words
    else if bytes_eq word (codes "recheck") then command_by limit_form recheck_of words
    else if bytes_eq word (codes "delay") then command_by limit_form delay_of words
    else if bytes_eq word (codes "replay") then command_by limit_form replay_of words
    else if bytes_eq word (codes "strong") then command_by limit_form strong_of words
    else Usage

-- there is a ring of n processes
abbrev pub HasRing : ℕ → Type 0
HasRing n = (1 ≤ n) × (n ≤ 999)

abbrev pub HasSource : Source → Type 0
HasSource (File name) = Unit {0}
HasSource (Ring n) = HasRing n

-- a ring is in its range; a limit that is asked for has a node, and is a number of 31 bits
abbrev pub HasLimits : Command → Type 0
HasLimits Usage = Unit {0}
HasLimits (Print n) = HasRing n
HasLimits (Do work) = HasSource work.source × (0 < work.limit) × (work.limit < 2 ^ 31)
