-- One call of the program: what it was given, what it left, and what is promised of these, whatever
-- the command.
use Rattle.std.specs.Prelude.{◌≡◌, ◌≢◌, ◌⊎◌, ◌<◌, ℕ, false, List, [], ◌++◌, length, map, All}
use Rattle.std.specs.Prelude.{Option, Some, None, IfSome, string_bytes, String}
use Rattle.std.specs.Global.{Vec}
use Rattle.std.specs.declared.alloc.Global.{Global}
use Rattle.std.specs.Io.KnownBytes.{Appends}
use Rattle.bdd_nodes.specs.declared.refusal.Held.{Held}
use Rattle.command_words.specs.Words as words
use Rattle.command_words.specs.Words.{Command, Work, Decide, Print, Do, command_of}
use Rattle.kripke_model.specs.System.{System}
use Rattle.smv_outside.specs.Contents.{AreTold, Contents, IsSaved, bytes_under}
use Rattle.smv_outside.specs.Faults.{Rose, last_count}
use Rattle.smv_outside.specs.Written.{AppendsPrefix}
use Rattle.smv_outside.specs.declared.faults.FileFaults.{FileFaults}
use Rattle.smv_texts.specs.Evidence.{IsOfLimit}
use Rattle.smv_texts.specs.Refusals.{Refusal, is_fault, refusal_line}
use Rattle.smv_texts.specs.Replies.{Reply, text_of}
use Rattle.smv_texts.specs.Statuses.{status_of}
use Rattle.smv_texts.specs.Texts.{usage_text, fault_line}
use Rattle.smv_texts.specs.declared.fault.Fault.{Fault}
use Rattle.smv_texts.specs.declared.fault.Fault.TheVariants.{LoadFailed, LoadMissing, SaveFailed}
use Rattle.smv_texts.specs.declared.status.Status.{Status}
use Rattle.smv_texts.specs.declared.status.Status.TheVariants.{Clear, Failed, Undecided}
use Rattle.smv_texts.specs.declared.status.Status.TheVariants.{ModelRefused, OutsideFault, Usage}
use Rattle.smv_texts.specs.declared.status.Status.TheVariants.{Memory, ProofRefused}
use Rattle.smv_session.specs.Answers.{Answers, Loads, Reads, Takes, Tells}
use Rattle.smv_session.specs.Jobs.{Keeps, NamesLeaves, Undecides}
use Rattle.smv_session.specs.Refuses.{Refuses}
use Rattle.smv_session.specs.Source.{HasModel, IsAccepted}

pub record Session : Type 0 where
  pub words : List (List ℕ)
  pub contents : Option Contents
  pub contents_after : Option Contents
  pub written : Option (List ℕ)
  pub written_after : Option (List ℕ)
  pub file_faults : FileFaults
  pub file_faults_after : FileFaults
  pub sink_faults : ℕ
  pub sink_faults_after : ℕ
  pub status : Status

-- the call over these words, with the files and the sink before and after it
abbrev pub session : {F S : Type 0} → (F → Option Contents) → (F → FileFaults)
    → (S → Option (List ℕ)) → (S → ℕ) → List (String Global) → F → F → S → S → Status → Session
session contents file_faults written sink_faults words files files_after out out_after status =
    record {
      words = map string_bytes words;
      contents = contents files;
      contents_after = contents files_after;
      written = written out;
      written_after = written out_after;
      file_faults = file_faults files;
      file_faults_after = file_faults files_after;
      sink_faults = sink_faults out;
      sink_faults_after = sink_faults out_after;
      status = status;
    }

-- ---- counts

-- the count of a fault
abbrev pub count_of : Fault → FileFaults → ℕ
count_of LoadFailed counts = counts.failed
count_of LoadMissing counts = counts.missing
count_of SaveFailed counts = counts.unsaved

-- the count of the fault rose in this call
abbrev pub FaultRose : Session → Fault → Type 0
FaultRose s fault = Rose (count_of fault s.file_faults) (count_of fault s.file_faults_after)

-- the count of the fault is greater than before
abbrev pub Grew : Session → Fault → Type 0
Grew s fault = count_of fault s.file_faults < count_of fault s.file_faults_after

-- the count of the fault stood at its last value before the call
abbrev pub WasAtLast : Session → Fault → Type 0
WasAtLast s fault = count_of fault s.file_faults ≡ last_count

-- a count of the files rose in this call
abbrev pub FilesRose : Session → Type 0
FilesRose s = (fault : Fault) × FaultRose s fault

-- a count of the files is greater than before
abbrev pub FilesGrew : Session → Type 0
FilesGrew s = (fault : Fault) × Grew s fault

-- the count of the sink rose in this call
abbrev pub SinkRose : Session → Type 0
SinkRose s = Rose s.sink_faults s.sink_faults_after

-- no count rose, and memory was found
pub record IsUndisturbed (s : Session) : Type 0 where
  pub files : ¬ FilesRose s
  pub sink : ¬ SinkRose s
  pub memory : s.status ≢ Memory

-- ---- what was put and saved

-- as far as the sink tells, this text was put
abbrev pub Puts : Session → List ℕ → Type 0
Puts s text = Appends s.written s.written_after text

-- as far as the sink tells, a prefix of this text was put
abbrev pub PutsPrefix : Session → List ℕ → Type 0
PutsPrefix s text = AppendsPrefix s.written s.written_after text

-- the sink tells that this text was put
abbrev pub TellsText : Option (List ℕ) → Option (List ℕ) → List ℕ → Type 0
TellsText (Some before) (Some after) text = after ≡ before ++ text
TellsText (Some before) None text = ⊥
TellsText None after text = ⊥

abbrev pub IsToldToPut : Session → List ℕ → Type 0
IsToldToPut s text = TellsText s.written s.written_after text

-- what a reply leaves in the files: as far as they are told, the bytes that it saves stand under
-- their name, and all else stays
abbrev pub Leaves : Option (List ℕ × List ℕ) → Option Contents → Option Contents → Type 0
Leaves None before after = after ≡ before
Leaves (Some saved) before after =
    AreTold before after (λ files files_after. IsSaved files files_after saved.0 saved.1)

-- the call ends as the reply says
pub record Shows (s : Session) (r : Reply) : Type 0 where
  pub status : s.status ≡ status_of r.ending
  pub text : Puts s (text_of r)
  pub files : Leaves r.saves s.contents s.contents_after

-- ---- what was asked

-- the words ask for work over a model's text, whose bytes are told
pub record Asks (s : Session) (w : Work) (bytes : List ℕ) : Type 0 where
  pub asked : command_of s.words ≡ Do w
  pub there : Tells w.source s.contents bytes

-- the same where the contents may not be told: then some bytes are meant
pub record MayAsk (s : Session) (w : Work) (bytes : List ℕ) : Type 0 where
  pub asked : command_of s.words ≡ Do w
  pub there : Reads w.source s.contents bytes

-- ---- the promises

-- Undisturbed, the call puts the answer to its words.
abbrev pub PutsAnswer : Session → Type 0
PutsAnswer s = IsUndisturbed s → (r : Reply) × Answers (command_of s.words) s.contents r × Shows s r

-- Words that are no command are answered by the usage text, and no others are.
pub record AnswersUsage (s : Session) : Type 0 where
  pub only : s.status ≡ Usage → (command_of s.words ≡ words.Usage) × Puts s usage_text
  pub always : IsUndisturbed s → command_of s.words ≡ words.Usage → s.status ≡ Usage

-- A refusal is told only where it applies. One that is read off the text is told wherever it
-- applies. A fault of an item is told too, unless the node limit leaves the model undecided. An
-- accepted model is not refused.
pub record RefusesModels (s : Session) : Type 0 where
  pub only : s.status ≡ ModelRefused
      → (w : Work) × (bytes : List ℕ) × (refusal : Refusal) × MayAsk s w bytes
      × Refuses w.job bytes refusal × Puts s (refusal_line refusal)
  pub always : IsUndisturbed s → (w : Work) (bytes : List ℕ) (refusal : Refusal) → Asks s w bytes
      → Refuses w.job bytes refusal → is_fault refusal ≡ false
      → (s.status ≡ ModelRefused) × Puts s (refusal_line refusal)
  pub faulty : IsUndisturbed s → (w : Work) (bytes : List ℕ) (m : System) (refusal : Refusal)
      → Asks s w bytes → HasModel bytes m → Refuses w.job bytes refusal
      → ((s.status ≡ ModelRefused) × Puts s (refusal_line refusal))
      ⊎ ((r : Reply) × Undecides w.job m w.limit r × Shows s r)
  pub never : IsUndisturbed s → (w : Work) (bytes : List ℕ) (m : System) → Asks s w bytes
      → IsAccepted bytes m → NamesLeaves w.job m → s.status ≢ ModelRefused

-- A model that isn't refused is left undecided by the limit, or has no fault and the job is done.
pub record TakesModels (s : Session) : Type 0 where
  pub takes : IsUndisturbed s → (w : Work) (bytes : List ℕ) (m : System) → Asks s w bytes
      → HasModel bytes m → s.status ≢ ModelRefused
      → (r : Reply) × Takes w s.contents m r × Shows s r

-- Something is unknown only in the reply to a model, and with the full stores that show it. Each
-- has a level for each bit of the current and of the next state, and the limit that was asked for.
pub record IsUnknown (s : Session) (held : Vec Held) : Type 0 where
  pub work : Work
  pub bytes : List ℕ
  pub model : System
  pub reply : Reply
  pub asked : MayAsk s work bytes
  pub has : HasModel bytes model
  pub takes : Takes work s.contents model reply
  pub shows : Shows s reply
  pub full : All (IsOfLimit model work.limit) held.items
  pub some : 0 < length held.items

pub record HasEvidence (s : Session) : Type 0 where
  pub unknown : (held : Vec Held) → s.status ≡ Undecided held → IsUnknown s held

-- the statuses of replies to work that is done or undecided
abbrev pub IsOfWork : Status → Type 0
IsOfWork Clear = Unit {0}
IsOfWork Failed = Unit {0}
IsOfWork (Undecided held) = Unit {0}
IsOfWork ProofRefused = Unit {0}
IsOfWork status = ⊥

-- No other answer has the status of a reply.
pub record HasStatusOfReply (s : Session) : Type 0 where
  pub shown : IsOfWork s.status
      → (r : Reply) × Answers (command_of s.words) s.contents r × Shows s r

-- what each command keeps of the contents, whatever the status
abbrev pub KeepsOf : Command → Option Contents → Option Contents → Type 0
KeepsOf words.Usage before after = after ≡ before
KeepsOf (Print n) before after = after ≡ before
KeepsOf (Do w) before after = Keeps w.job before after

-- the statuses of calls that save nothing
abbrev pub SavesNothing : Status → Type 0
SavesNothing ModelRefused = Unit {0}
SavesNothing ProofRefused = Unit {0}
SavesNothing Usage = Unit {0}
SavesNothing Memory = Unit {0}
SavesNothing status = ⊥

-- Whatever the status, each name but that of the proofs keeps its bytes. Where nothing is saved all
-- contents stay.
pub record KeepsContents (s : Session) : Type 0 where
  pub others : KeepsOf (command_of s.words) s.contents s.contents_after
  pub all : SavesNothing s.status → s.contents_after ≡ s.contents

-- A fault of the outside is answered only where a count rose.
pub record FaultHasCause (s : Session) : Type 0 where
  pub cause : s.status ≡ OutsideFault → FilesRose s ⊎ SinkRose s

-- A count that grew is answered.
pub record AnswersFaults (s : Session) : Type 0 where
  pub sink : s.sink_faults < s.sink_faults_after → s.status ≡ OutsideFault
  pub saves : Grew s SaveFailed → s.status ≡ OutsideFault
  pub files : FilesGrew s → (s.status ≡ OutsideFault) ⊎ (s.status ≡ Memory)

-- the proofs of a model were to be saved: none of the refusals that are read off its text applies
pub record Saves (s : Session) : Type 0 where
  pub work : Work
  pub bytes : List ℕ
  pub name : List ℕ
  pub model : System
  pub asked : MayAsk s work bytes
  pub job : work.job ≡ Decide (Some name)
  pub has : HasModel bytes model

-- what a fault line tells
abbrev pub IsSo : Session → Fault → Type 0
IsSo s LoadFailed = s.contents_after ≡ s.contents
IsSo s LoadMissing =
    (s.contents_after ≡ s.contents)
    × IfSome s.contents (λ files. (name : List ℕ) × Loads (command_of s.words) s.contents name
    × (bytes_under files name ≡ None))
IsSo s SaveFailed = Saves s

-- Where a count of the files grew the line of its fault is put: whole, or a prefix where the sink
-- failed too. What it tells is so.
abbrev pub PutsFaultLine : Session → Type 0
PutsFaultLine s = FilesGrew s → s.status ≡ OutsideFault
    → (fault : Fault) × Grew s fault × IsSo s fault
    × (Puts s (fault_line fault) ⊎ (SinkRose s × PutsPrefix s (fault_line fault)))

-- A fault line stands only where its own count rose, and what it tells is so.
abbrev pub FaultLinesHaveCause : Session → Type 0
FaultLinesHaveCause s =
    (fault : Fault) → IsToldToPut s (fault_line fault) → FaultRose s fault × IsSo s fault

-- A fault that no count of the files tells cut an answer off, or the line of a fault whose count
-- stood at its last value.
pub record CutsOffAnswer (s : Session) : Type 0 where
  pub cut : s.status ≡ OutsideFault → ¬ FilesGrew s
      → ((r : Reply) × Answers (command_of s.words) s.contents r × PutsPrefix s (text_of r)
      × Leaves r.saves s.contents s.contents_after)
      ⊎ ((fault : Fault) × WasAtLast s fault × IsSo s fault × PutsPrefix s (fault_line fault))

-- Where memory ran out nothing was put, and all contents stay.
pub record MemoryChangesNothing (s : Session) : Type 0 where
  pub written : s.status ≡ Memory → Puts s []
  pub contents : s.status ≡ Memory → s.contents_after ≡ s.contents
