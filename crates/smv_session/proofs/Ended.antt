-- How a call ends, and with it each promise.
use Rattle.std.proofs.Common.{◌≡◌, ◌≢◌, ◌⊎◌, ◌∙◌, ◌<◌, ◌≤◌, inl, inr, ℕ, List, [], take, length, Option, Some, None, IfSome, sym, ap, subst, arith, length-append, append-nil}
use Rattle.std.proofs.lemmas.List.{take_all}
use Rattle.std.specs.Io.KnownBytes.{Appends}
use Rattle.command_words.specs.Words as words
use Rattle.command_words.specs.Words.{Command, Work, Job, Decide, Print, Do, command_of}
use Rattle.kripke_model.specs.System.{System}
use Rattle.smv_outside.specs.Contents.{Contents, bytes_under}
use Rattle.smv_outside.specs.Faults.{Rises, last_count}
use Rattle.smv_outside.specs.Written.{AppendsPrefix}
use Rattle.smv_outside.specs.declared.faults.FileFaults.{FileFaults}
use Rattle.smv_session.specs.Answers.{Answers, IsModelReply, Loads, Takes}
use Rattle.smv_session.specs.Commands.{GeneratesText}
use Rattle.smv_session.specs.Foreseen as foreseen
use Rattle.smv_session.specs.Foreseen.{Came, Closing, FailsToSave, Finishes, Foresees, IsAnswer, IsForgotten, IsKept, IsNotKept, IsTold}
use Rattle.smv_session.specs.OneAnswer.{OneAnswer}
use Rattle.smv_session.specs.Refuses.{Refuses}
use Rattle.smv_session.specs.Session.{Session, FilesGrew, FaultRose, Grew, IsSo, WasAtLast, SinkRose, Puts, PutsPrefix, Shows, Leaves, Asks, MayAsk, IsUndisturbed, TellsText, PutsAnswer, AnswersUsage, RefusesModels, TakesModels, HasEvidence, HasStatusOfReply, IsOfWork, KeepsOf, KeepsContents, Saves, SavesNothing, FaultHasCause, AnswersFaults, PutsFaultLine, FaultLinesHaveCause, CutsOffAnswer, MemoryChangesNothing}
use Rattle.smv_session.specs.Source.{HasModel}
use Rattle.smv_session.specs.declared.session.Foreseen.{Foreseen}
use Rattle.smv_session.specs.declared.session.Foreseen.TheVariants as foreseen_is
use Rattle.smv_session.proofs.Answered.{answer_to, faulty, generated_of, never, no_fault_ending, no_memory_ending, refused_always, refused_ending, refused_only, taken_of, undecided_ending, unknown_only, usage_always, usage_ending, usage_only}
use Rattle.smv_session.proofs.PutText.{told_text, same_line}
use Rattle.smv_session.proofs.SavedReplies.{IsQuiet, quiet_saves, reply_fails, reply_keeps, same_of}
use Rattle.smv_texts.proofs.Heads.{no_fault_line}
use Rattle.smv_texts.specs.Refusals.{Refusal, refusal_line}
use Rattle.smv_texts.specs.Replies.{Reply, text_of}
use Rattle.smv_texts.specs.Statuses.{status_of}
use Rattle.smv_texts.specs.Texts.{fault_line, usage_text}
use Rattle.smv_texts.specs.declared.ending.Ending.{Ending}
use Rattle.smv_texts.specs.declared.ending.Ending.TheVariants as endings
use Rattle.smv_texts.specs.declared.fault.Fault.{Fault}
use Rattle.smv_texts.specs.declared.fault.Fault.TheVariants.{LoadFailed, LoadMissing, SaveFailed}
use Rattle.smv_texts.specs.declared.reply.Reply as code
use Rattle.smv_texts.specs.declared.status.Status.TheVariants.{ModelRefused, OutsideFault, Usage, Memory}

-- ---- the ends of a call

-- the fault raised its own count alone
abbrev Alone : Fault → FileFaults → FileFaults → Type 0
Alone LoadFailed before after = Rises before.failed after.failed × (after.missing ≡ before.missing) × (after.unsaved ≡ before.unsaved)
Alone LoadMissing before after = Rises before.missing after.missing × (after.failed ≡ before.failed) × (after.unsaved ≡ before.unsaved)
Alone SaveFailed before after = Rises before.unsaved after.unsaved × (after.failed ≡ before.failed) × (after.missing ≡ before.missing)

-- a reply is put
pub record IsShown (s : Session) : Type 0 where
  pub reply : Reply
  pub answer : Answers (command_of s.words) s.contents reply
  pub shows : Shows s reply
  pub files : s.file_faults_after ≡ s.file_faults
  pub sink : s.sink_faults_after ≡ s.sink_faults

-- a reply is cut off
pub record IsCutOff (s : Session) : Type 0 where
  pub reply : Reply
  pub answer : Answers (command_of s.words) s.contents reply
  pub puts : PutsPrefix s (text_of reply)
  pub leaves : Leaves reply.saves s.contents s.contents_after
  pub files : s.file_faults_after ≡ s.file_faults
  pub sink : Rises s.sink_faults s.sink_faults_after
  pub status : s.status ≡ OutsideFault

-- the line of a fault is put, or cut off too
pub record IsLine (s : Session) : Type 0 where
  pub fault : Fault
  pub alone : Alone fault s.file_faults s.file_faults_after
  pub so : IsSo s fault
  pub keeps : KeepsOf (command_of s.words) s.contents s.contents_after
  pub puts : Puts s (fault_line fault) ⊎ (SinkRose s × PutsPrefix s (fault_line fault))
  pub status : s.status ≡ OutsideFault

-- memory ran out
pub record IsGone (s : Session) : Type 0 where
  pub status : s.status ≡ Memory
  pub contents : s.contents_after ≡ s.contents
  pub unsaved : s.file_faults_after.unsaved ≡ s.file_faults.unsaved
  pub written : s.written_after ≡ s.written
  pub sink : s.sink_faults_after ≡ s.sink_faults

pub data Ends (s : Session) : Type 0 where
  Shown : IsShown s → Ends s
  CutOff : IsCutOff s → Ends s
  Line : IsLine s → Ends s
  Gone : IsGone s → Ends s

-- what is foreseen is saved and put between these files and the end
abbrev pub closing_of : Session → Option Contents → FileFaults → Closing
closing_of s contents faults = record {
  contents = contents;
  contents_after = s.contents_after;
  faults = faults;
  faults_after = s.file_faults_after;
  written = s.written;
  written_after = s.written_after;
  count = s.sink_faults;
  count_after = s.sink_faults_after;
  status = s.status;
}

-- a name that is lacking and is loaded
lacking : (contents : Option Contents) (command : Command) (name : List ℕ) → Loads command contents name → IfSome contents (λ files. bytes_under files name ≡ None)
    → IfSome contents (λ files. (name : List ℕ) × Loads command contents name × (bytes_under files name ≡ None))
lacking None command name loads lacks = tt
lacking (Some files) command name loads lacks = (name, loads, lacks)

module _ (s : Session) (faults : FileFaults) where
  -- the line of a fault
  put_line : (fault : Fault) → Alone fault s.file_faults s.file_faults_after → IsSo s fault → KeepsOf (command_of s.words) s.contents s.contents_after
      → foreseen.Ends (closing_of s s.contents faults) (fault_line fault) OutsideFault → Ends s
  put_line fault alone so keeps (inl whole) = Line (record { fault = fault; alone = alone; so = so; keeps = keeps; puts = inl whole.text_is; status = whole.status_is })
  put_line fault alone so keeps (inr cut) = Line (record { fault = fault; alone = alone; so = so; keeps = keeps; puts = inr (cut.rises.rose, cut.text_is); status = cut.status_is })

  -- a load that failed
  load_line : (fault : Fault) (name : List ℕ) → Loads (command_of s.words) s.contents name → Came fault name s.contents s.file_faults faults → IsTold (closing_of s s.contents faults) fault → Ends s
  load_line LoadFailed name loads came told =
      put_line LoadFailed (subst (Alone LoadFailed s.file_faults) (sym told.quiet) came) told.contents (same_of (command_of s.words) s.contents s.contents_after told.contents) told.ends
  load_line LoadMissing name loads came told =
      put_line LoadMissing (subst (Alone LoadMissing s.file_faults) (sym told.quiet) (came.0, came.1, came.3))
      (told.contents, lacking s.contents (command_of s.words) name loads came.2) (same_of (command_of s.words) s.contents s.contents_after told.contents) told.ends
  load_line SaveFailed name loads came told = absurd came

  -- a reply that was to be saved and put
  module _ (reply : code.Reply) (is : IsAnswer (command_of s.words) s.contents s.file_faults faults reply) where
    kept : IsKept (closing_of s s.contents faults) reply → Ends s
    kept k =
        let r = is.answer.0 in
        let gives = is.answer.1 in
        let leaves : Leaves r.saves s.contents s.contents_after = subst (λ saves. Leaves saves s.contents s.contents_after) gives.saves k.leaves in
        let files : s.file_faults_after ≡ s.file_faults = k.quiet ∙ is.quiet in
        elim k.ends [
          | inl whole ↦ Shown (record {
            reply = r;
            answer = is.answer.2;
            shows = record { status = whole.status_is ∙ ap status_of gives.ending; text = subst (Puts s) gives.text whole.text_is; files = leaves };
            files = files;
            sink = whole.quiet;
          })
          | inr cut ↦ CutOff (record {
            reply = r;
            answer = is.answer.2;
            puts = subst (PutsPrefix s) gives.text cut.text_is;
            leaves = leaves;
            files = files;
            sink = cut.rises;
            status = cut.status_is;
          })
        ]

    not_kept : IsNotKept (closing_of s s.contents faults) reply → Ends s
    not_kept k =
        let found = reply_fails (command_of s.words) s.contents s.contents_after is.answer.0 is.answer.2 (subst (λ saves. FailsToSave saves s.contents s.contents_after) is.answer.1.saves k.others) in
        let so : Saves s = record { work = found.work; bytes = found.bytes; name = found.name; model = found.model; asked = record { asked = found.asked; there = found.there }; job = found.job; has = found.has } in
        put_line SaveFailed
        (subst (λ (f : FileFaults). Rises f.unsaved s.file_faults_after.unsaved) is.quiet k.rises, k.failed ∙ ap (λ (f : FileFaults). f.failed) is.quiet, k.missing ∙ ap (λ (f : FileFaults). f.missing) is.quiet)
        so found.keeps k.ends

    forgotten : IsForgotten (closing_of s s.contents faults) → Ends s
    forgotten k = Gone (record { status = k.status; contents = k.contents; unsaved = ap (λ (f : FileFaults). f.unsaved) (k.quiet ∙ is.quiet); written = k.written; sink = k.count })

  finished : (f : Foreseen) → Foresees (command_of s.words) s.contents s.file_faults faults f → Finishes (closing_of s s.contents faults) f → Ends s
  finished (foreseen_is.Reply reply) is (inl k) = kept reply is k
  finished (foreseen_is.Reply reply) is (inr (inl k)) = not_kept reply is k
  finished (foreseen_is.Reply reply) is (inr (inr k)) = forgotten reply is k
  finished (foreseen_is.Fault fault) is told = load_line fault is.name is.loads is.came told

pub ends : (s : Session) (f : Foreseen) (between : Option Contents) (faults : FileFaults) → between ≡ s.contents → Foresees (command_of s.words) s.contents s.file_faults faults f
    → Finishes (closing_of s between faults) f → Ends s
ends s f between faults same is closes = finished s faults f is (subst (λ contents. Finishes (closing_of s contents faults) f) same closes)

-- ---- counts

no_growth : (s : Session) → s.file_faults_after ≡ s.file_faults → FilesGrew s → ⊥
no_growth s same (LoadFailed, less) = let failed = ap (λ (f : FileFaults). f.failed) same in omega (arith, less, failed)
no_growth s same (LoadMissing, less) = let missing = ap (λ (f : FileFaults). f.missing) same in omega (arith, less, missing)
no_growth s same (SaveFailed, less) = let unsaved = ap (λ (f : FileFaults). f.unsaved) same in omega (arith, less, unsaved)

-- a count that rose and did not grow stood at its last value
stood : (before after : ℕ) → Rises before after → ¬ (before < after) → before ≡ last_count
stood before after rises same = elim rises.rose [
  | inl grew ↦ absurd (same grew)
  | inr last ↦ let none : after ≤ before = grind arith in omega (arith, rises.never_falls)
]

module _ (s : Session) where
  -- a fault that came raised its count
  rose : (fault : Fault) → Alone fault s.file_faults s.file_faults_after → FaultRose s fault
  rose LoadFailed came = came.0.rose
  rose LoadMissing came = came.0.rose
  rose SaveFailed came = came.0.rose

  -- one that made no count grow found it at its last value
  at_last : (fault : Fault) → Alone fault s.file_faults s.file_faults_after → ¬ FilesGrew s → WasAtLast s fault
  at_last LoadFailed came same = stood _ _ came.0 (λ grew. same (LoadFailed, grew))
  at_last LoadMissing came same = stood _ _ came.0 (λ grew. same (LoadMissing, grew))
  at_last SaveFailed came same = stood _ _ came.0 (λ grew. same (SaveFailed, grew))

  -- one that came with a count that grew made its own count grow
  own_grew : (fault other : Fault) → Alone fault s.file_faults s.file_faults_after → Grew s other → Grew s fault
  own_grew LoadFailed LoadFailed came grew = grew
  own_grew LoadFailed LoadMissing came grew = absurd (omega (arith, grew, came.1))
  own_grew LoadFailed SaveFailed came grew = absurd (omega (arith, grew, came.2))
  own_grew LoadMissing LoadFailed came grew = absurd (omega (arith, grew, came.1))
  own_grew LoadMissing LoadMissing came grew = grew
  own_grew LoadMissing SaveFailed came grew = absurd (omega (arith, grew, came.2))
  own_grew SaveFailed LoadFailed came grew = absurd (omega (arith, grew, came.1))
  own_grew SaveFailed LoadMissing came grew = absurd (omega (arith, grew, came.2))
  own_grew SaveFailed SaveFailed came grew = grew

-- ---- lines

-- the whole of a text is a prefix of it
whole : (before after : Option (List ℕ)) (text : List ℕ) → Appends before after text → AppendsPrefix before after text
whole before after text appends = (length text, subst (Appends before after) (sym (take_all (length text) text (omega arith))) appends)

line_prefix : (s : Session) (fault : Fault) → Puts s (fault_line fault) ⊎ (SinkRose s × PutsPrefix s (fault_line fault)) → PutsPrefix s (fault_line fault)
line_prefix s fault (inl puts) = whole s.written s.written_after (fault_line fault) puts
line_prefix s fault (inr cut) = cut.1

-- no reply is put where a fault line is told
no_line : (s : Session) (r : Reply) (fault : Fault) → PutsPrefix s (text_of r) → TellsText s.written s.written_after (fault_line fault) → ⊥
no_line s r fault puts tells = no_fault_line r.head r.rest puts.0 fault (told_text s.written s.written_after (take puts.0 (text_of r)) (fault_line fault) puts.1 tells)

no_text : (written : Option (List ℕ)) (fault : Fault) → TellsText written written (fault_line fault) → ⊥
no_text None fault tells = tells
no_text (Some bytes) LoadFailed tells = absurd (omega (arith, ap length tells, length-append bytes (fault_line LoadFailed)))
no_text (Some bytes) LoadMissing tells = absurd (omega (arith, ap length tells, length-append bytes (fault_line LoadMissing)))
no_text (Some bytes) SaveFailed tells = absurd (omega (arith, ap length tells, length-append bytes (fault_line SaveFailed)))

-- ---- the promises of every call

pub answer : (s : Session) → Ends s → PutsAnswer s
answer s (Shown e) quiet = (e.reply, e.answer, e.shows)
answer s (CutOff e) quiet = absurd (quiet.sink e.sink.rose)
answer s (Line e) quiet = absurd (quiet.files (e.fault, rose s e.fault e.alone))
answer s (Gone e) quiet = absurd (quiet.memory e.status)

usage_line : (s : Session) → Ends s → s.status ≡ Usage → (command_of s.words ≡ words.Usage) × Puts s usage_text
usage_line s (Shown e) is =
    let found = usage_only (command_of s.words) s.contents e.reply e.answer (usage_ending e.reply.ending (sym e.shows.status ∙ is)) in
    (found.0, subst (Puts s) found.1 e.shows.text)
usage_line s (CutOff e) is = let other = e.status in cc
usage_line s (Line e) is = let other = e.status in cc
usage_line s (Gone e) is = let other = e.status in cc

pub usage : (s : Session) → Ends s → AnswersUsage s
usage s e = record {
  only = usage_line s e;
  always = λ quiet asked.
      let r = answer s e quiet in
      r.2.status ∙ ap status_of (usage_always (command_of s.words) s.contents r.0 r.1 asked);
}

refused_line : (s : Session) → Ends s → s.status ≡ ModelRefused → (w : Work) × (bytes : List ℕ) × (refusal : Refusal) × MayAsk s w bytes × Refuses w.job bytes refusal × Puts s (refusal_line refusal)
refused_line s (Shown e) is =
    let found = refused_only (command_of s.words) s.contents e.reply e.answer (refused_ending e.reply.ending (sym e.shows.status ∙ is)) in
    (found.work, found.bytes, found.refusal, record { asked = found.asked; there = found.there }, found.applies, subst (Puts s) found.text e.shows.text)
refused_line s (CutOff e) is = let other = e.status in cc
refused_line s (Line e) is = let other = e.status in cc
refused_line s (Gone e) is = let other = e.status in cc

-- the reply to the text of which the words speak
module _ (s : Session) (e : Ends s) (quiet : IsUndisturbed s) (w : Work) (bytes : List ℕ) (asks : Asks s w bytes) where
  here : Reply
  here = (answer s e quiet).0

  shown : Shows s here
  unfolding here
  shown = (answer s e quiet).2

  reply_here : IsModelReply w s.contents bytes here
  unfolding here
  reply_here = answer_to (command_of s.words) s.contents (answer s e quiet).0 w bytes (answer s e quiet).1 asks.asked asks.there

  told : (refusal : Refusal) → (here.ending ≡ endings.ModelRefused) × (text_of here ≡ refusal_line refusal) → (s.status ≡ ModelRefused) × Puts s (refusal_line refusal)
  told refusal is = (shown.status ∙ ap status_of is.0, subst (Puts s) is.1 shown.text)

  taken : OneAnswer → (m : System) → HasModel bytes m → s.status ≢ ModelRefused → (r : Reply) × Takes w s.contents m r × Shows s r
  taken one m has other = (here, taken_of one w s.contents bytes here reply_here m has (λ is. other (shown.status ∙ ap status_of is)), shown)

pub refused : (s : Session) → OneAnswer → Ends s → RefusesModels s
refused s one e = record {
  only = refused_line s e;
  always = λ quiet w bytes refusal asks applies other.
      told s e quiet w bytes asks refusal (refused_always one w s.contents bytes (here s e quiet w bytes asks) (reply_here s e quiet w bytes asks) refusal applies other);
  faulty = λ quiet w bytes m refusal asks has applies. elim (faulty one w s.contents bytes (here s e quiet w bytes asks) (reply_here s e quiet w bytes asks) m refusal has applies) [
    | inl is ↦ inl (told s e quiet w bytes asks refusal is)
    | inr undecided ↦ inr (here s e quiet w bytes asks, undecided, shown s e quiet w bytes asks)
  ];
  never = λ quiet w bytes m asks accepted names is.
      never one w s.contents bytes (here s e quiet w bytes asks) (reply_here s e quiet w bytes asks) m accepted names
      (refused_ending (here s e quiet w bytes asks).ending (sym (shown s e quiet w bytes asks).status ∙ is));
}

pub takes : (s : Session) → OneAnswer → Ends s → TakesModels s
takes s one e = record { takes = λ quiet w bytes m asks has other. taken s e quiet w bytes asks one m has other }

pub evidence : (s : Session) → Ends s → HasEvidence s
evidence s (Shown e) = record {
  unknown = λ held is.
      let found = unknown_only (command_of s.words) s.contents e.reply held e.answer (undecided_ending e.reply.ending held (sym e.shows.status ∙ is)) in
      record { work = found.work; bytes = found.bytes; model = found.model; reply = e.reply; asked = record { asked = found.asked; there = found.there }; has = found.has; takes = found.takes; shows = e.shows; full = found.full; some = found.some };
}
evidence s (CutOff e) = record { unknown = λ held is. let other = e.status in absurd cc }
evidence s (Line e) = record { unknown = λ held is. let other = e.status in absurd cc }
evidence s (Gone e) = record { unknown = λ held is. let other = e.status in absurd cc }

pub status : (s : Session) → Ends s → HasStatusOfReply s
status s (Shown e) = record { shown = λ is. (e.reply, e.answer, e.shows) }
status s (CutOff e) = record { shown = λ is. absurd (subst IsOfWork e.status is) }
status s (Line e) = record { shown = λ is. absurd (subst IsOfWork e.status is) }
status s (Gone e) = record { shown = λ is. absurd (subst IsOfWork e.status is) }

-- the status of a reply that saves nothing
quiet_ending : (e : Ending) → SavesNothing (status_of e) → IsQuiet e
quiet_ending endings.Clear quiet = quiet
quiet_ending endings.Failed quiet = quiet
quiet_ending (endings.Undecided held) quiet = quiet
quiet_ending endings.ModelRefused quiet = quiet
quiet_ending endings.ProofRefused quiet = quiet
quiet_ending endings.Usage quiet = quiet

pub contents : (s : Session) → Ends s → KeepsContents s
contents s (Shown e) = record {
  others = reply_keeps (command_of s.words) s.contents s.contents_after e.reply e.answer e.shows.files;
  all = λ quiet. subst (λ saves. Leaves saves s.contents s.contents_after)
      (quiet_saves (command_of s.words) s.contents e.reply e.answer (quiet_ending e.reply.ending (subst SavesNothing e.shows.status quiet))) e.shows.files;
}
contents s (CutOff e) = record { others = reply_keeps (command_of s.words) s.contents s.contents_after e.reply e.answer e.leaves; all = λ quiet. absurd (subst SavesNothing e.status quiet) }
contents s (Line e) = record { others = e.keeps; all = λ quiet. absurd (subst SavesNothing e.status quiet) }
contents s (Gone e) = record { others = same_of (command_of s.words) s.contents s.contents_after e.contents; all = λ quiet. e.contents }

pub fault_has_cause : (s : Session) → Ends s → FaultHasCause s
fault_has_cause s (Shown e) = record { cause = λ is. absurd (no_fault_ending e.reply.ending (sym e.shows.status ∙ is)) }
fault_has_cause s (CutOff e) = record { cause = λ is. inr e.sink.rose }
fault_has_cause s (Line e) = record { cause = λ is. inl (e.fault, rose s e.fault e.alone) }
fault_has_cause s (Gone e) = record { cause = λ is. let other = e.status in absurd cc }

pub faults_are_answered : (s : Session) → Ends s → AnswersFaults s
faults_are_answered s (Shown e) = record { sink = λ grew. absurd (omega (arith, grew, e.sink)); saves = λ grew. absurd (no_growth s e.files (SaveFailed, grew)); files = λ grew. absurd (no_growth s e.files grew) }
faults_are_answered s (CutOff e) = record { sink = λ grew. e.status; saves = λ grew. e.status; files = λ grew. inl e.status }
faults_are_answered s (Line e) = record { sink = λ grew. e.status; saves = λ grew. e.status; files = λ grew. inl e.status }
faults_are_answered s (Gone e) = record { sink = λ grew. absurd (omega (arith, grew, e.sink)); saves = λ grew. absurd (omega (arith, grew, e.unsaved)); files = λ grew. inr e.status }

pub fault_line_put : (s : Session) → Ends s → PutsFaultLine s
fault_line_put s (Shown e) grew is = absurd (no_growth s e.files grew)
fault_line_put s (CutOff e) grew is = absurd (no_growth s e.files grew)
fault_line_put s (Line e) grew is = (e.fault, own_grew s e.fault grew.0 e.alone grew.1, e.so, e.puts)
fault_line_put s (Gone e) grew is = let other = e.status in absurd cc

pub fault_lines : (s : Session) → Ends s → FaultLinesHaveCause s
fault_lines s (Shown e) fault tells = absurd (no_line s e.reply fault (whole s.written s.written_after (text_of e.reply) e.shows.text) tells)
fault_lines s (CutOff e) fault tells = absurd (no_line s e.reply fault e.puts tells)
fault_lines s (Line e) fault tells =
    let puts = line_prefix s e.fault e.puts in
    let is : e.fault ≡ fault = same_line puts.0 e.fault fault (told_text s.written s.written_after (take puts.0 (fault_line e.fault)) (fault_line fault) puts.1 tells) in
    subst (λ f. FaultRose s f × IsSo s f) is (rose s e.fault e.alone, e.so)
fault_lines s (Gone e) fault tells = absurd (no_text s.written fault (subst (λ after. TellsText s.written after (fault_line fault)) e.written tells))

pub cut_off : (s : Session) → Ends s → CutsOffAnswer s
cut_off s (Shown e) = record { cut = λ is same. absurd (no_fault_ending e.reply.ending (sym e.shows.status ∙ is)) }
cut_off s (CutOff e) = record { cut = λ is same. inl (e.reply, e.answer, e.puts, e.leaves) }
cut_off s (Line e) = record { cut = λ is same. inr (e.fault, at_last s e.fault e.alone same, e.so, line_prefix s e.fault e.puts) }
cut_off s (Gone e) = record { cut = λ is same. let other = e.status in absurd cc }

appends_none : (before : Option (List ℕ)) → Appends before before []
appends_none None = tt
appends_none (Some bytes) = sym (append-nil bytes)

pub memory : (s : Session) → Ends s → MemoryChangesNothing s
memory s (Shown e) = record { written = λ is. absurd (no_memory_ending e.reply.ending (sym e.shows.status ∙ is)); contents = λ is. absurd (no_memory_ending e.reply.ending (sym e.shows.status ∙ is)) }
memory s (CutOff e) = record { written = λ is. let other = e.status in absurd cc; contents = λ is. let other = e.status in absurd cc }
memory s (Line e) = record { written = λ is. let other = e.status in absurd cc; contents = λ is. let other = e.status in absurd cc }
memory s (Gone e) = record { written = λ is. subst (λ after. Appends s.written after []) (sym e.written) (appends_none s.written); contents = λ is. e.contents }

-- ---- the promises of each command

pub generates : (s : Session) → Ends s → GeneratesText s
generates s e = record {
  generates = λ quiet n asked.
      let r = answer s e quiet in
      let is = generated_of (command_of s.words) s.contents r.0 n r.1 asked in
      (r.2.status ∙ ap status_of is.0, subst (Puts s) is.1 r.2.text);
}
