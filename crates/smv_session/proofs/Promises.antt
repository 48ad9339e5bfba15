-- All promises of a call.
use Rattle.std.proofs.Common.{◌≡◌, Option}
use Rattle.command_words.specs.Words.{command_of}
use Rattle.smv_session.specs.Commands.{AcceptsProved, DecidesAll, ExportsProofs, FindsDelays, FindsStrongPaths, GeneratesText, RechecksProofs, ReplaysTraces, ReportsVerdicts, ShowsStates}
use Rattle.smv_session.specs.Foreseen.{Finishes, Foresees}
use Rattle.smv_session.specs.OneAnswer.{OneAnswer}
use Rattle.smv_session.specs.Session.{Session, PutsAnswer, AnswersUsage, RefusesModels, TakesModels, HasEvidence, HasStatusOfReply, KeepsContents, FaultHasCause, AnswersFaults, PutsFaultLine, FaultLinesHaveCause, CutsOffAnswer, MemoryChangesNothing}
use Rattle.smv_session.specs.declared.session.Foreseen.{Foreseen}
use Rattle.smv_session.proofs.Decided as decided
use Rattle.smv_session.proofs.Ended as ended
use Rattle.smv_outside.specs.Contents.{Contents}
use Rattle.smv_outside.specs.declared.faults.FileFaults.{FileFaults}
use Rattle.smv_session.proofs.Ended.{Ends, Gone, closing_of, ends}
use Rattle.smv_texts.specs.declared.status.Status.TheVariants.{Memory}

pub record Promises (s : Session) : Type 0 where
  pub answer : PutsAnswer s
  pub words : AnswersUsage s
  pub refused_model : RefusesModels s
  pub decided : TakesModels s
  pub unknown : HasEvidence s
  pub status : HasStatusOfReply s
  pub contents : KeepsContents s
  pub fault_has_cause : FaultHasCause s
  pub faults_are_answered : AnswersFaults s
  pub fault_line : PutsFaultLine s
  pub fault_lines : FaultLinesHaveCause s
  pub cut_off : CutsOffAnswer s
  pub memory : MemoryChangesNothing s
  pub generated : GeneratesText s
  pub verdicts : ReportsVerdicts s
  pub states : ShowsStates s
  pub exported : ExportsProofs s
  pub rechecked : RechecksProofs s
  pub enough : DecidesAll s
  pub proved : AcceptsProved s
  pub delays : FindsDelays s
  pub replayed : ReplaysTraces s
  pub strong : FindsStrongPaths s

promises : (s : Session) → OneAnswer → Ends s → Promises s
promises s one e = record {
  answer = ended.answer s e;
  words = ended.usage s e;
  refused_model = ended.refused s one e;
  decided = ended.takes s one e;
  unknown = ended.evidence s e;
  status = ended.status s e;
  contents = ended.contents s e;
  fault_has_cause = ended.fault_has_cause s e;
  faults_are_answered = ended.faults_are_answered s e;
  fault_line = ended.fault_line_put s e;
  fault_lines = ended.fault_lines s e;
  cut_off = ended.cut_off s e;
  memory = ended.memory s e;
  generated = ended.generates s e;
  verdicts = decided.verdicts s (ended.takes s one e);
  states = decided.states s (ended.takes s one e);
  exported = decided.exported s (ended.takes s one e);
  rechecked = decided.rechecked s (ended.takes s one e);
  enough = decided.decides_all s (ended.refused s one e) (ended.takes s one e);
  proved = decided.accepts_proved s (ended.refused s one e) (ended.takes s one e);
  delays = decided.finds_delays s (ended.refused s one e) (ended.takes s one e);
  replayed = decided.replays s (ended.refused s one e) (ended.takes s one e);
  strong = decided.finds_strong s (ended.refused s one e) (ended.takes s one e);
}

-- what was foreseen was saved and put, or not
pub put : (s : Session) (f : Foreseen) (between : Option Contents) (faults : FileFaults) → OneAnswer → between ≡ s.contents → Foresees (command_of s.words) s.contents s.file_faults faults f
    → Finishes (closing_of s between faults) f → Promises s
put s f between faults one same foresees closes = promises s one (ends s f between faults same foresees closes)

-- memory ran out
pub gone : (s : Session) → OneAnswer → s.contents_after ≡ s.contents → s.file_faults_after.unsaved ≡ s.file_faults.unsaved → s.status ≡ Memory → s.written_after ≡ s.written → s.sink_faults_after ≡ s.sink_faults → Promises s
gone s one same unsaved is written sink = promises s one (Gone (record { status = is; contents = same; unsaved = unsaved; written = written; sink = sink }))
