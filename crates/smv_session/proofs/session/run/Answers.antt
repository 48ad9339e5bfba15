use Rattle.std.proofs.Common.{refl}
use Rattle.smv_session.specs.Session.{session}
use Rattle.smv_texts.specs.declared.status.Status.TheVariants.{Memory}
use Rattle.smv_session.proofs.Promises.{put, gone}
use Rattle.smv_session.proofs.session.run.Goals as goal

-- ---- what was foreseen was saved and put, or not

pub returns-in-Ok-clause-answer : goal.returns-in-Ok-clause-answer
returns-in-Ok-clause-answer g c =
    (put (session g.F.Files.contents g.F.Files.faults g.S.Sink.written g.S.Sink.faults c.args.words.now c.args.files.now c.finish.new.files c.args.out.now c.finish.new.out c.finish.result)
    c.in-Ok.foreseen (g.F.Files.contents c.foresee.new.files) (g.F.Files.faults c.foresee.new.files) c.one_answer.ensures c.in-Ok.ensures.contents c.in-Ok.ensures.foreseen c.finish.ensures).answer

pub returns-in-Ok-clause-words : goal.returns-in-Ok-clause-words
returns-in-Ok-clause-words g c =
    (put (session g.F.Files.contents g.F.Files.faults g.S.Sink.written g.S.Sink.faults c.args.words.now c.args.files.now c.finish.new.files c.args.out.now c.finish.new.out c.finish.result)
    c.in-Ok.foreseen (g.F.Files.contents c.foresee.new.files) (g.F.Files.faults c.foresee.new.files) c.one_answer.ensures c.in-Ok.ensures.contents c.in-Ok.ensures.foreseen c.finish.ensures).words

pub returns-in-Ok-clause-refused_model : goal.returns-in-Ok-clause-refused_model
returns-in-Ok-clause-refused_model g c =
    (put (session g.F.Files.contents g.F.Files.faults g.S.Sink.written g.S.Sink.faults c.args.words.now c.args.files.now c.finish.new.files c.args.out.now c.finish.new.out c.finish.result)
    c.in-Ok.foreseen (g.F.Files.contents c.foresee.new.files) (g.F.Files.faults c.foresee.new.files) c.one_answer.ensures c.in-Ok.ensures.contents c.in-Ok.ensures.foreseen c.finish.ensures).refused_model

pub returns-in-Ok-clause-decided : goal.returns-in-Ok-clause-decided
returns-in-Ok-clause-decided g c =
    (put (session g.F.Files.contents g.F.Files.faults g.S.Sink.written g.S.Sink.faults c.args.words.now c.args.files.now c.finish.new.files c.args.out.now c.finish.new.out c.finish.result)
    c.in-Ok.foreseen (g.F.Files.contents c.foresee.new.files) (g.F.Files.faults c.foresee.new.files) c.one_answer.ensures c.in-Ok.ensures.contents c.in-Ok.ensures.foreseen c.finish.ensures).decided

pub returns-in-Ok-clause-unknown : goal.returns-in-Ok-clause-unknown
returns-in-Ok-clause-unknown g c =
    (put (session g.F.Files.contents g.F.Files.faults g.S.Sink.written g.S.Sink.faults c.args.words.now c.args.files.now c.finish.new.files c.args.out.now c.finish.new.out c.finish.result)
    c.in-Ok.foreseen (g.F.Files.contents c.foresee.new.files) (g.F.Files.faults c.foresee.new.files) c.one_answer.ensures c.in-Ok.ensures.contents c.in-Ok.ensures.foreseen c.finish.ensures).unknown

pub returns-in-Ok-clause-status : goal.returns-in-Ok-clause-status
returns-in-Ok-clause-status g c =
    (put (session g.F.Files.contents g.F.Files.faults g.S.Sink.written g.S.Sink.faults c.args.words.now c.args.files.now c.finish.new.files c.args.out.now c.finish.new.out c.finish.result)
    c.in-Ok.foreseen (g.F.Files.contents c.foresee.new.files) (g.F.Files.faults c.foresee.new.files) c.one_answer.ensures c.in-Ok.ensures.contents c.in-Ok.ensures.foreseen c.finish.ensures).status

pub returns-in-Ok-clause-contents : goal.returns-in-Ok-clause-contents
returns-in-Ok-clause-contents g c =
    (put (session g.F.Files.contents g.F.Files.faults g.S.Sink.written g.S.Sink.faults c.args.words.now c.args.files.now c.finish.new.files c.args.out.now c.finish.new.out c.finish.result)
    c.in-Ok.foreseen (g.F.Files.contents c.foresee.new.files) (g.F.Files.faults c.foresee.new.files) c.one_answer.ensures c.in-Ok.ensures.contents c.in-Ok.ensures.foreseen c.finish.ensures).contents

pub returns-in-Ok-clause-fault_has_cause : goal.returns-in-Ok-clause-fault_has_cause
returns-in-Ok-clause-fault_has_cause g c =
    (put (session g.F.Files.contents g.F.Files.faults g.S.Sink.written g.S.Sink.faults c.args.words.now c.args.files.now c.finish.new.files c.args.out.now c.finish.new.out c.finish.result)
    c.in-Ok.foreseen (g.F.Files.contents c.foresee.new.files) (g.F.Files.faults c.foresee.new.files) c.one_answer.ensures c.in-Ok.ensures.contents c.in-Ok.ensures.foreseen c.finish.ensures).fault_has_cause

pub returns-in-Ok-clause-faults_are_answered : goal.returns-in-Ok-clause-faults_are_answered
returns-in-Ok-clause-faults_are_answered g c =
    (put (session g.F.Files.contents g.F.Files.faults g.S.Sink.written g.S.Sink.faults c.args.words.now c.args.files.now c.finish.new.files c.args.out.now c.finish.new.out c.finish.result)
    c.in-Ok.foreseen (g.F.Files.contents c.foresee.new.files) (g.F.Files.faults c.foresee.new.files) c.one_answer.ensures c.in-Ok.ensures.contents c.in-Ok.ensures.foreseen c.finish.ensures).faults_are_answered

pub returns-in-Ok-clause-fault_line : goal.returns-in-Ok-clause-fault_line
returns-in-Ok-clause-fault_line g c =
    (put (session g.F.Files.contents g.F.Files.faults g.S.Sink.written g.S.Sink.faults c.args.words.now c.args.files.now c.finish.new.files c.args.out.now c.finish.new.out c.finish.result)
    c.in-Ok.foreseen (g.F.Files.contents c.foresee.new.files) (g.F.Files.faults c.foresee.new.files) c.one_answer.ensures c.in-Ok.ensures.contents c.in-Ok.ensures.foreseen c.finish.ensures).fault_line

pub returns-in-Ok-clause-fault_lines_have_cause : goal.returns-in-Ok-clause-fault_lines_have_cause
returns-in-Ok-clause-fault_lines_have_cause g c =
    (put (session g.F.Files.contents g.F.Files.faults g.S.Sink.written g.S.Sink.faults c.args.words.now c.args.files.now c.finish.new.files c.args.out.now c.finish.new.out c.finish.result)
    c.in-Ok.foreseen (g.F.Files.contents c.foresee.new.files) (g.F.Files.faults c.foresee.new.files) c.one_answer.ensures c.in-Ok.ensures.contents c.in-Ok.ensures.foreseen c.finish.ensures).fault_lines

pub returns-in-Ok-clause-cut_off : goal.returns-in-Ok-clause-cut_off
returns-in-Ok-clause-cut_off g c =
    (put (session g.F.Files.contents g.F.Files.faults g.S.Sink.written g.S.Sink.faults c.args.words.now c.args.files.now c.finish.new.files c.args.out.now c.finish.new.out c.finish.result)
    c.in-Ok.foreseen (g.F.Files.contents c.foresee.new.files) (g.F.Files.faults c.foresee.new.files) c.one_answer.ensures c.in-Ok.ensures.contents c.in-Ok.ensures.foreseen c.finish.ensures).cut_off

pub returns-in-Ok-clause-memory : goal.returns-in-Ok-clause-memory
returns-in-Ok-clause-memory g c =
    (put (session g.F.Files.contents g.F.Files.faults g.S.Sink.written g.S.Sink.faults c.args.words.now c.args.files.now c.finish.new.files c.args.out.now c.finish.new.out c.finish.result)
    c.in-Ok.foreseen (g.F.Files.contents c.foresee.new.files) (g.F.Files.faults c.foresee.new.files) c.one_answer.ensures c.in-Ok.ensures.contents c.in-Ok.ensures.foreseen c.finish.ensures).memory

pub returns-in-Ok-clause-generated : goal.returns-in-Ok-clause-generated
returns-in-Ok-clause-generated g c =
    (put (session g.F.Files.contents g.F.Files.faults g.S.Sink.written g.S.Sink.faults c.args.words.now c.args.files.now c.finish.new.files c.args.out.now c.finish.new.out c.finish.result)
    c.in-Ok.foreseen (g.F.Files.contents c.foresee.new.files) (g.F.Files.faults c.foresee.new.files) c.one_answer.ensures c.in-Ok.ensures.contents c.in-Ok.ensures.foreseen c.finish.ensures).generated

pub returns-in-Ok-clause-verdicts : goal.returns-in-Ok-clause-verdicts
returns-in-Ok-clause-verdicts g c =
    (put (session g.F.Files.contents g.F.Files.faults g.S.Sink.written g.S.Sink.faults c.args.words.now c.args.files.now c.finish.new.files c.args.out.now c.finish.new.out c.finish.result)
    c.in-Ok.foreseen (g.F.Files.contents c.foresee.new.files) (g.F.Files.faults c.foresee.new.files) c.one_answer.ensures c.in-Ok.ensures.contents c.in-Ok.ensures.foreseen c.finish.ensures).verdicts

pub returns-in-Ok-clause-states_and_traces : goal.returns-in-Ok-clause-states_and_traces
returns-in-Ok-clause-states_and_traces g c =
    (put (session g.F.Files.contents g.F.Files.faults g.S.Sink.written g.S.Sink.faults c.args.words.now c.args.files.now c.finish.new.files c.args.out.now c.finish.new.out c.finish.result)
    c.in-Ok.foreseen (g.F.Files.contents c.foresee.new.files) (g.F.Files.faults c.foresee.new.files) c.one_answer.ensures c.in-Ok.ensures.contents c.in-Ok.ensures.foreseen c.finish.ensures).states

pub returns-in-Ok-clause-exported_proofs : goal.returns-in-Ok-clause-exported_proofs
returns-in-Ok-clause-exported_proofs g c =
    (put (session g.F.Files.contents g.F.Files.faults g.S.Sink.written g.S.Sink.faults c.args.words.now c.args.files.now c.finish.new.files c.args.out.now c.finish.new.out c.finish.result)
    c.in-Ok.foreseen (g.F.Files.contents c.foresee.new.files) (g.F.Files.faults c.foresee.new.files) c.one_answer.ensures c.in-Ok.ensures.contents c.in-Ok.ensures.foreseen c.finish.ensures).exported

pub returns-in-Ok-clause-rechecked : goal.returns-in-Ok-clause-rechecked
returns-in-Ok-clause-rechecked g c =
    (put (session g.F.Files.contents g.F.Files.faults g.S.Sink.written g.S.Sink.faults c.args.words.now c.args.files.now c.finish.new.files c.args.out.now c.finish.new.out c.finish.result)
    c.in-Ok.foreseen (g.F.Files.contents c.foresee.new.files) (g.F.Files.faults c.foresee.new.files) c.one_answer.ensures c.in-Ok.ensures.contents c.in-Ok.ensures.foreseen c.finish.ensures).rechecked

pub returns-in-Ok-clause-enough : goal.returns-in-Ok-clause-enough
returns-in-Ok-clause-enough g c =
    (put (session g.F.Files.contents g.F.Files.faults g.S.Sink.written g.S.Sink.faults c.args.words.now c.args.files.now c.finish.new.files c.args.out.now c.finish.new.out c.finish.result)
    c.in-Ok.foreseen (g.F.Files.contents c.foresee.new.files) (g.F.Files.faults c.foresee.new.files) c.one_answer.ensures c.in-Ok.ensures.contents c.in-Ok.ensures.foreseen c.finish.ensures).enough

pub returns-in-Ok-clause-proved : goal.returns-in-Ok-clause-proved
returns-in-Ok-clause-proved g c =
    (put (session g.F.Files.contents g.F.Files.faults g.S.Sink.written g.S.Sink.faults c.args.words.now c.args.files.now c.finish.new.files c.args.out.now c.finish.new.out c.finish.result)
    c.in-Ok.foreseen (g.F.Files.contents c.foresee.new.files) (g.F.Files.faults c.foresee.new.files) c.one_answer.ensures c.in-Ok.ensures.contents c.in-Ok.ensures.foreseen c.finish.ensures).proved

pub returns-in-Ok-clause-delays : goal.returns-in-Ok-clause-delays
returns-in-Ok-clause-delays g c =
    (put (session g.F.Files.contents g.F.Files.faults g.S.Sink.written g.S.Sink.faults c.args.words.now c.args.files.now c.finish.new.files c.args.out.now c.finish.new.out c.finish.result)
    c.in-Ok.foreseen (g.F.Files.contents c.foresee.new.files) (g.F.Files.faults c.foresee.new.files) c.one_answer.ensures c.in-Ok.ensures.contents c.in-Ok.ensures.foreseen c.finish.ensures).delays

pub returns-in-Ok-clause-replayed : goal.returns-in-Ok-clause-replayed
returns-in-Ok-clause-replayed g c =
    (put (session g.F.Files.contents g.F.Files.faults g.S.Sink.written g.S.Sink.faults c.args.words.now c.args.files.now c.finish.new.files c.args.out.now c.finish.new.out c.finish.result)
    c.in-Ok.foreseen (g.F.Files.contents c.foresee.new.files) (g.F.Files.faults c.foresee.new.files) c.one_answer.ensures c.in-Ok.ensures.contents c.in-Ok.ensures.foreseen c.finish.ensures).replayed

pub returns-in-Ok-clause-strong : goal.returns-in-Ok-clause-strong
returns-in-Ok-clause-strong g c =
    (put (session g.F.Files.contents g.F.Files.faults g.S.Sink.written g.S.Sink.faults c.args.words.now c.args.files.now c.finish.new.files c.args.out.now c.finish.new.out c.finish.result)
    c.in-Ok.foreseen (g.F.Files.contents c.foresee.new.files) (g.F.Files.faults c.foresee.new.files) c.one_answer.ensures c.in-Ok.ensures.contents c.in-Ok.ensures.foreseen c.finish.ensures).strong

-- ---- memory ran out

pub returns-in-Err-clause-answer : goal.returns-in-Err-clause-answer
returns-in-Err-clause-answer g c =
    (gone (session g.F.Files.contents g.F.Files.faults g.S.Sink.written g.S.Sink.faults c.args.words.now c.args.files.now c.foresee.new.files c.args.out.now c.args.out.now Memory)
    c.one_answer.ensures c.in-Err.ensures.contents c.in-Err.ensures.unsaved refl refl refl).answer

pub returns-in-Err-clause-words : goal.returns-in-Err-clause-words
returns-in-Err-clause-words g c =
    (gone (session g.F.Files.contents g.F.Files.faults g.S.Sink.written g.S.Sink.faults c.args.words.now c.args.files.now c.foresee.new.files c.args.out.now c.args.out.now Memory)
    c.one_answer.ensures c.in-Err.ensures.contents c.in-Err.ensures.unsaved refl refl refl).words

pub returns-in-Err-clause-refused_model : goal.returns-in-Err-clause-refused_model
returns-in-Err-clause-refused_model g c =
    (gone (session g.F.Files.contents g.F.Files.faults g.S.Sink.written g.S.Sink.faults c.args.words.now c.args.files.now c.foresee.new.files c.args.out.now c.args.out.now Memory)
    c.one_answer.ensures c.in-Err.ensures.contents c.in-Err.ensures.unsaved refl refl refl).refused_model

pub returns-in-Err-clause-decided : goal.returns-in-Err-clause-decided
returns-in-Err-clause-decided g c =
    (gone (session g.F.Files.contents g.F.Files.faults g.S.Sink.written g.S.Sink.faults c.args.words.now c.args.files.now c.foresee.new.files c.args.out.now c.args.out.now Memory)
    c.one_answer.ensures c.in-Err.ensures.contents c.in-Err.ensures.unsaved refl refl refl).decided

pub returns-in-Err-clause-unknown : goal.returns-in-Err-clause-unknown
returns-in-Err-clause-unknown g c =
    (gone (session g.F.Files.contents g.F.Files.faults g.S.Sink.written g.S.Sink.faults c.args.words.now c.args.files.now c.foresee.new.files c.args.out.now c.args.out.now Memory)
    c.one_answer.ensures c.in-Err.ensures.contents c.in-Err.ensures.unsaved refl refl refl).unknown

pub returns-in-Err-clause-status : goal.returns-in-Err-clause-status
returns-in-Err-clause-status g c =
    (gone (session g.F.Files.contents g.F.Files.faults g.S.Sink.written g.S.Sink.faults c.args.words.now c.args.files.now c.foresee.new.files c.args.out.now c.args.out.now Memory)
    c.one_answer.ensures c.in-Err.ensures.contents c.in-Err.ensures.unsaved refl refl refl).status

pub returns-in-Err-clause-contents : goal.returns-in-Err-clause-contents
returns-in-Err-clause-contents g c =
    (gone (session g.F.Files.contents g.F.Files.faults g.S.Sink.written g.S.Sink.faults c.args.words.now c.args.files.now c.foresee.new.files c.args.out.now c.args.out.now Memory)
    c.one_answer.ensures c.in-Err.ensures.contents c.in-Err.ensures.unsaved refl refl refl).contents

pub returns-in-Err-clause-fault_has_cause : goal.returns-in-Err-clause-fault_has_cause
returns-in-Err-clause-fault_has_cause g c =
    (gone (session g.F.Files.contents g.F.Files.faults g.S.Sink.written g.S.Sink.faults c.args.words.now c.args.files.now c.foresee.new.files c.args.out.now c.args.out.now Memory)
    c.one_answer.ensures c.in-Err.ensures.contents c.in-Err.ensures.unsaved refl refl refl).fault_has_cause

pub returns-in-Err-clause-faults_are_answered : goal.returns-in-Err-clause-faults_are_answered
returns-in-Err-clause-faults_are_answered g c =
    (gone (session g.F.Files.contents g.F.Files.faults g.S.Sink.written g.S.Sink.faults c.args.words.now c.args.files.now c.foresee.new.files c.args.out.now c.args.out.now Memory)
    c.one_answer.ensures c.in-Err.ensures.contents c.in-Err.ensures.unsaved refl refl refl).faults_are_answered

pub returns-in-Err-clause-fault_line : goal.returns-in-Err-clause-fault_line
returns-in-Err-clause-fault_line g c =
    (gone (session g.F.Files.contents g.F.Files.faults g.S.Sink.written g.S.Sink.faults c.args.words.now c.args.files.now c.foresee.new.files c.args.out.now c.args.out.now Memory)
    c.one_answer.ensures c.in-Err.ensures.contents c.in-Err.ensures.unsaved refl refl refl).fault_line

pub returns-in-Err-clause-fault_lines_have_cause : goal.returns-in-Err-clause-fault_lines_have_cause
returns-in-Err-clause-fault_lines_have_cause g c =
    (gone (session g.F.Files.contents g.F.Files.faults g.S.Sink.written g.S.Sink.faults c.args.words.now c.args.files.now c.foresee.new.files c.args.out.now c.args.out.now Memory)
    c.one_answer.ensures c.in-Err.ensures.contents c.in-Err.ensures.unsaved refl refl refl).fault_lines

pub returns-in-Err-clause-cut_off : goal.returns-in-Err-clause-cut_off
returns-in-Err-clause-cut_off g c =
    (gone (session g.F.Files.contents g.F.Files.faults g.S.Sink.written g.S.Sink.faults c.args.words.now c.args.files.now c.foresee.new.files c.args.out.now c.args.out.now Memory)
    c.one_answer.ensures c.in-Err.ensures.contents c.in-Err.ensures.unsaved refl refl refl).cut_off

pub returns-in-Err-clause-memory : goal.returns-in-Err-clause-memory
returns-in-Err-clause-memory g c =
    (gone (session g.F.Files.contents g.F.Files.faults g.S.Sink.written g.S.Sink.faults c.args.words.now c.args.files.now c.foresee.new.files c.args.out.now c.args.out.now Memory)
    c.one_answer.ensures c.in-Err.ensures.contents c.in-Err.ensures.unsaved refl refl refl).memory

pub returns-in-Err-clause-generated : goal.returns-in-Err-clause-generated
returns-in-Err-clause-generated g c =
    (gone (session g.F.Files.contents g.F.Files.faults g.S.Sink.written g.S.Sink.faults c.args.words.now c.args.files.now c.foresee.new.files c.args.out.now c.args.out.now Memory)
    c.one_answer.ensures c.in-Err.ensures.contents c.in-Err.ensures.unsaved refl refl refl).generated

pub returns-in-Err-clause-verdicts : goal.returns-in-Err-clause-verdicts
returns-in-Err-clause-verdicts g c =
    (gone (session g.F.Files.contents g.F.Files.faults g.S.Sink.written g.S.Sink.faults c.args.words.now c.args.files.now c.foresee.new.files c.args.out.now c.args.out.now Memory)
    c.one_answer.ensures c.in-Err.ensures.contents c.in-Err.ensures.unsaved refl refl refl).verdicts

pub returns-in-Err-clause-states_and_traces : goal.returns-in-Err-clause-states_and_traces
returns-in-Err-clause-states_and_traces g c =
    (gone (session g.F.Files.contents g.F.Files.faults g.S.Sink.written g.S.Sink.faults c.args.words.now c.args.files.now c.foresee.new.files c.args.out.now c.args.out.now Memory)
    c.one_answer.ensures c.in-Err.ensures.contents c.in-Err.ensures.unsaved refl refl refl).states

pub returns-in-Err-clause-exported_proofs : goal.returns-in-Err-clause-exported_proofs
returns-in-Err-clause-exported_proofs g c =
    (gone (session g.F.Files.contents g.F.Files.faults g.S.Sink.written g.S.Sink.faults c.args.words.now c.args.files.now c.foresee.new.files c.args.out.now c.args.out.now Memory)
    c.one_answer.ensures c.in-Err.ensures.contents c.in-Err.ensures.unsaved refl refl refl).exported

pub returns-in-Err-clause-rechecked : goal.returns-in-Err-clause-rechecked
returns-in-Err-clause-rechecked g c =
    (gone (session g.F.Files.contents g.F.Files.faults g.S.Sink.written g.S.Sink.faults c.args.words.now c.args.files.now c.foresee.new.files c.args.out.now c.args.out.now Memory)
    c.one_answer.ensures c.in-Err.ensures.contents c.in-Err.ensures.unsaved refl refl refl).rechecked

pub returns-in-Err-clause-enough : goal.returns-in-Err-clause-enough
returns-in-Err-clause-enough g c =
    (gone (session g.F.Files.contents g.F.Files.faults g.S.Sink.written g.S.Sink.faults c.args.words.now c.args.files.now c.foresee.new.files c.args.out.now c.args.out.now Memory)
    c.one_answer.ensures c.in-Err.ensures.contents c.in-Err.ensures.unsaved refl refl refl).enough

pub returns-in-Err-clause-proved : goal.returns-in-Err-clause-proved
returns-in-Err-clause-proved g c =
    (gone (session g.F.Files.contents g.F.Files.faults g.S.Sink.written g.S.Sink.faults c.args.words.now c.args.files.now c.foresee.new.files c.args.out.now c.args.out.now Memory)
    c.one_answer.ensures c.in-Err.ensures.contents c.in-Err.ensures.unsaved refl refl refl).proved

pub returns-in-Err-clause-delays : goal.returns-in-Err-clause-delays
returns-in-Err-clause-delays g c =
    (gone (session g.F.Files.contents g.F.Files.faults g.S.Sink.written g.S.Sink.faults c.args.words.now c.args.files.now c.foresee.new.files c.args.out.now c.args.out.now Memory)
    c.one_answer.ensures c.in-Err.ensures.contents c.in-Err.ensures.unsaved refl refl refl).delays

pub returns-in-Err-clause-replayed : goal.returns-in-Err-clause-replayed
returns-in-Err-clause-replayed g c =
    (gone (session g.F.Files.contents g.F.Files.faults g.S.Sink.written g.S.Sink.faults c.args.words.now c.args.files.now c.foresee.new.files c.args.out.now c.args.out.now Memory)
    c.one_answer.ensures c.in-Err.ensures.contents c.in-Err.ensures.unsaved refl refl refl).replayed

pub returns-in-Err-clause-strong : goal.returns-in-Err-clause-strong
returns-in-Err-clause-strong g c =
    (gone (session g.F.Files.contents g.F.Files.faults g.S.Sink.written g.S.Sink.faults c.args.words.now c.args.files.now c.foresee.new.files c.args.out.now c.args.out.now Memory)
    c.one_answer.ensures c.in-Err.ensures.contents c.in-Err.ensures.unsaved refl refl refl).strong
