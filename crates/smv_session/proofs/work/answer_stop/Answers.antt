use Rattle.std.proofs.Common.{Some}
use Rattle.command_words.specs.Asked.{work_asked}
use Rattle.smv_texts.specs.Refusals.{TooManyBits, Faults}
use Rattle.smv_session.proofs.Heard.{line_reply, refused_reply}
use Rattle.smv_session.proofs.work.answer_stop.Goals as goal

pub returns-in-TooManyBits : goal.returns-in-TooManyBits
returns-in-TooManyBits c = λ contents bytes ruled.
    let stops = rw c.in-TooManyBits.is at c.requires.stops in
    refused_reply (work_asked c.args.work) contents bytes (Some (TooManyBits c.in-TooManyBits.bits)) c.refuse.result (c.args.model.now, ruled, stops.0, stops.1) c.refuse.ensures

pub returns-in-Fault : goal.returns-in-Fault
returns-in-Fault c = λ contents bytes ruled.
    let stops = rw c.in-Fault.is at c.requires.stops in
    let f = c.in-Fault.fault in
    line_reply (work_asked c.args.work) contents bytes (Faults c.args.model.now f.kind f.line f.here f.after) c.refuse_fault.result
    (record { ruled = ruled; few = stops.0 }, c.requires.names, stops.1) c.refuse_fault.ensures.text c.refuse_fault.ensures.ending c.refuse_fault.ensures.saves
