use Rattle.std.proofs.Common.{subst}
use Rattle.strong_export.specs.Finding.{IsFound}
use Rattle.command_replies.specs.SeenRows.{certificate_of}
use Rattle.strong_export.proofs.Searched.{none_for, path_for}
use Rattle.strong_export.proofs.finding.tell.Goals as goal

pub returns-in-Path : goal.returns-in-Path
returns-in-Path c = λ limit numbers pairs are found.
    let m = c.args.model.now in
    let is = rw c.in-Path.is at found in
    c.tell_path.ensures limit numbers (path_for m numbers pairs c.in-Path.path are is)

pub returns-in-None : goal.returns-in-None
returns-in-None c = λ limit numbers pairs are found.
    let m = c.args.model.now in
    let is = rw c.in-None.is at found in
    let over = c.in-None.certificate in
    c.tell_none.ensures m limit numbers
    (none_for m numbers pairs over.nodes.items (certificate_of over) are is.0 is.1)
