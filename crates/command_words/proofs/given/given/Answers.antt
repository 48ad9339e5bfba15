use Rattle.std.proofs.Common.{◌≡◌, ◌≢◌, ◌∙◌, true, false, map, string_bytes, sym}
use Rattle.clap.specs.Words.{app_of, kind_of}
use Rattle.clap.specs.declared.error.kind.ErrorKind.TheVariants.{OutOfMemory}
use Rattle.command_words.proofs.ClapAnswers.{taken, refused}
use Rattle.command_words.proofs.given.given.Goals as goal

pub returns-in-Ok : goal.returns-in-Ok
returns-in-Ok c =
    taken (app_of c.args.command) c.requires (map string_bytes c.args.words.now) c.in-Ok.matches
    c.in-Ok.ensures.kinds c.in-Ok.ensures.matches

pub returns : goal.returns
returns c =
    let other : kind_of c.in-Err.error ≢ OutOfMemory = λ is.
    let memory : c.kind.result ≡ OutOfMemory = c.kind.ensures ∙ is in
    let told = rw memory at c.eq.ensures in
    let bad : true ≡ false = sym told ∙ c.if-eq.false in
    cc in
    refused (app_of c.args.command) c.requires (map string_bytes c.args.words.now) c.in-Err.error
    c.in-Err.ensures.kinds other
