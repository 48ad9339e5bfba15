use Rattle.std.proofs.Common.{◌≡◌, drop, fold, map}
use Rattle.clap.specs.Words.{app_of}
use Rattle.command_words.specs.Given.{with_optional}
use Rattle.command_words.proofs.strong.with_places.Given as goal

abbrev pub invariant-loop-name : goal.invariant-loop-name
invariant-loop-name l =
    fold with_optional (app_of l.command) (map (λ s. s.now) (drop l.name-index l.names))
    ≡ fold with_optional (app_of l.fn.command) (map (λ s. s.now) l.names)
