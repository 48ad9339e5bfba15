-- What a count of steps begins with.
use Rattle.std.specs.Prelude.{◌≡◌, ℕ, ◌<◌}
use Rattle.std.specs.declared.sync.ledger.Blank.{Blank}

-- a new ledger of this name, which has so many shares, at least one
pub record IsBlankOf (name parts : ℕ) (blank : Blank) : Type 0 where
  pub named : blank.name ≡ name
  pub whole : blank.parts ≡ parts
  pub some : 0 < parts
