use Rattle.std.proofs.Common.{◌≡◌, ap, subst, arith, length, reverse}
use Rattle.std.proofs.lemmas.List.{length-reverse}
use Rattle.smv_names.specs.Targets.{IsBracket, IsTarget}
use Rattle.smv_names.specs.Known.{brackets_of}
use Rattle.smv_names.proofs.PairLemmas.{pairs_lengths}
use Rattle.smv_names.proofs.CheckLemmas.{stored_brackets}
use Rattle.smv_names.proofs.checks.target_is_indexed.Goals as goal

pub last_are_indexed-requires-clause-some : goal.last_are_indexed-requires-clause-some
last_are_indexed-requires-clause-some c =
    let p = c.requires.0 in
    let t = c.requires.1 in
    let is = subst (λ z. IsTarget p z t) c.in-Stored.is c.requires.4 in
    let are = stored_brackets p c.in-Stored.home c.in-Stored.name c.in-Stored.plain c.in-Stored.indexes t is in
    let same : length c.in-Stored.indexes.items ≡ length (reverse (brackets_of t)) = pairs_lengths (IsBracket p) c.in-Stored.indexes.items (reverse (brackets_of t)) are in
    omega (arith, same, length-reverse (brackets_of t), c.requires.5, ap (λ z. length z) c.deref.ensures.value)
