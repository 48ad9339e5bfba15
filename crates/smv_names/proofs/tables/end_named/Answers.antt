use Rattle.std.proofs.Common.{subst, Some}
use Rattle.smv_names.specs.Ready.{NamesNode}
use Rattle.smv_names.proofs.EndLemmas.{bare_named, leaf_end}
use Rattle.smv_names.proofs.TextLemmas.{numbered_within}
use Rattle.smv_names.proofs.tables.end_named.Goals as goal

pub end_through-requires : goal.end_through-requires
end_through-requires c =
    let p = c.requires.0 in
    let named : NamesNode p c.requires.1 c.requires.2 (Some c.in-Some.node) = subst (λ z. NamesNode p c.requires.1 c.requires.2 z) c.in-Some.is c.requires.5 in
    (p, c.requires.3, c.requires.4, numbered_within p c.in-Some.node named.0 named.1)

pub returns-in-Some : goal.returns-in-Some
returns-in-Some c = λ p s e q targets text path names known.
    let named : NamesNode p s q (Some c.in-Some.node) = subst (λ z. NamesNode p s q z) c.in-Some.is names in
    c.end_through.ensures p s e q named.0 targets text path named.2 named.1 (known c.in-Some.node named.0 named.1 (bare_named p s e q named.0 path named.2))

pub returns-in-None : goal.returns-in-None
returns-in-None c = λ p s e q targets text path names known. leaf_end p s e c.args.own q text path (subst (λ z. NamesNode p s q z) c.in-None.is names)
