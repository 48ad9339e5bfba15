use Rattle.std.proofs.Common.{subst, Some}
use Rattle.smv_names.specs.Ready.{NamesNode}
use Rattle.smv_names.proofs.KnownLemmas.{path_is_number}
use Rattle.smv_names.proofs.NumberLemmas.{leaf_is_number}
use Rattle.smv_names.proofs.numbers.number_named.Goals as goal

pub returns-in-Some : goal.returns-in-Some
returns-in-Some c = λ p s q names known.
    let named : NamesNode p s q (Some c.in-Some.node) = subst (λ z. NamesNode p s q z) c.in-Some.is names in
    path_is_number p s q named.0 c.in-Some.node c.args.numbers.now named.2 named.1 known

pub returns-in-None : goal.returns-in-None
returns-in-None c = λ p s q names known. leaf_is_number p s q (subst (λ z. NamesNode p s q z) c.in-None.is names)
