use Rattle.std.proofs.Common.{◌<◌, arith, get_or, length, subst, Some}
use Rattle.std.proofs.lemmas.List.{get_or_default}
use Rattle.smv_instances.specs.Program.{Expr}
use Rattle.smv_instances.specs.Instances.{all_entries}
use Rattle.smv_names.specs.Ready.{NamesNode}
use Rattle.smv_names.specs.Values.{IsSizeOf}
use Rattle.smv_names.specs.Known.{leaf}
use Rattle.smv_names.proofs.KnownLemmas.{path_is_size}
use Rattle.smv_names.proofs.SizeLemmas.{leaf_size}
use Rattle.smv_names.proofs.TextLemmas.{numbered_within}
use Rattle.smv_names.proofs.measures.size_named.Goals as goal

pub returns-in-Some : goal.returns-in-Some
returns-in-Some c = λ p s q names known.
    let p0 = c.requires.0 in
    let node = c.in-Some.node in
    let named0 : NamesNode p0 c.requires.1 c.requires.2 (Some node) = subst (λ z. NamesNode p0 c.requires.1 c.requires.2 z) c.in-Some.is c.requires.3 in
    let within : node < length (all_entries p0) = numbered_within p0 node named0.0 named0.1 in
    let below : node < length c.args.sizes.now = omega (arith, within, c.requires.4) in
    let named : NamesNode p s q (Some node) = subst (λ z. NamesNode p s q z) c.in-Some.is names in
    let whole : IsSizeOf p s (Expr.At q) (get_or c.args.sizes.now node leaf) = path_is_size p s q named.0 node c.args.sizes.now named.2 named.1 known in
    subst (λ z. IsSizeOf p s (Expr.At q) z) (get_or_default c.args.sizes.now node leaf (record { nodes = 0; nesting = 0 }) below) whole

pub returns-in-None : goal.returns-in-None
returns-in-None c = λ p s q names known. leaf_size p s q (subst (λ z. NamesNode p s q z) c.in-None.is names) c.leaf.ensures
