use Rattle.std.proofs.Common.{◌≡◌, ◌<◌, ◌+◌, ◌∙◌, ap, length, Some, ℕ, arith, get_or}
use Rattle.std.specs.Prelude.{slice_get}
use Rattle.std.proofs.lemmas.Option.{slice_get_within}
use Rattle.smv_instances.specs.Program.{Program}
use Rattle.smv_instances.specs.Instances.{Scope, all_entries, instances}
use Rattle.smv_names.specs.declared.nodes.Nodes.{Nodes}
use Rattle.smv_names.specs.Nodes.{AreNodes, entries_before}
use Rattle.smv_names.proofs.NodeLemmas.{entry_numbered, entry_below, read_at}
use Rattle.smv_names.proofs.nodes.Nodes.node.Goals as goal

first_is : (p : Program) (nodes : Nodes) (i n : ℕ) (s : Scope) → AreNodes p nodes → slice_get (instances p) i ≡ Some s → i < length nodes.firsts.items → n ≡ get_or nodes.firsts.items i n → n ≡ entries_before p i
first_is p nodes i n s are at lt e = read_at nodes.firsts.items i n lt e ∙ are.firsts i (slice_get_within (instances p) i s at)

within : (p : Program) (nodes : Nodes) (i : ℕ) (s : Scope) → AreNodes p nodes → slice_get (instances p) i ≡ Some s → i < length nodes.firsts.items
within p nodes i s are at = let lt : i < length (instances p) = slice_get_within (instances p) i s at in omega (arith, lt, are.lengths)

pub overflow_add-result : goal.overflow_add-result
overflow_add-result c =
    let lt : c.args.i < length c.args.self.now.firsts.items = within c.requires.0 c.args.self.now c.args.i c.requires.1 c.requires.3 c.requires.4 in
    let first : c.index.result.now ≡ entries_before c.requires.0 c.args.i = first_is c.requires.0 c.args.self.now c.args.i c.index.result.now c.requires.1 c.requires.3 c.requires.4 lt c.index.ensures in
    let below : entries_before c.requires.0 c.args.i + c.args.k < c.args.self.now.count = entry_below c.requires.0 c.args.self.now c.args.i c.args.k c.requires.1 c.requires.2 c.requires.3 c.requires.4 c.requires.5 in
    omega (arith, first, below)

pub returns : goal.returns
returns c p s are at_s e at_e =
    let lt : c.args.i < length c.args.self.now.firsts.items = within p c.args.self.now c.args.i s are at_s in
    let first : c.index.result.now ≡ entries_before p c.args.i = first_is p c.args.self.now c.args.i c.index.result.now s are at_s lt c.index.ensures in
    ap (λ n. slice_get (all_entries p) (n + c.args.k)) first ∙ entry_numbered p c.args.i c.args.k s e at_s at_e
