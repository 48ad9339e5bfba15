use Rattle.std.proofs.Common.{◌≤◌, ◌++◌, ◌∷◌, ◌∙◌, [], arith, length, sym, subst, vec_len, List}
use Rattle.std.proofs.lemmas.Bool.{eqb-true}
use Rattle.smv_parser.specs.declared.expressions.PathPart.{PathPart}
use Rattle.smv_instances.specs.Program.{Path}
use Rattle.smv_instances.proofs.ListSteps.{take_whole}
use Rattle.smv_names.specs.Written.{followed}
use Rattle.smv_names.specs.Uses.{AreNamed}
use Rattle.smv_names.proofs.NameNodes.{named_here}
use Rattle.smv_names.proofs.UseLemmas.{named_first}
use Rattle.smv_names.proofs.uses.push_fronts.Goals as goal

pub returns-then-is_empty : goal.returns-then-is_empty
returns-then-is_empty c p s ms are at before =
    let path = c.args.mention.now.path.now in
    let empty : length path.parts.items ≤ 0 = omega (arith, eqb-true (vec_len path.parts) 0 (sym c.is_empty.ensures ∙ c.if-is_empty.true), path.parts.ok.0) in
    subst (λ (parts : List PathPart). AreNamed p s (ms ++ record { path = followed (Path.Here path.line path.first) parts; wanted = c.args.mention.now.wanted } ∷ []) c.push_number.new.numbers.items) (take_whole path.parts.items 0 empty)
    (named_first p s ms c.args.mention.now.wanted path.line path.first c.entry_node.result c.args.numbers.now.items c.push_number.new.numbers.items before
    (named_here p s path.line path.first c.entry_node.result (c.entry_node.ensures p s are.started at)) c.in_ok-push_number.ensures)

pub returns : goal.returns
returns c p s ms are at before =
    let path = c.args.mention.now.path.now in
    c.push_longer.ensures p s ms are at
    (named_first p s ms c.args.mention.now.wanted path.line path.first c.entry_node.result c.args.numbers.now.items c.push_number.new.numbers.items before
    (named_here p s path.line path.first c.entry_node.result (c.entry_node.ensures p s are.started at)) c.in_ok-push_number.ensures)
