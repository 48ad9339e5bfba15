use Rattle.std.proofs.Common.{◌≡◌, ◌∙◌, ◌<◌, arith, ap, get_or, length, sym, subst}
use Rattle.std.proofs.lemmas.List.{get_or_default}
use Rattle.smv_instances.specs.Plain.{plain_expr}
use Rattle.smv_instances.specs.Program.{Expr}
use Rattle.smv_names.specs.Abbreviations.{text_of}
use Rattle.smv_names.specs.Ends.{IsEndOf, no_end}
use Rattle.smv_names.proofs.EndLemmas.{leaf_end, named_end}
use Rattle.smv_names.proofs.KnownLemmas.{names_one}
use Rattle.smv_names.proofs.tables.end_through.Goals as goal

pub returns-in-Some : goal.returns-in-Some
returns-in-Some c = λ p s e q a targets own path n numbered end.
    let read = c.in-Some.ensures.some p a targets numbered in
    let text : Expr = plain_expr c.in-Some.field-0.1.now in
    let below : c.args.node < length c.args.ends.now = omega (arith, c.requires.2, c.requires.3) in
    let ends = c.args.ends.now in
    let found : get_or ends c.args.node 0 ≡ get_or ends c.args.node (no_end p) = get_or_default ends c.args.node 0 (no_end p) below in
    named_end p s e q a read.0 text (get_or ends c.args.node 0) path n read.2 (subst (λ v. IsEndOf p read.0 text v) (sym found) (end read.0 text read.2))

pub returns-in-None : goal.returns-in-None
returns-in-None c = λ p s e q a targets own path n numbered end.
    leaf_end p s e c.args.own q own path (λ b m. ap text_of (names_one p s b a q m n) ∙ c.in-None.ensures.none p a targets numbered)
