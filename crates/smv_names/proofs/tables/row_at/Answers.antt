use Rattle.std.proofs.Common.{length, sym, subst, None}
use Rattle.std.proofs.lemmas.Option.{slice_get_within}
use Rattle.smv_instances.specs.Instances.{instances}
use Rattle.smv_instances.specs.Plain.{plain_expr}
use Rattle.smv_names.specs.Targets.{IsText}
use Rattle.smv_names.specs.Values.{IsNumberOf, IsSizeOfText}
use Rattle.smv_names.specs.Known.{NumberOf, SizeOf, leaf}
use Rattle.smv_names.specs.Ends.{EndOf, no_end}
use Rattle.smv_names.proofs.EndLemmas.{bare_end, end_by_text}
use Rattle.smv_names.proofs.FillLemmas.{abbreviation_in, bare_number, bare_size_of, used_in}
use Rattle.smv_names.proofs.NumberLemmas.{if_ok_by}
use Rattle.smv_names.proofs.tables.row_at.Goals as goal

pub text_row-requires-clause-numbers : goal.text_row-requires-clause-numbers
text_row-requires-clause-numbers c =
    let p = c.requires.0 in
    let a = abbreviation_in p c.args.node c.requires.5 in
    let read = c.in-Some.ensures.some p a.0 c.requires.1 a.1 in
    (p, c.requires.1, slice_get_within (instances p) c.in-Some.home read.0 read.1, c.requires.2)

pub text_row-requires-clause-sizes : goal.text_row-requires-clause-sizes
text_row-requires-clause-sizes c =
    let p = c.requires.0 in
    let a = abbreviation_in p c.args.node c.requires.5 in
    let read = c.in-Some.ensures.some p a.0 c.requires.1 a.1 in
    (p, c.requires.1, slice_get_within (instances p) c.in-Some.home read.0 read.1, c.requires.3)

pub text_row-requires-clause-ends : goal.text_row-requires-clause-ends
text_row-requires-clause-ends c =
    let p = c.requires.0 in
    let a = abbreviation_in p c.args.node c.requires.5 in
    let read = c.in-Some.ensures.some p a.0 c.requires.1 a.1 in
    (p, c.requires.1, slice_get_within (instances p) c.in-Some.home read.0 read.1, c.requires.4)

pub returns-in-Some : goal.returns-in-Some
returns-in-Some c = λ p a targets at numbers sizes ends.
    let read = c.in-Some.ensures.some p a targets at in
    let e = plain_expr c.in-Some.text.now in
    let text : IsText p c.args.node read.0 e = record { abbreviation = a; numbered = at; text = read.2 } in
    if_ok_by c.text_row.result
    (λ row h. record {
      number = subst (λ o. IsNumberOf p o row.number) (sym read.2) h.number;
      size = subst (λ o. IsSizeOfText p o row.size) (sym read.2) h.size;
      end = end_by_text p a read.0 e row.end read.2 h.end;
    })
    (c.text_row.ensures p read.0 targets read.1 text (used_in None (NumberOf p) p a c.args.numbers.now read.0 e numbers read.2) (used_in leaf (SizeOf p) p a c.args.sizes.now read.0 e sizes read.2)
    (used_in (no_end p) (EndOf p) p a c.args.ends.now read.0 e ends read.2))

pub returns-in-None : goal.returns-in-None
returns-in-None c = λ p a targets at numbers sizes ends.
    let none = c.in-None.ensures.none p a targets at in
    record { number = bare_number p a none; size = bare_size_of p a c.leaf.result c.leaf.ensures none; end = bare_end p a (length c.args.ends.now) none }
