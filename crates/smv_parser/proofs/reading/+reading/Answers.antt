use Rattle.std.proofs.Common.{◌≡◌, ◌<◌, ◌-◌, ℕ, List, [], ◌∷◌, ◌++◌, map, length, refl, sym, ◌∙◌, ap, arith, append-nil, append_assoc, length-append, max}
use Rattle.smv_parser.proofs.Views.{case_arms, case_form, arms_whole, arms_depth-push, braces_form, braces_trees, pair_whole, trees_depth-push, map-last, map-last-more, length-mapped, path_parts, path_form, parts_depth-push}
use Rattle.std.proofs.lemmas.Result.{err_from_is_err_and}
use Rattle.smv_lexer.specs.declared.sign.Sign.{Sign}
use Rattle.smv_lexer.specs.View as tokens
use Rattle.smv_lexer.specs.View.{views}
use Rattle.reader_laws.specs.Reading.Reading.{found}
use Rattle.reader_laws.specs.Reading.{enclosed, headed, both}
use Rattle.smv_lexer.specs.declared.keyword.Keyword.{Keyword}
use Rattle.reader_laws.proofs.Readers.{found-then}
use Rattle.smv_parser.specs.Tests.{is_sign, is_key}
use Rattle.smv_parser.specs.Tree.{Tree, Form, Part, parts_of, parts_depth, path_on, on_line, depth, trees_depth, trees_of, arms_depth, arms_of}
use Rattle.smv_parser.specs.Reading.{opens, begins_part, read_part, read, read_until, read_list, pair_of, read_arm, read_arms, arms_pair_of, begins_expression}
use Rattle.smv_parser.specs.View.{form, tree_of, arm_pair, part_of}
use Rattle.smv_parser.proofs.Codes.{opened_is, opened_deep, constant_is, operand_other, part_empty, field_is, index_is, index_deep, part_other, parts_start, path_fails, path_fails_after, path_found, name_is, arm_found, arms_start, case_is, first_some, rest_stops, rest_more, rest_fails, list_start, list_fails, braces_is, both_fails, both_fails_after, both_found, until_found, until_is, Fails-then, length-views, enclosed_fails, enclosed_fails_after, enclosed_found, headed_is, headed_fails, operand_empty, parens_is, next_is, prefix_is, read_start, more_step, more_too_deep, more_stops}
use Rattle.smv_parser.proofs.reading.+reading.Goals as goal

pub read_closed-returns-in_err-part-clause-reads : goal.read_closed-returns-in_err-part-clause-reads
read_closed-returns-in_err-part-clause-reads t c =
    let p = err_from_is_err_and c.from_residual.result c.from_residual.ensures.1 in
    rw (p.1, p.2) (enclosed_fails (is_sign c.args.sign) (read c.args.most 1) (views c.args.tokens.now) c.in_err-part.field-0.0 c.in_err-part.ensures.reads)

pub read_closed-returns-in_err-rest-clause-reads : goal.read_closed-returns-in_err-rest-clause-reads
read_closed-returns-in_err-rest-clause-reads t c =
    let p = err_from_is_err_and c.from_residual-in_err-rest.result c.from_residual-in_err-rest.ensures.1 in
    rw (p.1, p.2) (enclosed_fails_after (is_sign c.args.sign) (read c.args.most 1) (views c.args.tokens.now) (views c.in_ok-part.rest.now) (tree_of c.in_ok-part.part.expr) c.in_err-rest.field-0.0 c.in_ok-part.ensures.reads c.in_err-rest.ensures.reads)

pub read_closed-returns-clause-reads : goal.read_closed-returns-clause-reads
read_closed-returns-clause-reads t c =
    enclosed_found (is_sign c.args.sign) (read c.args.most 1) (views c.args.tokens.now) (views c.in_ok-part.rest.now) (views c.in_ok-rest.rest.now) (tree_of c.in_ok-part.part.expr) c.in_ok-rest.ensures.reads.0 c.in_ok-part.ensures.reads c.in_ok-rest.ensures.reads.1

pub read_operand-returns-in_default-clause-reads : goal.read_operand-returns-in_default-clause-reads
read_operand-returns-in_default-clause-reads t c =
    operand_empty (read c.args.most) c.args.most (views c.args.tokens.now) (length-views c.args.tokens.now ∙ c.in_default.ensures.cases)

pub read_opened-returns-in_err-part-in-Parens-clause-reads : goal.read_opened-returns-in_err-part-in-Parens-clause-reads
read_opened-returns-in_err-part-in-Parens-clause-reads t c =
    let q = parens_is (read c.args.most) c.args.most (tokens.view c.args.token.now) (views c.args.rest.now) (sym c.token_lead.ensures ∙ c.in-Parens.is) in
    let p = err_from_is_err_and c.from_residual.result c.from_residual.ensures.1 in
    rw (p.1, p.2) (rw q (Fails-then c.in_err-part-in-Parens.field-0.0 _ _ c.in_err-part-in-Parens.ensures.reads))

pub read_opened-returns-in_ok-new-in-Parens-clause-reads : goal.read_opened-returns-in_ok-new-in-Parens-clause-reads
read_opened-returns-in_ok-new-in-Parens-clause-reads t c =
    parens_is (read c.args.most) c.args.most (tokens.view c.args.token.now) (views c.args.rest.now) (sym c.token_lead.ensures ∙ c.in-Parens.is)
    ∙ found-then _ _ _ _ c.in_ok-part-in-Parens.ensures.reads
    ∙ ap (λ (e : _). found (on_line c.args.token.now.line (Form.parens (tree_of e))) (views c.in_ok-part-in-Parens.rest.now)) (sym c.in_ok-new-in-Parens.ensures.ok)

pub read_opened-returns-in_err-rest-in-Next-clause-reads : goal.read_opened-returns-in_err-rest-in-Next-clause-reads
read_opened-returns-in_err-rest-in-Next-clause-reads t c =
    let q = next_is (read c.args.most) c.args.most (tokens.view c.args.token.now) (views c.args.rest.now) (sym c.token_lead.ensures ∙ c.in-Next.is) in
    let p = err_from_is_err_and c.from_residual-in_err-rest-in-Next.result c.from_residual-in_err-rest-in-Next.ensures.1 in
    rw (p.1, p.2) (rw q (Fails-then c.in_err-rest-in-Next.field-0.0 _ _ (headed_fails (is_sign Sign.OpenParen) (enclosed (is_sign Sign.CloseParen) (read c.args.most 1)) (views c.args.rest.now) c.in_err-rest-in-Next.field-0.0 c.in_err-rest-in-Next.ensures.reads)))

pub read_opened-returns-in_err-part-in-Next-clause-reads : goal.read_opened-returns-in_err-part-in-Next-clause-reads
read_opened-returns-in_err-part-in-Next-clause-reads t c =
    let q = next_is (read c.args.most) c.args.most (tokens.view c.args.token.now) (views c.args.rest.now) (sym c.token_lead.ensures ∙ c.in-Next.is) in
    let w = headed_is (is_sign Sign.OpenParen) (enclosed (is_sign Sign.CloseParen) (read c.args.most 1)) (views c.args.rest.now) (views c.in_ok-rest-in-Next.rest.now) c.in_ok-rest-in-Next.ensures.reads.0 c.in_ok-rest-in-Next.ensures.reads.1 in
    let p = err_from_is_err_and c.from_residual-in_err-part-in-Next.result c.from_residual-in_err-part-in-Next.ensures.1 in
    rw (p.1, p.2) (rw (q, w) (Fails-then c.in_err-part-in-Next.field-0.0 _ _ c.in_err-part-in-Next.ensures.reads))

pub read_opened-returns-in_ok-new-in-Next-clause-reads : goal.read_opened-returns-in_ok-new-in-Next-clause-reads
read_opened-returns-in_ok-new-in-Next-clause-reads t c =
    let w = headed_is (is_sign Sign.OpenParen) (enclosed (is_sign Sign.CloseParen) (read c.args.most 1)) (views c.args.rest.now) (views c.in_ok-rest-in-Next.rest.now) c.in_ok-rest-in-Next.ensures.reads.0 c.in_ok-rest-in-Next.ensures.reads.1 in
    next_is (read c.args.most) c.args.most (tokens.view c.args.token.now) (views c.args.rest.now) (sym c.token_lead.ensures ∙ c.in-Next.is)
    ∙ found-then _ _ _ _ (w ∙ c.in_ok-part-in-Next.ensures.reads)
    ∙ ap (λ (e : _). found (on_line c.args.token.now.line (Form.next (tree_of e))) (views c.in_ok-part-in-Next.rest.now)) (sym c.in_ok-new-in-Next.ensures.ok)

pub read_opened-returns-in_err-part-in-Prefix-clause-reads : goal.read_opened-returns-in_err-part-in-Prefix-clause-reads
read_opened-returns-in_err-part-in-Prefix-clause-reads t c =
    let q = prefix_is (read c.args.most) c.args.most (tokens.view c.args.token.now) (views c.args.rest.now) c.in-Prefix.operator (sym c.token_lead.ensures ∙ c.in-Prefix.is) in
    let p = err_from_is_err_and c.from_residual-in_err-part-in-Prefix.result c.from_residual-in_err-part-in-Prefix.ensures.1 in
    rw (p.1, p.2) (rw q (Fails-then c.in_err-part-in-Prefix.field-0.0 _ _ c.in_err-part-in-Prefix.ensures.reads))

pub read_opened-returns-in_ok-new-in-Prefix-clause-reads : goal.read_opened-returns-in_ok-new-in-Prefix-clause-reads
read_opened-returns-in_ok-new-in-Prefix-clause-reads t c =
    prefix_is (read c.args.most) c.args.most (tokens.view c.args.token.now) (views c.args.rest.now) c.in-Prefix.operator (sym c.token_lead.ensures ∙ c.in-Prefix.is)
    ∙ found-then _ _ _ _ c.in_ok-part-in-Prefix.ensures.reads
    ∙ ap (λ (e : _). found (on_line c.args.token.now.line (Form.prefix c.in-Prefix.operator (tree_of e))) (views c.in_ok-part-in-Prefix.rest.now)) (sym c.in_ok-new-in-Prefix.ensures.ok)

pub read_expression-returns-in_err-part-clause-reads : goal.read_expression-returns-in_err-part-clause-reads
read_expression-returns-in_err-part-clause-reads t c =
    let q = read_start c.args.most c.args.least (views c.args.tokens.now) c.requires.some in
    let p = err_from_is_err_and c.from_residual.result c.from_residual.ensures.1 in
    rw (p.1, p.2) (rw q (Fails-then c.in_err-part.field-0.0 _ _ c.in_err-part.ensures.reads))

pub read_expression-loop-operator-init : goal.read_expression-loop-operator-init
read_expression-loop-operator-init t c = (
  omega (arith, c.requires.some, c.in_ok-part.ensures.depth),
  c.in_ok-part.part.depth_is,
  c.in_ok-part.ensures.shorter,
  length (views c.args.tokens.now),
  omega (arith, c.in_ok-part.ensures.shorter, length-views c.args.tokens.now, length-views c.in_ok-part.rest.now),
  read_start c.args.most c.args.least (views c.args.tokens.now) c.requires.some ∙ found-then _ _ _ _ c.in_ok-part.ensures.reads,
)

pub read_expression-returns-then-depth-most-clause-reads : goal.read_expression-returns-then-depth-most-clause-reads
read_expression-returns-then-depth-most-clause-reads t c =
    let i = c.loop-operator.invariant in
    let w = c.in-Some.ensures.some in
    rw i.5 (more_too_deep (read (c.args.most - 1)) (c.args.most - 1) c.args.least (tree_of c.loop-operator.left) (views c.loop-operator.rest.now) c.in-Some.operator w.0 (views c.in-Some.after.now) w.1 w.2 w.3
    i.3 (omega (arith, i.1, c.if-depth-most.true, c.requires.some)) i.4 (length c.loop-operator.rest.now) (sym (length-views c.loop-operator.rest.now)))

pub read_expression-returns-in_err-right-clause-reads : goal.read_expression-returns-in_err-right-clause-reads
read_expression-returns-in_err-right-clause-reads t c =
    let i = c.loop-operator.invariant in
    let w = c.in-Some.ensures.some in
    let q = more_step (read (c.args.most - 1)) (c.args.most - 1) c.args.least (tree_of c.loop-operator.left) (views c.loop-operator.rest.now) c.in-Some.operator w.0 (views c.in-Some.after.now) w.1 w.2 w.3
    i.3 (omega (arith, i.1, c.if-depth-most.false)) i.4 in
    let p = err_from_is_err_and c.from_residual-in_err-right.result c.from_residual-in_err-right.ensures.1 in
    rw (p.1, p.2) (rw (i.5, q.2) (Fails-then c.in_err-right.field-0.0 _ _ (rw c.right_level.ensures at c.in_err-right.ensures.reads)))

pub read_expression-loop-operator-preserved : goal.read_expression-loop-operator-preserved
read_expression-loop-operator-preserved t c =
    let i = c.loop-operator.invariant in
    let w = c.in-Some.ensures.some in
    let q = more_step (read (c.args.most - 1)) (c.args.most - 1) c.args.least (tree_of c.loop-operator.left) (views c.loop-operator.rest.now) c.in-Some.operator w.0 (views c.in-Some.after.now) w.1 w.2 w.3
    i.3 (omega (arith, i.1, c.if-depth-most.false)) i.4 in (
      omega (arith, i.1, c.if-depth-most.false, c.in_ok-right.ensures.depth, c.max-depth.ensures),
      rw (c.in_ok-boxed.ensures.ok, c.in_ok-new.ensures.ok, c.max-depth.ensures, i.1, c.in_ok-right.right.depth_is) refl,
      omega (arith, c.in_ok-right.ensures.shorter, ap length w.1, i.2, length-views c.loop-operator.rest.now, length-views c.in-Some.after.now),
      q.0,
      omega (arith, c.in_ok-right.ensures.shorter, q.1, length-views c.in-Some.after.now, length-views c.in_ok-right.after.now),
      i.5 ∙ q.2 ∙ found-then _ _ _ _ (rw c.right_level.ensures at c.in_ok-right.ensures.reads)
          ∙ rw (c.in_ok-boxed.ensures.ok, c.in_ok-new.ensures.ok) refl,
    )

pub read_expression-returns-clause-reads : goal.read_expression-returns-clause-reads
read_expression-returns-clause-reads t c =
    let i = c.loop-operator.invariant in
    i.5 ∙ more_stops (read (c.args.most - 1)) (c.args.most - 1) i.3 c.args.least (tree_of c.loop-operator.left) (views c.loop-operator.rest.now) c.in_default.ensures.none

pub read_until-returns-in_err-left-clause-reads : goal.read_until-returns-in_err-left-clause-reads
read_until-returns-in_err-left-clause-reads t c =
    let q = until_found (read c.args.most) c.args.most (views c.args.tokens.now) in
    let p = err_from_is_err_and c.from_residual.result c.from_residual.ensures.1 in
    rw (p.1, p.2) (rw q (both_fails (enclosed (is_key Keyword.Until) (read c.args.most 1)) (enclosed (is_sign Sign.CloseBracket) (read c.args.most 1)) (views c.args.tokens.now) c.in_err-left.field-0.0
    (enclosed_fails (is_key Keyword.Until) (read c.args.most 1) (views c.args.tokens.now) c.in_err-left.field-0.0 c.in_err-left.ensures.reads)))

pub read_until-returns-in_err-rest-clause-reads : goal.read_until-returns-in_err-rest-clause-reads
read_until-returns-in_err-rest-clause-reads t c =
    let q = until_found (read c.args.most) c.args.most (views c.args.tokens.now) in
    let p = err_from_is_err_and c.from_residual-in_err-rest.result c.from_residual-in_err-rest.ensures.1 in
    rw (p.1, p.2) (rw q (both_fails (enclosed (is_key Keyword.Until) (read c.args.most 1)) (enclosed (is_sign Sign.CloseBracket) (read c.args.most 1)) (views c.args.tokens.now) c.in_err-rest.field-0.0
    (enclosed_fails_after (is_key Keyword.Until) (read c.args.most 1) (views c.args.tokens.now) (views c.in_ok-left.rest.now) (tree_of c.in_ok-left.left.expr) c.in_err-rest.field-0.0 c.in_ok-left.ensures.reads c.in_err-rest.ensures.reads)))

pub read_until-returns-in_err-right-clause-reads : goal.read_until-returns-in_err-right-clause-reads
read_until-returns-in_err-right-clause-reads t c =
    let q = until_found (read c.args.most) c.args.most (views c.args.tokens.now) in
    let p = err_from_is_err_and c.from_residual-in_err-right.result c.from_residual-in_err-right.ensures.1 in
    rw (p.1, p.2) (rw q (both_fails_after (enclosed (is_key Keyword.Until) (read c.args.most 1)) (enclosed (is_sign Sign.CloseBracket) (read c.args.most 1)) (views c.args.tokens.now)
    (tree_of c.in_ok-left.left.expr) (views c.in_ok-rest.rest.now) c.in_err-right.field-0.0
    (enclosed_found (is_key Keyword.Until) (read c.args.most 1) (views c.args.tokens.now) (views c.in_ok-left.rest.now) (views c.in_ok-rest.rest.now) (tree_of c.in_ok-left.left.expr) c.in_ok-rest.ensures.reads.0 c.in_ok-left.ensures.reads c.in_ok-rest.ensures.reads.1)
    c.in_err-right.ensures.reads))

pub read_until-returns-clause-reads : goal.read_until-returns-clause-reads
read_until-returns-clause-reads t c =
    until_found (read c.args.most) c.args.most (views c.args.tokens.now) ∙ both_found (enclosed (is_key Keyword.Until) (read c.args.most 1)) (enclosed (is_sign Sign.CloseBracket) (read c.args.most 1)) (views c.args.tokens.now)
    (tree_of c.in_ok-left.left.expr) (views c.in_ok-rest.rest.now) (tree_of c.in_ok-right.right.expr) (views c.in_ok-right.rest.now)
    (enclosed_found (is_key Keyword.Until) (read c.args.most 1) (views c.args.tokens.now) (views c.in_ok-left.rest.now) (views c.in_ok-rest.rest.now) (tree_of c.in_ok-left.left.expr) c.in_ok-rest.ensures.reads.0 c.in_ok-left.ensures.reads c.in_ok-rest.ensures.reads.1)
    c.in_ok-right.ensures.reads

pub read_opened-returns-in_err-rest-in-Until-clause-reads : goal.read_opened-returns-in_err-rest-in-Until-clause-reads
read_opened-returns-in_err-rest-in-Until-clause-reads t c =
    let q = until_is (read c.args.most) c.args.most (tokens.view c.args.token.now) (views c.args.rest.now) c.in-Until.quantifier (sym c.token_lead.ensures ∙ c.in-Until.is) in
    let p = err_from_is_err_and c.from_residual-in_err-rest-in-Until.result c.from_residual-in_err-rest-in-Until.ensures.1 in
    rw (p.1, p.2) (rw q (Fails-then c.in_err-rest-in-Until.field-0.0 _ _ (headed_fails (is_sign Sign.OpenBracket) (read_until (read c.args.most) c.args.most) (views c.args.rest.now) c.in_err-rest-in-Until.field-0.0 c.in_err-rest-in-Until.ensures.reads)))

pub read_opened-returns-in_err-left-in-Until-clause-reads : goal.read_opened-returns-in_err-left-in-Until-clause-reads
read_opened-returns-in_err-left-in-Until-clause-reads t c =
    let q = until_is (read c.args.most) c.args.most (tokens.view c.args.token.now) (views c.args.rest.now) c.in-Until.quantifier (sym c.token_lead.ensures ∙ c.in-Until.is) in
    let w = headed_is (is_sign Sign.OpenBracket) (read_until (read c.args.most) c.args.most) (views c.args.rest.now) (views c.in_ok-rest-in-Until.rest.now) c.in_ok-rest-in-Until.ensures.reads.0 c.in_ok-rest-in-Until.ensures.reads.1 in
    let p = err_from_is_err_and c.from_residual-in_err-left-in-Until.result c.from_residual-in_err-left-in-Until.ensures.1 in
    rw (p.1, p.2) (rw (q, w) (Fails-then c.in_err-left-in-Until.field-0.0 _ _ c.in_err-left-in-Until.ensures.reads))

pub read_opened-returns-in_ok-new-in-Until-clause-reads : goal.read_opened-returns-in_ok-new-in-Until-clause-reads
read_opened-returns-in_ok-new-in-Until-clause-reads t c =
    let w = headed_is (is_sign Sign.OpenBracket) (read_until (read c.args.most) c.args.most) (views c.args.rest.now) (views c.in_ok-rest-in-Until.rest.now) c.in_ok-rest-in-Until.ensures.reads.0 c.in_ok-rest-in-Until.ensures.reads.1 in
    until_is (read c.args.most) c.args.most (tokens.view c.args.token.now) (views c.args.rest.now) c.in-Until.quantifier (sym c.token_lead.ensures ∙ c.in-Until.is)
    ∙ found-then _ _ _ _ (w ∙ c.in_ok-left-in-Until.ensures.reads)
    ∙ ap (λ (e : _). found (on_line c.args.token.now.line (Form.until c.in-Until.quantifier (tree_of e) (tree_of c.in_ok-left-in-Until.right.expr))) (views c.in_ok-left-in-Until.rest.now)) (sym c.in_ok-boxed-in-Until.ensures.ok)
    ∙ ap (λ (e : _). found (on_line c.args.token.now.line (Form.until c.in-Until.quantifier (tree_of c.in_ok-boxed-in-Until.boxed.value) (tree_of e))) (views c.in_ok-left-in-Until.rest.now)) (sym c.in_ok-new-in-Until.ensures.ok)

pub read_list-returns-in_err-first-clause-reads : goal.read_list-returns-in_err-first-clause-reads
read_list-returns-in_err-first-clause-reads t c =
    let p = err_from_is_err_and c.from_residual.result c.from_residual.ensures.1 in
    rw (p.1, p.2) (list_fails (read c.args.most) c.args.most (views c.args.tokens.now) c.in_err-first.field-0.0 c.in_err-first.ensures.reads)

pub read_list-loop-alloc-init : goal.read_list-loop-alloc-init
read_list-loop-alloc-init t c =
    let e1 : c.push.new.self.items ≡ c.in_ok-first.first.expr ∷ [] = c.in_ok-push.ensures.items ∙ ap (λ (l : List _). l ++ c.in_ok-first.first.expr ∷ []) c.new-items.ensures.items in
    let d : trees_depth (trees_of (map tree_of c.push.new.self.items)) ≡ depth (tree_of c.in_ok-first.first.expr) = (let w = ap (λ (l : List _). trees_depth (trees_of (map tree_of l))) e1 in omega (arith, w)) in (
      c.in_ok-first.ensures.depth,
      c.in_ok-first.first.depth_is ∙ sym d,
      omega (arith, ap length e1),
      c.in_ok-first.ensures.shorter,
      length (views c.in_ok-first.rest.now),
      (λ xs. (tree_of c.in_ok-first.first.expr, xs)),
      omega arith,
      (λ xs. ap (λ (l : List _). pair_of (map tree_of l ++ xs)) (sym e1)),
      list_start (read c.args.most) c.args.most (views c.args.tokens.now) (views c.in_ok-first.rest.now) (tree_of c.in_ok-first.first.expr) c.in_ok-first.ensures.reads,
    )

pub read_list-returns-in_err-after-clause-reads : goal.read_list-returns-in_err-after-clause-reads
read_list-returns-in_err-after-clause-reads t c =
    let i = c.loop-alloc.invariant in
    let f = sym c.loop-alloc-test.ensures in
    let p = err_from_is_err_and c.from_residual-in_err-after.result c.from_residual-in_err-after.ensures.1 in
    rw (p.1, p.2) (rw i.8 (rest_fails (is_sign Sign.Comma) (headed (is_sign Sign.Comma) (read c.args.most 1)) i.4 (views c.loop-alloc.rest.now) i.5 c.in_err-after.field-0.0 f
    (headed_fails (is_sign Sign.Comma) (read c.args.most 1) (views c.loop-alloc.rest.now) c.in_err-after.field-0.0 c.in_err-after.ensures.reads) i.6 (first_some (is_sign Sign.Comma) (views c.loop-alloc.rest.now) f)))

pub read_list-returns-in_err-next-clause-reads : goal.read_list-returns-in_err-next-clause-reads
read_list-returns-in_err-next-clause-reads t c =
    let i = c.loop-alloc.invariant in
    let f = sym c.loop-alloc-test.ensures in
    let w = headed_is (is_sign Sign.Comma) (read c.args.most 1) (views c.loop-alloc.rest.now) (views c.in_ok-after.after.now) c.in_ok-after.ensures.reads.0 c.in_ok-after.ensures.reads.1 in
    let p = err_from_is_err_and c.from_residual-in_err-next.result c.from_residual-in_err-next.ensures.1 in
    rw (p.1, p.2) (rw i.8 (rest_fails (is_sign Sign.Comma) (headed (is_sign Sign.Comma) (read c.args.most 1)) i.4 (views c.loop-alloc.rest.now) i.5 c.in_err-next.field-0.0 f
    (rw w c.in_err-next.ensures.reads) i.6 (first_some (is_sign Sign.Comma) (views c.loop-alloc.rest.now) f)))

pub read_list-loop-alloc-preserved : goal.read_list-loop-alloc-preserved
read_list-loop-alloc-preserved t c =
    let i = c.loop-alloc.invariant in
    let f = sym c.loop-alloc-test.ensures in
    let w = headed_is (is_sign Sign.Comma) (read c.args.most 1) (views c.loop-alloc.rest.now) (views c.in_ok-after.after.now) c.in_ok-after.ensures.reads.0 c.in_ok-after.ensures.reads.1 ∙ c.in_ok-next.ensures.reads in
    let short : length (views c.in_ok-next.after.now) < length (views c.loop-alloc.rest.now)
    = omega (arith, c.in_ok-next.ensures.shorter, c.in_ok-after.ensures.shorter, length-views c.in_ok-next.after.now, length-views c.loop-alloc.rest.now) in
    let q = rest_more (is_sign Sign.Comma) (headed (is_sign Sign.Comma) (read c.args.most 1)) i.4 (views c.loop-alloc.rest.now) (views c.in_ok-next.after.now) (tree_of c.in_ok-next.next.expr) i.5 f w i.6 short in
    let e2 : c.push-in-loop-alloc.new.self.items ≡ c.loop-alloc.items.items ++ c.in_ok-next.next.expr ∷ [] = c.in_ok-push-2.ensures.items in
    let d = trees_depth-push (map tree_of c.loop-alloc.items.items) (tree_of c.in_ok-next.next.expr) in
    let g : trees_depth (trees_of (map tree_of c.push-in-loop-alloc.new.self.items)) ≡ trees_depth (trees_of (map tree_of c.loop-alloc.items.items ++ tree_of c.in_ok-next.next.expr ∷ []))
    = ap (λ (l : List _). trees_depth (trees_of (map tree_of l))) e2 ∙ ap (λ (l : List _). trees_depth (trees_of l)) (map-last tree_of c.loop-alloc.items.items c.in_ok-next.next.expr) in (
      omega (arith, i.0, c.in_ok-next.ensures.depth, c.max-depth.ensures),
      omega (arith, c.max-depth.ensures, i.1, c.in_ok-next.next.depth_is, d, g),
      omega (arith, ap length e2, length-append c.loop-alloc.items.items (c.in_ok-next.next.expr ∷ [])),
      omega (arith, i.3, c.in_ok-next.ensures.shorter, c.in_ok-after.ensures.shorter),
      q.0,
      (λ xs. i.5 (tree_of c.in_ok-next.next.expr ∷ xs)),
      q.1,
      (λ xs. i.7 (tree_of c.in_ok-next.next.expr ∷ xs) ∙ ap pair_of (map-last-more tree_of c.loop-alloc.items.items c.in_ok-next.next.expr xs) ∙ ap (λ (l : List _). pair_of (map tree_of l ++ xs)) (sym e2)),
      i.8 ∙ q.2,
    )

pub read_list-returns-clause-reads : goal.read_list-returns-clause-reads
read_list-returns-clause-reads t c =
    let i = c.loop-alloc.invariant in
    i.8 ∙ rest_stops (is_sign Sign.Comma) (headed (is_sign Sign.Comma) (read c.args.most 1)) i.4 (views c.loop-alloc.rest.now) i.5 (sym c.loop-alloc-test.ensures)
    ∙ ap (λ (z : _). found z (views c.loop-alloc.rest.now)) (i.7 [] ∙ ap pair_of (append-nil (map tree_of c.loop-alloc.items.items)))

pub read_opened-returns-in_err-parts-in-Braces-clause-reads : goal.read_opened-returns-in_err-parts-in-Braces-clause-reads
read_opened-returns-in_err-parts-in-Braces-clause-reads t c =
    let q = braces_is (read c.args.most) c.args.most (tokens.view c.args.token.now) (views c.args.rest.now) (sym c.token_lead.ensures ∙ c.in-Braces.is) in
    let p = err_from_is_err_and c.from_residual-in_err-parts-in-Braces.result c.from_residual-in_err-parts-in-Braces.ensures.1 in
    rw (p.1, p.2) (rw q (Fails-then c.in_err-parts-in-Braces.field-0.0 _ _ (enclosed_fails (is_sign Sign.CloseBrace) (read_list (read c.args.most) c.args.most) (views c.args.rest.now) c.in_err-parts-in-Braces.field-0.0 c.in_err-parts-in-Braces.ensures.reads)))

pub read_opened-returns-in_err-rest-in-Braces-clause-reads : goal.read_opened-returns-in_err-rest-in-Braces-clause-reads
read_opened-returns-in_err-rest-in-Braces-clause-reads t c =
    let q = braces_is (read c.args.most) c.args.most (tokens.view c.args.token.now) (views c.args.rest.now) (sym c.token_lead.ensures ∙ c.in-Braces.is) in
    let p = err_from_is_err_and c.from_residual-in_err-rest-in-Braces.result c.from_residual-in_err-rest-in-Braces.ensures.1 in
    rw (p.1, p.2) (rw q (Fails-then c.in_err-rest-in-Braces.field-0.0 _ _ (enclosed_fails_after (is_sign Sign.CloseBrace) (read_list (read c.args.most) c.args.most) (views c.args.rest.now) (views c.in_ok-parts-in-Braces.rest.now)
    (pair_of (map tree_of c.in_ok-parts-in-Braces.parts.items.items)) c.in_err-rest-in-Braces.field-0.0 c.in_ok-parts-in-Braces.ensures.reads c.in_err-rest-in-Braces.ensures.reads)))

pub read_opened-invariant_of-result-in-Braces : goal.read_opened-invariant_of-result-in-Braces
read_opened-invariant_of-result-in-Braces t c =
    record { depth_is = let w = ap trees_depth (braces_trees c.in_ok-parts-in-Braces.parts.items) in omega (arith, c.in_ok-parts-in-Braces.parts.depth_is, w) }

pub read_opened-returns-in_ok-rest-in-Braces-clause-reads : goal.read_opened-returns-in_ok-rest-in-Braces-clause-reads
read_opened-returns-in_ok-rest-in-Braces-clause-reads t c =
    braces_is (read c.args.most) c.args.most (tokens.view c.args.token.now) (views c.args.rest.now) (sym c.token_lead.ensures ∙ c.in-Braces.is)
    ∙ found-then _ _ _ _ (enclosed_found (is_sign Sign.CloseBrace) (read_list (read c.args.most) c.args.most) (views c.args.rest.now) (views c.in_ok-parts-in-Braces.rest.now) (views c.in_ok-rest-in-Braces.rest.now)
    (pair_of (map tree_of c.in_ok-parts-in-Braces.parts.items.items)) c.in_ok-rest-in-Braces.ensures.reads.0 c.in_ok-parts-in-Braces.ensures.reads c.in_ok-rest-in-Braces.ensures.reads.1)
    ∙ ap (λ (es : List Tree). found (on_line c.args.token.now.line (Form.braces (trees_of es))) (views c.in_ok-rest-in-Braces.rest.now))
    (pair_whole (map tree_of c.in_ok-parts-in-Braces.parts.items.items) (omega (arith, c.in_ok-parts-in-Braces.ensures.some, length-mapped tree_of c.in_ok-parts-in-Braces.parts.items.items)))
    ∙ ap (λ (x : Form). found (on_line c.args.token.now.line x) (views c.in_ok-rest-in-Braces.rest.now)) (sym (braces_form c.in_ok-parts-in-Braces.parts.items))

pub read_arm-returns-in_err-guard-clause-reads : goal.read_arm-returns-in_err-guard-clause-reads
read_arm-returns-in_err-guard-clause-reads t c =
    let q = arm_found (read c.args.most) c.args.most (views c.args.tokens.now) in
    let p = err_from_is_err_and c.from_residual.result c.from_residual.ensures.1 in
    rw (p.1, p.2) (rw q (both_fails (enclosed (is_sign Sign.Colon) (read c.args.most 1)) (enclosed (is_sign Sign.Semicolon) (read c.args.most 1)) (views c.args.tokens.now) c.in_err-guard.field-0.0 c.in_err-guard.ensures.reads))

pub read_arm-returns-in_err-right-clause-reads : goal.read_arm-returns-in_err-right-clause-reads
read_arm-returns-in_err-right-clause-reads t c =
    let q = arm_found (read c.args.most) c.args.most (views c.args.tokens.now) in
    let p = err_from_is_err_and c.from_residual-in_err-right.result c.from_residual-in_err-right.ensures.1 in
    rw (p.1, p.2) (rw q (both_fails_after (enclosed (is_sign Sign.Colon) (read c.args.most 1)) (enclosed (is_sign Sign.Semicolon) (read c.args.most 1)) (views c.args.tokens.now)
    (tree_of c.in_ok-guard.guard.expr) (views c.in_ok-guard.rest.now) c.in_err-right.field-0.0 c.in_ok-guard.ensures.reads c.in_err-right.ensures.reads))

pub read_arm-returns-clause-reads : goal.read_arm-returns-clause-reads
read_arm-returns-clause-reads t c =
    arm_found (read c.args.most) c.args.most (views c.args.tokens.now) ∙ both_found (enclosed (is_sign Sign.Colon) (read c.args.most 1)) (enclosed (is_sign Sign.Semicolon) (read c.args.most 1)) (views c.args.tokens.now)
    (tree_of c.in_ok-guard.guard.expr) (views c.in_ok-guard.rest.now) (tree_of c.in_ok-right.right.expr) (views c.in_ok-right.rest.now) c.in_ok-guard.ensures.reads c.in_ok-right.ensures.reads

pub read_arms-returns-in_err-guard-clause-reads : goal.read_arms-returns-in_err-guard-clause-reads
read_arms-returns-in_err-guard-clause-reads t c =
    let p = err_from_is_err_and c.from_residual.result c.from_residual.ensures.1 in
    rw (p.1, p.2) (both_fails (read_arm (read c.args.most) c.args.most) (read_arms (read c.args.most) c.args.most) (views c.args.tokens.now) c.in_err-guard.field-0.0 c.in_err-guard.ensures.reads)

pub read_arms-loop-alloc-init : goal.read_arms-loop-alloc-init
read_arms-loop-alloc-init t c =
    let a : Tree × Tree = (tree_of c.in_ok-guard.guard.expr, tree_of c.in_ok-guard.right.expr) in
    let e1 : map arm_pair c.push.new.self.items ≡ a ∷ [] = ap (λ (l : List _). map arm_pair l) (c.in_ok-push.ensures.items ∙ ap (λ (l : List _). l ++ record { guard = c.in_ok-guard.guard.expr; right = c.in_ok-guard.right.expr } ∷ []) c.new-items.ensures.items) in
    let d : arms_depth (arms_of (map arm_pair c.push.new.self.items)) ≡ max (depth a.0) (depth a.1) = (let w = ap (λ (l : List (Tree × Tree)). arms_depth (arms_of l)) e1 in omega (arith, w)) in (
      omega (arith, c.in_ok-guard.ensures.depth.0, c.in_ok-guard.ensures.depth.1, c.deeper-depth.ensures),
      omega (arith, d, c.deeper-depth.ensures, c.in_ok-guard.guard.depth_is, c.in_ok-guard.right.depth_is),
      omega (arith, ap length e1, length-mapped arm_pair c.push.new.self.items),
      c.in_ok-guard.ensures.shorter,
      length (views c.in_ok-guard.rest.now),
      (λ xs. (a, xs)),
      omega arith,
      (λ xs. ap (λ (l : List (Tree × Tree)). arms_pair_of (l ++ xs)) (sym e1)),
      arms_start (read c.args.most) c.args.most (views c.args.tokens.now) (views c.in_ok-guard.rest.now) a c.in_ok-guard.ensures.reads,
    )

pub read_arms-returns-in_err-next-clause-reads : goal.read_arms-returns-in_err-next-clause-reads
read_arms-returns-in_err-next-clause-reads t c =
    let i = c.loop-alloc.invariant in
    let f = sym c.loop-alloc-test.ensures in
    let p = err_from_is_err_and c.from_residual-in_err-next.result c.from_residual-in_err-next.ensures.1 in
    rw (p.1, p.2) (rw i.8 (rest_fails begins_expression (read_arm (read c.args.most) c.args.most) i.4 (views c.loop-alloc.rest.now) i.5 c.in_err-next.field-0.0 f
    c.in_err-next.ensures.reads i.6 (first_some begins_expression (views c.loop-alloc.rest.now) f)))

pub read_arms-loop-alloc-preserved : goal.read_arms-loop-alloc-preserved
read_arms-loop-alloc-preserved t c =
    let i = c.loop-alloc.invariant in
    let f = sym c.loop-alloc-test.ensures in
    let a : Tree × Tree = (tree_of c.in_ok-next.next.expr, tree_of c.in_ok-next.value.expr) in
    let short : length (views c.in_ok-next.after.now) < length (views c.loop-alloc.rest.now)
    = omega (arith, c.in_ok-next.ensures.shorter, length-views c.in_ok-next.after.now, length-views c.loop-alloc.rest.now) in
    let q = rest_more begins_expression (read_arm (read c.args.most) c.args.most) i.4 (views c.loop-alloc.rest.now) (views c.in_ok-next.after.now) a i.5 f c.in_ok-next.ensures.reads i.6 short in
    let e2 : c.push-in-loop-alloc.new.self.items ≡ c.loop-alloc.items.items ++ record { guard = c.in_ok-next.next.expr; right = c.in_ok-next.value.expr } ∷ [] = c.in_ok-push-2.ensures.items in
    let e3 : map arm_pair c.push-in-loop-alloc.new.self.items ≡ map arm_pair c.loop-alloc.items.items ++ a ∷ []
    = ap (λ (l : List _). map arm_pair l) e2 ∙ map-last arm_pair c.loop-alloc.items.items (record { guard = c.in_ok-next.next.expr; right = c.in_ok-next.value.expr }) in
    let d = arms_depth-push (map arm_pair c.loop-alloc.items.items) a in
    let g : arms_depth (arms_of (map arm_pair c.push-in-loop-alloc.new.self.items)) ≡ arms_depth (arms_of (map arm_pair c.loop-alloc.items.items ++ a ∷ [])) = ap (λ (l : List (Tree × Tree)). arms_depth (arms_of l)) e3 in (
      omega (arith, i.0, c.in_ok-next.ensures.depth.0, c.in_ok-next.ensures.depth.1, c.max-depth.ensures, c.deeper.ensures),
      omega (arith, c.max-depth.ensures, c.deeper.ensures, i.1, c.in_ok-next.next.depth_is, c.in_ok-next.value.depth_is, d, g),
      omega (arith, ap length e2, length-append c.loop-alloc.items.items (record { guard = c.in_ok-next.next.expr; right = c.in_ok-next.value.expr } ∷ [])),
      omega (arith, i.3, c.in_ok-next.ensures.shorter),
      q.0,
      (λ xs. i.5 (a ∷ xs)),
      q.1,
      (λ xs. i.7 (a ∷ xs) ∙ ap arms_pair_of (sym (append_assoc (map arm_pair c.loop-alloc.items.items) (a ∷ []) xs)) ∙ ap (λ (l : List (Tree × Tree)). arms_pair_of (l ++ xs)) (sym e3)),
      i.8 ∙ q.2,
    )

pub read_arms-returns-clause-reads : goal.read_arms-returns-clause-reads
read_arms-returns-clause-reads t c =
    let i = c.loop-alloc.invariant in
    i.8 ∙ rest_stops begins_expression (read_arm (read c.args.most) c.args.most) i.4 (views c.loop-alloc.rest.now) i.5 (sym c.loop-alloc-test.ensures)
    ∙ ap (λ (z : _). found z (views c.loop-alloc.rest.now)) (i.7 [] ∙ ap arms_pair_of (append-nil (map arm_pair c.loop-alloc.items.items)))

pub read_opened-returns-in_err-arms-in-Case-clause-reads : goal.read_opened-returns-in_err-arms-in-Case-clause-reads
read_opened-returns-in_err-arms-in-Case-clause-reads t c =
    let q = case_is (read c.args.most) c.args.most (tokens.view c.args.token.now) (views c.args.rest.now) (sym c.token_lead.ensures ∙ c.in-Case.is) in
    let p = err_from_is_err_and c.from_residual-in_err-arms-in-Case.result c.from_residual-in_err-arms-in-Case.ensures.1 in
    rw (p.1, p.2) (rw q (Fails-then c.in_err-arms-in-Case.field-0.0 _ _ (enclosed_fails (is_key Keyword.Esac) (both (read_arm (read c.args.most) c.args.most) (read_arms (read c.args.most) c.args.most)) (views c.args.rest.now) c.in_err-arms-in-Case.field-0.0 c.in_err-arms-in-Case.ensures.reads)))

pub read_opened-returns-in_err-rest-in-Case-clause-reads : goal.read_opened-returns-in_err-rest-in-Case-clause-reads
read_opened-returns-in_err-rest-in-Case-clause-reads t c =
    let q = case_is (read c.args.most) c.args.most (tokens.view c.args.token.now) (views c.args.rest.now) (sym c.token_lead.ensures ∙ c.in-Case.is) in
    let p = err_from_is_err_and c.from_residual-in_err-rest-in-Case.result c.from_residual-in_err-rest-in-Case.ensures.1 in
    rw (p.1, p.2) (rw q (Fails-then c.in_err-rest-in-Case.field-0.0 _ _ (enclosed_fails_after (is_key Keyword.Esac) (both (read_arm (read c.args.most) c.args.most) (read_arms (read c.args.most) c.args.most)) (views c.args.rest.now) (views c.in_ok-arms-in-Case.rest.now)
    (arms_pair_of (map arm_pair c.in_ok-arms-in-Case.arms.items.items)) c.in_err-rest-in-Case.field-0.0 c.in_ok-arms-in-Case.ensures.reads c.in_err-rest-in-Case.ensures.reads)))

pub read_opened-invariant_of-result-in-Case : goal.read_opened-invariant_of-result-in-Case
read_opened-invariant_of-result-in-Case t c =
    record { depth_is = let w = ap arms_depth (case_arms c.in_ok-arms-in-Case.arms.items) in omega (arith, c.in_ok-arms-in-Case.arms.depth_is, w) }

pub read_opened-returns-in_ok-rest-in-Case-clause-reads : goal.read_opened-returns-in_ok-rest-in-Case-clause-reads
read_opened-returns-in_ok-rest-in-Case-clause-reads t c =
    case_is (read c.args.most) c.args.most (tokens.view c.args.token.now) (views c.args.rest.now) (sym c.token_lead.ensures ∙ c.in-Case.is)
    ∙ found-then _ _ _ _ (enclosed_found (is_key Keyword.Esac) (both (read_arm (read c.args.most) c.args.most) (read_arms (read c.args.most) c.args.most)) (views c.args.rest.now) (views c.in_ok-arms-in-Case.rest.now) (views c.in_ok-rest-in-Case.rest.now)
    (arms_pair_of (map arm_pair c.in_ok-arms-in-Case.arms.items.items)) c.in_ok-rest-in-Case.ensures.reads.0 c.in_ok-arms-in-Case.ensures.reads c.in_ok-rest-in-Case.ensures.reads.1)
    ∙ ap (λ (es : List (Tree × Tree)). found (on_line c.args.token.now.line (Form.cases (arms_of es))) (views c.in_ok-rest-in-Case.rest.now))
    (arms_whole (map arm_pair c.in_ok-arms-in-Case.arms.items.items) (omega (arith, c.in_ok-arms-in-Case.ensures.some, length-mapped arm_pair c.in_ok-arms-in-Case.arms.items.items)))
    ∙ ap (λ (x : Form). found (on_line c.args.token.now.line x) (views c.in_ok-rest-in-Case.rest.now)) (sym (case_form c.in_ok-arms-in-Case.arms.items))

pub read_operand-returns-in_err-whole-clause-reads : goal.read_operand-returns-in_err-whole-clause-reads
read_operand-returns-in_err-whole-clause-reads t c =
    let q = name_is (read c.args.most) c.args.most (views c.args.tokens.now) (tokens.view c.in-Some.token.now) (views c.in-Some.rest.now) (ap views c.in-Some.ensures.cases.0)
    (sym c.token_lead-lead.ensures ∙ c.in-Name.is) in
    let p = err_from_is_err_and c.from_residual-in_err-whole.result c.from_residual-in_err-whole.ensures.1 in
    rw (p.1, p.2) (rw q (Fails-then c.in_err-whole.field-0.0 _ _ c.in_err-whole.ensures.reads))

pub read_part-returns-in_default-clause-reads : goal.read_part-returns-in_default-clause-reads
read_part-returns-in_default-clause-reads t c =
    part_empty (read c.args.most) c.args.most (views c.args.tokens.now) (length-views c.args.tokens.now ∙ c.in_default.ensures.cases)

pub read_part-returns-in_err-name-clause-reads : goal.read_part-returns-in_err-name-clause-reads
read_part-returns-in_err-name-clause-reads t c =
    let q = field_is (read c.args.most) c.args.most (views c.args.tokens.now) (tokens.view c.in-Some.token.now) (views c.in-Some.rest.now) (ap views c.in-Some.ensures.cases.0) (sym c.if-token_is_sign.ensures) in
    let p = err_from_is_err_and c.from_residual.result c.from_residual.ensures.1 in
    rw (p.1, p.2) (rw q (Fails-then c.in_err-name.field-0.0 _ _ c.in_err-name.ensures.reads))

pub read_part-returns-then-token_is_sign-clause-reads : goal.read_part-returns-then-token_is_sign-clause-reads
read_part-returns-then-token_is_sign-clause-reads t c =
    field_is (read c.args.most) c.args.most (views c.args.tokens.now) (tokens.view c.in-Some.token.now) (views c.in-Some.rest.now) (ap views c.in-Some.ensures.cases.0) (sym c.if-token_is_sign.ensures) ∙ found-then _ _ _ _ c.in_ok-name.ensures.reads

pub read_part-returns-then-not-token_is_sign-clause-reads : goal.read_part-returns-then-not-token_is_sign-clause-reads
read_part-returns-then-not-token_is_sign-clause-reads t c =
    part_other (read c.args.most) c.args.most (views c.args.tokens.now) (tokens.view c.in-Some.token.now) (views c.in-Some.rest.now) (ap views c.in-Some.ensures.cases.0) (sym c.if-token_is_sign.ensures) (sym c.token_is_sign-2.ensures ∙ c.if-not-token_is_sign.true) (length c.args.tokens.now) (sym (length-views c.args.tokens.now))

pub read_part-returns-then-most-eq0-clause-reads : goal.read_part-returns-then-most-eq0-clause-reads
read_part-returns-then-most-eq0-clause-reads t c =
    index_deep (read c.args.most) c.args.most (views c.args.tokens.now) (tokens.view c.in-Some.token.now) (views c.in-Some.rest.now) (ap views c.in-Some.ensures.cases.0) (sym c.if-token_is_sign.ensures) (sym c.token_is_sign-2.ensures ∙ c.if-not-token_is_sign.false) c.if-most-eq0.true (length c.args.tokens.now) (sym (length-views c.args.tokens.now))

pub read_part-returns-in_err-index-clause-reads : goal.read_part-returns-in_err-index-clause-reads
read_part-returns-in_err-index-clause-reads t c =
    let q = index_is (read c.args.most) c.args.most (views c.args.tokens.now) (tokens.view c.in-Some.token.now) (views c.in-Some.rest.now) (ap views c.in-Some.ensures.cases.0) (sym c.if-token_is_sign.ensures) (sym c.token_is_sign-2.ensures ∙ c.if-not-token_is_sign.false) (omega (arith, c.if-most-eq0.false)) in
    let p = err_from_is_err_and c.from_residual-in_err-index.result c.from_residual-in_err-index.ensures.1 in
    rw (p.1, p.2) (rw q (Fails-then c.in_err-index.field-0.0 _ _ c.in_err-index.ensures.reads))

pub read_part-returns-clause-reads : goal.read_part-returns-clause-reads
read_part-returns-clause-reads t c =
    index_is (read c.args.most) c.args.most (views c.args.tokens.now) (tokens.view c.in-Some.token.now) (views c.in-Some.rest.now) (ap views c.in-Some.ensures.cases.0) (sym c.if-token_is_sign.ensures) (sym c.token_is_sign-2.ensures ∙ c.if-not-token_is_sign.false) (omega (arith, c.if-most-eq0.false))
    ∙ found-then _ _ _ _ c.in_ok-index.ensures.reads

pub read_parts-loop-alloc-init : goal.read_parts-loop-alloc-init
read_parts-loop-alloc-init t c =
    let e0 : c.new-items.result.items ≡ [] = c.new-items.ensures.items in (
      omega arith,
      ap (λ (l : List _). parts_depth (parts_of (map part_of l))) (sym e0),
      omega arith,
      length (views c.args.tokens.now),
      (λ xs. xs),
      omega arith,
      (λ xs. ap (λ (l : List _). map part_of l ++ xs) (sym e0)),
      parts_start (read c.args.most) c.args.most (views c.args.tokens.now),
    )

pub read_parts-returns-in_err-part-clause-reads : goal.read_parts-returns-in_err-part-clause-reads
read_parts-returns-in_err-part-clause-reads t c =
    let i = c.loop-alloc.invariant in
    let f = sym c.loop-alloc-test.ensures in
    let p = err_from_is_err_and c.from_residual.result c.from_residual.ensures.1 in
    rw (p.1, p.2) (rw i.7 (rest_fails begins_part (read_part (read c.args.most) c.args.most) i.3 (views c.loop-alloc.rest.now) i.4 c.in_err-part.field-0.0 f
    c.in_err-part.ensures.reads i.5 (first_some begins_part (views c.loop-alloc.rest.now) f)))

pub read_parts-loop-alloc-preserved : goal.read_parts-loop-alloc-preserved
read_parts-loop-alloc-preserved t c =
    let i = c.loop-alloc.invariant in
    let f = sym c.loop-alloc-test.ensures in
    let a : Part = part_of c.in_ok-part.part in
    let short : length (views c.in_ok-part.after.now) < length (views c.loop-alloc.rest.now)
    = omega (arith, c.in_ok-part.ensures.shorter, length-views c.in_ok-part.after.now, length-views c.loop-alloc.rest.now) in
    let q = rest_more begins_part (read_part (read c.args.most) c.args.most) i.3 (views c.loop-alloc.rest.now) (views c.in_ok-part.after.now) a i.4 f c.in_ok-part.ensures.reads i.5 short in
    let e2 : c.push.new.self.items ≡ c.loop-alloc.items.items ++ c.in_ok-part.part ∷ [] = c.in_ok-push.ensures.items in
    let d = parts_depth-push (map part_of c.loop-alloc.items.items) a in
    let g : parts_depth (parts_of (map part_of c.push.new.self.items)) ≡ parts_depth (parts_of (map part_of c.loop-alloc.items.items ++ a ∷ []))
    = ap (λ (l : List _). parts_depth (parts_of (map part_of l))) e2 ∙ ap (λ (l : List Part). parts_depth (parts_of l)) (map-last part_of c.loop-alloc.items.items c.in_ok-part.part) in (
      omega (arith, i.0, c.in_ok-part.ensures.depth.1, c.max-depth.ensures),
      omega (arith, c.max-depth.ensures, i.1, c.in_ok-part.ensures.depth.0, d, g),
      omega (arith, i.2, c.in_ok-part.ensures.shorter),
      q.0,
      (λ xs. i.4 (a ∷ xs)),
      q.1,
      (λ xs. i.6 (a ∷ xs) ∙ map-last-more part_of c.loop-alloc.items.items c.in_ok-part.part xs ∙ ap (λ (l : List _). map part_of l ++ xs) (sym e2)),
      i.7 ∙ q.2,
    )

pub read_parts-returns-clause-reads : goal.read_parts-returns-clause-reads
read_parts-returns-clause-reads t c =
    let i = c.loop-alloc.invariant in
    i.7 ∙ rest_stops begins_part (read_part (read c.args.most) c.args.most) i.3 (views c.loop-alloc.rest.now) i.4 (sym c.loop-alloc-test.ensures)
    ∙ ap (λ (z : _). found z (views c.loop-alloc.rest.now)) (i.6 [] ∙ append-nil (map part_of c.loop-alloc.items.items))

pub read_path-returns-in_err-first-clause-reads : goal.read_path-returns-in_err-first-clause-reads
read_path-returns-in_err-first-clause-reads t c =
    let p = err_from_is_err_and c.from_residual.result c.from_residual.ensures.1 in
    rw (p.1, p.2) (path_fails (read c.args.most) c.args.most (views c.args.tokens.now) c.in_err-first.field-0.0 c.in_err-first.ensures.reads)

pub read_path-returns-in_err-parts-clause-reads : goal.read_path-returns-in_err-parts-clause-reads
read_path-returns-in_err-parts-clause-reads t c =
    let p = err_from_is_err_and c.from_residual-in_err-parts.result c.from_residual-in_err-parts.ensures.1 in
    rw (p.1, p.2) (path_fails_after (read c.args.most) c.args.most (views c.args.tokens.now) c.in_ok-first.first (views c.in_ok-first.rest.now) c.in_err-parts.field-0.0 c.in_ok-first.ensures.reads c.in_err-parts.ensures.reads)

pub read_path-returns-clause-reads : goal.read_path-returns-clause-reads
read_path-returns-clause-reads t c =
    path_found (read c.args.most) c.args.most (views c.args.tokens.now) c.in_ok-first.first (views c.in_ok-first.rest.now) (map part_of c.in_ok-parts.parts.items.items) (views c.in_ok-parts.rest.now) c.in_ok-first.ensures.reads c.in_ok-parts.ensures.reads
    ∙ ap (λ (l : ℕ). found (path_on l c.in_ok-first.first (parts_of (map part_of c.in_ok-parts.parts.items.items))) (views c.in_ok-parts.rest.now)) (sym c.first_line-line.ensures)

pub read_operand-returns-then-most-eq0-clause-reads : goal.read_operand-returns-then-most-eq0-clause-reads
read_operand-returns-then-most-eq0-clause-reads t c =
    opened_deep (read c.args.most) c.args.most (views c.args.tokens.now) (tokens.view c.in-Some.token.now) (views c.in-Some.rest.now) (ap views c.in-Some.ensures.cases.0) c.if-most-eq0.true (ap opens (sym c.token_lead-lead.ensures) ∙ sym c.opens_parts.ensures ∙ c.if-opens_parts.true) (length c.args.tokens.now) (sym (length-views c.args.tokens.now))

pub read_operand-returns-in_err-part-clause-reads : goal.read_operand-returns-in_err-part-clause-reads
read_operand-returns-in_err-part-clause-reads t c =
    let q = opened_is (read c.args.most) c.args.most (views c.args.tokens.now) (tokens.view c.in-Some.token.now) (views c.in-Some.rest.now) (ap views c.in-Some.ensures.cases.0) (omega (arith, c.if-most-eq0.false)) (ap opens (sym c.token_lead-lead.ensures) ∙ sym c.opens_parts.ensures ∙ c.if-opens_parts.true) in
    let p = err_from_is_err_and c.from_residual.result c.from_residual.ensures.1 in
    rw (p.1, p.2) (rw q c.in_err-part.ensures.reads)

pub read_operand-returns-then-opens_parts-clause-reads : goal.read_operand-returns-then-opens_parts-clause-reads
read_operand-returns-then-opens_parts-clause-reads t c =
    opened_is (read c.args.most) c.args.most (views c.args.tokens.now) (tokens.view c.in-Some.token.now) (views c.in-Some.rest.now) (ap views c.in-Some.ensures.cases.0) (omega (arith, c.if-most-eq0.false)) (ap opens (sym c.token_lead-lead.ensures) ∙ sym c.opens_parts.ensures ∙ c.if-opens_parts.true) ∙ c.in_ok-part.ensures.reads

pub read_operand-invariant_of-result : goal.read_operand-invariant_of-result
read_operand-invariant_of-result t c =
    record { depth_is = let w = ap parts_depth (path_parts c.in_ok-whole.whole.path.parts) in omega (arith, c.in_ok-whole.whole.depth_is, w) }

pub read_operand-returns-in-Name-clause-reads : goal.read_operand-returns-in-Name-clause-reads
read_operand-returns-in-Name-clause-reads t c =
    name_is (read c.args.most) c.args.most (views c.args.tokens.now) (tokens.view c.in-Some.token.now) (views c.in-Some.rest.now) (ap views c.in-Some.ensures.cases.0) (sym c.token_lead-lead.ensures ∙ c.in-Name.is)
    ∙ found-then _ _ _ _ c.in_ok-whole.ensures.reads
    ∙ ap (λ (x : Form). found (on_line c.in_ok-whole.whole.path.line x) (views c.in_ok-whole.rest.now)) (sym (path_form c.in_ok-whole.whole.path))

pub read_operand-returns-in_default-constant-clause-reads : goal.read_operand-returns-in_default-constant-clause-reads
read_operand-returns-in_default-constant-clause-reads t c =
    operand_other (read c.args.most) c.args.most (views c.args.tokens.now) (tokens.view c.in-Some.token.now) (views c.in-Some.rest.now) (ap views c.in-Some.ensures.cases.0) (ap opens (sym c.token_lead-lead.ensures) ∙ sym c.opens_parts.ensures ∙ c.if-opens_parts.false)
    (λ e. c.in_default-lead.not-Name (c.token_lead-lead.ensures ∙ e)) c.in_default-constant.ensures.none (length c.args.tokens.now) (sym (length-views c.args.tokens.now))

pub read_operand-returns-clause-reads : goal.read_operand-returns-clause-reads
read_operand-returns-clause-reads t c =
    constant_is (read c.args.most) c.args.most (views c.args.tokens.now) (tokens.view c.in-Some.token.now) (views c.in-Some.rest.now) (ap views c.in-Some.ensures.cases.0) (form c.in-Some-constant.kind) c.in-Some-constant.ensures.some
