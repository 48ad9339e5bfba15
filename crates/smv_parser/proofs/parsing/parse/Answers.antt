use Rattle.std.proofs.Common.{◌≡◌, ◌-◌, ℕ, length, map, List, [], ◌∷◌, sym, ◌∙◌, ap, subst, arith, eqb-true}
use Rattle.reader_laws.specs.Reading.Reading.{found}
use Rattle.smv_lexer.specs.Text.{Placed}
use Rattle.smv_lexer.specs.View.{views}
use Rattle.smv_parser.specs.Program.{Program}
use Rattle.smv_parser.specs.Programs.{IsSyntaxPlace}
use Rattle.smv_parser.specs.ProgramView as view
use Rattle.smv_parser.proofs.Codes.{length-views}
use Rattle.smv_parser.proofs.ParseCodes.{deep_at, is_parsed, more_follows, no_tokens, not_deep, not_empty, not_syntax, read_whole, some_token, syntax_at}
use Rattle.smv_parser.proofs.parsing.parse.Goals as goal

pub returns-then-not-is_empty-clause-only : goal.returns-then-not-is_empty-clause-only
returns-then-not-is_empty-clause-only c p d h =
    let q : found (map view.module_of c.in-Ok.modules.items) (views c.in-Ok.rest.now) ≡ found p [] = sym c.in-Ok.ensures.reads ∙ read_whole (views c.args.tokens.now) p d h in
    let none : views c.in-Ok.rest.now ≡ [] = cc in
    absurd (not_empty (length c.in-Ok.rest.now) c.if-not-is_empty.ensures (sym (length-views c.in-Ok.rest.now) ∙ ap length none))

pub returns-then-not-is_empty-clause-refused : goal.returns-then-not-is_empty-clause-refused
returns-then-not-is_empty-clause-refused c =
    let r = some_token (views c.in-Ok.rest.now) (λ z. not_empty (length c.in-Ok.rest.now) c.if-not-is_empty.ensures (sym (length-views c.in-Ok.rest.now) ∙ z)) in
    let p = more_follows (views c.args.tokens.now) (map view.module_of c.in-Ok.modules.items) r.0 r.1 (c.in-Ok.ensures.reads ∙ ap (λ (l : List Placed). found (map view.module_of c.in-Ok.modules.items) l) r.2) in
    let n : length (views c.args.tokens.now) - length (r.0 ∷ r.1) ≡ length c.args.tokens.now - length c.in-Ok.rest.now =
    omega (arith, length-views c.args.tokens.now, length-views c.in-Ok.rest.now, ap length r.2) in
    subst (IsSyntaxPlace (views c.args.tokens.now)) n p

pub returns-else-not-is_empty-clause-ok : goal.returns-else-not-is_empty-clause-ok
returns-else-not-is_empty-clause-ok c =
    let none : views c.in-Ok.rest.now ≡ [] = no_tokens (views c.in-Ok.rest.now) (length-views c.in-Ok.rest.now ∙ eqb-true (length c.in-Ok.rest.now) 0 (sym c.if-not-is_empty.ensures)) in
    is_parsed (views c.args.tokens.now) (map view.module_of c.in-Ok.modules.items) (c.in-Ok.ensures.reads ∙ ap (λ (l : List Placed). found (map view.module_of c.in-Ok.modules.items) l) none)

pub returns-else-not-is_empty-clause-only : goal.returns-else-not-is_empty-clause-only
returns-else-not-is_empty-clause-only c p d h =
    let q : found (map view.module_of c.in-Ok.modules.items) (views c.in-Ok.rest.now) ≡ found p [] = sym c.in-Ok.ensures.reads ∙ read_whole (views c.args.tokens.now) p d h in
    cc

pub overflow_sub-result-in-Err-Syntax : goal.overflow_sub-result-in-Err-Syntax
overflow_sub-result-in-Err-Syntax c =
    let w = syntax_at (views c.args.tokens.now) c.in-Err-Syntax.left (rw c.in-Err-Syntax.field-0-is at c.in-Err-Syntax.ensures.reads) in
    omega (arith, w.0, length-views c.args.tokens.now)

pub overflow_sub-result-in-Err-TooDeep : goal.overflow_sub-result-in-Err-TooDeep
overflow_sub-result-in-Err-TooDeep c =
    let w = deep_at (views c.args.tokens.now) c.in-Err-TooDeep.left (rw c.in-Err-TooDeep.field-0-is at c.in-Err-TooDeep.ensures.reads) in
    omega (arith, w.0, length-views c.args.tokens.now)

pub returns-in-Err-Syntax-clause-only : goal.returns-in-Err-Syntax-clause-only
returns-in-Err-Syntax-clause-only c p d h =
    absurd (not_syntax c.in-Err-Syntax.left _ p (read_whole (views c.args.tokens.now) p d h) (rw c.in-Err-Syntax.field-0-is at c.in-Err-Syntax.ensures.reads))

pub returns-in-Err-Syntax-clause-refused : goal.returns-in-Err-Syntax-clause-refused
returns-in-Err-Syntax-clause-refused c =
    let w = syntax_at (views c.args.tokens.now) c.in-Err-Syntax.left (rw c.in-Err-Syntax.field-0-is at c.in-Err-Syntax.ensures.reads) in
    let l = length-views c.args.tokens.now in
    rw l at w.1

pub returns-in-Err-TooDeep-clause-only : goal.returns-in-Err-TooDeep-clause-only
returns-in-Err-TooDeep-clause-only c p d h =
    absurd (not_deep c.in-Err-TooDeep.left _ p (read_whole (views c.args.tokens.now) p d h) (rw c.in-Err-TooDeep.field-0-is at c.in-Err-TooDeep.ensures.reads))

pub returns-in-Err-TooDeep-clause-refused : goal.returns-in-Err-TooDeep-clause-refused
returns-in-Err-TooDeep-clause-refused c =
    let w = deep_at (views c.args.tokens.now) c.in-Err-TooDeep.left (rw c.in-Err-TooDeep.field-0-is at c.in-Err-TooDeep.ensures.reads) in
    let l = length-views c.args.tokens.now in
    rw l at w.1
