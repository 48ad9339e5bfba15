use Rattle.std.proofs.Common.{◌≡◌, sym, ◌∙◌, ap, subst, false}
use Rattle.std.specs.Prelude.{IfNone}
use Rattle.smv_instances.specs.Plain.{plain_expr}
use Rattle.smv_instances.specs.Program.{Expr}
use Rattle.smv_instances.specs.Instances.{instances}
use Rattle.smv_names.specs.Denotes.{bare}
use Rattle.smv_names.specs.Written.{is_path, plain_path}
use Rattle.smv_names.proofs.EndLemmas.{own_end}
use Rattle.smv_names.proofs.WaitLemmas.{member_at}
use Rattle.smv_names.proofs.tables.end_of.Goals as goal

pub end_named-requires : goal.end_named-requires
end_named-requires c =
    let s = member_at (instances c.requires.0) c.args.i c.requires.2 in
    (c.requires.0, s.0, plain_path c.in-Some.path.now, c.requires.1, c.requires.3, c.in_ok-named.ensures c.requires.0 s.0 c.requires.1 s.1)

pub returns-in_default : goal.returns-in_default
returns-in_default c = λ p s targets at text known.
    let other : is_path (plain_expr c.bare_of.result.now) ≡ false = subst (λ o. IfNone o (is_path (plain_expr c.bare_of.result.now) ≡ false)) c.in_default.is c.path_of.ensures.none in
    own_end p s (plain_expr c.args.text.now) c.args.own text (ap is_path (sym c.bare_of.ensures) ∙ other)

pub returns : goal.returns
returns c = λ p s targets at text known.
    let q = plain_path c.in-Some.path.now in
    let path : bare (plain_expr c.args.text.now) ≡ Expr.At q = sym c.bare_of.ensures ∙ c.in-Some.ensures.some in
    c.end_named.ensures p s (plain_expr c.args.text.now) q targets text path (c.in_ok-named.ensures p s targets at) known
