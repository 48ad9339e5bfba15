use Rattle.std.proofs.Common.{◌≡◌, ap, subst, sym}
use Rattle.smv_instances.specs.Plain.{plain_expr}
use Rattle.smv_instances.specs.Program.{Expr}
use Rattle.smv_instances.specs.Instances.{instances}
use Rattle.smv_names.specs.Abbreviations.{mentions}
use Rattle.smv_names.specs.Denotes.{bare}
use Rattle.smv_names.specs.Known.{AreNumbersIn, AreSizesIn}
use Rattle.smv_names.specs.Values.{IsNumber, IsSizeOf}
use Rattle.smv_names.specs.Written.{plain_path}
use Rattle.smv_names.proofs.WaitLemmas.{member_at}
use Rattle.smv_names.proofs.tables.text_row.Goals as goal

pub number_named-requires : goal.number_named-requires
number_named-requires c =
    let ask = c.requires.numbers in
    let s = member_at (instances ask.0) c.args.i ask.2 in
    (ask.0, s.0, plain_path c.in-Some.path.now, c.in_ok-named-in-Some.ensures ask.0 s.0 ask.1 s.1, ask.3)

pub size_named-requires : goal.size_named-requires
size_named-requires c =
    let ask = c.requires.sizes in
    let s = member_at (instances ask.0) c.args.i ask.2 in
    (ask.0, s.0, plain_path c.in-Some.path.now, c.in_ok-named-in-Some.ensures ask.0 s.0 ask.1 s.1, ask.3)

pub end_named-requires : goal.end_named-requires
end_named-requires c =
    let ask = c.requires.ends in
    let s = member_at (instances ask.0) c.args.i ask.2 in
    (ask.0, s.0, plain_path c.in-Some.path.now, ask.1, ask.3, c.in_ok-named-in-Some.ensures ask.0 s.0 ask.1 s.1)

pub returns-in_ok-named-in-Some : goal.returns-in_ok-named-in-Some
returns-in_ok-named-in-Some c = λ p s targets at text numbers sizes ends.
    let q = plain_path c.in-Some.path.now in
    let is : plain_expr c.args.text.now ≡ Expr.At q = c.in-Some.ensures.some in
    let named = c.in_ok-named-in-Some.ensures p s targets at in
    record {
      number = subst (λ e. IsNumber p s e c.number_named.result) (sym is) (c.number_named.ensures p s q named (subst (λ e. AreNumbersIn p c.args.numbers.now s (mentions e)) is numbers));
      size = subst (λ e. IsSizeOf p s e c.size_named.result) (sym is) (c.size_named.ensures p s q named (subst (λ e. AreSizesIn p c.args.sizes.now s (mentions e)) is sizes));
      end = c.end_named.ensures p s (plain_expr c.args.text.now) q targets text (ap bare is) named ends;
    }
