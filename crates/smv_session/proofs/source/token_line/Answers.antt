use Rattle.smv_session.proofs.SourceLemmas.{line_of_token}
use Rattle.smv_session.proofs.source.token_line.Goals as goal

pub returns-in-Some : goal.returns-in-Some
returns-in-Some c =
    let there = c.in-Some.ensures.lookup in
    line_of_token c.args.text.now c.args.tokens.now c.args.at c.in-Some.token.now there.3.0 there.1
