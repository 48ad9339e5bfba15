use Rattle.std.proofs.Common.{IfSome, sym, ap, subst, ◌∙◌}
use Rattle.bdd_nodes.specs.Store.{triples}
use Rattle.bdd_ops.specs.Answer.{meaning_of}
use Rattle.bdd_ops.specs.Engine.{lists_of}
use Rattle.bdd_quantify.specs.Product.{IsEntry}
use Rattle.bdd_quantify.proofs.Products.{meaning-key}
use Rattle.bdd_quantify.proofs.entry.remember.Goals as goal

pub answer_law-requires-clause-value : goal.answer_law-requires-clause-value
answer_law-requires-clause-value c = λ bits.
    let s = c.args.engine.now.store in
    let lists = lists_of c.args.engine.now in
    let entry : IsEntry s lists c.args.f c.args.g c.args.answer c.in-Some.place = subst (λ o. IfSome o (IsEntry s lists c.args.f c.args.g c.args.answer)) c.in-Some.is c.requires in
    entry.product.value bits ∙ sym (ap (λ k. meaning_of lists (triples s) k bits) c.key.ensures ∙ meaning-key s lists c.args.f c.args.g c.in-Some.place bits)
