use Rattle.smv_session.proofs.rechecking.test_over.Goals as goal

pub test_each-requires-clause-begun : goal.test_each-requires-clause-begun
test_each-requires-clause-begun c = c.new-answers.ensures c.args.model.now c.args.limit c.args.file.now.order
