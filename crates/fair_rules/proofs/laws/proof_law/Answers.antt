use Rattle.fair_rules.proofs.Theorems.{positive_sound, negative_sound, true_claim_sound, false_claim_sound, positive_exact, negative_exact}
use Rattle.fair_rules.proofs.laws.proof_law.Goals as goal

pub returns-clause-sets : goal.returns-clause-sets
returns-clause-sets c = λ visited avoided sets p f n proof.
    (positive_sound c.args.model.now visited avoided sets p f n proof, negative_sound c.args.model.now visited avoided sets p f n proof)

pub returns-clause-claims : goal.returns-clause-claims
returns-clause-claims c = λ visited avoided sets p f n proof.
    (true_claim_sound c.args.model.now visited avoided sets p f n proof, λ s. false_claim_sound c.args.model.now visited avoided sets p f n s proof)

pub returns-clause-exact : goal.returns-clause-exact
returns-clause-exact c = λ visited avoided sets p f n proof cover s is_state.
    (positive_exact c.args.model.now visited avoided sets p f n proof cover s is_state, negative_exact c.args.model.now visited avoided sets p f n proof cover s is_state)
