use Rattle.std.proofs.Common.{refl, ◌∙◌, ap}
use Rattle.smv_instantiate.specs.Items.{kind_of}
use Rattle.smv_instantiate.proofs.PartLemmas.{constraint_added, init_added, invar_added, spec_added, trans_added}
use Rattle.smv_instantiate.proofs.parts.push_condition.Goals as goal

pub returns-in_ok-push-in-Init : goal.returns-in_ok-push-in-Init
returns-in_ok-push-in-Init c = λ p items s d kind is are. init_added p items s c.args.parts.now _ are d c.args.flat is (kind ∙ ap kind_of c.in-Init.is) refl c.in_ok-push-in-Init.ensures.items refl refl refl refl

pub returns-in_ok-push-in-Invar : goal.returns-in_ok-push-in-Invar
returns-in_ok-push-in-Invar c = λ p items s d kind is are. invar_added p items s c.args.parts.now _ are d c.args.flat is (kind ∙ ap kind_of c.in-Invar.is) refl refl c.in_ok-push-in-Invar.ensures.items refl refl refl

pub returns-in_ok-push-in-Trans : goal.returns-in_ok-push-in-Trans
returns-in_ok-push-in-Trans c = λ p items s d kind is are. trans_added p items s c.args.parts.now _ are d c.args.flat is (kind ∙ ap kind_of c.in-Trans.is) refl refl refl c.in_ok-push-in-Trans.ensures.items refl refl

pub returns-in_ok-push-in-Spec : goal.returns-in_ok-push-in-Spec
returns-in_ok-push-in-Spec c = λ p items s d kind is are. spec_added p items s c.args.parts.now _ are d c.args.flat is (kind ∙ ap kind_of c.in-Spec.is) refl refl refl refl refl c.in_ok-push-in-Spec.ensures.items

pub returns-in_ok-push-in-Fairness : goal.returns-in_ok-push-in-Fairness
returns-in_ok-push-in-Fairness c = λ p items s d kind is are. constraint_added p items s c.args.parts.now _ are d c.args.flat is (kind ∙ ap kind_of c.in-Fairness.is) refl refl refl refl c.in_ok-push-in-Fairness.ensures.items refl
