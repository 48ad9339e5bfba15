use Rattle.std.proofs.Common.{subst}
use Rattle.smv_instances.specs.declared.found.Found.{Found}
use Rattle.smv_instances.specs.Plain.{plain_expr, plain_type}
use Rattle.smv_instances.specs.Numbered.{IsFound}
use Rattle.smv_names.proofs.FoundLemmas.{child_meaning, defined_meaning, parameter_none, parameter_some, stored_meaning}
use Rattle.smv_names.proofs.walk.stands.Goals as goal

pub returns-in-Stored-clause-something : goal.returns-in-Stored-clause-something
returns-in-Stored-clause-something c p s x are at is holds = (_, stored_meaning p s x (plain_type c.in-Stored.field-0.now) (subst (λ (f : Found). IsFound p s x f) c.in-Stored.is is))

pub returns-in-Instance-clause-something : goal.returns-in-Instance-clause-something
returns-in-Instance-clause-something c p s x are at is holds = (_, child_meaning p s x c.in-Instance.field-0 (subst (λ (f : Found). IsFound p s x f) c.in-Instance.is is))

pub returns-in-Defined-clause-something : goal.returns-in-Defined-clause-something
returns-in-Defined-clause-something c p s x are at is holds = (_, defined_meaning p s x (plain_expr c.in-Defined.field-0.now) (subst (λ (f : Found). IsFound p s x f) c.in-Defined.is is))

pub returns-in-Some-clause-something : goal.returns-in-Some-clause-something
returns-in-Some-clause-something c p s x are at is holds =
    (_, parameter_some p s x c.in-Parameter.place c.in-Some.field-0.0 (plain_expr c.in-Some.field-0.1.now) (subst (λ (f : Found). IsFound p s x f) c.in-Parameter.is is) (c.in-Some.ensures.some p s are at))

pub returns-in-None-clause-nothing : goal.returns-in-None-clause-nothing
returns-in-None-clause-nothing c p s x are at is same = parameter_none p s x c.in-Parameter.place (subst (λ (f : Found). IsFound p s x f) c.in-Parameter.is is) (c.in-None.ensures.none p s are at)
