use Rattle.std.proofs.Common.{refl, sym, subst, [], List}
use Rattle.smv_instances.specs.declared.found.Found.{Found}
use Rattle.smv_instances.specs.Plain.{plain_type}
use Rattle.smv_instances.specs.Instances.{Scope}
use Rattle.smv_instances.specs.Numbered.{IsFound}
use Rattle.smv_names.specs.declared.targets.Bracket.{Bracket}
use Rattle.smv_names.specs.Denotes.{Target, Finds}
use Rattle.smv_names.specs.Targets.{AreBrackets}
use Rattle.smv_names.proofs.FoundLemmas.{stored_meaning, child_meaning}
use Rattle.smv_names.proofs.walk.outcome_of.Goals as goal

pub parameter-requires : goal.parameter-requires
parameter-requires c =
    let is = subst (λ (f : Found). IsFound c.requires.0 c.requires.1 c.args.name.now f) c.in-Parameter.is c.requires.6 in
    c.requires.3.inside (record { instance = c.args.i; place = c.in-Parameter.formal }) c.requires.1 c.requires.4 is.1.0

pub defined-requires : goal.defined-requires
defined-requires c = (c.requires.0, c.requires.1, c.args.name.now, c.requires.2, c.requires.4, c.requires.5)

pub returns-in-Parameter : goal.returns-in-Parameter
returns-in-Parameter c p s nodes states at stands is = c.parameter.ensures p s c.args.name.now states (at, subst (λ (f : Found). IsFound p s c.args.name.now f) c.in-Parameter.is is)

pub returns-in-Stored : goal.returns-in-Stored
returns-in-Stored c p s nodes states at stands is =
    let declared = subst (λ (f : Found). IsFound p s c.args.name.now f) c.in-Stored.is is in (
      Target.Stored s c.args.name.now (plain_type c.in-Stored.plain.now) [],
      (at, refl, refl, subst (λ (bs : List Bracket). AreBrackets p bs []) (sym c.new.ensures.items) tt),
      Finds.direct (stored_meaning p s c.args.name.now (plain_type c.in-Stored.plain.now) declared),
    )

pub returns-in-Instance : goal.returns-in-Instance
returns-in-Instance c p s nodes states at stands is =
    let child = subst (λ (f : Found). IsFound p s c.args.name.now f) c.in-Instance.is is in
    (Target.Instance (Scope.Inside s c.args.name.now child.process child.actuals child.m), child.numbered, Finds.direct (child_meaning p s c.args.name.now c.in-Instance.number child))

pub returns-in-Defined : goal.returns-in-Defined
returns-in-Defined c p s nodes states at stands is = c.defined.ensures p s c.args.name.now nodes at stands (subst (λ (f : Found). IsFound p s c.args.name.now f) c.in-Defined.is is)
