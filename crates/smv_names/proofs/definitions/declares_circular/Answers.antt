use Rattle.std.proofs.Common.{subst, refl}
use Rattle.smv_instances.specs.declared.found.Found.TheVariants as found
use Rattle.smv_instances.specs.Plain.{plain_expr, plain_type}
use Rattle.smv_instances.specs.Entries.{Entity}
use Rattle.smv_instances.specs.Instances.{Scope}
use Rattle.smv_instances.specs.Numbered.{IsChild, IsFound}
use Rattle.smv_names.proofs.DefinitionLemmas.{child_numbered, no_child}
use Rattle.smv_names.proofs.definitions.declares_circular.Goals as goal

pub has_circular-requires : goal.has_circular-requires
has_circular-requires c =
    let p = c.requires.0 in
    let s = c.requires.1 in
    let e = c.requires.2 in
    let child : IsChild p s e.name c.in-Instance.number = subst (λ f. IsFound p s e.name f) c.in-Instance.is (c.found_at.ensures p s e c.requires.3.started.instances_are c.requires.5 c.requires.6) in
    (p, Scope.Inside s e.name child.process child.actuals child.m, c.requires.3, c.requires.4, child.numbered)

pub returns-in-Instance : goal.returns-in-Instance
returns-in-Instance c = λ p s e child targets ordered at stands leads.
    let is : IsChild p s e.name c.in-Instance.number = subst (λ f. IsFound p s e.name f) c.in-Instance.is (c.found_at.ensures p s e targets.started.instances_are at stands) in
    c.has_circular.ensures p child targets ordered (child_numbered p c.args.instances.now c.args.i c.args.k c.in-Instance.number s e child targets.started.instances_are at stands is leads)

pub returns-in-Parameter : goal.returns-in-Parameter
returns-in-Parameter c = λ p s e child targets ordered at stands leads.
    let is : IsFound p s e.name (found.Parameter c.in-Parameter.field-0) = subst (λ f. IsFound p s e.name f) c.in-Parameter.is (c.found_at.ensures p s e targets.started.instances_are at stands) in
    absurd (no_child p c.args.instances.now c.args.i c.args.k s e child Entity.Parameter targets.started.instances_are at stands is.0 refl leads)

pub returns-in-Stored : goal.returns-in-Stored
returns-in-Stored c = λ p s e child targets ordered at stands leads.
    let is : IsFound p s e.name (found.Stored c.in-Stored.field-0) = subst (λ f. IsFound p s e.name f) c.in-Stored.is (c.found_at.ensures p s e targets.started.instances_are at stands) in
    absurd (no_child p c.args.instances.now c.args.i c.args.k s e child (Entity.Stored (plain_type c.in-Stored.field-0.now)) targets.started.instances_are at stands is refl leads)

pub returns-in-Defined : goal.returns-in-Defined
returns-in-Defined c = λ p s e child targets ordered at stands leads.
    let is : IsFound p s e.name (found.Defined c.in-Defined.field-0) = subst (λ f. IsFound p s e.name f) c.in-Defined.is (c.found_at.ensures p s e targets.started.instances_are at stands) in
    absurd (no_child p c.args.instances.now c.args.i c.args.k s e child (Entity.Defined (plain_expr c.in-Defined.field-0.now)) targets.started.instances_are at stands is refl leads)
