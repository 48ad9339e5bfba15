use Rattle.std.proofs.Common.{◌≡◌, refl, ◌∙◌, ap, subst, false, Some}
use Rattle.smv_instances.specs.Plain.{plain_expr}
use Rattle.smv_names.specs.declared.targets.Bracket.{Bracket}
use Rattle.smv_names.specs.declared.targets.Target.{Target as Held}
use Rattle.smv_names.specs.declared.targets.Target.TheVariants as held
use Rattle.smv_names.specs.Targets.{Resolves}
use Rattle.smv_names.proofs.ResolveLemmas.{element_found, element_other, is_array_held}
use Rattle.smv_names.proofs.walk.element.Goals as goal

pub returns-in_default : goal.returns-in_default
returns-in_default c p states s q read front = element_other p states s q (plain_expr c.args.index.now) c.args.front front (other c.args.front (λ home name plain indexes is. c.in_default.not-Stored home name plain indexes is))
  where
    other : (t : Held) → ((home : _) (name : _) (plain : _) (indexes : _) → t ≡ held.Stored home name plain indexes → ⊥) → is_array_held t ≡ false
    other (held.Stored home name plain indexes) never = absurd (never home name plain indexes refl)
    other (held.Reading home right node) never = refl
    other (held.Instance number) never = refl
    other (held.Constant place) never = refl

pub returns-in_default-array_of : goal.returns-in_default-array_of
returns-in_default-array_of c p states s q read front = element_other p states s q (plain_expr c.args.index.now) c.args.front front (ap is_array_held c.in-Stored.is ∙ c.in_default-array_of.ensures.none)

pub returns : goal.returns
returns c p states s q read front =
    let bracket : Bracket = record { low = c.in-Some.low; high = c.in-Some.high; scope = c.args.i; index = c.args.index } in
    element_found p states s q (plain_expr c.args.index.now) (held.Stored c.in-Stored.home c.in-Stored.name c.in-Stored.plain c.in-Stored.indexes) (held.Stored c.in-Stored.home c.in-Stored.name c.in-Some.inner c.push.new.self)
    bracket (refl, refl, c.in-Some.ensures.some, c.in_ok-push.ensures.items) read refl (subst (λ (t : Held). Resolves p s q (Some t)) c.in-Stored.is front)
