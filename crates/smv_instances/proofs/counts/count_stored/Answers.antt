use Rattle.std.proofs.Common.{◌≡◌, sym, ◌∙◌, ap, ◌+◌, ◌<◌, ◌≤◌, arith, ◌||◌, ◌++◌, ◌∷◌, [], Bool, true, false, refl}
use Rattle.smv_instances.specs.Plain.{plain_type}
use Rattle.smv_instances.specs.Declarations.{is_reversed, one_if, variable_count, variables_in}
use Rattle.smv_instances.proofs.CountLemmas.{counts_push, stored_count, stored_entity, stored_silent, stored_variables}
use Rattle.smv_instances.proofs.counts.count_stored.Goals as goal

pub returns-then-saturating_add-gt-MOST_VARIABLES : goal.returns-then-saturating_add-gt-MOST_VARIABLES
returns-then-saturating_add-gt-MOST_VARIABLES c = λ p s es e counts stored.
    let type = plain_type c.args.plain.now in
    let total = stored_count c.args.counts.now es e type counts stored in
    let rises : is_reversed type ≡ false = sym c.is_reversed.ensures ∙ c.if-is_reversed.false in
    let many : 256 < variables_in (es ++ (e ∷ [])) = omega (arith, total, counts.few, c.variable_count.ensures, c.saturating_add-variables.ensures, c.one_if.ensures, c.saturating_add.ensures, c.if-saturating_add-gt-MOST_VARIABLES.true) in
    stored_variables p (es ++ (e ∷ [])) s c.args.line e type stored c.in_ok-values.values rises c.in_ok-values.ensures (omega arith) many

or_none : (b : Bool) → b ≡ (b || false)
or_none true = refl
or_none false = refl

pub returns : goal.returns
returns c = λ p s es e counts stored.
    let type = plain_type c.args.plain.now in
    let total = stored_count c.args.counts.now es e type counts stored in
    let shape = stored_entity e type stored in
    let rises : is_reversed type ≡ false = sym c.is_reversed.ensures ∙ c.if-is_reversed.false in
    let fits : variables_in (es ++ (e ∷ [])) ≤ 256 = omega (arith, total, counts.few, c.variable_count.ensures, c.saturating_add-variables.ensures, c.one_if.ensures, c.saturating_add.ensures, c.if-saturating_add-gt-MOST_VARIABLES.false) in
    let sum : c.saturating_add-variables.result ≡ c.args.counts.now.variables + variable_count type = omega (arith, total, counts.few, c.variable_count.ensures, c.saturating_add-variables.ensures, c.one_if.ensures, c.saturating_add.ensures, c.if-saturating_add-gt-MOST_VARIABLES.false) in (
      counts_push c.args.counts.now (record { variables = c.saturating_add-variables.result; process = c.args.counts.now.process; instances = c.args.counts.now.instances }) es e counts
          (sum ∙ ap (λ n. c.args.counts.now.variables + n) (sym shape.2))
          (or_none c.args.counts.now.process ∙ ap (λ b. c.args.counts.now.process || b) (sym shape.1))
          (omega (arith, ap one_if shape.0))
          (omega (arith, total))
          counts.some,
      stored_silent p (es ++ (e ∷ [])) s c.args.line e type stored c.in_ok-values.values rises c.in_ok-values.ensures (omega arith) fits,
    )
