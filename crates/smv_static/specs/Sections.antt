-- The two rules on what may stand in an item, in one form.
use Rattle.std.specs.Prelude.{ℕ, List, IsFalse}
use Rattle.kripke_model.specs.declared.refusals.StaticRefusal.{StaticRefusal}
use Rattle.kripke_model.specs.Term.{Term}
use Rattle.kripke_model.specs.System.{System, Assignment, Condition}
use Rattle.kripke_model.specs.Refusing.{refuse, ◌then◌, first_of}
use Rattle.kripke_model.specs.Static.{StaticRule, HasNext, HasNextInNext, NextStandsWrong, HasFormula, is_formula, refused_condition}
use Rattle.smv_static.specs.declared.sections.ItemRule.{ItemRule}
use Rattle.smv_static.specs.declared.sections.Section.{Section}

-- what the rule refuses in a section
abbrev pub IsWrong : ItemRule → Section → Term → Type 0
IsWrong ItemRule.Next Section.State e = HasNext e
IsWrong ItemRule.Next Section.Step e = HasNextInNext e
IsWrong ItemRule.Next Section.Formula e = HasNext e
IsWrong ItemRule.Formula Section.State e = HasFormula e
IsWrong ItemRule.Formula Section.Step e = HasFormula e
IsWrong ItemRule.Formula Section.Formula e = IsFalse (is_formula e)

-- what it refuses in an assignment
abbrev pub IsWrongIn : ItemRule → Assignment → Type 0
IsWrongIn ItemRule.Next a = NextStandsWrong a
IsWrongIn ItemRule.Formula a = HasFormula a.right

abbrev pub refusal : ItemRule → ℕ → StaticRefusal
refusal ItemRule.Next line = StaticRefusal.NextNotAllowed line
refusal ItemRule.Formula line = StaticRefusal.FormulaNotAllowed line

abbrev pub assignments_rule : ItemRule → List Assignment → StaticRule
assignments_rule rule assigns
    = first_of assigns (λ a. refuse (refusal rule a.line) (IsWrongIn rule a))

abbrev pub conditions_rule : ItemRule → Section → List Condition → StaticRule
conditions_rule rule section cs = refused_condition (refusal rule) (IsWrong rule section) cs

-- the first item in flat order
abbrev pub items_rule : ItemRule → System → StaticRule
items_rule rule m = assignments_rule rule m.assigns
    then conditions_rule rule Section.State m.inits
    then conditions_rule rule Section.State m.invars
    then conditions_rule rule Section.Step m.trans
    then conditions_rule rule Section.Formula m.constraints
    then conditions_rule rule Section.Formula m.specs
