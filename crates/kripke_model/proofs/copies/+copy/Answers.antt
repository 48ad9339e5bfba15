use Rattle.std.proofs.Common.{◌≡◌, ◌∙◌, ap, sym, map}
use Rattle.kripke_model.specs.Term.{Term}
use Rattle.kripke_model.specs.Reading.{term_of, terms_in, arms_in, arm_of}
use Rattle.kripke_model.proofs.CopyLemmas.{same_elements, same_arms}
use Rattle.kripke_model.proofs.ReadingLemmas.{braces_term, case_term}
use Rattle.kripke_model.proofs.copies.+copy.Goals as goal

pub copy_expression-returns-in_ok-copy_elements-in-Braces : goal.copy_expression-returns-in_ok-copy_elements-in-Braces
copy_expression-returns-in_ok-copy_elements-in-Braces t c =
    let copies = c.in_ok-copy_elements-in-Braces.field-0 in
    let same : terms_in copies.items ≡ terms_in c.in-Braces.elements.items = same_elements copies.items c.in-Braces.elements.items (c.in_ok-copy_elements-in-Braces.ensures ∙ ap (map term_of) c.deref-in-Braces.ensures.value) in
    braces_term copies ∙ ap Term.Braces same ∙ sym (ap term_of c.in-Braces.is ∙ braces_term c.in-Braces.elements)

pub copy_expression-returns-in_ok-copy_arms-in-Case : goal.copy_expression-returns-in_ok-copy_arms-in-Case
copy_expression-returns-in_ok-copy_arms-in-Case t c =
    let copies = c.in_ok-copy_arms-in-Case.field-0 in
    let same : arms_in copies.items ≡ arms_in c.in-Case.arms.items = same_arms copies.items c.in-Case.arms.items (c.in_ok-copy_arms-in-Case.ensures ∙ ap (map arm_of) c.deref-in-Case.ensures.value) in
    case_term copies ∙ ap Term.Case same ∙ sym (ap term_of c.in-Case.is ∙ case_term c.in-Case.arms)
