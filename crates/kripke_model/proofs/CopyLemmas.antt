-- Lists of equal trees are read alike.
use Rattle.std.proofs.Common.{◌≡◌, List, [], ◌∷◌, map, sym, ◌∙◌, ap, refl}
use Rattle.kripke_model.specs.declared.expressions.Expr.{Expr}
use Rattle.kripke_model.specs.declared.expressions.Arm.{Arm}
use Rattle.kripke_model.specs.Term.{Term, Terms, Arms, none, more, esac, arm}
use Rattle.kripke_model.specs.Reading.{term_of, terms_in, arms_in, arm_of}

abbrev terms_from : List Term → Terms
terms_from [] = none
terms_from (e ∷ es) = more e (terms_from es)

abbrev arms_from : List (Term × Term) → Arms
arms_from [] = esac
arms_from (a ∷ rest) = arm a.0 a.1 (arms_from rest)

read_elements : (es : List Expr) → terms_in es ≡ terms_from (map term_of es)
read_elements [] = refl
read_elements (e ∷ es) = ap (more (term_of e)) (read_elements es)

read_arms : (arms : List Arm) → arms_in arms ≡ arms_from (map arm_of arms)
read_arms [] = refl
read_arms (a ∷ rest) = ap (arm (term_of a.guard) (term_of a.right)) (read_arms rest)

pub same_elements : (xs ys : List Expr) → map term_of xs ≡ map term_of ys → terms_in xs ≡ terms_in ys
same_elements xs ys e = read_elements xs ∙ ap terms_from e ∙ sym (read_elements ys)

pub same_arms : (xs ys : List Arm) → map arm_of xs ≡ map arm_of ys → arms_in xs ≡ arms_in ys
same_arms xs ys e = read_arms xs ∙ ap arms_from e ∙ sym (read_arms ys)
