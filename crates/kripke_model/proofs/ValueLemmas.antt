-- The comparison of values finds exactly the equal ones.
use Rattle.std.proofs.Common.{◌≡◌, true, refl, ap}
use Rattle.std.proofs.lemmas.Bool.{eqb-true, eq-eqb}
use Rattle.std.proofs.lemmas.Bool.Decides.{Decides-int_eq}
use Rattle.kripke_model.specs.declared.expressions.Value.{Value}
use Rattle.kripke_model.specs.declared.expressions.Value.TheVariants.{Number, Symbol}
use Rattle.kripke_model.specs.Evaluation.{same}

pub same-true : (v w : Value) → same v w ≡ true → v ≡ w
same-true (Number i) (Number j) e = ap Number ((Decides-int_eq i j).0 e)
same-true (Symbol c) (Symbol d) e = ap Symbol (eqb-true c d e)
same-true (Number i) (Symbol d) e = absurd cc
same-true (Symbol c) (Number j) e = absurd cc

pub same_self : (v : Value) → same v v ≡ true
same_self (Number i) = (Decides-int_eq i i).1 refl
same_self (Symbol c) = eq-eqb c c refl
