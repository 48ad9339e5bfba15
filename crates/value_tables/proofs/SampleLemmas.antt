-- The model of the tests is one that a program can have.
use Rattle.std.proofs.Common.{ℕ, ◌≤◌, List, [], ◌∷◌, length, map, refl, lit<, lit≤}
use Rattle.std.specs.Prelude.{pos}
use Rattle.std.specs.Str.{bytes_eq}
use Rattle.std.proofs.lemmas.List.Elements.{All-from_recursion}
use Rattle.kripke_model.specs.declared.expressions.Value.{Value}
use Rattle.kripke_model.specs.declared.expressions.Value.TheVariants.{Number}
use Rattle.kripke_model.specs.Evaluation.{same}
use Rattle.kripke_model.specs.Evaluable.{IsKnown}
use Rattle.kripke_model.specs.Names.{IsAtom, IsVariableName}
use Rattle.kripke_model.specs.System.{Variable}
use Rattle.kripke_model.specs.Flat.{IsFlat, IsWellTyped}
use Rattle.kripke_model.proofs.ValueLemmas.{same_self}
use Rattle.bit_encode.specs.Rows.{variable}
use Rattle.bit_encode.proofs.RowLemmas.{flat_with, distinct_by, name_of, bytes_self}
use Rattle.value_tables.specs.Rows.{counter_model}

typed : (name : List ℕ) → IsWellTyped (variable name (Number (pos 0) ∷ Number (pos 1) ∷ [])) counter_model
typed name =
    let values : List Value = Number (pos 0) ∷ Number (pos 1) ∷ [] in
    record { some_value = lit< tt; distinct = distinct_by same same_self values refl; known = All-from_recursion (IsKnown counter_model) values (tt, (tt, tt)) }

pub flat_counter : IsFlat counter_model
flat_counter =
    let vars : List Variable = counter_model.vars in
    flat_with [] vars (lit≤ tt)
    (All-from_recursion (λ (v : Variable). length v.values ≤ 1024) vars (lit≤ tt, (lit≤ tt, tt)))
    (All-from_recursion IsAtom [] tt)
    (distinct_by bytes_eq bytes_self [] refl)
    (All-from_recursion (λ (v : Variable). IsVariableName v.name) vars (name_of (108 ∷ 111 ∷ 119 ∷ []) refl, (name_of (104 ∷ 105 ∷ 103 ∷ 104 ∷ []) refl, tt)))
    (distinct_by bytes_eq bytes_self (map (λ (v : Variable). v.name) vars) refl)
    (All-from_recursion (λ (v : Variable). IsWellTyped v counter_model) vars (typed (108 ∷ 111 ∷ 119 ∷ []), (typed (104 ∷ 105 ∷ 103 ∷ 104 ∷ []), tt)))
