-- The states of a model are those of the types of its variables.
use Rattle.std.proofs.Common.{◌≡◌, ℕ, ◌<◌, length, get_or, Contains, [], sym, ◌∙◌, subst, arith}
use Rattle.std.proofs.lemmas.List.{get_or-map, length-map}
use Rattle.kripke_model.specs.System.{System, State, Variable, value_in}
use Rattle.kripke_model.specs.Step.{IsState}
use Rattle.kripke_model.specs.Flat.{AreDistinct}
use Rattle.bit_encode.specs.Code.{IsStateOf, HasDistinctValues, AllDistinct, types_of, values_of}

-- the type of a variable, at whatever variable stands for a missing one
type_at : (m : System) (x : ℕ) (v : Variable) → x < length m.vars → values_of (types_of m) x ≡ (get_or m.vars x v).values
type_at m x v l = get_or-map (λ (w : Variable). w.values) m.vars x v [] l

pub states_agree_to : (m : System) (s : State) → IsState m s → IsStateOf (types_of m) s
states_agree_to m s h =
    let count : length (types_of m) ≡ length m.vars = length-map m.vars (λ v. v.values) in
    record {
      each = h.each ∙ sym count;
      typed = λ x l. at x (omega arith);
    }
  where
    at : (x : ℕ) → x < length m.vars → Contains (values_of (types_of m) x) (value_in s x)
    at x l =
        let v : Variable = record { name = []; values = []; line = 0 } in
        subst (λ values. Contains values (value_in s x)) (sym (type_at m x v l)) (h.typed x v l)

pub states_agree_from : (m : System) (s : State) → IsStateOf (types_of m) s → IsState m s
states_agree_from m s h =
    let count : length (types_of m) ≡ length m.vars = length-map m.vars (λ v. v.values) in
    record {
      each = h.each ∙ count;
      typed = λ x v l. subst (λ values. Contains values (value_in s x)) (type_at m x v l) (h.typed x (omega arith));
    }

pub distinct_types : (m : System) → HasDistinctValues m → AllDistinct (types_of m)
distinct_types m h x d l =
    let v : Variable = record { name = []; values = d; line = 0 } in
    let known : x < length m.vars = omega (arith, length-map m.vars (λ (w : Variable). w.values)) in
    subst AreDistinct (sym (get_or-map (λ (w : Variable). w.values) m.vars x v d known)) (h x v known)
