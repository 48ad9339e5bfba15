-- The values of an expression as a list to which they are added, each once.
use Rattle.std.specs.Prelude.{List, [], ◌∷◌, ◌++◌, if◌then◌else◌, Ok, Err}
use Rattle.kripke_model.specs.declared.expressions.Value.{Value}
use Rattle.kripke_model.specs.declared.expressions.Outcome.{Outcome}
use Rattle.kripke_model.specs.declared.expressions.Outcome.TheVariants.{Values, Fault}
use Rattle.kripke_model.specs.Evaluation.{Checked, ◌>>=◌, among}
use Rattle.single_states.specs.declared.evaluation.Summary.{Summary}

-- the values that an outcome lists, or its fault
abbrev pub result_of : Outcome → Checked (List Value)
result_of (Values vs) = Ok vs.items
result_of (Fault kind) = Err kind

-- the values with v among them
abbrev pub pushed : Value → List Value → List Value
pushed v vs = if among v vs then vs else vs ++ (v ∷ [])

-- the values, and then those of ws that are not there yet
abbrev pub pushed_all : List Value → List Value → List Value
pushed_all vs [] = vs
pushed_all vs (w ∷ ws) = pushed_all (pushed w vs) ws

-- the values, and then those of an expression that are not there yet; or its fault
abbrev pub added : List Value → Checked (List Value) → Checked (List Value)
added vs c = c >>= λ ws. Ok (pushed_all vs ws)

abbrev pub first_added : List Value → Checked Summary → Checked (List Value)
first_added vs x = x >>= λ a. Ok (pushed a.first vs)

-- what was gathered, or the fault that ended it
abbrev pub gathered : {A : Type 0} → Checked A → List Value → Checked (List Value)
gathered r vs = r >>= λ done. Ok vs
