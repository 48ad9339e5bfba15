-- The operators around a part of a formula, up to the next `AG`.
use Rattle.std.specs.Prelude.{ℕ, ◌+◌, ◌<◌, ◌≤◌}
use Rattle.kripke_model.specs.Ctl.{Ctl}
use Rattle.kripke_model.specs.Evaluation.{Holds}
use Rattle.kripke_model.specs.Falsifies.{FalsifiesFrom}
use Rattle.kripke_model.specs.Path.{Lasso, at, member_count}
use Rattle.kripke_model.specs.Reading.{term_of}
use Rattle.kripke_model.specs.System.{System, State}
use Rattle.kripke_model.specs.Term.{Term}
use Rattle.single_states.specs.Braces.{IsFilled}
use Rattle.trace_loop.specs.Places.{SameFrom}
use Rattle.trace_loop.specs.declared.above.Above.{Above, Nothing, Where', Unless', Next'}

-- the place to which they lead from place i
abbrev pub place_after : Above → ℕ → ℕ
place_after Nothing i = i
place_after (Where' e p up) i = place_after up i
place_after (Unless' e p up) i = place_after up i
place_after (Next' p up) i = place_after up i + 1

-- on the way each leaf lets it pass
abbrev pub IsLed : System → (ℕ → State) → Above → ℕ → Type 0
IsLed m w Nothing i = Unit {0}
IsLed m w (Where' e p up) i
    = IsLed m w up i × Holds m (term_of e.now) (w (place_after up i)) (w (place_after up i))
IsLed m w (Unless' e p up) i
    = IsLed m w up i × (Holds m (term_of e.now) (w (place_after up i)) (w (place_after up i)) → ⊥)
IsLed m w (Next' p up) i = IsLed m w up i

-- their leaves have no empty braces
abbrev pub AreFilled : Above → Type 0
AreFilled Nothing = Unit {0}
AreFilled (Where' e p up) = IsFilled (term_of e.now) × AreFilled up
AreFilled (Unless' e p up) = IsFilled (term_of e.now) × AreFilled up
AreFilled (Next' p up) = AreFilled up

-- they lead from place i to one from which the formula is falsified
abbrev pub FalsifiesBelow : System → (ℕ → State) → Above → Ctl → ℕ → Type 0
FalsifiesBelow m w above f i = IsLed m w above i × FalsifiesFrom m w f (place_after above i)

-- so from some place from first on below end
abbrev pub FalsifiesAmong : System → (ℕ → State) → Above → Ctl → ℕ → ℕ → Type 0
FalsifiesAmong m w above f first end
    = (i : ℕ) × (first ≤ i) × (i < end) × FalsifiesBelow m w above f i

-- they lead from place i to one from which the path goes on as from member j
abbrev pub IsLedTo : System → Lasso → Above → ℕ → ℕ → Type 0
IsLedTo m p above i j = IsLed m (at p) above i × (j < member_count p)
    × SameFrom (at p) (place_after above i) j

-- from no place from first on below end do they lead anywhere
abbrev pub IsNoneLed : System → (ℕ → State) → Above → ℕ → ℕ → Type 0
IsNoneLed m w above first end = (i : ℕ) → first ≤ i → i < end → IsLed m w above i → ⊥

-- so from the first place from first on below end from which they lead anywhere, and from the last
abbrev pub IsFirstLed : System → Lasso → Above → ℕ → ℕ → ℕ → Type 0
IsFirstLed m p above first end j
    = (i : ℕ) × (first ≤ i) × (i < end) × IsLedTo m p above i j × IsNoneLed m (at p) above first i

abbrev pub IsLastLed : System → Lasso → Above → ℕ → ℕ → ℕ → Type 0
IsLastLed m p above first end j = (i : ℕ) × (first ≤ i) × (i < end)
    × IsLedTo m p above i j × IsNoneLed m (at p) above (i + 1) end

-- n places behind place i e is 1, and d is before
abbrev pub IsMetAfter : System → (ℕ → State) → Term → Term → ℕ → ℕ → Type 0
IsMetAfter m w d e i n = Holds m e (w (i + n)) (w (i + n))
    × ((k : ℕ) → k < n → Holds m d (w (i + k)) (w (i + k)))
