-- The laws on a small model: x stays at 0, goes from 1 to 2, and stays there. `AG x < 2` is true at 0 and false at 1.
use Rattle.std.proofs.Common.{◌≡◌, ℕ, zero, suc, ◌<◌, [], ◌∷◌, length, get_or, true, false, not, refl, sym, ◌∙◌, ap, subst, arith, lit<}
use Rattle.std.specs.Prelude.{Contains, IsTrue}
use Rattle.std.proofs.lemmas.Bool.{false≢true}
use Rattle.std.proofs.lemmas.List.Elements.{All-nil, All-cons}
use Rattle.kripke_model.specs.declared.expressions.BinOp.{BinOp}
use Rattle.kripke_model.specs.declared.models.Part.{Part}
use Rattle.kripke_model.specs.Term.{Term, esac, arm}
use Rattle.kripke_model.specs.System.{System, Variable, Assignment, State, value_in}
use Rattle.kripke_model.specs.Evaluation.{same, runs, Holds}
use Rattle.kripke_model.specs.Step.{IsState, Step, Initial, IsValueOf, IsDriven, HasNextAssign, IsCurrent, Assigned}
use Rattle.kripke_model.specs.Truth.{Sat, Initials}
use Rattle.kripke_model.proofs.Latch.{num, Contains-only}
use Rattle.path_laws.specs.StateSet.{StateSet, ◌∈◌}
use Rattle.path_laws.specs.Live.{IsLive}
use Rattle.path_laws.specs.Reach.{Reaches, IsBackwardReach}
use Rattle.path_laws.specs.Invariant.{invariant, Violates}
use Rattle.path_laws.proofs.Runs.{reaches_at, reaches_before}
use Rattle.path_laws.proofs.Extension.{runs_extend}
use Rattle.path_laws.proofs.Invariant.{invariant_exact, invariant_decided}

abbrev pub next_term : Term
next_term = Term.Case (arm (Term.Binary BinOp.Eq (Term.Var 0) (Term.Const (num 1))) (Term.Const (num 2)) (arm (Term.Const (num 1)) (Term.Var 0) esac))

abbrev pub below_two : Term
below_two = Term.Binary BinOp.Lt (Term.Var 0) (Term.Const (num 2))

abbrev pub init_x : Assignment
init_x = record { part = Part.Init; var = 0; process = 0; right = Term.Const (num 0); line = 2 }

abbrev pub next_x : Assignment
next_x = record { part = Part.Next; var = 0; process = 0; right = next_term; line = 3 }

abbrev pub x_var : Variable
x_var = record { name = 120 ∷ []; values = num 0 ∷ num 1 ∷ num 2 ∷ []; line = 1 }

abbrev pub chain : System
chain = record {
  symbols = [];
  vars = x_var ∷ [];
  selector = false;
  processes = (109 ∷ 97 ∷ 105 ∷ 110 ∷ []) ∷ [];
  assigns = init_x ∷ next_x ∷ [];
  inits = [];
  invars = [];
  trans = [];
  constraints = [];
  specs = [];
}

abbrev pub state : ℕ → State
state x = num x ∷ []

-- ---- states and steps

by_state : (P : State → Type 0) → P (state 0) → P (state 1) → P (state 2) → (s : State) → IsState chain s → P s
by_state P a b c [] h = absurd (omega (arith, h.each))
by_state P a b c (v ∷ []) h = by_value (h.typed 0 x_var (lit< tt))
  where
    by_value : Contains (num 0 ∷ num 1 ∷ num 2 ∷ []) v → P (v ∷ [])
    by_value (zero, l, e) = subst (λ w. P (w ∷ [])) e a
    by_value (suc zero, l, e) = subst (λ w. P (w ∷ [])) e b
    by_value (suc (suc zero), l, e) = subst (λ w. P (w ∷ [])) e c
    by_value (suc (suc (suc k)), l, e) = absurd (omega arith)
by_state P a b c (v ∷ w ∷ s) h = let e : suc (suc (length s)) ≡ 1 = h.each in absurd (omega arith)

is_state_of : (x : ℕ) → Contains (num 0 ∷ num 1 ∷ num 2 ∷ []) (num x) → IsState chain (state x)
is_state_of x c = record { each = refl; typed = typed }
  where
    typed : (k : ℕ) (v : Variable) → k < 1 → Contains (get_or chain.vars k v).values (value_in (state x) k)
    typed zero v h = c
    typed (suc k) v h = absurd (omega arith)

-- with no selector, the process is selected
kept : (s t : State) (x : ℕ) → HasNextAssign chain x → (IsDriven chain s x → ⊥) → value_in t x ≡ value_in s x
kept s t x h n = absurd (n (h.0, h.1, h.2, h.3, (h.4.0, h.4.1, refl)))

by_parts : (part : Part) (R : Assignment → Type 0) → (Part.Init ≡ part → R init_x) → (Part.Next ≡ part → R next_x) → Assigned chain part R
by_parts part R a b =
    let P : Assignment → Type 0 = λ c. c.part ≡ part → R c in
    All-cons P init_x (next_x ∷ []) a (All-cons P next_x [] b (All-nil P))

current : (s : State) → IsCurrent chain s
current s = by_parts Part.Now (λ a. IsValueOf chain a.right s s (value_in s a.var)) (λ e. absurd cc) (λ e. absurd cc)

step_of : (s t : State) → IsValueOf chain next_term s t (value_in t 0) → Step chain s t
step_of s t v = record {
  assigned = by_parts Part.Next (λ a. IsTrue (runs chain s a.process) → IsValueOf chain a.right s t (value_in t a.var)) (λ e. absurd cc) (λ _ _. v);
  kept = kept s t;
  constrained = All-nil (λ c. Holds chain c.expr s t);
  current_before = current s;
  current_after = current t;
  invariant_before = All-nil (λ c. Holds chain c.expr s s);
  invariant_after = All-nil (λ c. Holds chain c.expr t t);
}

stepped : (s t : State) → Step chain s t → IsValueOf chain next_term s t (value_in t 0)
stepped s t h = h.assigned 1 next_x (lit< tt) refl refl

zero_state : IsState chain (state 0)
zero_state = is_state_of 0 (0, lit< tt, refl)

one_state : IsState chain (state 1)
one_state = is_state_of 1 (1, lit< tt, refl)

two_state : IsState chain (state 2)
two_state = is_state_of 2 (2, lit< tt, refl)

pub live : IsLive chain
live = by_state (λ s. (t : State) × IsState chain t × Step chain s t)
    (state 0, zero_state, step_of (state 0) (state 0) (0, lit< tt, refl))
    (state 2, two_state, step_of (state 1) (state 2) (0, lit< tt, refl))
    (state 2, two_state, step_of (state 2) (state 2) (0, lit< tt, refl))

-- ---- the set

abbrev pub not_zero : StateSet
not_zero s = not (same (value_in s 0) (num 0))

from_two : Reaches chain (Violates chain below_two) (state 2)
from_two = reaches_at chain (Violates chain below_two) (state 2) two_state (λ e. absurd cc)

from_one : Reaches chain (Violates chain below_two) (state 1)
from_one = reaches_before chain (Violates chain below_two) (state 1) (state 2) one_state (step_of (state 1) (state 2) (0, lit< tt, refl)) from_two

stays_at_zero : (t : State) → Step chain (state 0) t → t ∈ not_zero → ⊥
stays_at_zero t step inside =
    let c : Contains (num 0 ∷ []) (value_in t 0) = stepped (state 0) t step in
    let e : true ≡ false = sym inside ∙ ap (λ v. not (same v (num 0))) (sym (Contains-only _ _ c)) in
    false≢true (sym e)

pub reach : IsBackwardReach chain (Violates chain below_two) not_zero
reach = record {
  goal = by_state (λ s. (Holds chain below_two s s → ⊥) → s ∈ not_zero) (λ fails. absurd (fails refl)) (λ fails. refl) (λ fails. refl);
  before = λ s t is_state _. by_state (λ s. Step chain s t → t ∈ not_zero → s ∈ not_zero) (λ step inside. absurd (stays_at_zero t step inside)) (λ step inside. refl) (λ step inside. refl) s is_state;
  reaches = by_state (λ s. s ∈ not_zero → Reaches chain (Violates chain below_two) s) (λ inside. absurd (false≢true inside)) (λ inside. from_one) (λ inside. from_two);
}

-- ---- what the laws say of it

pub true_at_zero : Sat chain (invariant below_two) (state 0)
true_at_zero = (invariant_exact chain (runs_extend chain live refl) below_two not_zero reach (state 0) zero_state).1 false≢true

pub false_at_one : Sat chain (invariant below_two) (state 1) → ⊥
false_at_one = (invariant_exact chain (runs_extend chain live refl) below_two not_zero reach (state 1) one_state).0 refl

initially : (s : State) → Initial chain s → s ∈ not_zero → ⊥
initially s h inside =
    let c : Contains (num 0 ∷ []) (value_in s 0) = h.assigned 0 init_x (lit< tt) refl in
    let e : true ≡ false = sym inside ∙ ap (λ v. not (same v (num 0))) (sym (Contains-only _ _ c)) in
    false≢true (sym e)

pub holds_initially : Initials chain (invariant below_two)
holds_initially = (invariant_decided chain (runs_extend chain live refl) below_two not_zero reach).0 (λ s is_state. initially s)
