-- The definitions on two processes that share a semaphore: the right sides' values, and what a process that is not selected keeps.
use Rattle.std.proofs.Common.{◌≡◌, ℕ, ◌+◌, [], ◌∷◌, refl, true, arith, lit<}
use Rattle.std.specs.Prelude.{Contains, IsTrue, Ok}
use Rattle.kripke_model.specs.declared.expressions.Value.{Value}
use Rattle.kripke_model.specs.declared.expressions.Value.TheVariants.{Symbol}
use Rattle.kripke_model.specs.declared.expressions.BinOp.{BinOp}
use Rattle.kripke_model.specs.declared.expressions.PathOp.{PathOp}
use Rattle.kripke_model.specs.declared.models.Part.{Part}
use Rattle.kripke_model.specs.Term.{Term, none, more, esac, arm}
use Rattle.kripke_model.specs.System.{System, Variable, Assignment, State, value_in}
use Rattle.kripke_model.specs.Evaluation.{eval, runs}
use Rattle.kripke_model.specs.Step.{Step, IsDriven}
use Rattle.kripke_model.proofs.Latch.{num, bit, Contains-only}
use Rattle.kripke_model.proofs.Examples.{constant, main_name, running_name, none_meets, not_true}

abbrev pub idle : Value
idle = Symbol 0

abbrev pub entering : Value
entering = Symbol 1

abbrev pub critical : Value
critical = Symbol 2

abbrev pub exiting : Value
exiting = Symbol 3

-- variable x has the value
abbrev is_at : ℕ → Value → Term
is_at x v = Term.Binary BinOp.Eq (Term.Var x) (Term.Const v)

abbrev either : Value → Value → Term
either v w = Term.Braces (more (Term.Const v) (more (Term.Const w) none))

-- the next state of a user whose state is variable x; the semaphore is variable 1
abbrev pub next_state : ℕ → Term
next_state x =
    Term.Case (
    arm (is_at x idle) (either idle entering) (
    arm (Term.Binary BinOp.And (is_at x entering) (Term.Not (Term.Var 1))) (Term.Const critical) (
    arm (is_at x critical) (either critical exiting) (arm (is_at x exiting) (Term.Const idle) (arm (constant 1) (Term.Var x) esac))
    )
    )
    )

abbrev pub next_semaphore : ℕ → Term
next_semaphore x = Term.Case (arm (is_at x entering) (constant 1) (arm (is_at x exiting) (constant 0) (arm (constant 1) (Term.Var 1) esac)))

-- user p has its state in variable p + 1
abbrev pub state_assigned : ℕ → Assignment
state_assigned p = record { part = Part.Next; var = p + 1; process = p; right = next_state (p + 1); line = 15 }

abbrev pub semaphore_assigned : ℕ → Assignment
semaphore_assigned p = record { part = Part.Next; var = 1; process = p; right = next_semaphore (p + 1); line = 22 }

abbrev begins_idle : ℕ → Assignment
begins_idle p = record { part = Part.Init; var = p + 1; process = p; right = Term.Const idle; line = 14 }

abbrev begins_free : Assignment
begins_free = record { part = Part.Init; var = 1; process = 0; right = constant 0; line = 7 }

abbrev state_of : ℕ → Variable
state_of p = record { name = 112 ∷ (48 + p) ∷ 46 ∷ 115 ∷ []; values = idle ∷ entering ∷ critical ∷ exiting ∷ []; line = 12 }

abbrev pub users : System
users = record {
  symbols = (105 ∷ []) ∷ (101 ∷ []) ∷ (99 ∷ []) ∷ (120 ∷ []) ∷ [];
  vars = record { name = running_name; values = num 0 ∷ num 1 ∷ num 2 ∷ []; line = 4 } ∷ record { name = 115 ∷ []; values = bit; line = 3 } ∷ state_of 1 ∷ state_of 2 ∷ [];
  selector = true;
  processes = main_name ∷ (112 ∷ 49 ∷ []) ∷ (112 ∷ 50 ∷ []) ∷ [];
  assigns = begins_free ∷ begins_idle 1 ∷ state_assigned 1 ∷ semaphore_assigned 1 ∷ begins_idle 2 ∷ state_assigned 2 ∷ semaphore_assigned 2 ∷ [];
  inits = [];
  invars = [];
  trans = [];
  constraints = record { expr = Term.Running 1; line = 27 } ∷ record { expr = Term.Running 2; line = 27 } ∷ [];
  specs = record { expr = Term.Quant PathOp.AG (Term.Not (Term.Binary BinOp.And (is_at 2 critical) (is_at 3 critical))); line = 8 }
      ∷ record { expr = Term.Quant PathOp.AG (Term.Binary BinOp.Implies (is_at 2 entering) (Term.Quant PathOp.AF (is_at 2 critical))); line = 9 } ∷ [];
}

-- the selector, the semaphore, and both users' states
abbrev pub state : (selected semaphore first second : Value) → State
state selected semaphore first second = selected ∷ semaphore ∷ first ∷ second ∷ []

-- ---- values

-- at idle, where only the first condition is evaluated, whatever else is the case
pub from_idle : (r q : Value) (t : State) (s : Value) → eval users (next_state 2) (state r s idle q) t ≡ Ok (idle ∷ entering ∷ [])
from_idle r q t s = refl

pub from_entering : (r q : Value) (t : State) → eval users (next_state 2) (state r (num 0) entering q) t ≡ Ok (critical ∷ [])
from_entering r q t = refl

-- a user waits while the semaphore is 1
pub waiting : (r q : Value) (t : State) → eval users (next_state 2) (state r (num 1) entering q) t ≡ Ok (entering ∷ [])
waiting r q t = refl

pub from_critical : (r q : Value) (t : State) → eval users (next_state 2) (state r (num 1) critical q) t ≡ Ok (critical ∷ exiting ∷ [])
from_critical r q t = refl

pub from_exiting : (r q : Value) (t : State) → eval users (next_state 2) (state r (num 1) exiting q) t ≡ Ok (idle ∷ [])
from_exiting r q t = refl

pub taken : (r s q : Value) (t : State) → eval users (next_semaphore 2) (state r s entering q) t ≡ Ok (num 1 ∷ [])
taken r s q t = refl

pub given_back : (r s q : Value) (t : State) → eval users (next_semaphore 2) (state r s exiting q) t ≡ Ok (num 0 ∷ [])
given_back r s q t = refl

pub left_alone : (r s q : Value) (t : State) → eval users (next_semaphore 2) (state r s idle q) t ≡ Ok (s ∷ [])
left_alone r s q t = refl

-- ---- steps

-- the first user at idle stays there or enters, and leaves the semaphore
pub first_moves : (s q : Value) (t : State) → Step users (state (num 1) s idle q) t → Contains (idle ∷ entering ∷ []) (value_in t 2) × (s ≡ value_in t 1)
first_moves s q t move = (
  move.assigned 2 (state_assigned 1) (lit< tt) refl refl,
  Contains-only s (value_in t 1) (move.assigned 3 (semaphore_assigned 1) (lit< tt) refl refl),
)

-- the state of the second user is kept in a step of the first one
pub second_keeps : (s p q : Value) (t : State) → Step users (state (num 1) s p q) t → value_in t 3 ≡ q
second_keeps s p q t move = move.kept 3 (5, state_assigned 2, lit< tt, refl, (refl, refl)) not_driven
  where
    not_driven : IsDriven users (state (num 1) s p q) 3 → ⊥
    not_driven =
        let P : Assignment → Type 0 = λ a. (a.part ≡ Part.Next) × (a.var ≡ 3) × IsTrue (runs users (state (num 1) s p q) a.process) in
        none_meets P users.assigns (
          λ h. (let e = h.0 in absurd cc),
          (λ h. (let e = h.0 in absurd cc), (λ h. omega (arith, h.1), (λ h. omega (arith, h.1), (λ h. (let e = h.0 in absurd cc), (λ h. not_true h.2, (λ h. omega (arith, h.1), tt)))))),
        )

-- a step of main keeps the semaphore, though both users assign it
pub main_keeps_semaphore : (s p q : Value) (t : State) → Step users (state (num 0) s p q) t → value_in t 1 ≡ s
main_keeps_semaphore s p q t move = move.kept 1 (3, semaphore_assigned 1, lit< tt, refl, (refl, refl)) not_driven
  where
    not_driven : IsDriven users (state (num 0) s p q) 1 → ⊥
    not_driven =
        let P : Assignment → Type 0 = λ a. (a.part ≡ Part.Next) × (a.var ≡ 1) × IsTrue (runs users (state (num 0) s p q) a.process) in
        none_meets P users.assigns (
          λ h. (let e = h.0 in absurd cc),
          (λ h. (let e = h.0 in absurd cc), (λ h. not_true h.2, (λ h. not_true h.2, (λ h. (let e = h.0 in absurd cc), (λ h. not_true h.2, (λ h. not_true h.2, tt)))))),
        )
