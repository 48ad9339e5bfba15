-- The definitions on a ring of three inverter processes: the selected one turns its input round, and the selector is free.
use Rattle.std.proofs.Common.{◌≡◌, ◌⊎◌, inl, inr, ⊎_elim, ℕ, zero, suc, ◌+◌, ◌<◌, [], ◌∷◌, refl, true, false, arith, sym, ◌∙◌, ap, lit<, subst, get_or}
use Rattle.std.specs.Prelude.{Contains, Any, IsTrue, Ok}
use Rattle.std.proofs.lemmas.List.Elements.{All-nil, All-from_recursion}
use Rattle.kripke_model.specs.declared.expressions.Value.{Value}
use Rattle.kripke_model.specs.declared.expressions.BinOp.{BinOp}
use Rattle.kripke_model.specs.declared.expressions.PathOp.{PathOp}
use Rattle.kripke_model.specs.declared.models.Part.{Part}
use Rattle.kripke_model.specs.Term.{Term}
use Rattle.kripke_model.specs.Ctl.{Ctl, formula_of}
use Rattle.kripke_model.specs.System.{System, Variable, Assignment, Condition, State, value_in}
use Rattle.kripke_model.specs.Evaluation.{eval, runs, Holds}
use Rattle.kripke_model.specs.Step.{IsState, Step, IsValueOf, IsDriven, HasNextAssign, IsCurrent}
use Rattle.kripke_model.specs.Path.{Lasso, at, IsPath}
use Rattle.kripke_model.specs.Truth.{FreeSat, IsFair}
use Rattle.kripke_model.proofs.Latch.{num, bit, Any-only, zero_bit, one_bit}
use Rattle.kripke_model.proofs.Examples.{constant, main_name, running_name, none_meets, not_true}

-- the output of process p is variable p
abbrev pub inverted : ℕ → Term
inverted input = Term.Not (Term.Var input)

abbrev pub init_output : ℕ → Assignment
init_output p = record { part = Part.Init; var = p; process = p; right = constant 0; line = 11 }

abbrev pub next_output : (p input : ℕ) → Assignment
next_output p input = record { part = Part.Next; var = p; process = p; right = inverted input; line = 12 }

abbrev pub output_of : ℕ → Variable
output_of p = record { name = 103 ∷ (48 + p) ∷ 46 ∷ 111 ∷ []; values = bit; line = 9 }

abbrev pub running_fair : ℕ → Condition
running_fair p = record { expr = Term.Running p; line = 13 }

abbrev pub ring : System
ring = record {
  symbols = [];
  vars = record { name = running_name; values = num 0 ∷ num 1 ∷ num 2 ∷ num 3 ∷ []; line = 3 } ∷ output_of 1 ∷ output_of 2 ∷ output_of 3 ∷ [];
  selector = true;
  processes = main_name ∷ (103 ∷ 49 ∷ []) ∷ (103 ∷ 50 ∷ []) ∷ (103 ∷ 51 ∷ []) ∷ [];
  assigns = init_output 1 ∷ next_output 1 3 ∷ init_output 2 ∷ next_output 2 1 ∷ init_output 3 ∷ next_output 3 2 ∷ [];
  inits = [];
  invars = [];
  trans = [];
  constraints = running_fair 1 ∷ running_fair 2 ∷ running_fair 3 ∷ [];
  specs = record { expr = Term.Binary BinOp.And (Term.Quant PathOp.AG (Term.Quant PathOp.AF (Term.Var 1))) (Term.Quant PathOp.AG (Term.Quant PathOp.AF (Term.Not (Term.Var 1)))); line = 6 } ∷ [];
}

-- the selected process and the three outputs
abbrev pub state : (selected a b c : ℕ) → State
state selected a b c = num selected ∷ num a ∷ num b ∷ num c ∷ []

-- ---- `running`

pub running_is : (a b c : ℕ) (t : State) → eval ring (Term.Running 2) (state 2 a b c) t ≡ Ok (num 1 ∷ [])
running_is a b c t = refl

pub another_runs : (a b c : ℕ) (t : State) → eval ring (Term.Running 2) (state 1 a b c) t ≡ Ok (num 0 ∷ [])
another_runs a b c t = refl

pub main_runs : (a b c : ℕ) (t : State) → eval ring (Term.Running 2) (state 0 a b c) t ≡ Ok (num 0 ∷ [])
main_runs a b c t = refl

-- under `next` it speaks of the process that makes the step after this one
pub runs_next : (a b c d e f : ℕ) → eval ring (Term.Next (Term.Running 2)) (state 1 a b c) (state 2 d e f) ≡ Ok (num 1 ∷ [])
runs_next a b c d e f = refl

-- where there is no selector, it is 1
pub runs_alone : (s t : State) → eval (record ring { selector = false }) (Term.Running 0) s t ≡ Ok (num 1 ∷ [])
runs_alone s t = refl

-- ---- steps

-- the process is selected and turns its input round, or its output is kept
abbrev pub IsMove : State → State → (p input : ℕ) → Type 0
IsMove s t p input =
    (IsTrue (runs ring s p) × IsValueOf ring (inverted input) s t (value_in t p))
    ⊎ ((runs ring s p ≡ false) × (value_in t p ≡ value_in s p))

assigned : (s t : State) (p input : ℕ) → IsMove s t p input → IsTrue (runs ring s p) → IsValueOf ring (inverted input) s t (value_in t p)
assigned s t p input m r = ⊎_elim (λ h. h.1) (λ h. absurd (not_true (sym h.0 ∙ r))) m

kept_one : (s t : State) (p input : ℕ) → IsMove s t p input → (IsTrue (runs ring s p) → ⊥) → value_in t p ≡ value_in s p
kept_one s t p input m n = ⊎_elim (λ h. absurd (n h.0)) (λ h. h.1) m

current : (s : State) → IsCurrent ring s
current s =
    let P : Assignment → Type 0 = λ a. a.part ≡ Part.Now → IsValueOf ring a.right s s (value_in s a.var) in
    All-from_recursion P ring.assigns (λ e. absurd cc, (λ e. absurd cc, (λ e. absurd cc, (λ e. absurd cc, (λ e. absurd cc, (λ e. absurd cc, tt))))))

pub steps : (s t : State) → IsMove s t 1 3 → IsMove s t 2 1 → IsMove s t 3 2 → Step ring s t
steps s t a b c = record {
  assigned =
      let P : Assignment → Type 0 = λ x. x.part ≡ Part.Next → IsTrue (runs ring s x.process) → IsValueOf ring x.right s t (value_in t x.var) in
      All-from_recursion P ring.assigns (λ e. absurd cc, (λ _ r. assigned s t 1 3 a r, (λ e. absurd cc, (λ _ r. assigned s t 2 1 b r, (λ e. absurd cc, (λ _ r. assigned s t 3 2 c r, tt))))));
  kept = λ x h n. by_place x n h.0 h.1 h.2 h.3 h.4;
  constrained = All-nil (λ c. Holds ring c.expr s t);
  current_before = current s;
  current_after = current t;
  invariant_before = All-nil (λ c. Holds ring c.expr s s);
  invariant_after = All-nil (λ c. Holds ring c.expr t t);
}
  where
    Kept : ℕ → Type 0
    Kept x = (IsDriven ring s x → ⊥) → value_in t x ≡ value_in s x

    one : Kept 1
    one n = kept_one s t 1 3 a (λ r. n (1, next_output 1 3, lit< tt, refl, (refl, refl, r)))

    two : Kept 2
    two n = kept_one s t 2 1 b (λ r. n (3, next_output 2 1, lit< tt, refl, (refl, refl, r)))

    three : Kept 3
    three n = kept_one s t 3 2 c (λ r. n (5, next_output 3 2, lit< tt, refl, (refl, refl, r)))

    by_place : (x : ℕ) → (IsDriven ring s x → ⊥) → (k : ℕ) (y : Assignment) → k < 6 → get_or ring.assigns k y ≡ y → (y.part ≡ Part.Next) × (y.var ≡ x) → value_in t x ≡ value_in s x
    by_place x n zero y h e w = let i : Part.Init ≡ Part.Next = ap (λ a. a.part) e ∙ w.0 in absurd cc
    by_place x n (suc zero) y h e w = subst Kept (ap (λ a. a.var) e ∙ w.1) one n
    by_place x n (suc (suc zero)) y h e w = let i : Part.Init ≡ Part.Next = ap (λ a. a.part) e ∙ w.0 in absurd cc
    by_place x n (suc (suc (suc zero))) y h e w = subst Kept (ap (λ a. a.var) e ∙ w.1) two n
    by_place x n (suc (suc (suc (suc zero)))) y h e w = let i : Part.Init ≡ Part.Next = ap (λ a. a.part) e ∙ w.0 in absurd cc
    by_place x n (suc (suc (suc (suc (suc zero))))) y h e w = subst Kept (ap (λ a. a.var) e ∙ w.1) three n
    by_place x n (suc (suc (suc (suc (suc (suc k)))))) y h e w = absurd (omega arith)

-- an unselected process drives nothing
not_driven : (s : State) (p : ℕ) → runs ring s p ≡ false → IsDriven ring s p → ⊥
not_driven s p unselected =
    let P : Assignment → Type 0 = λ a. (a.part ≡ Part.Next) × (a.var ≡ p) × IsTrue (runs ring s a.process) in
    none_meets P ring.assigns (λ h. (let e = h.0 in absurd cc), (λ h. other 1 h.1 h.2, (λ h. (let e = h.0 in absurd cc), (λ h. other 2 h.1 h.2, (λ h. (let e = h.0 in absurd cc), (λ h. other 3 h.1 h.2, tt))))))
  where
    other : (q : ℕ) → q ≡ p → IsTrue (runs ring s q) → ⊥
    other q e r = not_true (sym unselected ∙ ap (runs ring s) (sym e) ∙ r)

-- the output of a process that is not selected is kept
pub keeps_output : (s t : State) (p : ℕ) → HasNextAssign ring p → runs ring s p ≡ false → Step ring s t → value_in t p ≡ value_in s p
keeps_output s t p h unselected move = move.kept p h (not_driven s p unselected)

moved : (s t : State) (p input : ℕ) → HasNextAssign ring p → (IsTrue (runs ring s p) → IsValueOf ring (inverted input) s t (value_in t p)) → Step ring s t → IsMove s t p input
moved s t p input h f move =
    elim (runs ring s p) as (λ b. runs ring s p ≡ b → IsMove s t p input) [
      | true ↦ (λ e. inl (e, f e))
      | false ↦ (λ e. inr (e, keeps_output s t p h e move))
    ] refl

-- a step moves each output so, and nothing else is asked of it
pub moves : (s t : State) → Step ring s t → IsMove s t 1 3 × IsMove s t 2 1 × IsMove s t 3 2
moves s t move = (
  moved s t 1 3 (1, next_output 1 3, lit< tt, refl, (refl, refl)) (λ r. move.assigned 1 (next_output 1 3) (lit< tt) refl r) move,
  moved s t 2 1 (3, next_output 2 1, lit< tt, refl, (refl, refl)) (λ r. move.assigned 3 (next_output 2 1) (lit< tt) refl r) move,
  moved s t 3 2 (5, next_output 3 2, lit< tt, refl, (refl, refl)) (λ r. move.assigned 5 (next_output 3 2) (lit< tt) refl r) move,
)

-- after a step any process may be selected
pub selector_is_free : (s : State) (p q a b c : Value) → Step ring s (p ∷ a ∷ b ∷ c ∷ []) → Step ring s (q ∷ a ∷ b ∷ c ∷ [])
selector_is_free s p q a b c move =
    let m = moves s (p ∷ a ∷ b ∷ c ∷ []) move in
    steps s (q ∷ a ∷ b ∷ c ∷ []) m.0 m.1 m.2

-- main assigns nothing, so its step keeps all outputs
pub main_keeps : (a b c q : ℕ) → Step ring (state 0 a b c) (state q a b c)
main_keeps a b c q = steps (state 0 a b c) (state q a b c) (inr (refl, refl)) (inr (refl, refl)) (inr (refl, refl))

-- process 1 turns the output of process 3 round
pub first_turns : Step ring (state 1 0 0 0) (state 2 1 0 0)
first_turns = steps (state 1 0 0 0) (state 2 1 0 0) (inl (refl, (0, lit< tt, refl))) (inr (refl, refl)) (inr (refl, refl))

-- an output does not change while another process makes the step
pub second_waits : (t : State) → Step ring (state 1 0 0 0) t → value_in t 2 ≡ num 0
second_waits t move = keeps_output (state 1 0 0 0) t 2 (3, next_output 2 1, lit< tt, refl, (refl, refl)) refl move

-- ---- fairness

-- main alone makes all steps
abbrev pub idle : Lasso
idle = record { stem = []; cycle = state 0 0 0 0 ∷ [] }

pub idle_path : IsPath ring idle
idle_path = record { loops = lit< tt; states = states; steps = rest }
  where
    states : (n : ℕ) → n < 1 → IsState ring (at idle n)
    states zero h = record { each = refl; typed = typed }
      where
        typed : (k : ℕ) (v : Variable) → k < 4 → Contains (get_or ring.vars k v).values (value_in (state 0 0 0 0) k)
        typed zero v h = (0, lit< tt, refl)
        typed (suc zero) v h = zero_bit
        typed (suc (suc zero)) v h = zero_bit
        typed (suc (suc (suc zero))) v h = zero_bit
        typed (suc (suc (suc (suc k)))) v h = absurd (omega arith)
    states (suc k) h = absurd (omega arith)

    rest : (n : ℕ) → n < 1 → Step ring (at idle n) (at idle (n + 1))
    rest zero h = main_keeps 0 0 0 0
    rest (suc k) h = absurd (omega arith)

-- it is a path, but no fair one: process 1 is never selected on it
pub idle_unfair : IsFair ring idle → ⊥
idle_unfair h =
    let w : Any (FreeSat ring (Ctl.Leaf (Term.Running 1))) (state 0 0 0 0 ∷ []) = h.met 0 (running_fair 1) (lit< tt) in
    let e = Any-only (FreeSat ring (Ctl.Leaf (Term.Running 1))) (state 0 0 0 0) w in
    cc

-- the processes in turn, for ever
abbrev pub in_turn : Lasso
in_turn = record {
  stem = state 1 0 0 0 ∷ state 2 1 0 0 ∷ [];
  cycle = state 3 1 0 0 ∷ state 1 1 0 1 ∷ state 2 0 0 1 ∷ state 3 0 1 1 ∷ state 1 0 1 0 ∷ state 2 1 1 0 ∷ [];
}

is_state : (p a b c : ℕ) → p < 4 → Contains bit (num a) → Contains bit (num b) → Contains bit (num c) → IsState ring (state p a b c)
is_state p a b c h x y z = record { each = refl; typed = typed }
  where
    typed : (k : ℕ) (v : Variable) → k < 4 → Contains (get_or ring.vars k v).values (value_in (state p a b c) k)
    typed zero v i = process p h
      where
        process : (p : ℕ) → p < 4 → Contains (num 0 ∷ num 1 ∷ num 2 ∷ num 3 ∷ []) (num p)
        process zero h = (0, lit< tt, refl)
        process (suc zero) h = (1, lit< tt, refl)
        process (suc (suc zero)) h = (2, lit< tt, refl)
        process (suc (suc (suc zero))) h = (3, lit< tt, refl)
        process (suc (suc (suc (suc k)))) h = absurd (omega arith)
    typed (suc zero) v i = x
    typed (suc (suc zero)) v i = y
    typed (suc (suc (suc zero))) v i = z
    typed (suc (suc (suc (suc k)))) v i = absurd (omega arith)

pub in_turn_path : IsPath ring in_turn
in_turn_path = record { loops = lit< tt; states = states; steps = turns }
  where
    states : (n : ℕ) → n < 8 → IsState ring (at in_turn n)
    states zero h = is_state 1 0 0 0 (lit< tt) zero_bit zero_bit zero_bit
    states (suc zero) h = is_state 2 1 0 0 (lit< tt) one_bit zero_bit zero_bit
    states (suc (suc zero)) h = is_state 3 1 0 0 (lit< tt) one_bit zero_bit zero_bit
    states (suc (suc (suc zero))) h = is_state 1 1 0 1 (lit< tt) one_bit zero_bit one_bit
    states (suc (suc (suc (suc zero)))) h = is_state 2 0 0 1 (lit< tt) zero_bit zero_bit one_bit
    states (suc (suc (suc (suc (suc zero))))) h = is_state 3 0 1 1 (lit< tt) zero_bit one_bit one_bit
    states (suc (suc (suc (suc (suc (suc zero)))))) h = is_state 1 0 1 0 (lit< tt) zero_bit one_bit zero_bit
    states (suc (suc (suc (suc (suc (suc (suc zero))))))) h = is_state 2 1 1 0 (lit< tt) one_bit one_bit zero_bit
    states (suc (suc (suc (suc (suc (suc (suc (suc k)))))))) h = absurd (omega arith)

    turns : (n : ℕ) → n < 8 → Step ring (at in_turn n) (at in_turn (n + 1))
    turns zero h = first_turns
    turns (suc zero) h = steps (state 2 1 0 0) (state 3 1 0 0) (inr (refl, refl)) (inl (refl, (0, lit< tt, refl))) (inr (refl, refl))
    turns (suc (suc zero)) h = steps (state 3 1 0 0) (state 1 1 0 1) (inr (refl, refl)) (inr (refl, refl)) (inl (refl, (0, lit< tt, refl)))
    turns (suc (suc (suc zero))) h = steps (state 1 1 0 1) (state 2 0 0 1) (inl (refl, (0, lit< tt, refl))) (inr (refl, refl)) (inr (refl, refl))
    turns (suc (suc (suc (suc zero)))) h = steps (state 2 0 0 1) (state 3 0 1 1) (inr (refl, refl)) (inl (refl, (0, lit< tt, refl))) (inr (refl, refl))
    turns (suc (suc (suc (suc (suc zero))))) h = steps (state 3 0 1 1) (state 1 0 1 0) (inr (refl, refl)) (inr (refl, refl)) (inl (refl, (0, lit< tt, refl)))
    turns (suc (suc (suc (suc (suc (suc zero)))))) h = steps (state 1 0 1 0) (state 2 1 1 0) (inl (refl, (0, lit< tt, refl))) (inr (refl, refl)) (inr (refl, refl))
    turns (suc (suc (suc (suc (suc (suc (suc zero))))))) h = steps (state 2 1 1 0) (state 3 1 0 0) (inr (refl, refl)) (inl (refl, (0, lit< tt, refl))) (inr (refl, refl))
    turns (suc (suc (suc (suc (suc (suc (suc (suc k)))))))) h = absurd (omega arith)

pub in_turn_fair : IsFair ring in_turn
in_turn_fair = record {
  path = in_turn_path;
  met =
      let P : Condition → Type 0 = λ c. Any (FreeSat ring (formula_of c.expr)) in_turn.cycle in
      All-from_recursion P ring.constraints ((1, state 1 1 0 1, lit< tt, refl, refl), ((2, state 2 0 0 1, lit< tt, refl, refl), ((0, state 3 1 0 0, lit< tt, refl, refl), tt)));
}
