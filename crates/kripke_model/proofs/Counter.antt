-- The definitions on a counter of three bits: each step counts one up, and from 7 it goes to 0.
use Rattle.std.proofs.Common.{◌≡◌, ℕ, zero, suc, ◌+◌, ◌/◌, ◌%◌, ◌<◌, [], ◌∷◌, refl, false, arith, sym, lit<, subst}
use Rattle.std.specs.Prelude.{Contains, IsTrue}
use Rattle.std.proofs.lemmas.List.Elements.{All-nil, All-from_recursion}
use Rattle.kripke_model.specs.declared.expressions.Value.{Value}
use Rattle.kripke_model.specs.declared.expressions.BinOp.{BinOp}
use Rattle.kripke_model.specs.declared.expressions.PathOp.{PathOp}
use Rattle.kripke_model.specs.declared.models.Part.{Part}
use Rattle.kripke_model.specs.Term.{Term}
use Rattle.kripke_model.specs.System.{System, Variable, Assignment, State, value_in}
use Rattle.kripke_model.specs.Evaluation.{values, runs, Holds}
use Rattle.kripke_model.specs.Size.{term_nodes}
use Rattle.kripke_model.specs.Step.{Step, IsValueOf, IsDriven, HasNextAssign, IsCurrent}
use Rattle.kripke_model.proofs.Latch.{num, bit, Contains-only}
use Rattle.kripke_model.proofs.Examples.{constant, main_name, is_only}

-- what is carried into bit i: 1 into the first one, `value & carry_in` of a cell into the next one
abbrev pub carry : ℕ → Term
carry zero = constant 1
carry (suc i) = Term.Binary BinOp.And (Term.Var i) (carry i)

-- `value + carry_in mod 2`
abbrev pub added : ℕ → Term
added i = Term.Binary BinOp.Mod (Term.Binary BinOp.Add (Term.Var i) (carry i)) (constant 2)

abbrev pub init_bit : ℕ → Assignment
init_bit i = record { part = Part.Init; var = i; process = 0; right = constant 0; line = 11 }

abbrev pub next_bit : ℕ → Assignment
next_bit i = record { part = Part.Next; var = i; process = 0; right = added i; line = 12 }

abbrev pub cell : ℕ → Variable
cell i = record { name = 98 ∷ (48 + i) ∷ []; values = bit; line = 9 }

abbrev pub counter : System
counter = record {
  symbols = [];
  vars = cell 0 ∷ cell 1 ∷ cell 2 ∷ [];
  selector = false;
  processes = main_name ∷ [];
  assigns = init_bit 0 ∷ next_bit 0 ∷ init_bit 1 ∷ next_bit 1 ∷ init_bit 2 ∷ next_bit 2 ∷ [];
  inits = [];
  invars = [];
  trans = [];
  constraints = [];
  specs = record { expr = Term.Quant PathOp.AG (Term.Quant PathOp.AF (carry 3)); line = 6 } ∷ [];
}

-- the state of count n: its bits, the lowest one first
abbrev pub count : ℕ → State
count n = num (n % 2) ∷ num (n / 2 % 2) ∷ num (n / 4 % 2) ∷ []

-- ---- values

-- the right sides at count n have the bits of the next count alone
abbrev CountsOn : ℕ → State → Type 0
CountsOn n t =
    (values counter (added 0) (count n) t ≡ num ((n + 1) % 2) ∷ [])
    × (values counter (added 1) (count n) t ≡ num ((n + 1) / 2 % 2) ∷ [])
    × (values counter (added 2) (count n) t ≡ num ((n + 1) / 4 % 2) ∷ [])

pub counts_on : (n : ℕ) → n < 8 → (t : State) → CountsOn n t
counts_on zero h t = (refl, refl, refl)
counts_on (suc zero) h t = (refl, refl, refl)
counts_on (suc (suc zero)) h t = (refl, refl, refl)
counts_on (suc (suc (suc zero))) h t = (refl, refl, refl)
counts_on (suc (suc (suc (suc zero)))) h t = (refl, refl, refl)
counts_on (suc (suc (suc (suc (suc zero))))) h t = (refl, refl, refl)
counts_on (suc (suc (suc (suc (suc (suc zero)))))) h t = (refl, refl, refl)
counts_on (suc (suc (suc (suc (suc (suc (suc zero))))))) h t = (refl, refl, refl)
counts_on (suc (suc (suc (suc (suc (suc (suc (suc k)))))))) h t = absurd (omega arith)

-- the last carry is 1 at count 7
pub carried_at_7 : values counter (carry 3) (count 7) (count 7) ≡ num 1 ∷ []
carried_at_7 = refl

pub not_carried_at_6 : values counter (carry 3) (count 6) (count 6) ≡ num 0 ∷ []
not_carried_at_6 = refl

-- after 7 comes 0
pub comes_round : count 8 ≡ count 0
comes_round = refl

-- each operator, constant and variable is one node
pub nodes_of_second_bit : term_nodes (added 1) ≡ 7
nodes_of_second_bit = refl

-- ---- steps

-- with no selector, each process is selected
kept : (s t : State) (x : ℕ) → HasNextAssign counter x → (IsDriven counter s x → ⊥) → value_in t x ≡ value_in s x
kept s t x h n = absurd (n (h.0, h.1, h.2, h.3, (h.4.0, h.4.1, refl)))

current : (s : State) → IsCurrent counter s
current s =
    let P : Assignment → Type 0 = λ a. a.part ≡ Part.Now → IsValueOf counter a.right s s (value_in s a.var) in
    All-from_recursion P counter.assigns (λ e. absurd cc, (λ e. absurd cc, (λ e. absurd cc, (λ e. absurd cc, (λ e. absurd cc, (λ e. absurd cc, tt))))))

steps : (s t : State) → IsValueOf counter (added 0) s t (value_in t 0) → IsValueOf counter (added 1) s t (value_in t 1) → IsValueOf counter (added 2) s t (value_in t 2) → Step counter s t
steps s t a b c = record {
  assigned =
      let P : Assignment → Type 0 = λ a. a.part ≡ Part.Next → IsTrue (runs counter s a.process) → IsValueOf counter a.right s t (value_in t a.var) in
      All-from_recursion P counter.assigns (λ e. absurd cc, (λ _ _. a, (λ e. absurd cc, (λ _ _. b, (λ e. absurd cc, (λ _ _. c, tt))))));
  kept = kept s t;
  constrained = All-nil (λ c. Holds counter c.expr s t);
  current_before = current s;
  current_after = current t;
  invariant_before = All-nil (λ c. Holds counter c.expr s s);
  invariant_after = All-nil (λ c. Holds counter c.expr t t);
}

-- each count below 8 steps to the next one
pub counts : (n : ℕ) → n < 8 → Step counter (count n) (count (n + 1))
counts n h =
    let v : CountsOn n (count (n + 1)) = counts_on n h (count (n + 1)) in
    steps (count n) (count (n + 1)) (is_only v.0) (is_only v.1) (is_only v.2)

-- and to no other state
pub counts_alone : (n : ℕ) → n < 8 → (a b c : Value) → Step counter (count n) (a ∷ b ∷ c ∷ []) → a ∷ b ∷ c ∷ [] ≡ count (n + 1)
counts_alone n h a b c move =
    let t : State = a ∷ b ∷ c ∷ [] in
    let v : CountsOn n t = counts_on n h t in
    let x : num ((n + 1) % 2) ≡ a = Contains-only _ _ (subst (λ vs. Contains vs a) v.0 (move.assigned 1 (next_bit 0) (lit< tt) refl refl)) in
    let y : num ((n + 1) / 2 % 2) ≡ b = Contains-only _ _ (subst (λ vs. Contains vs b) v.1 (move.assigned 3 (next_bit 1) (lit< tt) refl refl)) in
    let z : num ((n + 1) / 4 % 2) ≡ c = Contains-only _ _ (subst (λ vs. Contains vs c) v.2 (move.assigned 5 (next_bit 2) (lit< tt) refl refl)) in
    λ i. sym x i ∷ sym y i ∷ sym z i ∷ []
