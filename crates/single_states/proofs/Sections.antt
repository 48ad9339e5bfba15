-- The definitions on a model with a set-valued next value, a current value, an `INIT` and a `TRANS`:
-- `z := x; next(y) := {y, 2};`, `INIT y = 0` and `TRANS x -> !next(x)`.
use Rattle.std.proofs.Common.{◌≡◌, ℕ, zero, suc, false, List, [], ◌∷◌, refl, ap, arith, lit<}
use Rattle.std.specs.Prelude.{Contains, IsTrue, Ok}
use Rattle.std.proofs.lemmas.List.Elements.{All-nil, All-from_recursion}
use Rattle.kripke_model.specs.declared.expressions.Value.{Value}
use Rattle.kripke_model.specs.declared.expressions.BinOp.{BinOp}
use Rattle.kripke_model.specs.declared.models.Part.{Part}
use Rattle.kripke_model.specs.Term.{Term, none, more}
use Rattle.kripke_model.specs.System.{System, Assignment, Condition, State, value_in}
use Rattle.kripke_model.specs.Evaluation.{Checked, runs, Holds}
use Rattle.kripke_model.specs.Step.{Step, Initial, IsValueOf, IsCurrent, IsDriven, HasNextAssign}
use Rattle.kripke_model.proofs.Latch.{num, bit, Contains-only}
use Rattle.kripke_model.proofs.Examples.{constant, main_name, is_only}

abbrev pub tied_z : Assignment
tied_z = record { part = Part.Now; var = 2; process = 0; right = Term.Var 0; line = 4 }

abbrev pub rising_y : Assignment
rising_y = record { part = Part.Next; var = 1; process = 0; right = Term.Braces (more (Term.Var 1) (more (constant 2) none)); line = 5 }

abbrev pub begins : Condition
begins = record { expr = Term.Binary BinOp.Eq (Term.Var 1) (constant 0); line = 6 }

abbrev pub alternates : Condition
alternates = record { expr = Term.Binary BinOp.Implies (Term.Var 0) (Term.Not (Term.Next (Term.Var 0))); line = 7 }

abbrev pub sections : System
sections = record {
  symbols = [];
  vars = record { name = 120 ∷ []; values = bit; line = 2 } ∷ record { name = 121 ∷ []; values = num 0 ∷ num 1 ∷ num 2 ∷ []; line = 2 } ∷ record { name = 122 ∷ []; values = bit; line = 2 } ∷ [];
  selector = false;
  processes = main_name ∷ [];
  assigns = tied_z ∷ rising_y ∷ [];
  inits = begins ∷ [];
  invars = [];
  trans = alternates ∷ [];
  constraints = [];
  specs = [];
}

abbrev pub state : (x y z : ℕ) → State
state x y z = num x ∷ num y ∷ num z ∷ []

-- ---- initial states

current : (s : State) → value_in s 0 ≡ value_in s 2 → IsCurrent sections s
current s same =
    let P : Assignment → Type 0 = λ a. a.part ≡ Part.Now → IsValueOf sections a.right s s (value_in s a.var) in
    All-from_recursion P sections.assigns (λ _. is_only (ap (λ v. v ∷ []) same), (λ e. absurd cc, tt))

-- x is free, y is 0 and z is x
pub initially : (x : ℕ) → Initial sections (state x 0 x)
initially x =
    let s : State = state x 0 x in
    let P : Assignment → Type 0 = λ a. a.part ≡ Part.Init → IsValueOf sections a.right s s (value_in s a.var) in
    record {
      assigned = All-from_recursion P sections.assigns (λ e. absurd cc, (λ e. absurd cc, tt));
      constrained = All-from_recursion (λ c. Holds sections c.expr s s) sections.inits (refl, tt);
      current = current s refl;
      invariant = All-nil (λ c. Holds sections c.expr s s);
    }

unlike : (let c : Checked (List Value) = Ok (num 0 ∷ []) in c ≡ Ok (num 1 ∷ [])) → ⊥
unlike e = cc

pub not_initially_one : Initial sections (state 0 1 0) → ⊥
not_initially_one h = unlike (h.constrained 0 begins (lit< tt))

only : (a b : ℕ) → Contains (num a ∷ []) (num b) → num a ≡ num b
only a b h = Contains-only (num a) (num b) h

pub not_initially_apart : Initial sections (state 0 0 1) → ⊥
not_initially_apart h = let e : num 0 ≡ num 1 = only 0 1 (h.current 0 tied_z (lit< tt) refl) in cc

-- ---- steps

-- with no selector, each process is selected
kept : (s t : State) (x : ℕ) → HasNextAssign sections x → (IsDriven sections s x → ⊥) → value_in t x ≡ value_in s x
kept s t x h n = absurd (n (h.0, h.1, h.2, h.3, (h.4.0, h.4.1, refl)))

steps : (s t : State) → IsValueOf sections rising_y.right s t (value_in t 1) → Holds sections alternates.expr s t → value_in s 0 ≡ value_in s 2 → value_in t 0 ≡ value_in t 2 → Step sections s t
steps s t y changes before after = record {
  assigned =
      let P : Assignment → Type 0 = λ a. a.part ≡ Part.Next → IsTrue (runs sections s a.process) → IsValueOf sections a.right s t (value_in t a.var) in
      All-from_recursion P sections.assigns (λ e. absurd cc, (λ _ _. y, tt));
  kept = kept s t;
  constrained = All-from_recursion (λ c. Holds sections c.expr s t) sections.trans (changes, tt);
  current_before = current s before;
  current_after = current t after;
  invariant_before = All-nil (λ c. Holds sections c.expr s s);
  invariant_after = All-nil (λ c. Holds sections c.expr t t);
}

-- y keeps its value or becomes 2, as the set says
pub y_stays : Step sections (state 0 1 0) (state 1 1 1)
y_stays = steps _ _ (0, lit< tt, refl) refl refl refl

pub y_rises : Step sections (state 0 1 0) (state 1 2 1)
y_rises = steps _ _ (1, lit< tt, refl) refl refl refl

not_among : Contains (num 1 ∷ num 2 ∷ []) (num 0) → ⊥
not_among (zero, h, e) = cc
not_among (suc zero, h, e) = cc
not_among (suc (suc k), h, e) = omega arith

pub y_falls_never : Step sections (state 0 1 0) (state 1 0 1) → ⊥
y_falls_never h = not_among (h.assigned 1 rising_y (lit< tt) refl refl)

-- x is not 1 twice, as the `TRANS` says, and may be 0 twice
pub x_falls : Step sections (state 1 1 1) (state 0 1 0)
x_falls = steps _ _ (0, lit< tt, refl) refl refl refl

pub x_stays_low : Step sections (state 0 1 0) (state 0 1 0)
x_stays_low = steps _ _ (0, lit< tt, refl) refl refl refl

pub x_stays_high_never : Step sections (state 1 1 1) (state 1 1 1) → ⊥
x_stays_high_never h = unlike (h.constrained 0 alternates (lit< tt))

-- z is x before and after each step
pub apart_before : (t : State) → Step sections (state 0 1 1) t → ⊥
apart_before t h = let e : num 0 ≡ num 1 = only 0 1 (h.current_before 0 tied_z (lit< tt) refl) in cc

pub apart_after : Step sections (state 0 1 0) (state 1 1 0) → ⊥
apart_after h = let e : num 1 ≡ num 0 = only 1 0 (h.current_after 0 tied_z (lit< tt) refl) in cc
