-- A certificate of a small model, worked by hand: go comes again and again, so no path is compassionate to a pair of go and what never holds.
use Rattle.std.proofs.Common.{ℕ, zero, suc, ◌+◌, ◌<◌, List, [], ◌∷◌, refl, arith, lit<}
use Rattle.std.specs.Prelude.{Any}
use Rattle.std.proofs.lemmas.List.Elements.{All-nil, All-cons}
use Rattle.kripke_model.specs.Term.{Term}
use Rattle.kripke_model.specs.System.{State, Condition}
use Rattle.kripke_model.specs.Step.{IsState, Step}
use Rattle.kripke_model.proofs.Latch.{state, num, x_term, go_term, latch, is_state_of, zero_bit, initial_01, steps, one_bit, go_fair, one_fair}
use Rattle.path_laws.specs.StateSet.{StateSet}
use Rattle.strong_fair.specs.declared.certificate.Reason.TheVariants as reasons
use Rattle.fair_rules.specs.SetLists.{everything}
use Rattle.state_reach.specs.States.{HoldsAt}
use Rattle.strong_fair.specs.Strong.{Pair, HasStrongPath}
use Rattle.strong_fair.specs.Form.{Certificate}
use Rattle.strong_fair.specs.Shows.{IsCertificate}
use Rattle.strong_fair.proofs.Sound.{no_certificate}
use Rattle.strong_fair.proofs.Loops.{strong_walk}
use Rattle.kripke_model.specs.Path.{Lasso, at, IsPath}
use Rattle.kripke_model.specs.Ctl.{formula_of}
use Rattle.kripke_model.specs.Truth.{FreeSat}

-- if go comes again and again, so does 0
abbrev never : List Pair
never = record { p = go_term; q = Term.Const (num 0) } ∷ []

abbrev latch_certificate : Certificate StateSet
latch_certificate = record {
  inside = everything;
  rows = record { set = everything; reason = reasons.Pair 1 } ∷ record { set = everything; reason = reasons.Avoid 1 } ∷ [];
}

zero_fails : (s : State) → HoldsAt latch (Term.Const (num 0)) s → ⊥
zero_fails s e = cc

pub is_certificate : IsCertificate latch never latch_certificate
is_certificate = record {
  closed = record { initials = λ s is_state initial. refl; nexts = λ s is_state here t next step. refl };
  rows = (
    (λ s t is_state next here step goes. (refl, goes), λ s is_state here holds. zero_fails s holds),
    (
      ((lit< tt, lit< tt), λ s t is_state next here step goes. (refl, goes), λ s is_state (here, (left, kept)) go. kept ((here, left), go)),
      λ s is_state (left, kept). kept (refl, left),
    ),
  );
}

pub none_strong : HasStrongPath latch never → ⊥
none_strong (p, strong) = no_certificate latch never (at p) (strong_walk latch never p strong) latch_certificate is_certificate

-- ---- without the second row the states where go is 0 are left

pub one_row_fails : IsCertificate latch never (record { inside = everything; rows = record { set = everything; reason = reasons.Pair 1 } ∷ [] }) → ⊥
one_row_fails h = h.rows.1 (state 0 0) idle (refl, λ (here, go). not_go go)
  where
    idle : IsState latch (state 0 0)
    idle = is_state_of 0 0 zero_bit zero_bit

    not_go : HoldsAt latch go_term (state 0 0) → ⊥
    not_go e = cc

-- ---- to a pair of go and x there is a strong path

abbrev Kept : Pair → Type 0
Kept pair = Any (HoldsAt latch pair.p) (state 1 1 ∷ []) → Any (HoldsAt latch pair.q) (state 1 1 ∷ [])

abbrev go_lasso : Lasso
go_lasso = record { stem = state 0 1 ∷ []; cycle = state 1 1 ∷ [] }

go_path : IsPath latch go_lasso
go_path = record { loops = lit< tt; states = states; steps = moves }
  where
    states : (n : ℕ) → n < 2 → IsState latch (at go_lasso n)
    states zero h = is_state_of 0 1 zero_bit one_bit
    states (suc zero) h = is_state_of 1 1 one_bit one_bit
    states (suc (suc k)) h = absurd (omega arith)

    moves : (n : ℕ) → n < 2 → Step latch (at go_lasso n) (at go_lasso (n + 1))
    moves zero h = steps (state 0 1) (state 1 1) (0, lit< tt, refl)
    moves (suc zero) h = steps (state 1 1) (state 1 1) (0, lit< tt, refl)
    moves (suc (suc k)) h = absurd (omega arith)

abbrev Met : Condition → Type 0
Met c = Any (FreeSat latch (formula_of c.expr)) (state 1 1 ∷ [])

pub latch_strong : HasStrongPath latch (record { p = go_term; q = x_term } ∷ [])
latch_strong = (
  go_lasso,
  record {
    fair = record {
      path = go_path;
      met = All-cons Met go_fair (one_fair ∷ []) (0, state 1 1, lit< tt, refl, refl) (All-cons Met one_fair [] (0, state 1 1, lit< tt, refl, refl) (All-nil Met));
    };
    compassionate = All-cons Kept (record { p = go_term; q = x_term }) [] (λ here. (0, state 1 1, lit< tt, refl, refl)) (All-nil Kept);
    initial = initial_01;
  },
)
