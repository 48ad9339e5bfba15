-- A proof by rules on a small model: x is set once go was 1, which happens again and again, so AF x is true.
use Rattle.std.proofs.Common.{◌≡◌, ◌⊎◌, inl, inr, ℕ, zero, suc, ◌<◌, Bool, true, false, not, ◌&&◌, List, [], ◌∷◌, ◌++◌, refl, sym, ◌∙◌, subst, arith, lit<}
use Rattle.std.specs.Prelude.{All, Contains, Ok, Some, None}
use Rattle.std.proofs.lemmas.Bool.{false≢true, and_parts, and_from, or_right}
use Rattle.std.proofs.lemmas.List.Elements.{All-nil}
use Rattle.kripke_model.specs.declared.expressions.Value.{Value}
use Rattle.kripke_model.specs.declared.expressions.PathOp.{PathOp}
use Rattle.kripke_model.specs.Ctl.{Ctl}
use Rattle.kripke_model.specs.System.{State, value_in}
use Rattle.kripke_model.specs.Evaluation.{same, values}
use Rattle.kripke_model.specs.Step.{IsState, Step}
use Rattle.kripke_model.specs.Signs.{ProofRule, rule_of}
use Rattle.kripke_model.specs.Term.{has_path_operator}
use Rattle.kripke_model.proofs.ValueLemmas.{same-true}
use Rattle.fair_rules.proofs.Fixpoints.{join_layers_in}
use Rattle.kripke_model.specs.Truth.{Initials}
use Rattle.kripke_model.proofs.Latch.{state, steps, is_state_of, zero_bit, one_bit, initial_01, num, bit, x_term, latched, latch, Contains-only, stepped, set_after_go, initially}
use Rattle.path_laws.specs.StateSet.{StateSet, ◌∈◌}
use Rattle.fair_rules.specs.SetLists.{everything, nothing, set_at, IsInside, EachNext}
use Rattle.fair_rules.specs.Rules.{Layer, layer_at, reach_at, InSomeLayer, InEarlierLayer, Stays, IsFairSet, MeetsAU}
use Rattle.fair_rules.specs.Claims.{Entry, Proof, is_one, claimed, absent_argument, Meets, IsProof, ClaimsTrue}
use Rattle.fair_rules.specs.LeafConstraints.{visited_sets, avoided_sets}
use Rattle.fair_rules.proofs.LeafSets.{leaf_constraint_sets}
use Rattle.fair_rules.specs.Checks.{Check, IsMet, LineHolds, AllHold, IsFirstBad, reach_lines}
use Rattle.fair_rules.specs.Block.{Block, proof_of, Demand, demand_at, IsAsked, entry_lines, listed_lines, claim_lines, block_lines, IsProofBlock}
use Rattle.fair_rules.proofs.Checks.{reach_lines_hold, hold_both, one_check}
use Rattle.fair_rules.proofs.Blocks.{entry_lines_hold, block_sound}
use Rattle.fair_rules.proofs.Theorems.{true_claim_sound}

-- the state with these values
abbrev only : ℕ → ℕ → StateSet
only x go s = same (value_in s 0) (num x) && same (value_in s 1) (num go)

-- from x = 0, go = 1 each step sets x; from x = 0, go = 0 a step leads there, or go stays 0
abbrev layers : List Layer
layers = record { avoided = 0; states = only 0 1 } ∷ record { avoided = 0; states = only 0 0 } ∷ []

abbrev entries : ℕ → Bool → Entry
entries (suc zero) true = Entry.AU layers
entries n sign = Entry.Absent

abbrev latch_proof : Proof
latch_proof = record { nonfair = []; fair = nothing; reaches = [] ∷ [] ∷ []; entries = entries }

abbrev always_set : Ctl
always_set = Ctl.Quant PathOp.AF (Ctl.Leaf x_term)

same_at : (s : State) (x n : ℕ) → same (value_in s x) (num n) ≡ true → value_in s x ≡ num n
same_at s x n e = same-true (value_in s x) (num n) e

bits : (v : Value) → Contains bit v → (v ≡ num 0) ⊎ (v ≡ num 1)
bits v (zero, h, e) = inl (sym e)
bits v (suc zero, h, e) = inr (sym e)
bits v (suc (suc k), h, e) = absurd (omega arith)

go_of : (s : State) → IsState latch s → (value_in s 1 ≡ num 0) ⊎ (value_in s 1 ≡ num 1)
go_of s is_state = bits (value_in s 1) (is_state.typed 1 (record { name = []; values = []; line = 0 }) (lit< tt))

at_values : (s : State) (x go : ℕ) → value_in s 0 ≡ num x → value_in s 1 ≡ num go → same (num x) (num x) ≡ true → same (num go) (num go) ≡ true → s ∈ only x go
at_values s x go e e' r r' = and_from _ _ (subst (λ v. same v (num x) ≡ true) (sym e) r) (subst (λ v. same v (num go) ≡ true) (sym e') r')

kept_zero : (s t : State) → Step latch s t → value_in s 0 ≡ num 0 → value_in s 1 ≡ num 0 → value_in t 0 ≡ num 0
kept_zero s t step x go =
    let v : Contains (values latch latched s t) (value_in t 0) = stepped s t step in
    let w : Contains (value_in s 0 ∷ []) (value_in t 0) = rw go at v in
    sym (Contains-only _ _ w) ∙ x

set_is_one : (t : State) → value_in t 0 ≡ num 1 → t ∈ claimed latch latch_proof (Ctl.Leaf x_term) 2 true
set_is_one t e = subst (λ v. is_one (Ok (v ∷ [])) ≡ true) (sym e) refl

visits : MeetsAU latch (avoided_sets latch) [] (λ s. true) (claimed latch latch_proof (Ctl.Leaf x_term) 2 true) layers
visits = record { inside = λ k s is_state e. refl; moves = moves }
  where
    moves : (k : ℕ) → IsInside latch (layer_at layers k).states
        (EachNext latch (λ t. (t ∈ claimed latch latch_proof (Ctl.Leaf x_term) 2 true) ⊎ (InSomeLayer [] t ⊎ (InEarlierLayer layers k t ⊎ Stays (avoided_sets latch) layers k t))))
    moves zero s is_state e t next step =
        let b = and_parts (same (value_in s 0) (num 0)) (same (value_in s 1) (num 1)) e in
        inl (set_is_one t (set_after_go s t step (same_at s 1 1 b.1)))
    moves (suc zero) s is_state e t next step =
        let b = and_parts (same (value_in s 0) (num 0)) (same (value_in s 1) (num 0)) e in
        let x : value_in t 0 ≡ num 0 = kept_zero s t step (same_at s 0 0 b.0) (same_at s 1 0 b.1) in
        inr (inr (elim (go_of t next) [
          | inl go ↦ inr (at_values t 0 0 x go refl refl, subst (λ v. not (is_one (Ok (v ∷ []))) ≡ true) (sym go) refl)
          | inr go ↦ inl (0, omega arith, at_values t 0 1 x go refl refl)
        ]))
    moves (suc (suc k)) s is_state e t next step = absurd (false≢true e)

no_fair_set : IsFairSet latch (visited_sets latch) nothing ([] ∷ [] ∷ [])
no_fair_set = record {
  covered = λ k h s is_state e. absurd (false≢true e);
  leads = λ k h. record { inside = λ i s is_state e. absurd (empty k i s e); moves = λ i s is_state e. absurd (empty k i s e) };
}
  where
    empty : (k i : ℕ) (s : State) → s ∈ set_at (reach_at ([] ∷ [] ∷ []) k) i → ⊥
    empty zero i s e = false≢true e
    empty (suc zero) i s e = false≢true e
    empty (suc (suc k)) i s e = false≢true e

is_proof : IsProof latch (visited_sets latch) (avoided_sets latch) latch_proof always_set 1
is_proof = record {
  nonfair = λ k s is_state e. absurd (false≢true e);
  fair = no_fair_set;
  entries = (met, tt);
}
  where
    met : (sign : Bool) → Meets latch (visited_sets latch) (avoided_sets latch) latch_proof (rule_of PathOp.AF sign) (entries 1 sign)
        (absent_argument (rule_of PathOp.AF sign)) (claimed latch latch_proof (Ctl.Leaf x_term) 2 sign)
    met true = visits
    met false = tt

claims_true : ClaimsTrue latch latch_proof always_set 1
claims_true s is_state initial = or_right _ _ (elim (go_of s is_state) [
  | inl go ↦ join_layers_in layers s (1, at_values s 0 0 (initially s initial) go refl refl)
  | inr go ↦ join_layers_in layers s (0, at_values s 0 1 (initially s initial) go refl refl)
])

leaves : All (λ c. has_path_operator c.expr ≡ false) latch.constraints
leaves zero d h = refl
leaves (suc zero) d h = refl
leaves (suc (suc k)) d h = absurd (omega arith)

-- by the rules alone
always_set_initially : Initials latch always_set
always_set_initially =
    true_claim_sound latch (visited_sets latch) (avoided_sets latch) (leaf_constraint_sets latch leaves) latch_proof always_set 1 is_proof claims_true

-- ---- the same proof as it is written, and three that are wrong

abbrev block : Block
block = record {
  nonfair = [];
  fair = nothing;
  reaches = [] ∷ [] ∷ [];
  entries = record { node = 1; plus = true; entry = Entry.AU layers } ∷ [];
  at = None;
}

abbrev set_now : StateSet
set_now = claimed latch (proof_of block) (Ctl.Leaf x_term) 2 true

abbrev demand : Demand
demand = record { rule = ProofRule.AU; first = everything; last = set_now }

demanded : demand_at latch (proof_of block) always_set 1 1 true ≡ Some demand
demanded = refl

block_claims : ClaimsTrue latch (proof_of block) always_set 1
block_claims = claims_true

abbrev fair_part : List (List Check)
fair_part = [] ∷ reach_lines nothing (visited_sets latch) ([] ∷ [] ∷ [])

abbrev listed_part : List (List Check)
listed_part = listed_lines latch (visited_sets latch) (avoided_sets latch) (proof_of block) always_set 1 block.entries

abbrev written_claim : List (List Check)
written_claim = claim_lines latch (proof_of block) always_set 1 None

is_block : IsProofBlock latch (visited_sets latch) (avoided_sets latch) block always_set 1
is_block = record { asked = asked; lines = lines }
  where
    asked : All (IsAsked latch (proof_of block) always_set 1) block.entries
    asked zero e h = (demand, demanded, tt)
    asked (suc k) e h = absurd (omega arith)

    entry_part : AllHold latch listed_part
    entry_part = hold_both latch (entry_lines (visited_sets latch) (avoided_sets latch) (proof_of block) demand (Entry.AU layers)) []
        ((entry_lines_hold latch (visited_sets latch) (avoided_sets latch) (proof_of block) demand (Entry.AU layers) tt).1 visits) (λ n. All-nil (IsMet latch))

    fair_lines : AllHold latch fair_part
    fair_lines zero = All-nil (IsMet latch)
    fair_lines (suc n) = (reach_lines_hold latch nothing (visited_sets latch) ([] ∷ [] ∷ [])).1 no_fair_set n

    nonfair_lines : AllHold latch ([] ∷ [])
    nonfair_lines zero = All-nil (IsMet latch)
    nonfair_lines (suc n) = All-nil (IsMet latch)

    claim_part : AllHold latch (claim_lines latch (proof_of block) always_set 1 None)
    claim_part zero = one_check latch (Check.Starts (claimed latch (proof_of block) always_set 1 true)) block_claims
    claim_part (suc n) = All-nil (IsMet latch)

    lines : AllHold latch (block_lines latch (visited_sets latch) (avoided_sets latch) block always_set 1)
    lines = hold_both latch ([] ∷ []) (fair_part ++ (listed_part ++ written_claim)) nonfair_lines
        (hold_both latch fair_part (listed_part ++ written_claim) fair_lines (hold_both latch listed_part written_claim entry_part claim_part))

by_block : Initials latch always_set
by_block = block_sound latch (visited_sets latch) (avoided_sets latch) (leaf_constraint_sets latch leaves) block always_set 1 is_block

-- the state with x = 0 and go = 0 steps to itself, where the second constraint is true
waits : Step latch (state 0 0) (state 0 0)
waits = steps (state 0 0) (state 0 0) (0, lit< tt, refl)

waiting : IsState latch (state 0 0)
waiting = is_state_of 0 0 zero_bit zero_bit

abbrev second_avoided : List Layer
second_avoided = record { avoided = 0; states = only 0 1 } ∷ record { avoided = 1; states = only 0 0 } ∷ []

second_avoided_fails : MeetsAU latch (avoided_sets latch) [] everything set_now second_avoided → ⊥
second_avoided_fails rule = elim (rule.moves 1 (state 0 0) waiting refl (state 0 0) waiting waits) [
  | inl there ↦ false≢true there
  | inr (inl lost) ↦ false≢true lost.1
  | inr (inr (inl (zero, less, before))) ↦ false≢true before
  | inr (inr (inl (suc i, less, before))) ↦ omega arith
  | inr (inr (inr stays)) ↦ false≢true stays.1
]

-- a fair set without reach sets fails at the line of its first constraint
unreached_fails : IsFirstBad latch ([] ∷ reach_lines everything (visited_sets latch) ([] ∷ [] ∷ [])) 1
unreached_fails = (before, λ h. false≢true (h 0 (Check.Inside nothing nothing) (omega arith) (state 0 0) waiting refl))
  where
    before : (i : ℕ) → i < 1 → LineHolds latch ([] ∷ reach_lines everything (visited_sets latch) ([] ∷ [] ∷ [])) i
    before zero l = All-nil (IsMet latch)
    before (suc i) l = absurd (omega arith)

-- without layers the true claim is not shown
abbrev bare : Block
bare = record block { entries = record { node = 1; plus = true; entry = Entry.AU [] } ∷ [] }

bare_fails : ClaimsTrue latch (proof_of bare) always_set 1 → ⊥
bare_fails claim = false≢true (claim (state 0 1) (is_state_of 0 1 zero_bit one_bit) initial_01)
