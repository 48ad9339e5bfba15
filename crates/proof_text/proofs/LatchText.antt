-- A proof as it is written, on a small model: x is set once go was 1, which happens again and again, so AF x is true. Its text,
-- that it shows what it has to, and three that are wrong, each with the line that fails first.
use Rattle.std.proofs.Common.{◌≡◌, ◌⊎◌, inl, inr, ℕ, zero, suc, ◌<◌, ◌≤◌, true, false, not, ◌&&◌, List, [], ◌∷◌, ◌++◌, map, refl, sym, ◌∙◌, subst, arith, lit<, lit≤}
use Rattle.std.specs.Prelude.{All, Contains, Ok, None, codes}
use Rattle.std.proofs.lemmas.Bool.{false≢true, and_parts, and_from, or_right}
use Rattle.std.proofs.lemmas.Fmt.{decimal_digit}
use Rattle.std.proofs.lemmas.List.Elements.{All-nil, All-from_recursion}
use Rattle.bdd_nodes.specs.declared.triple.Triple.{Triple}
use Rattle.bdd_nodes.specs.Table.{value_of, walk, next_of, node_of}
use Rattle.bit_encode.specs.Binary.{number, binary, width}
use Rattle.kripke_model.specs.declared.expressions.Value.{Value}
use Rattle.kripke_model.specs.declared.expressions.PathOp.{PathOp}
use Rattle.kripke_model.specs.Ctl.{Ctl}
use Rattle.kripke_model.specs.System.{Condition, State, value_in}
use Rattle.kripke_model.specs.Term.{has_path_operator}
use Rattle.kripke_model.specs.Evaluation.{same, values}
use Rattle.kripke_model.specs.Signs.{ProofRule}
use Rattle.kripke_model.specs.Step.{IsState, Step}
use Rattle.kripke_model.proofs.ValueLemmas.{same-true}
use Rattle.kripke_model.proofs.Latch.{state, steps, is_state_of, zero_bit, one_bit, initial_01, num, bit, x_term, latched, latch, Contains-only, stepped, set_after_go, initially}
use Rattle.path_laws.specs.StateSet.{StateSet, ◌∈◌}
use Rattle.fair_rules.specs.SetLists.{everything, nothing, set_at, IsInside, EachNext}
use Rattle.fair_rules.specs.Rules as rules
use Rattle.fair_rules.specs.Rules.{layer_at, reach_at, InSomeLayer, InEarlierLayer, Stays, IsFairSet, MeetsAU}
use Rattle.fair_rules.specs.Claims as claims
use Rattle.fair_rules.specs.Claims.{is_one, claimed, ClaimsTrue}
use Rattle.fair_rules.specs.FreePart.{claimed_visited, claimed_avoided}
use Rattle.fair_rules.specs.Checks.{Check, IsMet, LineHolds, AllHold, reach_lines}
use Rattle.fair_rules.specs.Block.{proof_of, Demand, entry_lines, listed_lines, claim_lines}
use Rattle.fair_rules.proofs.Checks.{reach_lines_hold, hold_both, one_check}
use Rattle.fair_rules.proofs.Blocks.{entry_lines_hold}
use Rattle.fair_rules.proofs.Fixpoints.{join_layers_in}
use Rattle.proof_form.specs.Form.{Layer, Entry, Proof, AU, map_layer}
use Rattle.proof_form.specs.Shape.{IsInShape, Avoids, HasRule, FitsConstraints}
use Rattle.proof_form.specs.Meaning.{layer_of, block_of, free_proof, obligations}
use Rattle.proof_text.specs.File.{Block, File}
use Rattle.proof_text.specs.Lines.{file_lines, text_of}
use Rattle.proof_text.specs.Meaning.{node_set, over_states, IsProved, IsFirstBadLine}

-- ---- the file

abbrev pub order : List ℕ
order = 0 ∷ 1 ∷ []

-- node 2 is go = 1, node 3 is x = 0 and go = 1, node 4 is go = 0, node 5 is x = 0 and go = 0
abbrev pub nodes : List Triple
nodes =
    record { level = 1; low = 0; high = 1 } ∷ record { level = 0; low = 2; high = 0 }
    ∷ record { level = 1; low = 1; high = 0 } ∷ record { level = 0; low = 4; high = 0 } ∷ []

abbrev pub proof : {A : Type 0} → A → List (Layer A) → Proof A
proof fair layers = record {
  claim = true;
  free = None;
  nonfair = [];
  fair = record { inside = fair; reach = [] ∷ [] ∷ [] };
  entries = record { node = 1; plus = true; rule = AU layers } ∷ [];
  at = None;
}

abbrev pub block : ℕ → List (Layer ℕ) → Block
block fair layers = record { spec = 1; nodes = nodes; proof = proof fair layers; first = 3 }

-- both layers avoid the constraint on go
abbrev pub layers : List (Layer ℕ)
layers = record { avoid = 1; set = 3 } ∷ record { avoid = 1; set = 5 } ∷ []

-- the second one avoids the constraint that is true everywhere
abbrev pub other_avoided : List (Layer ℕ)
other_avoided = record { avoid = 1; set = 3 } ∷ record { avoid = 2; set = 5 } ∷ []

abbrev pub file : File
file = record { order = order; blocks = block 0 layers ∷ [] }

abbrev pub feed : List ℕ
feed = 10 ∷ []

-- as it is written
abbrev pub written : List ℕ
written =
    codes "smvproof 1" ++ feed ++ codes "order x go" ++ feed ++ codes "spec 1 true" ++ feed
    ++ codes "nodes 4" ++ feed ++ codes "n 1 0 1" ++ feed ++ codes "n 0 2 0" ++ feed ++ codes "n 1 1 0" ++ feed ++ codes "n 0 4 0" ++ feed
    ++ codes "nonfair 0" ++ feed ++ codes "fair 0" ++ feed ++ codes "reach 1 0" ++ feed ++ codes "reach 2 0" ++ feed
    ++ codes "entry 1 + AU 2" ++ feed ++ codes "layer 1 3" ++ feed ++ codes "layer 1 5" ++ feed ++ codes "end" ++ feed

pub text_is : text_of (file_lines latch file) ≡ written
text_is = rw (decimal_digit 0 (lit< tt), decimal_digit 1 (lit< tt), decimal_digit 2 (lit< tt), decimal_digit 3 (lit< tt), decimal_digit 4 (lit< tt), decimal_digit 5 (lit< tt)) refl

-- both constraints are leaves
abbrev seen : List StateSet
seen = claimed_visited latch (free_proof None)

abbrev shunned : List StateSet
shunned = claimed_avoided latch (free_proof None)

-- ---- its shape

abbrev pub always_set : Ctl
always_set = Ctl.Quant PathOp.AF (Ctl.Leaf x_term)

pub in_shape : {A : Type 0} (fair : A) (ls : List (Layer A)) → All (Avoids 2) ls → IsInShape latch always_set (proof fair ls)
in_shape {A} fair ls fits = record {
  free = All-from_recursion (λ (c : Condition). has_path_operator c.expr ≡ false) latch.constraints (refl, (refl, tt));
  rising = λ i j d less below. absurd (omega arith);
  rules = All-from_recursion (HasRule {A = A} always_set) (proof fair ls).entries (refl, tt);
  avoided = All-nil (Avoids {A = A} 2);
  reach = refl;
  fits = All-from_recursion (λ (e : Entry A). FitsConstraints 2 e.rule) (proof fair ls).entries (fits, tt);
  claim = refl;
  at_state = tt;
}

-- ---- the states

bits : (v : Value) → Contains bit v → (v ≡ num 0) ⊎ (v ≡ num 1)
bits v (zero, h, e) = inl (sym e)
bits v (suc zero, h, e) = inr (sym e)
bits v (suc (suc k), h, e) = absurd (omega arith)

by_states : (P : State → Type 0) → P (state 0 0) → P (state 0 1) → P (state 1 0) → P (state 1 1) → (s : State) → IsState latch s → P s
by_states P p q r t [] is_state = absurd (omega (arith, is_state.each))
by_states P p q r t (v ∷ []) is_state = absurd (omega (arith, is_state.each))
by_states P p q r t (v ∷ w ∷ []) is_state =
    elim (bits v (is_state.typed 0 (record { name = []; values = []; line = 0 }) (lit< tt))) [
      | inl x0 ↦ elim (bits w (is_state.typed 1 (record { name = []; values = []; line = 0 }) (lit< tt))) [
        | inl g0 ↦ subst (λ a. P (a ∷ w ∷ [])) (sym x0) (subst (λ b. P (num 0 ∷ b ∷ [])) (sym g0) p)
        | inr g1 ↦ subst (λ a. P (a ∷ w ∷ [])) (sym x0) (subst (λ b. P (num 0 ∷ b ∷ [])) (sym g1) q)
      ]
      | inr x1 ↦ elim (bits w (is_state.typed 1 (record { name = []; values = []; line = 0 }) (lit< tt))) [
        | inl g0 ↦ subst (λ a. P (a ∷ w ∷ [])) (sym x1) (subst (λ b. P (num 1 ∷ b ∷ [])) (sym g0) r)
        | inr g1 ↦ subst (λ a. P (a ∷ w ∷ [])) (sym x1) (subst (λ b. P (num 1 ∷ b ∷ [])) (sym g1) t)
      ]
    ]
by_states P p q r t (v ∷ w ∷ u ∷ s) is_state = absurd (omega (arith, is_state.each))

abbrev set : ℕ → StateSet
set n = node_set latch order nodes n

-- which states the nodes have
third : (set 3 (state 0 0) ≡ false) × (set 3 (state 0 1) ≡ true) × (set 3 (state 1 0) ≡ false) × (set 3 (state 1 1) ≡ false)
unfolding value_of walk next_of node_of number binary width
third = (refl, refl, refl, refl)

fifth : (set 5 (state 0 0) ≡ true) × (set 5 (state 0 1) ≡ false) × (set 5 (state 1 0) ≡ false) × (set 5 (state 1 1) ≡ false)
unfolding value_of walk next_of node_of number binary width
fifth = (refl, refl, refl, refl)

-- the state with these values
abbrev only : ℕ → ℕ → StateSet
only x go s = same (value_in s 0) (num x) && same (value_in s 1) (num go)

third_is : (s : State) → IsState latch s → set 3 s ≡ only 0 1 s
third_is = by_states (λ s. set 3 s ≡ only 0 1 s) third.0 third.1 third.2 third.3

fifth_is : (s : State) → IsState latch s → set 5 s ≡ only 0 0 s
fifth_is = by_states (λ s. set 5 s ≡ only 0 0 s) fifth.0 fifth.1 fifth.2 fifth.3

no_state : (s : State) → set 0 s ≡ false
unfolding value_of walk next_of node_of
no_state s = refl

each_state : (s : State) → set 1 s ≡ true
unfolding value_of walk next_of node_of
each_state s = refl

-- ---- the rule of the entry

same_at : (s : State) (x n : ℕ) → same (value_in s x) (num n) ≡ true → value_in s x ≡ num n
same_at s x n e = same-true (value_in s x) (num n) e

go_of : (s : State) → IsState latch s → (value_in s 1 ≡ num 0) ⊎ (value_in s 1 ≡ num 1)
go_of s is_state = bits (value_in s 1) (is_state.typed 1 (record { name = []; values = []; line = 0 }) (lit< tt))

at_values : (s : State) (x go : ℕ) → value_in s 0 ≡ num x → value_in s 1 ≡ num go → same (num x) (num x) ≡ true → same (num go) (num go) ≡ true → s ∈ only x go
at_values s x go e e' r r' = and_from _ _ (subst (λ v. same v (num x) ≡ true) (sym e) r) (subst (λ v. same v (num go) ≡ true) (sym e') r')

kept_zero : (s t : State) → Step latch s t → value_in s 0 ≡ num 0 → value_in s 1 ≡ num 0 → value_in t 0 ≡ num 0
kept_zero s t step x go =
    let v : Contains (values latch latched s t) (value_in t 0) = stepped s t step in
    let w : Contains (value_in s 0 ∷ []) (value_in t 0) = rw go at v in
    sym (Contains-only _ _ w) ∙ x

abbrev states_of : ℕ → List (Layer ℕ) → Proof StateSet
states_of fair ls = over_states latch order (block fair ls)

abbrev set_now : StateSet
set_now = claimed latch (proof_of (block_of (states_of 0 layers))) (Ctl.Leaf x_term) 2 true

set_is_one : (t : State) → value_in t 0 ≡ num 1 → t ∈ set_now
set_is_one t e = subst (λ v. is_one (Ok (v ∷ [])) ≡ true) (sym e) refl

abbrev led : List rules.Layer
led = map layer_of (map (map_layer set) layers)

visits : MeetsAU latch shunned [] everything set_now led
visits = record { inside = λ k s is_state e. refl; moves = moves }
  where
    moves : (k : ℕ) → IsInside latch (layer_at led k).states
        (EachNext latch (λ t. (t ∈ set_now) ⊎ (InSomeLayer [] t ⊎ (InEarlierLayer led k t ⊎ Stays shunned led k t))))
    moves zero s is_state e t next step =
        let b = and_parts (same (value_in s 0) (num 0)) (same (value_in s 1) (num 1)) (sym (third_is s is_state) ∙ e) in
        inl (set_is_one t (set_after_go s t step (same_at s 1 1 b.1)))
    moves (suc zero) s is_state e t next step =
        let b = and_parts (same (value_in s 0) (num 0)) (same (value_in s 1) (num 0)) (sym (fifth_is s is_state) ∙ e) in
        let x : value_in t 0 ≡ num 0 = kept_zero s t step (same_at s 0 0 b.0) (same_at s 1 0 b.1) in
        inr (inr (elim (go_of t next) [
          | inl go ↦ inr (fifth_is t next ∙ at_values t 0 0 x go refl refl, subst (λ v. not (is_one (Ok (v ∷ []))) ≡ true) (sym go) refl)
          | inr go ↦ inl (0, omega arith, third_is t next ∙ at_values t 0 1 x go refl refl)
        ]))
    moves (suc (suc k)) s is_state e t next step = absurd (false≢true e)

-- ---- what the lines show

abbrev lines_of : ℕ → List (Layer ℕ) → List (List Check)
lines_of fair ls = obligations latch always_set (states_of fair ls)

abbrev demand : Demand
demand = record { rule = ProofRule.AU; first = everything; last = set_now }

no_fair_set : IsFairSet latch seen (set 0) ([] ∷ [] ∷ [])
no_fair_set = record {
  covered = λ k h s is_state e. absurd (false≢true (sym (no_state s) ∙ e));
  leads = λ k h. record { inside = λ i s is_state e. absurd (empty k i s e); moves = λ i s is_state e. absurd (empty k i s e) };
}
  where
    empty : (k i : ℕ) (s : State) → s ∈ set_at (reach_at ([] ∷ [] ∷ []) k) i → ⊥
    empty zero i s e = false≢true e
    empty (suc zero) i s e = false≢true e
    empty (suc (suc k)) i s e = false≢true e

abbrev before_entries : List (List Check)
before_entries = [] ∷ reach_lines (set 0) seen ([] ∷ [] ∷ [])

abbrev entry_part : List (List Check)
entry_part = listed_lines latch seen shunned (proof_of (block_of (states_of 0 layers))) always_set 1 (block_of (states_of 0 layers)).entries

abbrev end_part : List (List Check)
end_part = claim_lines latch (proof_of (block_of (states_of 0 layers))) always_set 1 None

claims_true : ClaimsTrue latch (proof_of (block_of (states_of 0 layers))) always_set 1
claims_true s is_state initial = or_right _ _ (elim (go_of s is_state) [
  | inl go ↦ join_layers_in led s (1, fifth_is s is_state ∙ at_values s 0 0 (initially s initial) go refl refl)
  | inr go ↦ join_layers_in led s (0, third_is s is_state ∙ at_values s 0 1 (initially s initial) go refl refl)
])

all_hold : AllHold latch (lines_of 0 layers)
all_hold = hold_both latch ([] ∷ []) (before_entries ++ (entry_part ++ end_part)) nonfair_lines
    (hold_both latch before_entries (entry_part ++ end_part) fair_lines (hold_both latch entry_part end_part entries_hold ends))
  where
    nonfair_lines : AllHold latch ([] ∷ [])
    nonfair_lines zero = All-nil (IsMet latch)
    nonfair_lines (suc n) = All-nil (IsMet latch)

    fair_lines : AllHold latch before_entries
    fair_lines zero = All-nil (IsMet latch)
    fair_lines (suc n) = (reach_lines_hold latch (set 0) seen ([] ∷ [] ∷ [])).1 no_fair_set n

    entries_hold : AllHold latch entry_part
    entries_hold = hold_both latch (entry_lines seen shunned (proof_of (block_of (states_of 0 layers))) demand (claims.Entry.AU led)) []
        ((entry_lines_hold latch seen shunned (proof_of (block_of (states_of 0 layers))) demand (claims.Entry.AU led) tt).1 visits) (λ n. All-nil (IsMet latch))

    ends : AllHold latch end_part
    ends zero = one_check latch (Check.Starts (claimed latch (proof_of (block_of (states_of 0 layers))) always_set 1 true)) claims_true
    ends (suc n) = All-nil (IsMet latch)

-- the layers avoid constraints that there are
pub avoid_known : (a b : ℕ) → 1 ≤ a → a ≤ 2 → 1 ≤ b → b ≤ 2 → {A : Type 0} → (F G : A) → All (Avoids 2) (record { avoid = a; set = F } ∷ record { avoid = b; set = G } ∷ [])
avoid_known a b p q r t {A} F G = All-from_recursion (Avoids 2) (record { avoid = a; set = F } ∷ record { avoid = b; set = G } ∷ []) ((p, q), ((r, t), tt))

-- The proof shows what it has to.
pub is_proved : IsProved latch order (block 0 layers)
is_proved = record { shape = in_shape (set 0) (map (map_layer set) layers) (avoid_known 1 1 (lit≤ tt) (lit≤ tt) (lit≤ tt) (lit≤ tt) (set 3) (set 5)); lines = all_hold }

-- ---- three that are wrong

waits : Step latch (state 0 0) (state 0 0)
waits = steps (state 0 0) (state 0 0) (0, lit< tt, refl)

waiting : IsState latch (state 0 0)
waiting = is_state_of 0 0 zero_bit zero_bit

abbrev none : Check
none = Check.Inside nothing nothing

-- a second layer that avoids the other constraint fails at its line
pub other_avoided_fails : IsFirstBadLine latch order (block 0 other_avoided) 15
unfolding value_of walk next_of node_of number binary width
other_avoided_fails = (
  6,
  (in_shape (set 0) (map (map_layer set) other_avoided) (avoid_known 1 2 (lit≤ tt) (lit≤ tt) (lit≤ tt) (lit≤ tt) (set 3) (set 5)), (before, fails)),
  refl,
)
  where
    before : (i : ℕ) → i < 6 → LineHolds latch (lines_of 0 other_avoided) i
    before zero l = all_hold 0
    before (suc zero) l = all_hold 1
    before (suc (suc zero)) l = all_hold 2
    before (suc (suc (suc zero))) l = all_hold 3
    before (suc (suc (suc (suc zero)))) l = all_hold 4
    before (suc (suc (suc (suc (suc zero))))) l = all_hold 5
    before (suc (suc (suc (suc (suc (suc i)))))) l = absurd (omega arith)

    fails : LineHolds latch (lines_of 0 other_avoided) 6 → ⊥
    fails h = false≢true (h 1 none (omega arith) (state 0 0) waiting fifth.0 (state 0 0) waiting waits)

-- all states as the fair set, without reach sets, fail at the line of the first constraint
pub unreached_fails : IsFirstBadLine latch order (block 1 layers) 11
unreached_fails = (
  2,
  (in_shape (set 1) (map (map_layer set) layers) (avoid_known 1 1 (lit≤ tt) (lit≤ tt) (lit≤ tt) (lit≤ tt) (set 3) (set 5)), (before, fails)),
  refl,
)
  where
    before : (i : ℕ) → i < 2 → LineHolds latch (lines_of 1 layers) i
    before zero l = All-nil (IsMet latch)
    before (suc zero) l = All-nil (IsMet latch)
    before (suc (suc i)) l = absurd (omega arith)

    fails : LineHolds latch (lines_of 1 layers) 2 → ⊥
    fails h = false≢true (h 0 none (omega arith) (state 0 0) waiting (each_state (state 0 0)))

-- without layers the claim isn't shown, although it is so: the last line fails
pub bare_fails : IsFirstBadLine latch order (block 0 []) 14
bare_fails = (
  5,
  (in_shape (set 0) [] (All-nil (Avoids 2)), (before, fails)),
  refl,
)
  where
    before : (i : ℕ) → i < 5 → LineHolds latch (lines_of 0 []) i
    before zero l = all_hold 0
    before (suc zero) l = all_hold 1
    before (suc (suc zero)) l = all_hold 2
    before (suc (suc (suc zero))) l = all_hold 3
    before (suc (suc (suc (suc zero)))) l = all_hold 4
    before (suc (suc (suc (suc (suc i))))) l = absurd (omega arith)

    fails : LineHolds latch (lines_of 0 []) 5 → ⊥
    fails h = false≢true (h 0 none (omega arith) (state 0 1) (is_state_of 0 1 zero_bit one_bit) initial_01)
