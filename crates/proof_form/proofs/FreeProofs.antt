-- A free part whose lines hold proves what it claims of each constraint's formula.
use Rattle.std.proofs.Common.{◌≡◌, ℕ, zero, suc, ◌+◌, ◌-◌, ◌<◌, Bool, true, false, List, [], ◌∷◌, ◌++◌, map, length, get_or, Option, Some, None, refl, sym, ◌∙◌, ap, subst, subst₂, arith}
use Rattle.std.specs.Prelude.{All, if◌then◌else◌, ◌==◌, pos, option_map, IsSomeAnd}
use Rattle.std.specs.Option.{option_and_then}
use Rattle.std.proofs.lemmas.Bool.{false≢true, or_right, eqb-true}
use Rattle.std.proofs.lemmas.List.Elements.{All-nil, All-cons, All-head, All-tail}
use Rattle.std.proofs.lemmas.Option.{option_and_then_some, slice_get-get_or}
use Rattle.kripke_model.specs.declared.expressions.Value.TheVariants.{Number}
use Rattle.kripke_model.specs.Ctl.{Ctl, formula_of}
use Rattle.kripke_model.specs.System.{System, Condition}
use Rattle.kripke_model.specs.Term.{Term}
use Rattle.path_laws.specs.StateSet.{StateSet}
use Rattle.fair_rules.specs.SetLists.{everything, nothing}
use Rattle.fair_rules.specs.Claims as claims
use Rattle.fair_rules.specs.Claims.{claimed, IsProof}
use Rattle.fair_rules.specs.Checks.{Check, IsMet, AllHold, layer_lines, reach_lines}
use Rattle.fair_rules.specs.Block.{Block, Demand, IsAsked, demand, demand_at, asked_lines, listed_lines, claim_lines, block_lines}
use Rattle.fair_rules.specs.FreePart.{AreFreeProofs}
use Rattle.fair_rules.specs.Nodes.{node_at}
use Rattle.fair_rules.proofs.Blocks.{block_proof}
use Rattle.fair_rules.proofs.Checks.{hold_left, hold_right, hold_both, one_check}
use Rattle.fair_rules.proofs.LeafSets.{formula_is_leaf}
use Rattle.fair_rules.proofs.Nodes.{in_whole}
use Rattle.proof_form.specs.Form.{Entry, FreeEntry, FreePart}
use Rattle.proof_form.specs.Shape.{HasRule, HasConstraintRule, FitsFreely, constraint_formula}
use Rattle.proof_form.specs.Meaning.{layer_of, entry_of, listed_of, entries_for, free_proof, free_visited, free_avoided, free_demand, free_entry_lines, free_lines}
use Rattle.proof_form.proofs.Asked.{is_asked}

-- ---- the proof of one constraint

-- The formula stands in a disjunction with what is true everywhere, so that its claim can be shown.
module _ (m : System) (part : FreePart StateSet) (k : ℕ) (c : Condition) (here : k < length m.constraints) where
  abbrev f : Ctl
  f = formula_of (get_or m.constraints k c).expr

  abbrev always : Ctl
  always = Ctl.Leaf (Term.Const (Number (pos 1)))

  abbrev whole : Ctl
  whole = Ctl.Or f always

  abbrev own : claims.Proof
  own = free_proof (Some part) k

  abbrev block : Block
  block = record { nonfair = map layer_of part.nonfair; fair = part.fair.inside; reaches = part.fair.reach; entries = entries_for (k + 1) part.entries; at = None }

  formula_there : constraint_formula m (k + 1) ≡ Some f
  formula_there = let e : k + 1 ≡ suc k = omega arith in ap (constraint_formula m) e ∙ ap (option_map (λ d. formula_of d.expr)) (slice_get-get_or m.constraints k c here)

  named : (e : FreeEntry StateSet) → e.constraint ≡ k + 1 → HasConstraintRule m e → HasRule f e.entry
  named e same h =
      subst (λ o. IsSomeAnd o (λ f. HasRule f e.entry)) formula_there (subst (λ i. IsSomeAnd (constraint_formula m i) (λ f. HasRule f e.entry)) same h)

  -- what the whole asks is what the formula asks
  asked_whole : (i : ℕ) (sign : Bool) (d : Demand) → demand_at m own f 1 i sign ≡ Some d → demand_at m own whole 0 i sign ≡ Some d
  asked_whole i sign d h =
      option_and_then_some (λ c. demand m own c i sign) (node_at f 1 i) d h (λ c at asks. ap (option_and_then (λ c. demand m own c i sign)) ((in_whole whole 0).0 i c at) ∙ asks)

  asked_in : (e : Entry StateSet) → HasRule f e → IsAsked m own whole 0 (listed_of e)
  asked_in e h = let a = is_asked m own f e h in (a.0, asked_whole e.node e.plus a.0 a.1, a.2)

  all_asked : (es : List (FreeEntry StateSet)) → All (HasConstraintRule m) es → All (IsAsked m own whole 0) (entries_for (k + 1) es)
  all_asked [] h = All-nil (IsAsked m own whole 0)
  all_asked (e ∷ es) h = go (all_asked es (All-tail (HasConstraintRule m) e es h)) (e.constraint == k + 1) refl
    where
      go : All (IsAsked m own whole 0) (entries_for (k + 1) es) → (b : Bool) → (e.constraint == k + 1) ≡ b
          → All (IsAsked m own whole 0) (if b then listed_of e.entry ∷ entries_for (k + 1) es else entries_for (k + 1) es)
      go behind true same =
          All-cons (IsAsked m own whole 0) (listed_of e.entry) (entries_for (k + 1) es)
          (asked_in e.entry (named e (eqb-true e.constraint (k + 1) same) (All-head (HasConstraintRule m) e es h))) behind
      go behind false other = behind

  -- an entry's lines are those of the whole
  own_lines : (e : FreeEntry StateSet) → e.constraint ≡ k + 1 → HasConstraintRule m e
      → AllHold m (asked_lines free_visited free_avoided (free_proof (Some part) (e.constraint - 1)) (free_demand m part e) (entry_of e.entry.rule))
      → AllHold m (asked_lines free_visited free_avoided own (demand_at m own whole 0 e.entry.node e.entry.plus) (entry_of e.entry.rule))
  own_lines e same rule h =
      let a = is_asked m own f e.entry (named e same rule) in
      let here : AllHold m (asked_lines free_visited free_avoided own (demand_at m own f 1 e.entry.node e.entry.plus) (entry_of e.entry.rule)) =
      subst₂ (λ j o. AllHold m (asked_lines free_visited free_avoided (free_proof (Some part) j)
      (option_and_then (λ f. demand_at m (free_proof (Some part) j) f 1 e.entry.node e.entry.plus) o) (entry_of e.entry.rule)))
      (omega (arith, same)) (ap (constraint_formula m) same ∙ formula_there) h in
      subst (λ o. AllHold m (asked_lines free_visited free_avoided own o (entry_of e.entry.rule))) (a.1 ∙ sym (asked_whole e.entry.node e.entry.plus a.0 a.1)) here

  abbrev lines_of : FreeEntry StateSet → List (List Check)
  lines_of e = asked_lines free_visited free_avoided (free_proof (Some part) (e.constraint - 1)) (free_demand m part e) (entry_of e.entry.rule)

  entries_hold : (es : List (FreeEntry StateSet)) → All (HasConstraintRule m) es → AllHold m (free_entry_lines m part es)
      → AllHold m (listed_lines m free_visited free_avoided own whole 0 (entries_for (k + 1) es))
  entries_hold [] h lines = λ n. All-nil (IsMet m)
  entries_hold (e ∷ es) h lines =
      go (entries_hold es (All-tail (HasConstraintRule m) e es h) (hold_right m (lines_of e) (free_entry_lines m part es) lines)) (e.constraint == k + 1) refl
    where
      go : AllHold m (listed_lines m free_visited free_avoided own whole 0 (entries_for (k + 1) es)) → (b : Bool) → (e.constraint == k + 1) ≡ b
          → AllHold m (listed_lines m free_visited free_avoided own whole 0 (if b then listed_of e.entry ∷ entries_for (k + 1) es else entries_for (k + 1) es))
      go behind true same =
          hold_both m (asked_lines free_visited free_avoided own (demand_at m own whole 0 e.entry.node e.entry.plus) (entry_of e.entry.rule))
          (listed_lines m free_visited free_avoided own whole 0 (entries_for (k + 1) es))
          (own_lines e (eqb-true e.constraint (k + 1) same) (All-head (HasConstraintRule m) e es h) (hold_left m (lines_of e) (free_entry_lines m part es) lines)) behind
      go behind false other = behind

  claim_met : AllHold m (claim_lines m own whole 0 None)
  claim_met zero = one_check m (Check.Starts (claimed m own whole 0 true)) (λ s is_state initial. or_right (claimed m own f 1 true s) true refl)
  claim_met (suc n) = All-nil (IsMet m)

  module _ (rules : All (HasConstraintRule m) part.entries) (lines : AllHold m (free_lines m (Some part))) where
    abbrev nonfair_part : List (List Check)
    nonfair_part = [] ∷ layer_lines free_avoided everything nothing nothing (map layer_of part.nonfair)

    abbrev fair_part : List (List Check)
    fair_part = [] ∷ reach_lines part.fair.inside free_visited part.fair.reach

    after_free : AllHold m (nonfair_part ++ (fair_part ++ free_entry_lines m part part.entries))
    after_free n = lines (suc n)

    after_nonfair : AllHold m (fair_part ++ free_entry_lines m part part.entries)
    after_nonfair = hold_right m nonfair_part (fair_part ++ free_entry_lines m part part.entries) after_free

    block_hold : AllHold m (block_lines m free_visited free_avoided block whole 0)
    block_hold =
        hold_both m nonfair_part (fair_part ++ (listed_lines m free_visited free_avoided own whole 0 (entries_for (k + 1) part.entries) ++ claim_lines m own whole 0 None))
        (hold_left m nonfair_part (fair_part ++ free_entry_lines m part part.entries) after_free)
        (hold_both m fair_part (listed_lines m free_visited free_avoided own whole 0 (entries_for (k + 1) part.entries) ++ claim_lines m own whole 0 None)
        (hold_left m fair_part (free_entry_lines m part part.entries) after_nonfair)
        (hold_both m (listed_lines m free_visited free_avoided own whole 0 (entries_for (k + 1) part.entries)) (claim_lines m own whole 0 None)
        (entries_hold part.entries rules (hold_right m fair_part (free_entry_lines m part part.entries) after_nonfair)) claim_met))

    constraint_proof : IsProof m free_visited free_avoided own f 1
    constraint_proof =
        let proof : IsProof m free_visited free_avoided own whole 0 = block_proof m free_visited free_avoided block whole 0 (all_asked part.entries rules) block_hold in
        record { nonfair = proof.nonfair; fair = proof.fair; entries = proof.entries.0 }

-- ---- all constraints

-- a constraint that is a leaf needs nothing
leaf_proof : (m : System) (c : Condition) (k : ℕ) → IsProof m free_visited free_avoided (free_proof None k) (Ctl.Leaf c.expr) 1
leaf_proof m c k = record {
  nonfair = λ i s is_state e. absurd (false≢true e);
  fair = record {
    covered = λ i less s is_state e. absurd (false≢true e);
    leads = λ i less. record { inside = λ j s is_state e. absurd (false≢true e); moves = λ j s is_state e. absurd (false≢true e) };
  };
  entries = tt;
}

pub free_proofs : (m : System) (o : Option (FreePart StateSet)) → FitsFreely m o → AllHold m (free_lines m o) → AreFreeProofs m (free_proof o)
free_proofs m None leaves h k c here =
    subst (λ f. IsProof m free_visited free_avoided (free_proof None k) f 1) (sym (formula_is_leaf (get_or m.constraints k c).expr (leaves k c here))) (leaf_proof m (get_or m.constraints k c) k)
free_proofs m (Some part) fits h k c here = constraint_proof m part k c here fits.1.rules h
