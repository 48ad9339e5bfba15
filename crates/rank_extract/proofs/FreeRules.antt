-- The sets over all paths meet the rules.
use Rattle.std.proofs.Common.{◌≡◌, inl, inr, ℕ, ◌≤◌, Bool, true, false, not, List, length, map, refl, sym, ◌∙◌, subst, arith}
use Rattle.std.specs.Prelude.{◌↔◌}
use Rattle.std.proofs.lemmas.Bool.{false≢true, cases_lt, not-true}
use Rattle.std.proofs.lemmas.List.{length-map, get_or_past}
use Rattle.kripke_model.specs.Ctl.{Ctl}
use Rattle.kripke_model.specs.Path.{IsPath}
use Rattle.kripke_model.specs.Step.{IsState}
use Rattle.kripke_model.specs.System.{System, State}
use Rattle.kripke_model.specs.Truth.{FreeSat, SatOver}
use Rattle.path_laws.specs.Fairness.{IsFairOver}
use Rattle.path_laws.specs.StateSet.{StateSet, ◌∈◌}
use Rattle.fair_rules.specs.ConstraintSets.{AreConstraintSets}
use Rattle.fair_rules.specs.Fixpoints.{IsClosed}
use Rattle.fair_rules.specs.Rules as rules
use Rattle.fair_rules.specs.Rules.{InSomeLayer, AreNonfair, IsFairSet}
use Rattle.fair_rules.specs.SetLists.{nothing, set_at, IsInside}
use Rattle.fair_rules.specs.Split.{IsSplit}
use Rattle.fair_rules.specs.Claims as claims
use Rattle.fair_rules.specs.Claims.{IsProof, AreMet}
use Rattle.fair_rules.proofs.Fixpoints.{nonfair_from_pruned}
use Rattle.fair_rules.proofs.PathKinds.{from_path, to_path}
use Rattle.fair_rules.proofs.SameTruth.{same_truth}
use Rattle.fair_fixpoint.specs.ConstraintSets.{IsWhole}
use Rattle.fair_fixpoint.specs.Nodes.{NodeView, AreComputed}
use Rattle.fair_fixpoint.specs.NodeRules.{AreRuled, sign_set}
use Rattle.fair_fixpoint.specs.Pruned.{IsPrunedTo}
use Rattle.fair_fixpoint.specs.Runs.{LayerView, complement, rule_layers}
use Rattle.fair_fixpoint.proofs.NodeRules.{computed_rules}
use Rattle.fair_fixpoint.proofs.NodeTruth.{computed_split}
use Rattle.fair_fixpoint.proofs.Taking.{complement_at, fair_left}
use Rattle.proof_form.specs.Form.{Entry}
use Rattle.proof_form.specs.Meaning.{layer_of, free_visited, free_avoided}
use Rattle.rank_extract.specs.Given.{written_layer, wanted}
use Rattle.rank_extract.proofs.Lookups.{look_up}
use Rattle.rank_extract.proofs.NodeEntries.{written, fair_set}
use Rattle.rank_extract.proofs.Covers.{covers, meets}

-- all states are a closed set
all_closed : (m : System) (Z : StateSet) → ((s : State) → IsState m s → s ∈ Z) → IsClosed m Z
all_closed m Z all s is_state here t next step = all t next

-- no constraint is asked
abbrev Nowhere : ℕ → State → Type 0
Nowhere k s = ⊥

module _ (m : System) (visited : List StateSet) (whole : IsWhole m visited) where
  -- no state of the model is outside of the one set
  none_outside : (k : ℕ) (s : State) → IsState m s → s ∈ set_at (map complement visited) k → ⊥
  none_outside k s is_state e = elim (cases_lt k (length visited)) [
    | inr past ↦ false≢true (subst (λ F. s ∈ F) (get_or_past (map complement visited) k nothing (omega (arith, past, length-map visited complement))) e)
    | inl lt ↦ (let out : not (set_at visited k s) ≡ true = subst (λ F. s ∈ F) (complement_at visited k lt) e in
        let first : 0 ≡ k = omega (arith, lt, whole.0) in
        false≢true (sym (not-true (set_at visited k s) out) ∙ subst (λ j. s ∈ set_at visited j) first ((whole.1 s).1 is_state)))
  ]

  sets_are : AreConstraintSets m 0 Nowhere visited (map complement visited)
  sets_are = record {
    some = omega (arith, whole.0);
    each = omega arith;
    visited_true = λ k lt. absurd (omega arith);
    avoided_false = λ k s is_state e. absurd (none_outside k s is_state e);
  }

  shorter : length free_visited ≤ length visited
  shorter = omega (arith, whole.0)

  visits : (k : ℕ) → IsInside m (set_at visited k) (λ s. s ∈ set_at free_visited k)
  visits k s is_state e = elim (cases_lt k (length visited)) [
    | inr past ↦ absurd (false≢true (subst (λ F. s ∈ F) (get_or_past visited k nothing past) e))
    | inl lt ↦ (let first : 0 ≡ k = omega (arith, lt, whole.0) in subst (λ j. s ∈ set_at free_visited j) first refl)
  ]

  avoids : (k : ℕ) → IsInside m (set_at (map complement visited) k) (λ s. s ∈ set_at free_avoided k)
  avoids k s is_state e = absurd (none_outside k s is_state e)

  module _ (Z fair : StateSet) (layers : List LayerView) (reaches : List (List StateSet))
      (all : (s : State) → IsState m s → s ∈ Z) (pruned : IsPrunedTo m visited Z layers fair reaches) where
    abbrev pub nonfair : List rules.Layer
    nonfair = map layer_of (map written_layer layers)

    apart : (s : State) → s ∈ fair → InSomeLayer nonfair s → ⊥
    apart s here lost = pruned.apart s here (subst (λ ls. InSomeLayer ls s) (written layers) lost)

    nonfair_rule : AreNonfair m (map complement visited) nonfair
    nonfair_rule = subst (λ ls. AreNonfair m (map complement visited) ls) (sym (written layers))
        (nonfair_from_pruned m (map complement visited) Z (rule_layers layers) fair (all_closed m Z all) pruned.pruned)

    pub nonfair_met : AreNonfair m free_avoided nonfair
    nonfair_met k s is_state e t next step = elim (nonfair_rule k s is_state e t next step) [
      | inl before ↦ inl before
      | inr stays ↦ inr (stays.0, avoids (rules.layer_at nonfair k).avoided t next stays.1)
    ]

    module _ (look : ℕ → Bool → claims.Entry) where
      pub fair_met : IsFairSet m free_visited fair reaches
      fair_met = fair_set m visited free_visited free_avoided fair nonfair reaches look shorter visits avoids apart fair reaches (fair_left m visited fair reaches pruned.kept)

    module _ (f : Ctl) (at : ℕ → NodeView) (computed : AreComputed m visited Z fair at f 1) where
      ruled : AreRuled m visited nonfair fair at f 1
      ruled = subst (λ ls. AreRuled m visited ls fair at f 1) (sym (written layers))
          (computed_rules m 0 Nowhere visited sets_are Z fair layers reaches (all_closed m Z all) pruned at f 1 computed)

      abbrev pub both_signs : List (Entry StateSet)
      both_signs = wanted fair at f 1 true true

      abbrev pub free_rules : claims.Proof
      free_rules = record { nonfair = nonfair; fair = fair; reaches = reaches; entries = look_up both_signs }

      pub entries_met : AreMet m free_visited free_avoided free_rules f 1
      entries_met = meets m visited free_visited free_avoided Z fair nonfair reaches (look_up both_signs) shorter visits avoids apart at f 1 true true computed ruled (λ i sign low high. refl)

      sign_covered : (sign : Bool) → IsInside m (sign_set sign (at 1)) (λ s. s ∈ claims.claimed m free_rules f 1 sign)
      sign_covered true = covers m visited free_visited free_avoided Z fair nonfair reaches (look_up both_signs) shorter visits avoids apart at f 1 true true computed ruled (λ i sign low high. refl) true refl
      sign_covered false = covers m visited free_visited free_avoided Z fair nonfair reaches (look_up both_signs) shorter visits avoids apart at f 1 true true computed ruled (λ i sign low high. refl) false refl

      same : (s : State) → SatOver m (IsFairOver m 0 Nowhere) f s ↔ FreeSat m f s
      same s = same_truth m (IsFairOver m 0 Nowhere) (IsPath m) (to_path m Nowhere) (from_path m Nowhere) f s

      split : IsSplit m Z (at 1).plus (at 1).minus (SatOver m (IsFairOver m 0 Nowhere) f)
      split = computed_split m 0 Nowhere visited sets_are Z fair layers reaches (all_closed m Z all) pruned at f 1 computed

      -- the formula is claimed true wherever it is true over all paths, and false wherever it is false
      pub claimed_true : (s : State) → IsState m s → FreeSat m f s → s ∈ claims.claimed m free_rules f 1 true
      claimed_true s is_state holds = elim (split.covers s is_state (all s is_state)) [
        | inl plus ↦ sign_covered true s is_state plus
        | inr minus ↦ absurd (split.negative s is_state minus ((same s).1 holds))
      ]

      pub claimed_false : (s : State) → IsState m s → (FreeSat m f s → ⊥) → s ∈ claims.claimed m free_rules f 1 false
      claimed_false s is_state fails = elim (split.covers s is_state (all s is_state)) [
        | inl plus ↦ absurd (fails ((same s).0 (split.positive s is_state plus)))
        | inr minus ↦ sign_covered false s is_state minus
      ]
