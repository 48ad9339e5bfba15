-- What is written from the sets of a formula proves the claim that they show.
use Rattle.std.proofs.Common.{◌≡◌, inl, inr, ℕ, ◌≤◌, Bool, true, false, not, ◌&&◌, List, [], ◌∷◌, map, length, Option, Some, None, refl, sym, ◌∙◌, ap, subst, arith, eqb, is_none, is_some, IfSome, All}
use Rattle.std.proofs.lemmas.Bool.{cond-true, cond-false, eq-eqb, ne_eqb, and_from, and_parts, not-true}
use Rattle.kripke_model.specs.Ctl.{Ctl}
use Rattle.kripke_model.specs.Step.{IsState}
use Rattle.kripke_model.specs.System.{System, State}
use Rattle.path_laws.specs.StateSet.{StateSet, ◌∈◌}
use Rattle.fair_rules.specs.SetLists.{set_at, IsInside}
use Rattle.fair_rules.specs.Rules as rules
use Rattle.fair_rules.specs.Rules.{InSomeLayer, AreNonfair, IsFairSet}
use Rattle.fair_rules.specs.Claims as claims
use Rattle.fair_rules.specs.Claims.{IsProof}
use Rattle.fair_rules.specs.Fixpoints.{IsClosed}
use Rattle.fair_rules.specs.Checks.{AllHold}
use Rattle.fair_rules.specs.Block.{same_sign, proof_of, block_lines}
use Rattle.fair_rules.proofs.Checks.{hold_both}
use Rattle.fair_fixpoint.specs.Runs.{LayerView, complement}
use Rattle.fair_fixpoint.specs.Pruned.{IsPrunedTo}
use Rattle.fair_fixpoint.specs.Fairness.{AreConstraints}
use Rattle.fair_fixpoint.specs.Nodes.{NodeView, AreComputed}
use Rattle.fair_fixpoint.specs.NodeRules.{AreRuled, sign_set}
use Rattle.fair_fixpoint.proofs.FairStates.{constraint_sets_are}
use Rattle.fair_fixpoint.proofs.NodeRules.{sets_meet_rules}
use Rattle.proof_form.specs.Form.{Entry, FreePart, Proof}
use Rattle.proof_form.specs.Meaning.{layer_of, entry_of, listed_of, block_of, free_lines, visited as visits_of, avoided as avoids_of, IsProofOf}
use Rattle.proof_form.specs.Shape.{ComesBefore, HasRule, FitsConstraints, Avoids, FitsFreely}
use Rattle.proof_form.proofs.Asked.{all_asked}
use Rattle.rank_extract.specs.Given.{written_layer, wanted, wants, written_proof, ShowsSets}
use Rattle.fair_rules.proofs.Nodes.{own_node}
use Rattle.rank_extract.proofs.Lookups.{look_up}
use Rattle.rank_extract.proofs.NodeEntries.{written, avoid_all, fair_set}
use Rattle.rank_extract.proofs.Covers.{covers, meets}
use Rattle.rank_extract.proofs.Lines.{AreOwn, ClaimsBy, block_hold}
use Rattle.rank_extract.proofs.Shaped.{Each, all_of, each_map, AreRising, rising_pairs, wanted_rising, IsShaped, wanted_shaped}

-- ---- each entry is found by its own node and sign

each_with : (P Q R : Entry StateSet → Type 0) → ((e : Entry StateSet) → P e → Q e → R e) → (es : List (Entry StateSet)) → Each P es → Each Q es → Each R es
each_with P Q R h [] p q = tt
each_with P Q R h (e ∷ es) p q = (h e p.0 q.0, each_with P Q R h es p.1 q.1)

other_key : (a b : Entry StateSet) → ComesBefore a b → (eqb a.node b.node && same_sign a.plus b.plus) ≡ false
other_key a b (inl less) = ap (λ x. x && same_sign a.plus b.plus) (ne_eqb a.node b.node (λ e. omega (arith, less, e)))
other_key a b (inr same) =
    let h = and_parts a.plus (not b.plus) same.1 in
    ap (λ x. eqb a.node b.node && same_sign x b.plus) h.0 ∙ ap (λ x. eqb a.node b.node && x) (not-true b.plus h.1) ∙ never (eqb a.node b.node)
  where
    never : (x : Bool) → (x && false) ≡ false
    never true = refl
    never false = refl

own_key : (n : ℕ) (sign : Bool) → (eqb n n && same_sign sign sign) ≡ true
own_key n true = and_from (eqb n n) true (eq-eqb n n refl) refl
own_key n false = and_from (eqb n n) true (eq-eqb n n refl) refl

abbrev pub IsFound : List (Entry StateSet) → Entry StateSet → Type 0
IsFound es e = look_up es e.node e.plus ≡ entry_of e.rule

pub all_found : (es : List (Entry StateSet)) → AreRising es → Each (IsFound es) es
all_found [] h = tt
all_found (x ∷ xs) h = (
  cond-true (eqb x.node x.node && same_sign x.plus x.plus) (entry_of x.rule) (look_up xs x.node x.plus) (own_key x.node x.plus),
  each_with (ComesBefore x) (IsFound xs) (IsFound (x ∷ xs))
      (λ e before found. cond-false (eqb x.node e.node && same_sign x.plus e.plus) (entry_of x.rule) (look_up xs e.node e.plus) (other_key x e before) ∙ found)
      xs h.0 (all_found xs h.1),
)

pub own_list : (m : System) (vs avs : List StateSet) (p : claims.Proof) (es : List (Entry StateSet)) → Each (λ e. p.entries e.node e.plus ≡ entry_of e.rule) es → AreOwn m vs avs p (map listed_of es)
own_list m vs avs p [] h = tt
own_list m vs avs p (e ∷ es) h = (h.0, own_list m vs avs p es h.1)

-- ---- the whole proof

module _ (m : System) (F : Ctl) (visited : List StateSet) (Z fair : StateSet) (layers : List LayerView) (reaches : List (List StateSet)) (at : ℕ → NodeView)
    (constraints : AreConstraints m visited) (closed : IsClosed m Z) (pruned : IsPrunedTo m visited Z layers fair reaches) (computed : AreComputed m visited Z fair at F 1) where
  abbrev nonfair : List rules.Layer
  nonfair = map layer_of (map written_layer layers)

  all_rules : AreNonfair m (map complement visited) nonfair × IsFairSet m visited fair reaches × AreRuled m visited nonfair fair at F 1
  all_rules =
      let r = sets_meet_rules m visited (constraint_sets_are m visited constraints) Z fair layers reaches closed pruned in (
        subst (λ ls. AreNonfair m (map complement visited) ls) (sym (written layers)) r.0,
        r.1,
        subst (λ ls. AreRuled m visited ls fair at F 1) (sym (written layers)) (r.2 at F 1 computed),
      )

  apart : (s : State) → s ∈ fair → InSomeLayer nonfair s → ⊥
  apart s here lost = pruned.apart s here (subst (λ ls. InSomeLayer ls s) (written layers) lost)

  module _ (vs avs : List StateSet) (shorter : length vs ≤ length visited)
      (visits : (k : ℕ) → IsInside m (set_at visited k) (λ s. s ∈ set_at vs k))
      (avoids : (k : ℕ) → IsInside m (set_at (map complement visited) k) (λ s. s ∈ set_at avs k)) where
    module _ (plus minus : Bool) where
      abbrev es : List (Entry StateSet)
      es = wanted fair at F 1 plus minus

      abbrev pub by_rules : claims.Proof
      by_rules = record { nonfair = nonfair; fair = fair; reaches = reaches; entries = look_up es }

      -- the rules are met
      pub is_proof : IsProof m vs avs by_rules F 1
      is_proof = record {
        nonfair = λ k s is_state e t next step. elim (all_rules.0 k s is_state e t next step) [
          | inl before ↦ inl before
          | inr stays ↦ inr (stays.0, avoids (rules.layer_at nonfair k).avoided t next stays.1)
        ];
        fair = fair_set m visited vs avs fair nonfair reaches (look_up es) shorter visits avoids apart fair reaches all_rules.1;
        entries = meets m visited vs avs Z fair nonfair reaches (look_up es) shorter visits avoids apart at F 1 plus minus computed all_rules.2 (λ i sign low high. refl);
      }

      -- and the claimed sets have the states of the formula's sets
      pub is_covered : (sign : Bool) → wants plus minus sign ≡ true
          → IsInside m (sign_set sign (at 1)) (λ s. s ∈ claims.claimed m by_rules F 1 sign)
      is_covered sign w = covers m visited vs avs Z fair nonfair reaches (look_up es) shorter visits avoids apart at F 1 plus minus computed all_rules.2 (λ i sign low high. refl) sign w

  module _ (st : Option State) (free : Option (FreePart StateSet)) where
    abbrev q : Proof StateSet
    q = written_proof F fair layers reaches at st free

    abbrev plus : Bool
    plus = is_none st

    abbrev minus : Bool
    minus = is_some st

    abbrev shown_entries : List (Entry StateSet)
    shown_entries = wanted fair at F 1 (is_none st) (is_some st)

    shaped : Each (IsShaped fair at m visited Z F) shown_entries
    shaped = wanted_shaped fair at m visited Z F F 1 plus minus computed (own_node F 1 1 refl)

    shown_claims : (p : claims.Proof) → (is_none st ≡ true → IsInside m (at 1).plus (λ s. s ∈ claims.claimed m p F 1 true)) → (is_some st ≡ true → IsInside m (at 1).minus (λ s. s ∈ claims.claimed m p F 1 false))
        → ShowsSets m (at 1) st → ClaimsBy m p F 1 st
    shown_claims p plus minus shown = go st plus minus shown
      where
        go : (st : Option State) → (is_none st ≡ true → IsInside m (at 1).plus (λ s. s ∈ claims.claimed m p F 1 true)) → (is_some st ≡ true → IsInside m (at 1).minus (λ s. s ∈ claims.claimed m p F 1 false))
            → ShowsSets m (at 1) st → ClaimsBy m p F 1 st
        go None plus minus shown = λ s is_state initial. plus refl s is_state (shown s is_state initial)
        go (Some s) plus minus shown = (shown.0, shown.1, minus refl s shown.0 shown.2)

    state_is : (st : Option State) → ShowsSets m (at 1) st → IfSome st (IsState m)
    state_is None shown = tt
    state_is (Some s) shown = shown.0

    pub written_proves : length (visits_of m q) ≤ length visited
        → ((k : ℕ) → IsInside m (set_at visited k) (λ s. s ∈ set_at (visits_of m q) k))
        → ((k : ℕ) → IsInside m (set_at (map complement visited) k) (λ s. s ∈ set_at (avoids_of m q) k))
        → FitsFreely m free → AllHold m (free_lines m free) → ShowsSets m (at 1) st → IsProofOf m F q
    written_proves shorter visits avoids fits free_hold shown = record {
      shape = record {
        free = fits;
        rising = rising_pairs shown_entries (wanted_rising fair at F 1 plus minus);
        rules = all_of (HasRule F) shown_entries (each_map (IsShaped fair at m visited Z F) (HasRule F) (λ e h. h.0) shown_entries shaped);
        avoided = subst (λ n. All (Avoids {A = StateSet} n) (map written_layer layers)) constraints.count (avoid_all (length visited) layers pruned.avoids);
        reach = pruned.kept.lists ∙ constraints.count;
        fits = subst (λ n. All (λ (e : Entry StateSet). FitsConstraints n e.rule) shown_entries) constraints.count
            (all_of (λ e. FitsConstraints (length visited) e.rule) shown_entries (each_map (IsShaped fair at m visited Z F) (λ e. FitsConstraints (length visited) e.rule) (λ e h. h.1) shown_entries shaped));
        claim = refl;
        at_state = state_is st shown;
      };
      lines = hold_both m (free_lines m free) (block_lines m (visits_of m q) (avoids_of m q) (block_of q) F 1) free_hold
          (block_hold m (visits_of m q) (avoids_of m q) (block_of q) F 1
          (is_proof (visits_of m q) (avoids_of m q) shorter visits avoids plus minus)
          (all_asked m (proof_of (block_of q)) F shown_entries (all_of (HasRule F) shown_entries (each_map (IsShaped fair at m visited Z F) (HasRule F) (λ e h. h.0) shown_entries shaped)))
          (own_list m (visits_of m q) (avoids_of m q) (proof_of (block_of q)) shown_entries (all_found shown_entries (wanted_rising fair at F 1 plus minus)))
          (shown_claims (proof_of (block_of q))
          (λ w. is_covered (visits_of m q) (avoids_of m q) shorter visits avoids plus minus true w)
          (λ w. is_covered (visits_of m q) (avoids_of m q) shorter visits avoids plus minus false w) shown));
    }
