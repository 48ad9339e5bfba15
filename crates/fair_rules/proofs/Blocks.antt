-- A block whose lines hold proves its claim.
use Rattle.std.proofs.Common.{◌≡◌, ◌⊎◌, ◌↔◌, inl, inr, ℕ, zero, suc, ◌+◌, ◌<◌, Bool, true, false, ◌&&◌, List, [], ◌∷◌, ◌++◌, length, get_or, Option, Some, None, refl, sym, ◌∙◌, ap, subst, arith, eqb, ap₂, subst₂}
use Rattle.std.specs.Prelude.{All}
use Rattle.std.specs.Option.{option_and_then}
use Rattle.std.proofs.lemmas.Bool.{false≢true, or_cases, and_parts, and_from, or_left, or_right, eqb-true, cond-true, cond-false}
use Rattle.std.proofs.lemmas.List.Elements.{All-nil}
use Rattle.kripke_model.specs.Ctl.{Ctl}
use Rattle.kripke_model.specs.System.{System, State}
use Rattle.kripke_model.specs.Signs.{ProofRule, rule_of, until_rule, node_count}
use Rattle.path_laws.specs.StateSet.{StateSet, ◌∈◌}
use Rattle.fair_rules.specs.SetLists.{everything, nothing, SomeNext}
use Rattle.path_laws.specs.Fairness.{ConstraintHolds}
use Rattle.fair_rules.specs.ConstraintSets.{AreConstraintSets}
use Rattle.fair_rules.specs.Rules.{Layer, AreNonfair, MeetsEU, MeetsAU, MeetsAR, MeetsER}
use Rattle.fair_rules.specs.Claims.{Entry, Proof, either, both, join_layers, claimed, absent_argument, Meets, AreMet, IsProof}
use Rattle.fair_rules.specs.Fixpoints.{without}
use Rattle.fair_rules.specs.Checks.{Check, IsMet, AllHold, layer_lines, until_lines, reach_lines}
use Rattle.fair_rules.specs.Block.{Listed, Block, ClaimHolds, same_sign, entry_of, proof_of, Demand, demand, demand_at, HasRule, IsAsked, entry_lines, asked_lines, listed_lines, claim_lines, block_lines, IsProofBlock}
use Rattle.fair_rules.specs.Nodes.{node_at}
use Rattle.fair_rules.proofs.ClaimsSound.{in_join_layers}
use Rattle.fair_rules.proofs.Nodes.{own_node, parts_there}
use Rattle.fair_rules.proofs.Fixpoints.{join_layers_in, decided, in_without, without_parts}
use Rattle.fair_rules.proofs.Theorems.{true_claim_sound, false_claim_sound}
use Rattle.fair_rules.proofs.Checks.{layer_moves, layer_hold, until_lines_hold, reach_lines_hold, UntilSets, hold_left, hold_right, hold_both, one_check, two_checks, none}

no_lines : (m : System) → AllHold m []
no_lines m n = All-nil (IsMet m)

hold_after : (m : System) (cs : List Check) (lines : List (List Check)) → All (IsMet m) cs → AllHold m lines → AllHold m (cs ∷ lines)
hold_after m cs lines h k zero = h
hold_after m cs lines h k (suc n) = k n

-- ---- the lines of rule ER

module _ (m : System) (visited : List StateSet) (fair f g set : StateSet) (reaches : List (List StateSet)) (untils : List StateSet) where
  abbrev until_part : List (List Check)
  until_part = [] ∷ until_lines g (both f (both g fair)) untils

  abbrev er_lines : List (List Check)
  er_lines = [] ∷ (Check.Inside set g ∷ []) ∷ reach_lines set visited reaches ++ until_part

  er_there : AllHold m er_lines → MeetsER m visited fair f g set reaches untils
  er_there h = record {
    inside = h 1 0 none (omega arith);
    stays = (reach_lines_hold m set visited reaches).0 (hold_left m (reach_lines set visited reaches) until_part (λ n. h (suc (suc n))));
    until = record {
      first = λ s is_state e.
          let a = and_parts (f s) (both g fair s) (u.0 s is_state e) in
          let b = and_parts (g s) (fair s) a.1 in
          (a.0, b.0, b.1);
      later = u.1;
    };
  }
    where
      u : UntilSets m g (both f (both g fair)) untils
      u = (until_lines_hold m g (both f (both g fair)) untils).0 (λ n. hold_right m (reach_lines set visited reaches) until_part (λ i. h (suc (suc i))) (suc n))

  er_back : MeetsER m visited fair f g set reaches untils → AllHold m er_lines
  er_back rule = hold_after m [] ((Check.Inside set g ∷ []) ∷ reach_lines set visited reaches ++ until_part) (All-nil (IsMet m)) (hold_after m (Check.Inside set g ∷ []) (reach_lines set visited reaches ++ until_part) (one_check m (Check.Inside set g) rule.inside)
      (hold_both m (reach_lines set visited reaches) until_part ((reach_lines_hold m set visited reaches).1 rule.stays)
      (hold_after m [] (until_lines g (both f (both g fair)) untils) (All-nil (IsMet m)) ((until_lines_hold m g (both f (both g fair)) untils).1 u))))
    where
      u : UntilSets m g (both f (both g fair)) untils
      u = (λ s is_state e. let x = rule.until.first s is_state e in and_from (f s) (both g fair s) x.0 (and_from (g s) (fair s) x.1 x.2), rule.until.later)

module _ (m : System) (visited avoided : List StateSet) where
  pub nonfair_lines_hold : (layers : List Layer) → AllHold m (layer_lines avoided everything nothing nothing layers) ↔ AreNonfair m avoided layers
  nonfair_lines_hold layers = (
    λ h k s is_state e t next step. elim ((layer_moves m avoided everything nothing nothing layers h k).1 s is_state e t next step) [
      | inl never ↦ absurd (false≢true never)
      | inr (inl never) ↦ absurd (false≢true never)
      | inr (inr more) ↦ more
    ],
    λ rule. layer_hold m avoided everything nothing nothing layers (λ k s is_state e. refl) (λ k s is_state e t next step. inr (inr (rule k s is_state e t next step))),
  )

  pub au_lines_hold : (nonfair : List Layer) (f g : StateSet) (layers : List Layer)
      → AllHold m (layer_lines avoided f (either g (join_layers nonfair)) nothing layers) ↔ MeetsAU m avoided nonfair f g layers
  au_lines_hold nonfair f g layers = (there, back)
    where
      there : AllHold m (layer_lines avoided f (either g (join_layers nonfair)) nothing layers) → MeetsAU m avoided nonfair f g layers
      there h = record {
        inside = λ k. (layer_moves m avoided f (either g (join_layers nonfair)) nothing layers h k).0;
        moves = λ k s is_state e t next step. elim ((layer_moves m avoided f (either g (join_layers nonfair)) nothing layers h k).1 s is_state e t next step) [
          | inl out ↦ elim (or_cases (g t) (join_layers nonfair t) out) [
            | inl good ↦ inl good
            | inr lost ↦ inr (inl (in_join_layers nonfair t lost))
          ]
          | inr (inl never) ↦ absurd (false≢true never)
          | inr (inr more) ↦ inr (inr more)
        ];
      }

      back : MeetsAU m avoided nonfair f g layers → AllHold m (layer_lines avoided f (either g (join_layers nonfair)) nothing layers)
      back rule = layer_hold m avoided f (either g (join_layers nonfair)) nothing layers rule.inside (λ k s is_state e t next step. elim (rule.moves k s is_state e t next step) [
        | inl good ↦ inl (or_left (g t) (join_layers nonfair t) good)
        | inr (inl lost) ↦ inl (or_right (g t) (join_layers nonfair t) (join_layers_in nonfair t lost))
        | inr (inr more) ↦ inr (inr more)
      ])

  pub eu_lines_hold : (fair f g : StateSet) (sets : List StateSet) → AllHold m (until_lines f (both g fair) sets) ↔ MeetsEU m fair f g sets
  eu_lines_hold fair f g sets = (
    λ h. let u : UntilSets m f (both g fair) sets = (until_lines_hold m f (both g fair) sets).0 h in
        record { first = λ s is_state e. and_parts (g s) (fair s) (u.0 s is_state e); later = u.1 },
    λ rule. (until_lines_hold m f (both g fair) sets).1 (λ s is_state e. let x = rule.first s is_state e in and_from (g s) (fair s) x.0 x.1, rule.later),
  )

  pub ar_checks_hold : (nonfair : List Layer) (f g set : StateSet)
      → (IsMet m (Check.Inside set g) × IsMet m (Check.Keeps (without set f) (either set (join_layers nonfair)))) ↔ MeetsAR m nonfair f g set
  ar_checks_hold nonfair f g set = (there, back)
    where
      there : IsMet m (Check.Inside set g) × IsMet m (Check.Keeps (without set f) (either set (join_layers nonfair))) → MeetsAR m nonfair f g set
      there h = record {
        inside = h.0;
        moves = λ s is_state e. elim (decided f s) [
          | inl good ↦ inl good
          | inr out ↦ inr (λ t next step. elim (or_cases (set t) (join_layers nonfair t) (h.1 s is_state (in_without set f s e out) t next step)) [
            | inl inside ↦ inl inside
            | inr lost ↦ inr (in_join_layers nonfair t lost)
          ])
        ];
      }

      back : MeetsAR m nonfair f g set → IsMet m (Check.Inside set g) × IsMet m (Check.Keeps (without set f) (either set (join_layers nonfair)))
      back rule = (
        rule.inside,
        λ s is_state e t next step.
            let b = without_parts set f s e in
            elim (rule.moves s is_state b.0) [
              | inl good ↦ absurd (b.1 good)
              | inr each ↦ elim (each t next step) [
                | inl inside ↦ or_left (set t) (join_layers nonfair t) inside
                | inr lost ↦ or_right (set t) (join_layers nonfair t) (join_layers_in nonfair t lost)
              ]
            ],
      )

  -- the lines of an entry hold exactly where it meets its rule
  pub entry_lines_hold : (p : Proof) (d : Demand) (entry : Entry) → HasRule d.rule entry
      → AllHold m (entry_lines visited avoided p d entry) ↔ Meets m visited avoided p d.rule entry d.first d.last
  entry_lines_hold p d entry has = go d.rule entry d.first d.last has
    where
      go : (rule : ProofRule) (entry : Entry) (f g : StateSet) → HasRule rule entry
          → AllHold m (entry_lines visited avoided p (record { rule = rule; first = f; last = g }) entry) ↔ Meets m visited avoided p rule entry f g
      go ProofRule.EX (Entry.EX set) f g has = (
        λ h s is_state e. let x : SomeNext m (λ t. t ∈ both g p.fair) s = h 1 0 none (omega arith) s is_state e in (x.0, x.1, x.2, and_parts (g x.0) (p.fair x.0) x.3),
        λ rule. hold_after m [] ((Check.Leads set (both g p.fair) ∷ []) ∷ []) (All-nil (IsMet m)) (hold_after m (Check.Leads set (both g p.fair) ∷ []) [] (one_check m (Check.Leads set (both g p.fair))
            (λ s is_state e. let x : SomeNext m (λ t. (t ∈ g) × t ∈ p.fair) s = rule s is_state e in (x.0, x.1, x.2, and_from (g x.0) (p.fair x.0) x.3.0 x.3.1))) (no_lines m)),
      )
      go ProofRule.AX (Entry.AX set) f g has = (
        λ h s is_state e t next step. elim (or_cases (g t) (join_layers p.nonfair t) (h 1 0 none (omega arith) s is_state e t next step)) [
          | inl good ↦ inl good
          | inr lost ↦ inr (in_join_layers p.nonfair t lost)
        ],
        λ rule. hold_after m [] ((Check.Keeps set (either g (join_layers p.nonfair)) ∷ []) ∷ []) (All-nil (IsMet m)) (hold_after m (Check.Keeps set (either g (join_layers p.nonfair)) ∷ []) [] (one_check m (Check.Keeps set (either g (join_layers p.nonfair)))
            (λ s is_state e t next step. elim (rule s is_state e t next step) [
              | inl good ↦ or_left (g t) (join_layers p.nonfair t) good
              | inr lost ↦ or_right (g t) (join_layers p.nonfair t) (join_layers_in p.nonfair t lost)
            ])) (no_lines m)),
      )
      go ProofRule.AR (Entry.AR set) f g has = (
        λ h. (ar_checks_hold p.nonfair f g set).0 (h 1 0 none (omega arith), h 1 1 none (omega arith)),
        λ rule. let c = (ar_checks_hold p.nonfair f g set).1 rule in
            hold_after m [] ((Check.Inside set g ∷ Check.Keeps (without set f) (either set (join_layers p.nonfair)) ∷ []) ∷ []) (All-nil (IsMet m)) (hold_after m (Check.Inside set g ∷ Check.Keeps (without set f) (either set (join_layers p.nonfair)) ∷ []) [] (two_checks m (Check.Inside set g) (Check.Keeps (without set f) (either set (join_layers p.nonfair))) c.0 c.1) (no_lines m)),
      )
      go ProofRule.EU (Entry.EU sets) f g has = (
        λ h. (eu_lines_hold p.fair f g sets).0 (λ n. h (suc n)),
        λ rule. hold_after m [] (until_lines f (both g p.fair) sets) (All-nil (IsMet m)) ((eu_lines_hold p.fair f g sets).1 rule),
      )
      go ProofRule.AU (Entry.AU layers) f g has = (
        λ h. (au_lines_hold p.nonfair f g layers).0 (λ n. h (suc n)),
        λ rule. hold_after m [] (layer_lines avoided f (either g (join_layers p.nonfair)) nothing layers) (All-nil (IsMet m)) ((au_lines_hold p.nonfair f g layers).1 rule),
      )
      go ProofRule.ER (Entry.ER set reaches untils) f g has =
          (er_there m visited p.fair f g set reaches untils, er_back m visited p.fair f g set reaches untils)
      go _ _ f g has = absurd has

-- ---- from the demands of all nodes to the formula

module _ (m : System) (visited avoided : List StateSet) (p : Proof) (f : Ctl) (n : ℕ) where
  abbrev Answered : Type 0
  Answered = (i : ℕ) (sign : Bool) (d : Demand) → demand_at m p f n i sign ≡ Some d → Meets m visited avoided p d.rule (p.entries i sign) d.first d.last

  own_demand : (c : Ctl) (k : ℕ) (sign : Bool) → node_at f n k ≡ Some c → demand_at m p f n k sign ≡ demand m p c k sign
  own_demand c k sign at = ap (option_and_then (λ g. demand m p g k sign)) at

  met_at : Answered → (c : Ctl) (k : ℕ) → node_at f n k ≡ Some c → AreMet m visited avoided p c k
  met_at answered (Ctl.Leaf e) k at = tt
  met_at answered (Ctl.Not g) k at = met_at answered g (k + 1) (parts_there f n k (Ctl.Not g) at)
  met_at answered (Ctl.And g h) k at =
      let r = parts_there f n k (Ctl.And g h) at in (met_at answered g (k + 1) r.0, met_at answered h (k + 1 + node_count g) r.1)
  met_at answered (Ctl.Or g h) k at =
      let r = parts_there f n k (Ctl.Or g h) at in (met_at answered g (k + 1) r.0, met_at answered h (k + 1 + node_count g) r.1)
  met_at answered (Ctl.Implies g h) k at =
      let r = parts_there f n k (Ctl.Implies g h) at in (met_at answered g (k + 1) r.0, met_at answered h (k + 1 + node_count g) r.1)
  met_at answered (Ctl.Iff g h) k at =
      let r = parts_there f n k (Ctl.Iff g h) at in (met_at answered g (k + 1) r.0, met_at answered h (k + 1 + node_count g) r.1)
  met_at answered (Ctl.Quant op g) k at = (
    λ sign. answered k sign (record { rule = rule_of op sign; first = absent_argument (rule_of op sign); last = claimed m p g (k + 1) sign }) (own_demand (Ctl.Quant op g) k sign at),
    met_at answered g (k + 1) (parts_there f n k (Ctl.Quant op g) at),
  )
  met_at answered (Ctl.Until all g h) k at =
      let r = parts_there f n k (Ctl.Until all g h) at in (
        λ sign.
            answered k sign (record { rule = until_rule all sign; first = claimed m p g (k + 1) sign; last = claimed m p h (k + 1 + node_count g) sign })
            (own_demand (Ctl.Until all g h) k sign at),
        met_at answered g (k + 1) r.0,
        met_at answered h (k + 1 + node_count g) r.1,
      )

-- ---- the listed entries

abbrev unlisted : Listed
unlisted = record { node = 0; plus = false; entry = Entry.Absent }

same_sign_is : (a b : Bool) → same_sign a b ≡ true → a ≡ b
same_sign_is true true e = refl
same_sign_is true false e = absurd (false≢true e)
same_sign_is false true e = absurd (false≢true e)
same_sign_is false false e = refl

-- the entry of a node and sign is absent, or listed
abbrev IsListed : List Listed → ℕ → Bool → Type 0
IsListed entries i sign = (k : ℕ) × (k < length entries) × ((get_or entries k unlisted).node ≡ i) × ((get_or entries k unlisted).plus ≡ sign) × (entry_of entries i sign ≡ (get_or entries k unlisted).entry)

entry_is : (entries : List Listed) (i : ℕ) (sign : Bool) → (entry_of entries i sign ≡ Entry.Absent) ⊎ IsListed entries i sign
entry_is [] i sign = inl refl
entry_is (e ∷ entries) i sign = go (eqb e.node i && same_sign e.plus sign) refl (entry_is entries i sign)
  where
    go : (b : Bool) → (eqb e.node i && same_sign e.plus sign) ≡ b → (entry_of entries i sign ≡ Entry.Absent) ⊎ IsListed entries i sign → (entry_of (e ∷ entries) i sign ≡ Entry.Absent) ⊎ IsListed (e ∷ entries) i sign
    go true h rest =
        let c = and_parts (eqb e.node i) (same_sign e.plus sign) h in
        inr (0, omega arith, eqb-true e.node i c.0, same_sign_is e.plus sign c.1, cond-true (eqb e.node i && same_sign e.plus sign) e.entry (entry_of entries i sign) h)
    go false h rest = elim rest [
      | inl none_there ↦ inl (cond-false (eqb e.node i && same_sign e.plus sign) e.entry (entry_of entries i sign) h ∙ none_there)
      | inr (k, l, node, plus, there) ↦ inr (suc k, omega arith, node, plus, cond-false (eqb e.node i && same_sign e.plus sign) e.entry (entry_of entries i sign) h ∙ there)
    ]

-- the lines of each listed entry
lines_at : (m : System) (visited avoided : List StateSet) (p : Proof) (f : Ctl) (n : ℕ) (entries : List Listed) → AllHold m (listed_lines m visited avoided p f n entries)
    → (k : ℕ) → k < length entries → AllHold m (asked_lines visited avoided p (demand_at m p f n (get_or entries k unlisted).node (get_or entries k unlisted).plus) (get_or entries k unlisted).entry)
lines_at m visited avoided p f n [] h k l = absurd (omega arith)
lines_at m visited avoided p f n (e ∷ entries) h zero l =
    hold_left m (asked_lines visited avoided p (demand_at m p f n e.node e.plus) e.entry) (listed_lines m visited avoided p f n entries) h
lines_at m visited avoided p f n (e ∷ entries) h (suc k) l =
    lines_at m visited avoided p f n entries (hold_right m (asked_lines visited avoided p (demand_at m p f n e.node e.plus) e.entry) (listed_lines m visited avoided p f n entries) h) k (omega arith)

or_else : Option Demand → Demand → Demand
or_else None d = d
or_else (Some x) d = x

some_same : (x y : Demand) → Some x ≡ Some y → x ≡ y
unfolding or_else
some_same x y e = ap (λ o. or_else o x) e

absent_meets : (m : System) (visited avoided : List StateSet) (p : Proof) (rule : ProofRule) (f g : StateSet) → Meets m visited avoided p rule Entry.Absent f g
absent_meets m visited avoided p ProofRule.EX f g = tt
absent_meets m visited avoided p _ f g = tt

module _ (m : System) (visited avoided : List StateSet) (b : Block) (f : Ctl) (n : ℕ)
    (asked : All (IsAsked m (proof_of b) f n) b.entries) (lines : AllHold m (block_lines m visited avoided b f n)) where
  abbrev p : Proof
  p = proof_of b

  abbrev nonfair_part : List (List Check)
  nonfair_part = [] ∷ layer_lines avoided everything nothing nothing b.nonfair

  abbrev fair_part : List (List Check)
  fair_part = [] ∷ reach_lines b.fair visited b.reaches

  abbrev listed_part : List (List Check)
  listed_part = listed_lines m visited avoided p f n b.entries

  abbrev claim_part : List (List Check)
  claim_part = claim_lines m p f n b.at

  after_nonfair : AllHold m (fair_part ++ (listed_part ++ claim_part))
  after_nonfair = hold_right m nonfair_part (fair_part ++ (listed_part ++ claim_part)) lines

  after_fair : AllHold m (listed_part ++ claim_part)
  after_fair = hold_right m fair_part (listed_part ++ claim_part) after_nonfair

  entry_part : AllHold m listed_part
  entry_part = hold_left m listed_part claim_part after_fair

  pub claim_holds : AllHold m claim_part
  claim_holds = hold_right m listed_part claim_part after_fair

  answered : Answered m visited avoided p f n
  answered i sign d h = go (entry_is b.entries i sign)
    where
      listed : IsListed b.entries i sign → Meets m visited avoided p d.rule (entry_of b.entries i sign) d.first d.last
      listed (k, l, node, plus, there) =
          let e : Listed = get_or b.entries k unlisted in
          let a : IsAsked m p f n e = asked k unlisted l in
          let same : a.0 ≡ d = some_same a.0 d (sym a.1 ∙ ap₂ (λ x y. demand_at m p f n x y) node plus ∙ h) in
          let own : AllHold m (entry_lines visited avoided p a.0 e.entry) =
          subst (λ o. AllHold m (asked_lines visited avoided p o e.entry)) a.1 (lines_at m visited avoided p f n b.entries entry_part k l) in
          let met : Meets m visited avoided p a.0.rule e.entry a.0.first a.0.last = (entry_lines_hold m visited avoided p a.0 e.entry a.2).0 own in
          subst₂ (λ (x : Demand) (y : Entry). Meets m visited avoided p x.rule y x.first x.last) same (sym there) met

      go : (entry_of b.entries i sign ≡ Entry.Absent) ⊎ IsListed b.entries i sign → Meets m visited avoided p d.rule (entry_of b.entries i sign) d.first d.last
      go (inl none_there) = subst (λ (y : Entry). Meets m visited avoided p d.rule y d.first d.last) (sym none_there) (absent_meets m visited avoided p d.rule d.first d.last)
      go (inr there) = listed there

  pub block_proof : IsProof m visited avoided p f n
  block_proof = record {
    nonfair = (nonfair_lines_hold m visited avoided b.nonfair).0 (λ k. hold_left m nonfair_part (fair_part ++ (listed_part ++ claim_part)) lines (suc k));
    fair = (reach_lines_hold m b.fair visited b.reaches).0 (λ k. hold_left m fair_part (listed_part ++ claim_part) after_nonfair (suc k));
    entries = met_at m visited avoided p f n answered f n (own_node f n n refl);
  }

-- a block that is a proof of its claim has a claim that holds
pub block_sound : (m : System) (visited avoided : List StateSet) → AreConstraintSets m (length m.constraints) (ConstraintHolds m) visited avoided
    → (b : Block) (f : Ctl) (n : ℕ) → IsProofBlock m visited avoided b f n → ClaimHolds m f b.at
block_sound m visited avoided sets b f n proof = go b.at (claim_holds m visited avoided b f n proof.asked proof.lines)
  where
    go : (at : Option State) → AllHold m (claim_lines m (proof_of b) f n at) → ClaimHolds m f at
    go None claim = true_claim_sound m visited avoided sets (proof_of b) f n (block_proof m visited avoided b f n proof.asked proof.lines) (claim 0 0 none (omega arith))
    go (Some s) claim = false_claim_sound m visited avoided sets (proof_of b) f n s (block_proof m visited avoided b f n proof.asked proof.lines) (claim 0 0 none (omega arith))
