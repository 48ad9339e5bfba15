-- What is written for a sign of a node meets the rule of the sign.
use Rattle.std.proofs.Common.{◌≡◌, inl, inr, ℕ, ◌≤◌, ◌||◌, Bool, true, false, not, List, [], ◌∷◌, map, length, refl, sym, subst, ap, arith}
use Rattle.std.specs.Prelude.{All}
use Rattle.std.proofs.lemmas.Bool.{or_left, or_right, or_cases, and_parts, and_from}
use Rattle.std.proofs.lemmas.List.Elements.{All-nil, All-cons, All-head, All-tail}
use Rattle.kripke_model.specs.declared.expressions.PathOp.{PathOp}
use Rattle.kripke_model.specs.Signs.{ProofRule, rule_of, until_rule}
use Rattle.kripke_model.specs.System.{System, State}
use Rattle.path_laws.specs.StateSet.{StateSet, ◌∈◌}
use Rattle.fair_rules.specs.SetLists.{set_at, IsInside}
use Rattle.fair_rules.specs.Rules.{Layer, layer_at, InSomeLayer, IsFairSet, MeetsAU, MeetsAR, MeetsER}
use Rattle.fair_rules.specs.Claims.{Entry, Proof, either, both, join, join_layers, entry_set, Meets}
use Rattle.fair_rules.specs.Block.{same_sign}
use Rattle.fair_rules.specs.Fixpoints.{without}
use Rattle.fair_rules.proofs.ClaimsSound.{in_join_layers}
use Rattle.fair_rules.proofs.Fixpoints.{without_parts}
use Rattle.fair_fixpoint.specs.Runs.{LayerView, AvoidsOne, rule_layer, rule_layers, complement}
use Rattle.fair_fixpoint.specs.Nodes.{RanksView, NodeView, IsQuantNode, IsUntilNode}
use Rattle.fair_fixpoint.specs.NodeRules.{HaveSame, MeetsRule}
use Rattle.fair_fixpoint.specs.Formulas.{is_existential}
use Rattle.proof_form.specs.Meaning.{layer_of, entry_of}
use Rattle.proof_form.specs.Shape.{kind_of, Avoids, FitsConstraints}
use Rattle.rank_extract.specs.Given.{written_layer, given}

-- the sets by which a node's sets grew are those that the rule asks for
abbrev pub FitsRule : ℕ → ProofRule → Bool → RanksView → Type 0
FitsRule count ProofRule.EX true RanksView.Plain = Unit {0}
FitsRule count ProofRule.AX false RanksView.Plain = Unit {0}
FitsRule count ProofRule.EU true (RanksView.Reach sets) = Unit {0}
FitsRule count ProofRule.AR false (RanksView.Reach sets) = Unit {0}
FitsRule count ProofRule.ER true (RanksView.Layered layers inside reaches untils) = length reaches ≡ count
FitsRule count ProofRule.AU false (RanksView.Layered layers inside reaches untils) = All (AvoidsOne count) layers
FitsRule count rule some ranks = ⊥

pub written : (layers : List LayerView) → map layer_of (map written_layer layers) ≡ rule_layers layers
written [] = refl
written (l ∷ layers) = ap (λ ls. rule_layer l ∷ ls) (written layers)

-- ---- its shape

pub given_kind : (count : ℕ) (fair set : StateSet) (rule : ProofRule) (some : Bool) (ranks : RanksView) → FitsRule count rule some ranks → kind_of (given fair some set ranks) ≡ rule
given_kind count fair set ProofRule.EX true RanksView.Plain fits = refl
given_kind count fair set ProofRule.AX false RanksView.Plain fits = refl
given_kind count fair set ProofRule.EU true (RanksView.Reach sets) fits = refl
given_kind count fair set ProofRule.AR false (RanksView.Reach sets) fits = refl
given_kind count fair set ProofRule.ER true (RanksView.Layered layers inside reaches untils) fits = refl
given_kind count fair set ProofRule.AU false (RanksView.Layered layers inside reaches untils) fits = refl
given_kind count fair set _ _ _ fits = absurd fits

pub avoid_all : (count : ℕ) (layers : List LayerView) → All (AvoidsOne count) layers → All (Avoids {A = StateSet} count) (map written_layer layers)
avoid_all count [] h = All-nil (Avoids {A = StateSet} count)
avoid_all count (l ∷ layers) h =
    All-cons (Avoids {A = StateSet} count) (written_layer l) (map written_layer layers) (All-head (AvoidsOne count) l layers h) (avoid_all count layers (All-tail (AvoidsOne count) l layers h))

pub given_fits : (count : ℕ) (fair set : StateSet) (rule : ProofRule) (some : Bool) (ranks : RanksView) → FitsRule count rule some ranks → FitsConstraints count (given fair some set ranks)
given_fits count fair set ProofRule.EX true RanksView.Plain fits = tt
given_fits count fair set ProofRule.AX false RanksView.Plain fits = tt
given_fits count fair set ProofRule.EU true (RanksView.Reach sets) fits = tt
given_fits count fair set ProofRule.AR false (RanksView.Reach sets) fits = tt
given_fits count fair set ProofRule.ER true (RanksView.Layered layers inside reaches untils) fits = fits
given_fits count fair set ProofRule.AU false (RanksView.Layered layers inside reaches untils) fits = avoid_all count layers fits
given_fits count fair set _ _ _ fits = absurd fits

-- ---- computed nodes have such sets

pub quant_fits : (m : System) (visited : List StateSet) (Z fair : StateSet) (op : PathOp) (f v : NodeView) (sign : Bool) → IsQuantNode m visited Z fair op f v
    → FitsRule (length visited) (rule_of op sign) (same_sign (is_existential op) sign) v.ranks
quant_fits m visited Z fair op f v sign p = go op v.ranks sign p
  where
    go : (op : PathOp) (ranks : RanksView) (sign : Bool) → IsQuantNode m visited Z fair op f (record { plus = v.plus; minus = v.minus; ranks = ranks })
        → FitsRule (length visited) (rule_of op sign) (same_sign (is_existential op) sign) ranks
    go PathOp.EX RanksView.Plain true p = tt
    go PathOp.EX RanksView.Plain false p = tt
    go PathOp.AX RanksView.Plain true p = tt
    go PathOp.AX RanksView.Plain false p = tt
    go PathOp.EF (RanksView.Reach eu) true p = tt
    go PathOp.EF (RanksView.Reach eu) false p = tt
    go PathOp.AG (RanksView.Reach eu) true p = tt
    go PathOp.AG (RanksView.Reach eu) false p = tt
    go PathOp.EG (RanksView.Layered own W rs us) true p = p.stays.kept.lists
    go PathOp.EG (RanksView.Layered own W rs us) false p = p.stays.avoids
    go PathOp.AF (RanksView.Layered own W rs us) true p = p.stays.avoids
    go PathOp.AF (RanksView.Layered own W rs us) false p = p.stays.kept.lists
    go _ _ sign p = absurd p

pub until_fits : (m : System) (visited : List StateSet) (fair : StateSet) (all : Bool) (f g v : NodeView) (sign : Bool) → IsUntilNode m visited fair all f g v
    → FitsRule (length visited) (until_rule all sign) (same_sign (not all) sign) v.ranks
until_fits m visited fair all f g v sign p = go all v.ranks sign p
  where
    go : (all : Bool) (ranks : RanksView) (sign : Bool) → IsUntilNode m visited fair all f g (record { plus = v.plus; minus = v.minus; ranks = ranks })
        → FitsRule (length visited) (until_rule all sign) (same_sign (not all) sign) ranks
    go false (RanksView.Reach eu) true p = tt
    go false (RanksView.Reach eu) false p = tt
    go true (RanksView.Layered own W rs us) true p = p.stays.avoids
    go true (RanksView.Layered own W rs us) false p = p.stays.kept.lists
    go _ _ sign p = absurd p

-- ---- its meaning

module _ (m : System) (visited vs avs : List StateSet) (fair : StateSet) (nonfair : List Layer) (reaches : List (List StateSet)) (look : ℕ → Bool → Entry)
    (shorter : length vs ≤ length visited)
    (visits : (k : ℕ) → IsInside m (set_at visited k) (λ s. s ∈ set_at vs k))
    (avoids : (k : ℕ) → IsInside m (set_at (map complement visited) k) (λ s. s ∈ set_at avs k))
    (apart : (s : State) → s ∈ fair → InSomeLayer nonfair s → ⊥) where
  abbrev pub proof : Proof
  proof = record { nonfair = nonfair; fair = fair; reaches = reaches; entries = look }

  -- a fair set stays one by sets that have more states
  pub fair_set : (set : StateSet) (lists : List (List StateSet)) → IsFairSet m visited set lists → IsFairSet m vs set lists
  fair_set set lists h = record {
    covered = λ k l. h.covered k (omega (arith, l, shorter));
    leads = λ k l. let sets = h.leads k (omega (arith, l, shorter)) in record {
      inside = sets.inside;
      moves = λ i s is_state e.
          let x = sets.moves i s is_state e in (
            x.0,
            x.1,
            x.2,
            elim x.3 [
              | inl there ↦ inl (there.0, visits k x.0 x.1 there.1)
              | inr before ↦ inr before
            ],
          );
    };
  }

  module _ (f g f' g' set : StateSet) (more_f : IsInside m f (λ s. s ∈ f')) (more_g : IsInside m g (λ s. s ∈ g')) where
    module _ (sets : List StateSet) (rule : MeetsAR m nonfair f g (without fair (join sets))) (same : HaveSame m set (either (without fair (join sets)) (join_layers nonfair))) where
      to_rest : IsInside m (both set fair) (λ s. s ∈ without fair (join sets))
      to_rest s is_state e =
          let b = and_parts (set s) (fair s) e in
          elim (or_cases (without fair (join sets) s) (join_layers nonfair s) ((same s is_state).0 b.0)) [
            | inl there ↦ there
            | inr lost ↦ absurd (apart s b.1 (in_join_layers nonfair s lost))
          ]

      from_rest : IsInside m (without fair (join sets)) (λ s. s ∈ both set fair)
      from_rest s is_state e =
          and_from (set s) (fair s) ((same s is_state).1 (or_left (without fair (join sets) s) (join_layers nonfair s) e)) (without_parts fair (join sets) s e).0

      ar_meets : MeetsAR m nonfair f' g' (both set fair)
      ar_meets = record {
        inside = λ s is_state e. more_g s is_state (rule.inside s is_state (to_rest s is_state e));
        moves = λ s is_state e. elim (rule.moves s is_state (to_rest s is_state e)) [
          | inl there ↦ inl (more_f s is_state there)
          | inr each ↦ inr (λ t next step. elim (each t next step) [
            | inl stays ↦ inl (from_rest t next stays)
            | inr lost ↦ inr lost
          ])
        ];
      }

    au_meets : (layers : List Layer) → MeetsAU m (map complement visited) nonfair f g layers → MeetsAU m avs nonfair f' g' layers
    au_meets layers h = record {
      inside = λ k s is_state e. more_f s is_state (h.inside k s is_state e);
      moves = λ k s is_state e t next step. elim (h.moves k s is_state e t next step) [
        | inl good ↦ inl (more_g t next good)
        | inr (inl lost) ↦ inr (inl lost)
        | inr (inr (inl before)) ↦ inr (inr (inl before))
        | inr (inr (inr stays)) ↦ inr (inr (inr (stays.0, avoids (layer_at layers k).avoided t next stays.1)))
      ];
    }

    er_meets : (inside : StateSet) (lists : List (List StateSet)) (untils : List StateSet) → MeetsER m visited fair f g inside lists untils → MeetsER m vs fair f' g' inside lists untils
    er_meets inside lists untils h = record {
      inside = λ s is_state e. more_g s is_state (h.inside s is_state e);
      stays = fair_set inside lists h.stays;
      until = record {
        first = λ s is_state e. let x = h.until.first s is_state e in (more_f s is_state x.0, more_g s is_state x.1, x.2);
        later = λ k l s is_state e. let x = h.until.later k l s is_state e in (more_g s is_state x.0, x.1);
      };
    }

    pub given_meets : (count : ℕ) (rule : ProofRule) (some : Bool) (ranks : RanksView) → FitsRule count rule some ranks → MeetsRule m visited nonfair fair rule f g set ranks
        → Meets m vs avs proof rule (entry_of (given fair some set ranks)) f' g'
    given_meets count ProofRule.EX true RanksView.Plain fits h = λ s is_state e. let x = h s is_state e in (x.0, x.1, x.2, (more_g x.0 x.1 x.3.0, x.3.1))
    given_meets count ProofRule.AX false RanksView.Plain fits h = λ s is_state e t next step. elim (h s is_state e t next step) [
      | inl good ↦ inl (more_g t next good)
      | inr lost ↦ inr lost
    ]
    given_meets count ProofRule.EU true (RanksView.Reach sets) fits h = record {
      first = λ s is_state e. let x = h.0.first s is_state e in (more_g s is_state x.0, x.1);
      later = λ k l s is_state e. let x = h.0.later k l s is_state e in (more_f s is_state x.0, x.1);
    }
    given_meets count ProofRule.AR false (RanksView.Reach sets) fits h = ar_meets sets h.0 h.1
    given_meets count ProofRule.ER true (RanksView.Layered layers inside lists untils) fits h = er_meets inside lists untils h.0
    given_meets count ProofRule.AU false (RanksView.Layered layers inside lists untils) fits h =
        subst (λ ls. MeetsAU m avs nonfair f' g' ls) (sym (written layers)) (au_meets (rule_layers layers) h.0)
    given_meets count _ _ _ fits h = absurd fits

    -- and its set has the node's states
    pub given_covers : (count : ℕ) (rule : ProofRule) (some : Bool) (ranks : RanksView) → FitsRule count rule some ranks → MeetsRule m visited nonfair fair rule f g set ranks
        → IsInside m set (λ s. s ∈ entry_set nonfair (entry_of (given fair some set ranks)) g')
    given_covers count ProofRule.EX true RanksView.Plain fits h = λ s is_state e. e
    given_covers count ProofRule.AX false RanksView.Plain fits h = λ s is_state e. e
    given_covers count ProofRule.EU true (RanksView.Reach sets) fits h = λ s is_state e. (h.1 s is_state).0 e
    given_covers count ProofRule.AR false (RanksView.Reach sets) fits h = λ s is_state e.
        elim (or_cases (without fair (join sets) s) (join_layers nonfair s) ((h.1 s is_state).0 e)) [
          | inl there ↦ or_left (both set fair s) (join_layers nonfair s) (and_from (set s) (fair s) e (without_parts fair (join sets) s there).0)
          | inr lost ↦ or_right (both set fair s) (join_layers nonfair s) lost
        ]
    given_covers count ProofRule.ER true (RanksView.Layered layers inside lists untils) fits h = λ s is_state e. (h.1 s is_state).0 e
    given_covers count ProofRule.AU false (RanksView.Layered layers inside lists untils) fits h = λ s is_state e.
        subst (λ ls. s ∈ either g' (either (join_layers nonfair) (join_layers ls))) (sym (written layers))
        (elim (or_cases (g s) (join_layers nonfair s || join_layers (rule_layers layers) s) ((h.1 s is_state).0 e)) [
          | inl good ↦ or_left (g' s) (join_layers nonfair s || join_layers (rule_layers layers) s) (more_g s is_state good)
          | inr more ↦ or_right (g' s) (join_layers nonfair s || join_layers (rule_layers layers) s) more
        ])
    given_covers count _ _ _ fits h = absurd fits
